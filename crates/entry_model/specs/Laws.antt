-- The laws of replies, of histories and of fronts, by which a protocol that changes the words of an
-- entry one at a time is proved. The rows of the table of operations are in `Reply`.
use Rattle.std.specs.Prelude.{ℕ, ◌==◌, ◌&&◌, ◌||◌, nat_lt, nat_le, if◌then◌else◌, List, filter, ◌≡◌, ◌+◌, ◌++◌, ◌⊎◌, ◌<◌, ◌^◌, ◌↔◌, Bool, true, false, IsTrue}
use Rattle.entry_model.specs.CachedLines.{AllLater}
use Rattle.entry_model.specs.History.{IsLegal, bits, state_eq, precedes, history, Regrouped}
use Rattle.entry_model.specs.Receipt.{is_access, is_decided, is_at, after_of}
use Rattle.authority_mask.specs.Authority.{no_masks}
use Rattle.storage_prot.specs.declared.want.Want.{Want}
use Rattle.entry_model.specs.declared.operation.Answer.{Answer}
use Rattle.entry_model.specs.declared.operation.Answer.TheVariants.{NoMatch, Denied, Masked, At}
use Rattle.entry_model.specs.Reply.{reply_of, AccessMode, access_mode, is_match, is_allowed, masks_refuse, answer_of_access, touched_state}
use Rattle.entry_model.specs.State.{State, IsCanonicalState, OnlyRaisesBits, with_these_bits}
use Rattle.entry_model.specs.declared.line.Line.{Line}
use Rattle.entry_model.specs.declared.operation.Op.{Op}
use Rattle.entry_model.specs.declared.receipt.Receipt.{Receipt}
use Rattle.entry_model.specs.Fronts.{KeepsFronts, AreBelow, IsGone}

-- ---- accesses
-- An access leaves valid, both doublewords and the stamp, and lowers no bit.
abbrev pub AccessesOnlyRaiseBits : Type 0
AccessesOnlyRaiseBits =
    (s : State) (op : Op) → is_access op ≡ true → OnlyRaisesBits s (reply_of s op).1

-- One that isn't At changes nothing.
abbrev pub OnlyAtTouches : Type 0
OnlyAtTouches =
    (s : State) (op : Op)
    → is_access op ≡ true
    → is_at (reply_of s op).0 ≡ false
    → (reply_of s op).1 ≡ s

-- One that finds no valid entry changes nothing.
abbrev pub EmptyStaysEmpty : Type 0
EmptyStaysEmpty =
    (s : State) (op : Op) → is_access op ≡ true → s.valid ≡ false → (reply_of s op).1 ≡ s

-- One that leaves a state as it is leaves the state with further bits as it is, with the same
-- answer.
abbrev pub StillAccessesStayStill : Type 0
StillAccessesStayStill =
    (s t : State) (op : Op)
    → is_access op ≡ true
    → OnlyRaisesBits s t
    → (reply_of s op).1 ≡ s
    → ((reply_of t op).1 ≡ t) × ((reply_of t op).0 ≡ (reply_of s op).0)

-- ---- the other operations
-- Each leaves the state as it is, or raises the stamp by one.
abbrev pub OthersRaiseStamps : Type 0
OthersRaiseStamps =
    (s : State) (op : Op)
    → is_access op ≡ false
    → ((reply_of s op).1 ≡ s) ⊎ ((reply_of s op).1.stamp ≡ s.stamp + 1)

-- Whether it leaves the state doesn't depend on R and C.
abbrev pub OthersIgnoreBits : Type 0
OthersIgnoreBits =
    (s : State) (referenced changed : Bool) (op : Op)
    → is_access op ≡ false
    → (reply_of s op).1 ≡ s
    → (reply_of (with_these_bits s referenced changed) op).1 ≡ with_these_bits s referenced changed

-- ---- masks
-- The entry translates the page, its protection allows the access, and a mask refuses it for the
-- entry's key.
abbrev pub IsForbidden : State → ℕ → ℕ → AccessMode → Type 0
IsForbidden s tag base mode =
    IsTrue (is_match s tag base)
    × IsTrue (is_allowed s mode)
    × IsTrue (masks_refuse s mode)

-- An access is answered Masked exactly there.
abbrev pub MaskedExactlyWhere : Type 0
MaskedExactlyWhere =
    (s : State) (tag base : ℕ) (mode : AccessMode)
    → ((answer_of_access s tag base mode).0 ≡ Masked) ↔ IsForbidden s tag base mode

-- What an entry answers by its protection alone.
abbrev pub answer_by_protection : State → ℕ → ℕ → AccessMode → Answer × State
answer_by_protection s tag base mode =
    if is_match s tag base
    then (if is_allowed s mode then (At, touched_state s mode.want) else (Denied, s))
    else (NoMatch, s)

-- Masks of 0 change no answer.
abbrev pub ZeroMasksChangeNothing : Type 0
ZeroMasksChangeNothing =
    (s : State) (tag base : ℕ) (key no_execute : Bool) (want : Want)
    → (let mode = access_mode key no_execute want no_masks in
    answer_of_access s tag base mode ≡ answer_by_protection s tag base mode)

-- ---- all operations
-- At, Masked and Denied come only on a valid state.
abbrev pub DecidedIsValid : Type 0
DecidedIsValid = (s : State) (op : Op) → is_decided (reply_of s op).0 ≡ true → s.valid ≡ true

-- A canonical state stays canonical: R and C stand apart, and an entry that isn't valid has
-- nothing.
abbrev pub RepliesStayCanonical : Type 0
RepliesStayCanonical =
    (s : State) (op : Op) → IsCanonicalState s → IsCanonicalState (reply_of s op).1

-- Stamps stay below 2 ^ 32.
abbrev pub StampsStayLow : Type 0
StampsStayLow = (s : State) (op : Op) → s.stamp < 2 ^ 32 → (reply_of s op).1.stamp < 2 ^ 32

-- ---- places
-- 1 where the operation changes the entry, else 0.
abbrev pub change_of : Receipt → ℕ
change_of r = if state_eq (after_of r) r.before then 0 else 1

-- By the stamp before; of one stamp by the number of bits before; of one number, what changes
-- nothing comes first.
abbrev pub compares_before : Receipt → Receipt → Bool
compares_before x y =
    nat_lt x.before.stamp y.before.stamp
    || ((x.before.stamp == y.before.stamp)
    && (nat_lt (bits x.before) (bits y.before)
    || ((bits x.before == bits y.before) && nat_le (change_of x) (change_of y))))

-- Places compare as these three do from the left.
abbrev pub PlacesCompareFromTheLeft : Type 0
PlacesCompareFromTheLeft = (x y : Receipt) → precedes x y ≡ compares_before x y

-- ---- histories
-- Receipts of an entry that were made one after the other are a legal history, in whatever order
-- all receipts are listed.
abbrev pub LoggedHistoriesAreLegal : Type 0
LoggedHistoriesAreLegal =
    (e : ℕ) (a b : State) (log listed : List Receipt)
    → IsLegal a (filter (λ r. r.entry == e) log) b
    → Regrouped log listed
    → IsLegal a (history e listed) b

-- ---- fronts
-- Two lists of receipts that keep fronts, one after the other, are one.
abbrev pub FrontsCompose : Type 0
FrontsCompose =
    (fronts mid later : List ℕ) (xs ys : List Receipt)
    → KeepsFronts fronts xs mid
    → KeepsFronts mid ys later
    → KeepsFronts fronts (xs ++ ys) later

-- No front falls.
abbrev pub FrontsNeverFall : Type 0
FrontsNeverFall =
    (fronts later : List ℕ) (rs : List Receipt)
    → KeepsFronts fronts rs later
    → AreBelow fronts later

-- Receipts of an entry that had left a line's stamp come after the line.
abbrev pub ReceiptsOfGoneLinesAreLater : Type 0
ReceiptsOfGoneLinesAreLater =
    (fronts later : List ℕ) (rs : List Receipt) (line : Line)
    → KeepsFronts fronts rs later
    → IsGone fronts line
    → AllLater line rs
