-- What opening, splitting, joining and closing passes leave, and the code of each. A pass as C has
-- it is closed where it has nothing.
use Rattle.std.specs.Prelude.{◌≡◌, ◌⊎◌, ◌==◌, ◌&&◌, ℕ, ℤ, nat_le, nat_lt, Bool, MatchBool, if◌then◌else◌, List, length, Option, Some, None}
use Rattle.std.specs.Arc.{arc_value}
use Rattle.hpte_fields.specs.TableSize.{entry_count}
use Rattle.papr_codes.specs.ReturnCodes.{rc_code}
use Rattle.papr_codes.specs.declared.codes.Rc.{Rc}
use Rattle.papr_codes.specs.declared.codes.Rc.TheVariants.{Success, Parameter, Resource, Busy, NoMem}
use Rattle.entry_model.specs.State.{State}
use Rattle.entry_lock.specs.PassOfTable.{view_of}
use Rattle.entry_lock.specs.Closing.{Closes}
use Rattle.c_layout.specs.Tables.{is_table}
use Rattle.shared_pass.specs.declared.working.Working.{Working}
use Rattle.shared_pass.specs.Shares.{AreOfOne}
use Rattle.shared_pass.specs.Workings.{has_all_shares, is_free, IsNew, IsSplitOff, IsTakenIn}
use Rattle.entry_lock.specs.PassInvariants.{most_passes}

-- ---- opening
-- The entries are a table, and the count of passes is one from 1 to 64.
abbrev pub can_open : List State → ℕ → ℕ → Bool
can_open entries order passes =
    is_table order entries && nat_lt 0 passes && nat_le passes most_passes

-- A closed pass is new then, or there was no memory, and it is as it was.
abbrev pub OpensOr : List State → ℕ → ℕ → Option Working → ℤ → Type 0
OpensOr entries order passes (Some y) code =
    IsNew entries order passes y × (code ≡ rc_code Success)
OpensOr entries order passes None code = code ≡ rc_code NoMem

-- Otherwise H_PARAMETER, and the pass is as it was.
abbrev pub IsOpening :
    List State → ℕ → ℕ → Option Working → Option Working → ℤ → Type 0
IsOpening entries order passes None after code =
    MatchBool
    (can_open entries order passes)
    (OpensOr entries order passes after code)
    ((after ≡ None) × (code ≡ rc_code Parameter))
IsOpening entries order passes (Some x) after code =
    (after ≡ Some x) × (code ≡ rc_code Parameter)

-- ---- two passes
-- What two passes are after a call, and its code.
pub record TwoAfter : Type 0 where
  pub pass : Option Working
  pub other : Option Working
  pub code : ℤ

-- What two passes are after a call, made of its three parts.
abbrev pub two_after : Option Working → Option Working → ℤ → TwoAfter
two_after pass other code = record { pass = pass; other = other; code = code }

-- Both passes are as they were, and the call answers this code.
pub record IsKept (pass other : Option Working) (rc : Rc) (t : TwoAfter) : Type 0 where
  pub pass_is : t.pass ≡ pass
  pub other_is : t.other ≡ other
  pub code_is : t.code ≡ rc_code rc

-- ---- splits
-- A pass was split.
pub record IsSplitInto (x : Working) (t : TwoAfter) : Type 0 where
  pub left : Working
  pub right : Working
  pub pass_is : t.pass ≡ Some left
  pub other_is : t.other ≡ Some right
  pub code_is : t.code ≡ rc_code Success
  pub split_off : IsSplitOff x left right

-- A pass of two shares or more is split, or there was no memory. With one share the answer is
-- H_RESOURCE.
abbrev pub SplitsBy : Bool → Working → TwoAfter → Type 0
SplitsBy two x t =
    MatchBool
    two
    (IsSplitInto x t ⊎ IsKept (Some x) None NoMem t)
    (IsKept (Some x) None Resource t)

-- An open pass is split, and the closed one becomes its other half. Where the first is closed, or
-- the other open, the answer is H_PARAMETER.
abbrev pub IsSplitting : Option Working → Option Working → TwoAfter → Type 0
IsSplitting (Some x) None t = SplitsBy (nat_le 2 x.sharer.pass.shares) x t
IsSplitting pass other t = IsKept pass other Parameter t

-- ---- joins
-- The two passes, where both are open, are of one table.
abbrev pub AreOfOneTable : Option Working → Option Working → Type 0
AreOfOneTable (Some x) (Some y) = AreOfOne x.sharer y.sharer
AreOfOneTable pass other = Unit {0}

-- The one took in the other, which is closed.
pub record IsJoinedInto (x y : Working) (t : TwoAfter) : Type 0 where
  pub both : Working
  pub pass_is : t.pass ≡ Some both
  pub other_is : t.other ≡ None
  pub code_is : t.code ≡ rc_code Success
  pub taken_in : IsTakenIn x y both

-- Two passes are joined where both have nothing to go on with. Otherwise the answer is H_BUSY.
abbrev pub JoinsBy : Bool → Working → Working → TwoAfter → Type 0
JoinsBy free x y t =
    MatchBool free (IsJoinedInto x y t) (IsKept (Some x) (Some y) Busy t)

-- Two open passes are joined. Where one of them is closed, the answer is H_PARAMETER.
abbrev pub IsJoining : Option Working → Option Working → TwoAfter → Type 0
IsJoining (Some x) (Some y) t = JoinsBy (is_free x && is_free y) x y t
IsJoining pass other t = IsKept pass other Parameter t

-- ---- closing
-- The entries before and after, what the pass is then, and the code.
pub record ClosedAfter : Type 0 where
  pub entries : List State
  pub entries_after : List State
  pub pass : Option Working
  pub code : ℤ

-- What a closing leaves, made of its four parts.
abbrev pub closed_after : List State → List State → Option Working → ℤ → ClosedAfter
closed_after entries entries_after pass code = record {
  entries = entries;
  entries_after = entries_after;
  pass = pass;
  code = code;
}

-- Nothing changed, and this is the code.
pub record IsStillOpen (x : Option Working) (rc : Rc) (t : ClosedAfter) : Type 0 where
  pub entries_are : t.entries_after ≡ t.entries
  pub pass_is : t.pass ≡ x
  pub code_is : t.code ≡ rc_code rc

-- The pass is closed. The entries are as the table's run left them: the pass's receipts are all
-- that were made, and lead each entry from its opening to this state.
pub record IsClosedNow (x : Working) (t : ClosedAfter) : Type 0 where
  pub closes :
      Closes (arc_value x.sharer.table).opening.items (view_of x.sharer.pass) t.entries_after
  pub pass_is : t.pass ≡ None
  pub code_is : t.code ≡ rc_code Success

-- Why a pass isn't closed, with so many entries: the first of these that holds.
abbrev pub close_refusal : ℕ → Working → Option Rc
close_refusal count x =
    if count == entry_count (arc_value x.sharer.table).order
    then (if has_all_shares x then (if is_free x then None else Some Busy) else Some Resource)
    else Some Parameter

-- What a closing does by the reason against it. With none the table is closed.
abbrev pub ClosesBy : Option Rc → Working → ClosedAfter → Type 0
ClosesBy (Some rc) x t = IsStillOpen (Some x) rc t
ClosesBy None x t = IsClosedNow x t

-- An open pass is closed, unless something is against it. For a closed one the answer is
-- H_PARAMETER.
abbrev pub IsClosing : Option Working → ClosedAfter → Type 0
IsClosing None t = IsStillOpen None Parameter t
IsClosing (Some x) t = ClosesBy (close_refusal (length t.entries) x) x t
