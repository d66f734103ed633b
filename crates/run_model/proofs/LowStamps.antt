-- States with a low stamp, and with their page in a grant where they are valid; and the histories
-- that keep them so.
use Rattle.std.specs.Prelude.{filter, ◌==◌}
use Rattle.std.proofs.Common.{◌≡◌, ℕ, suc, ◌+◌, ◌<◌, ◌≤◌, List, [], ◌∷◌, true, false, ap, sym, ◌∙◌, refl, subst, ◌⊎◌, inl, inr, length, arith}
use Rattle.std.specs.List.{AllByRecursion}
use Rattle.std.proofs.lemmas.Bool.{cases_Bool, eq-eqb}
use Rattle.frame_grants.specs.declared.grant.Grant.{Grant}
use Rattle.entry_model.specs.State.{State, empty_state}
use Rattle.entry_model.specs.declared.operation.Op.{Op}
use Rattle.entry_model.specs.declared.receipt.Receipt.{Receipt}
use Rattle.entry_model.specs.Receipt.{after_of, is_worn}
use Rattle.entry_model.specs.Reply.{reply_of}
use Rattle.entry_model.specs.Run.{state_at}
use Rattle.entry_model.specs.History.{IsLegal, history}
use Rattle.entry_model.proofs.Heights.{height, cost, weight, weight_history, reply_raises, worn_last}
use Rattle.entry_model.proofs.Regroup.{sort_regroups, regrouped_back}
use Rattle.entry_model.proofs.PlanBounds.{EntersOnly, NoneWorn}
use Rattle.entry_model.proofs.KeptWords.{empty_words, reply_words}
use Rattle.hpt_walk.proofs.Granted.{IsGranted, IsGrantedWords, granted_stay}
use Rattle.trace_reply.specs.Replies.{RepliedLine}
use Rattle.run_model.specs.Stores.{Store, states_of}
use Rattle.run_model.specs.Histories.{receipts_from_processor}
use Rattle.run_model.specs.Sections.{section_end}
use Rattle.basics.proofs.Each.{each_map, each_filter, each_at, each_under}
use Rattle.run_model.proofs.OneProcessor.{closing_size}
use Rattle.run_model.proofs.SectionGood.{each_regrouped}

-- ---- states
-- Its stamp, with one more where it is valid, is at most n, and its page is granted.
pub record IsLowStamp (grants : List Grant) (n : ℕ) (s : State) : Type 0 where
  pub low : height s ≤ n
  pub granted : IsGranted grants s

pub empty_low_stamp : (grants : List Grant) (n : ℕ) → IsLowStamp grants n (empty_state 0)
empty_low_stamp grants n =
    record { low = omega arith; granted = empty_words (IsGrantedWords grants) 0 }

pub low_stamp_more :
    (grants : List Grant) (n m : ℕ) (s : State)
    → n ≤ m
    → IsLowStamp grants n s
    → IsLowStamp grants m s
low_stamp_more grants n m s more h = record { low = omega (arith, h.low); granted = h.granted }

-- The highest bound below which no entry is worn.
abbrev pub top : ℕ
top = 0xFFFFFFFE

-- ---- receipts
-- What is entered has a granted page.
abbrev pub EnterGranted : List Grant → List Receipt → Type 0
EnterGranted grants rs =
    AllByRecursion (λ (r : Receipt). EntersOnly (IsGrantedWords grants) r.op) rs

-- Each state before has a low stamp.
abbrev pub FromLowStamp : List Grant → ℕ → List Receipt → Type 0
FromLowStamp grants n rs = AllByRecursion (λ (r : Receipt). IsLowStamp grants n r.before) rs

pub fine_below : (r : Receipt) → height r.before ≤ top → is_worn r.answer ≡ false
fine_below r low = at (cases_Bool (is_worn r.answer)) where
  at : (is_worn r.answer ≡ true) ⊎ (is_worn r.answer ≡ false) → is_worn r.answer ≡ false
  at (inl worn) =
      let last : r.before.stamp ≡ 0xFFFFFFFF = worn_last r.before r.op
      (ap is_worn (sym r.lawful) ∙ worn) in
      absurd (omega arith)
  at (inr fine) = fine

pub none_worn : (grants : List Grant) (rs : List Receipt) → FromLowStamp grants top rs → NoneWorn rs
none_worn grants rs h =
    each_map (λ (r : Receipt). IsLowStamp grants top r.before)
    (λ (r : Receipt). is_worn r.answer ≡ false) rs (λ r k. fine_below r k.low) h

-- ---- along a legal history
-- What these operations keep of a state and its bound: each raises the bound at most by its cost,
-- and a higher bound says no more.
pub record IsKeptBy (E : Op → Type 0) (Q : ℕ → State → Type 0) : Type 0 where
  pub step : (n : ℕ) (s : State) (op : Op) → E op → Q n s → Q (n + cost op) (reply_of s op).1
  pub more : (n m : ℕ) (s : State) → n ≤ m → Q n s → Q m s

legal_keeps :
    (E : Op → Type 0) (Q : ℕ → State → Type 0) (n m : ℕ) (a b : State) (rs : List Receipt)
    → IsKeptBy E Q
    → IsLegal a rs b
    → n + weight rs ≤ m
    → Q n a
    → AllByRecursion (λ (r : Receipt). E r.op) rs
    → AllByRecursion (λ (r : Receipt). Q m r.before) rs × Q m b
legal_keeps E Q n m a b [] kept h low q ops =
    (tt, subst (Q m) (sym h) (kept.more n m a (omega arith) q))
legal_keeps E Q n m a b (r ∷ rs) kept h low q ops =
    let here : Q n r.before = subst (Q n) (sym h.0) q in
    let rest = legal_keeps E Q (n + cost r.op) m (after_of r) b rs kept h.1 (omega arith)
    (kept.step n r.before r.op ops.0 here) ops.1 in
    ((kept.more n m r.before (omega arith) here, rest.0), rest.1)

-- ---- the receipts of all entries
-- What holds of each entry's receipts holds of all.
pub each_entry :
    (P : Receipt → Type 0) (n : ℕ) (rs : List Receipt)
    → AllByRecursion (λ (r : Receipt). r.entry < n) rs
    → ((e : ℕ) → e < n → AllByRecursion P (filter (λ (r : Receipt). r.entry == e) rs))
    → AllByRecursion P rs
each_entry P n [] within h = tt
each_entry P n (r ∷ rs) within h = (
  (each_under P (λ (x : Receipt). x.entry == r.entry) r rs (h r.entry within.0)).0
      (eq-eqb r.entry r.entry refl),
  each_entry P n rs within.1
      (λ e k. (each_under P (λ (x : Receipt). x.entry == e) r rs (h e k)).1),
)

pub each_in_history :
    (P : Receipt → Type 0) (e : ℕ) (rs : List Receipt)
    → AllByRecursion P rs
    → AllByRecursion P (history e rs)
each_in_history P e rs h =
    each_regrouped P (sort_regroups (filter (λ (r : Receipt). r.entry == e) rs))
    (each_filter P (λ (r : Receipt). r.entry == e) rs h)

pub each_from_histories :
    (P : Receipt → Type 0) (n : ℕ) (rs : List Receipt)
    → AllByRecursion (λ (r : Receipt). r.entry < n) rs
    → ((e : ℕ) → e < n → AllByRecursion P (history e rs))
    → AllByRecursion P rs
each_from_histories P n rs within h =
    each_entry P n rs within
    (λ e k.
    each_regrouped P
    (regrouped_back (sort_regroups (filter (λ (r : Receipt). r.entry == e) rs))) (h e k))

-- ---- the states of a section
pub each_state :
    (P : State → Type 0) (states : List State)
    → ((e : ℕ) → e < length states → P (state_at states e))
    → AllByRecursion P states
each_state P [] h = tt
each_state P (s ∷ ss) h = (h 0 (omega arith), each_state P ss (λ e k. h (suc e) (omega arith)))

pub closed_size :
    (w : Store) (ts : List RepliedLine)
    → length (states_of (section_end w ts)) ≡ length (states_of w)
unfolding section_end
closed_size w ts = closing_size (states_of w) (receipts_from_processor (length w.processors) 0 ts)

-- What operations keep of the states that histories open on is so of each state before a receipt,
-- and of those that they close on.
pub states_kept :
    (E : Op → Type 0) (Q : ℕ → State → Type 0) (n m : ℕ) (a b : List State) (rs : List Receipt)
    → IsKeptBy E Q
    → Q n (empty_state 0)
    → AllByRecursion (Q n) a
    → AllByRecursion (λ (r : Receipt). r.entry < length a) rs
    → ((e : ℕ) → e < length a → IsLegal (state_at a e) (history e rs) (state_at b e))
    → length b ≡ length a
    → AllByRecursion (λ (r : Receipt). E r.op) rs
    → n + weight rs ≤ m
    → AllByRecursion (λ (r : Receipt). Q m r.before) rs × AllByRecursion (Q m) b
states_kept E Q n m a b rs kept empty first within legal size ops low = (
  each_from_histories (λ (r : Receipt). Q m r.before) (length a) rs within
      (λ e k. (along e k).0),
  each_state (Q m) b (λ e k. (along e (subst (λ l. e < l) size k)).1),
) where
  along :
      (e : ℕ)
      → e < length a
      → AllByRecursion (λ (r : Receipt). Q m r.before) (history e rs) × Q m (state_at b e)
  along e k =
      legal_keeps E Q n m (state_at a e) (state_at b e) (history e rs) kept (legal e k)
      (omega (arith, weight_history e rs)) (each_at (Q n) a e (empty_state 0) empty first)
      (each_in_history (λ (r : Receipt). E r.op) e rs ops)

low_stamp_kept :
    (grants : List Grant) → IsKeptBy (EntersOnly (IsGrantedWords grants)) (IsLowStamp grants)
low_stamp_kept grants = record {
  step =
      λ n s op enters h.
      record {
        low = (let low : height s ≤ n = h.low in omega (arith, reply_raises s op));
        granted =
            reply_words (IsGrantedWords grants) s op (granted_stay grants) enters h.granted;
      };
  more = low_stamp_more grants;
}

-- From states with low stamps, legal histories have states with low stamps.
pub states_low_stamp :
    (grants : List Grant) (n m : ℕ) (a b : List State) (rs : List Receipt)
    → AllByRecursion (IsLowStamp grants n) a
    → AllByRecursion (λ (r : Receipt). r.entry < length a) rs
    → ((e : ℕ) → e < length a → IsLegal (state_at a e) (history e rs) (state_at b e))
    → length b ≡ length a
    → EnterGranted grants rs
    → n + weight rs ≤ m
    → FromLowStamp grants m rs × AllByRecursion (IsLowStamp grants m) b
states_low_stamp grants n m a b rs =
    states_kept (EntersOnly (IsGrantedWords grants)) (IsLowStamp grants) n m a b rs
    (low_stamp_kept grants) (empty_low_stamp grants n)
