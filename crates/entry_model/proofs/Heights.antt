-- How far receipts raise an entry's stamp. A removal pays with the entry that it empties, so that
-- only other receipts count.
use Rattle.std.specs.Prelude.{if◌then◌else◌, ◌==◌, filter, MatchBool}
use Rattle.std.proofs.Common.{◌≡◌, ℕ, ◌+◌, ◌≤◌, List, [], ◌∷◌, ◌++◌, Bool, true, false, cond, ap, sym, ◌∙◌, refl, arith}
use Rattle.std.proofs.lemmas.Bool.{false≢true}
use Rattle.entry_model.specs.State.{State}
use Rattle.entry_model.specs.declared.operation.Answer.{Answer}
use Rattle.entry_model.specs.declared.operation.Op.{Op}
use Rattle.entry_model.specs.declared.receipt.Receipt.{Receipt}
use Rattle.entry_model.specs.Receipt.{is_worn, is_at}
use Rattle.entry_model.specs.Reply.{reply_of}
use Rattle.entry_model.specs.History.{history, Regrouped, nothing, kept, swapped, twice}
use Rattle.entry_model.specs.Trial.{Call, IsTrial}
use Rattle.entry_model.proofs.Regroup.{sort_regroups}
use Rattle.entry_model.proofs.Replied.{Changes, enters, removes, protects, clears_r, clears_c, Replied, replied, left, changed, accessed}
use Rattle.entry_model.specs.declared.operation.Op.TheVariants as ops

-- ---- one operation
-- The stamp, and one more for an entry that is valid.
abbrev pub height : State → ℕ
height s = s.stamp + (if s.valid then 1 else 0)

-- A removal raises no height, and any other operation at most by 2.
abbrev pub cost : Op → ℕ
cost (ops.Remove test) = 0
cost other = 2

changed_low :
    (s : State) {op : Op} {a : Answer} {next : State}
    → Changes s op a next
    → height (record next { stamp = s.stamp + 1 }) ≤ height s + cost op
changed_low s (enters dword0 dword1 valid) = omega arith
changed_low s (removes test valid) = rw valid (omega arith)
changed_low s (protects test flags valid) = omega arith
changed_low s (clears_r valid) = omega arith
changed_low s (clears_c valid) = omega arith

pub reply_raises : (s : State) (op : Op) → height (reply_of s op).1 ≤ height s + cost op
reply_raises s op = at (replied s op) where
  at : {op : Op} {x : Answer × State} → Replied s op x → height x.1 ≤ height s + cost op
  at (left a is) = omega arith
  at (changed a next changes is) = changed_low s changes
  at (accessed tag base key no_execute want masks valid) = omega arith

-- ---- several receipts
-- The costs of the operations of these receipts, added up.
abbrev pub weight : List Receipt → ℕ
weight [] = 0
weight (r ∷ rs) = cost r.op + weight rs

pub weight_append : (xs ys : List Receipt) → weight (xs ++ ys) ≡ weight xs + weight ys
weight_append [] ys = omega arith
weight_append (x ∷ xs) ys = omega (arith, weight_append xs ys)

pub weight_regrouped : {xs ys : List Receipt} → Regrouped xs ys → weight xs ≡ weight ys
weight_regrouped nothing = refl
weight_regrouped (kept r h) = ap (λ n. cost r.op + n) (weight_regrouped h)
weight_regrouped (swapped r s xs) = omega arith
weight_regrouped (twice h k) = weight_regrouped h ∙ weight_regrouped k

either_weight :
    (b : Bool) (r : Receipt) (xs ys : List Receipt)
    → weight xs ≤ weight ys
    → weight (cond b (r ∷ xs) xs) ≤ cost r.op + weight ys
either_weight true r xs ys h = omega arith
either_weight false r xs ys h = omega arith

pub weight_filter : (p : Receipt → Bool) (rs : List Receipt) → weight (filter p rs) ≤ weight rs
weight_filter p [] = omega arith
weight_filter p (r ∷ rs) = either_weight (p r) r (filter p rs) rs (weight_filter p rs)

-- One entry's receipts weigh no more than all.
pub weight_history : (e : ℕ) (rs : List Receipt) → weight (history e rs) ≤ weight rs
weight_history e rs =
    let own = filter (λ (r : Receipt). r.entry == e) rs in
    let sorted : weight own ≡ weight (history e rs) = weight_regrouped (sort_regroups own) in
    omega (arith, weight_filter (λ (r : Receipt). r.entry == e) rs)

-- ---- trials
-- The costs of the operations of these calls, added up.
abbrev pub calls_cost : List Call → ℕ
calls_cost [] = 0
calls_cost (c ∷ cs) = cost c.op + calls_cost cs

pub cost_append : (xs ys : List Call) → calls_cost (xs ++ ys) ≡ calls_cost xs + calls_cost ys
cost_append [] ys = omega arith
cost_append (x ∷ xs) ys = omega (arith, cost_append xs ys)

trial_step :
    (goes : Bool) (op other : Op) (cs : List Call) (rs : List Receipt) (P : Type 0)
    → other ≡ op
    → MatchBool goes P (rs ≡ [])
    → (P → weight rs ≤ calls_cost cs)
    → cost other + weight rs ≤ cost op + calls_cost cs
trial_step true op other cs rs P same h rest = let e :
    cost other ≡ cost op = ap cost same in omega (arith, rest h)
trial_step false op other cs rs P same h rest =
    let e : cost other ≡ cost op = ap cost same in
    let none : weight rs ≡ 0 = ap weight h in
    omega arith

-- The receipts of a trial weigh no more than its calls.
pub trial_weight :
    (goes : Answer → Bool) (cs : List Call) (rs : List Receipt)
    → IsTrial goes cs rs
    → weight rs ≤ calls_cost cs
trial_weight goes [] [] h = omega arith
trial_weight goes [] (r ∷ rs) h = absurd h
trial_weight goes (c ∷ cs) [] h = absurd h
trial_weight goes (c ∷ cs) (r ∷ rs) h =
    trial_step (goes r.answer) c.op r.op cs rs (IsTrial goes cs rs) h.0.op h.1
    (λ k. trial_weight goes cs rs k)

-- ---- what the answers tell of the state before
-- Worn comes at the last stamp alone.
pub worn_last : (s : State) (op : Op) → is_worn (reply_of s op).0 ≡ true → s.stamp ≡ 0xFFFFFFFF
worn_last s op = at (replied s op) where
  at : {op : Op} {x : Answer × State} → Replied s op x → is_worn x.0 ≡ true → s.stamp ≡ 0xFFFFFFFF
  at (left a is) h = is.worn h
  at (changed a next changes is) h = absurd (false≢true (sym is.no_worn ∙ h))
  at (accessed tag base key no_execute want masks valid) h = cc

-- An access is allowed by an entry that is valid.
pub at_valid : (s : State) (op : Op) → is_at (reply_of s op).0 ≡ true → s.valid ≡ true
at_valid s op = at (replied s op) where
  at : {op : Op} {x : Answer × State} → Replied s op x → is_at x.0 ≡ true → s.valid ≡ true
  at (left a is) h = absurd (false≢true (sym is.no_at ∙ h))
  at (changed a next changes is) h = absurd (false≢true (sym is.no_at ∙ h))
  at (accessed tag base key no_execute want masks valid) h = valid
