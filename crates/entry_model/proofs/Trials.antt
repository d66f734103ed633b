-- Calls on a list of states that nobody else changes.
use Rattle.std.specs.Prelude.{if◌then◌else◌}
use Rattle.std.proofs.Common.{◌≡◌, ℕ, ◌<◌, List, [], ◌∷◌, Bool, true, false, not, ap, sym, ◌∙◌, refl, subst, MatchBool, ◌⊎◌, inl, inr, length, length-set}
use Rattle.std.specs.List.{AllByRecursion}
use Rattle.std.proofs.lemmas.Bool.{cases_Bool}
use Rattle.entry_model.specs.State.{State}
use Rattle.entry_model.specs.declared.operation.Answer.{Answer}
use Rattle.entry_model.specs.declared.receipt.Receipt.{Receipt}
use Rattle.entry_model.specs.Receipt.{after_of, IsReceiptOf, is_no_match, is_at, is_worn}
use Rattle.entry_model.specs.Run.{state_at, states_after, IsRun, IsStep}
use Rattle.entry_model.specs.Trial.{Call, IsTrial, receipt_at, trial_run}
use Rattle.entry_model.proofs.Exact.{same}
use Rattle.entry_model.specs.declared.operation.Answer.TheVariants.{NoMatch}

-- After a worn entry a removal's trial doesn't go on.
abbrev pub not_worn : Answer → Bool
not_worn answer = not (is_worn answer)

-- An entry that doesn't translate the page allows no access.
pub no_match_not_at : (answer : Answer) → is_no_match answer ≡ true → is_at answer ≡ false
no_match_not_at NoMatch on = refl
no_match_not_at other on = cc

-- the first receipt is the one that the states give
first_is :
    (a mid : List State) (c : Call) (r : Receipt)
    → IsReceiptOf c.entry c.op r
    → IsStep a r mid
    → r ≡ receipt_at a c
first_is a mid c r of step =
    same r c.entry (state_at a c.entry) c.op of.entry (step.before ∙ ap (state_at a) of.entry) of.op

-- what the calls answer once the first receipt is r
chosen : (Answer → Bool) → List State → List Call → Receipt → List Receipt × List State
unfolding trial_run
chosen goes a cs r =
    if goes r.answer then
    (r ∷ (trial_run goes (states_after a r) cs).0, (trial_run goes (states_after a r) cs).1)
    else (r ∷ [], states_after a r)

one_step :
    (goes : Answer → Bool) (a b : List State) (cs : List Call) (r : Receipt) (rs : List Receipt)
    → MatchBool (goes r.answer) (IsTrial goes cs rs) (rs ≡ [])
    → IsRun (states_after a r) rs b
    → (IsTrial goes cs rs → (rs, b) ≡ trial_run goes (states_after a r) cs)
    → (r ∷ rs, b) ≡ chosen goes a cs r
unfolding chosen
one_step goes a b cs r rs s run rest = at (cases_Bool (goes r.answer)) where
  at : (goes r.answer ≡ true) ⊎ (goes r.answer ≡ false) → (r ∷ rs, b) ≡ chosen goes a cs r
  at (inl on) =
      let more : (rs, b) ≡ trial_run goes (states_after a r) cs = rest (rw on at s) in
      let whole : (r ∷ rs, b) ≡
      (r ∷ (trial_run goes (states_after a r) cs).0, (trial_run goes (states_after a r) cs).1) =
      ap (λ (z : List Receipt × List State). (r ∷ z.0, z.1)) more in
      rw on whole
  at (inr off) =
      let none : rs ≡ [] = rw off at s in
      let stays : b ≡ states_after a r = subst (λ z. IsRun (states_after a r) z b) none run in
      rw (off, none, stays) refl

-- receipts made in turn on a list of states are those that the states give
pub trial_is :
    (goes : Answer → Bool) (a b : List State) (cs : List Call) (rs : List Receipt)
    → IsTrial goes cs rs
    → IsRun a rs b
    → (rs, b) ≡ trial_run goes a cs
unfolding trial_run chosen
trial_is goes a b [] [] s run = ap (λ (z : List State). ([], z)) run
trial_is goes a b [] (r ∷ rs) s run = absurd s
trial_is goes a b (c ∷ cs) [] s run = absurd s
trial_is goes a b (c ∷ cs) (r ∷ rs) s run =
    let on : IsRun (states_after a r) rs b = subst (λ m. IsRun m rs b) run.1.after run.2 in
    one_step goes a b cs r rs s.1 on (λ s'. trial_is goes (states_after a r) b cs rs s' on)
    ∙ ap (chosen goes a cs) (first_is a run.0 c r s.0 run.1)

-- ---- the calls on a list of states are made in turn
-- Each call is on one of the first n entries.
abbrev pub Within : ℕ → List Call → Type 0
Within n cs = AllByRecursion (λ c. c.entry < n) cs

-- The receipts are a trial of these calls, and lead from the states a to those given with them.
abbrev pub Meets : (Answer → Bool) → List State → List Call → List Receipt × List State → Type 0
Meets goes a cs x = IsTrial goes cs x.0 × IsRun a x.0 x.1

within_after :
    (a : List State) (r : Receipt) (cs : List Call)
    → Within (length a) cs
    → Within (length (states_after a r)) cs
within_after a r cs h = subst (λ n. Within n cs) (sym (length-set a r.entry (after_of r))) h

meets_step :
    (goes : Answer → Bool) (a : List State) (c : Call) (cs : List Call)
    → c.entry < length a
    → Meets goes (states_after a (receipt_at a c)) cs
    (trial_run goes (states_after a (receipt_at a c)) cs)
    → Meets goes a (c ∷ cs) (chosen goes a cs (receipt_at a c))
unfolding chosen
meets_step goes a c cs within rest = at (cases_Bool (goes r.answer)) where
  r : Receipt
  r = receipt_at a c

  of : IsReceiptOf c.entry c.op r
  of = record { entry = refl; op = refl }

  step : IsStep a r (states_after a r)
  step = record { in_table = within; before = refl; after = refl }

  at : (goes r.answer ≡ true) ⊎ (goes r.answer ≡ false) → Meets goes a (c ∷ cs) (chosen goes a cs r)
  at (inl on) =
      let x = trial_run goes (states_after a r) cs in
      rw on ((of, rw on rest.0), (states_after a r, step, rest.1))
  at (inr off) = rw off ((of, rw off refl), (states_after a r, step, refl))

pub trial_meets :
    (goes : Answer → Bool) (a : List State) (cs : List Call)
    → Within (length a) cs
    → Meets goes a cs (trial_run goes a cs)
unfolding trial_run chosen
trial_meets goes a [] h = (tt, refl)
trial_meets goes a (c ∷ cs) h =
    meets_step goes a c cs h.0
    (trial_meets goes (states_after a (receipt_at a c)) cs
    (within_after a (receipt_at a c) cs h.1))
