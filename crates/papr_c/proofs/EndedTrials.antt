-- The entry of the receipt that ended a trial.
use Rattle.std.specs.List.{AllByRecursion}
use Rattle.std.proofs.Common.{◌≡◌, ◌<◌, List, [], ◌∷◌, length, Bool, true, false, Some, None, refl, ap, sym, subst, ◌∙◌, ◌⊎◌, inl, inr, length-set}
use Rattle.std.proofs.lemmas.Bool.{cases_Bool}
use Rattle.std.proofs.lemmas.List.{get_or-set_same}
use Rattle.entry_model.specs.State.{State, empty_state}
use Rattle.entry_model.specs.declared.operation.Answer.{Answer}
use Rattle.entry_model.specs.declared.receipt.Receipt.{Receipt}
use Rattle.entry_model.specs.Receipt.{after_of}
use Rattle.entry_model.specs.Run.{state_at, states_after}
use Rattle.entry_model.specs.Trial.{Call, ending_of, receipt_at, trial_run}
use Rattle.entry_model.proofs.TrialSteps.{ending-on, ending-off}
use Rattle.papr_c.proofs.SoFar.{step_on, step_off, no_more}

-- It is in the table, and in the state that the receipt left.
pub record IsLeft (states : List State) (r : Receipt) : Type 0 where
  pub inside : r.entry < length states
  pub state : state_at states r.entry ≡ after_of r

inside_after :
    (a : List State) (r : Receipt) (cs : List Call)
    → AllByRecursion (λ (c : Call). c.entry < length a) cs
    → AllByRecursion (λ (c : Call). c.entry < length (states_after a r)) cs
inside_after a r cs all =
    subst (λ n. AllByRecursion (λ (c : Call). c.entry < n) cs)
    (sym (length-set a r.entry (after_of r))) all

pub ended_left :
    (goes : Answer → Bool) (a : List State) (cs : List Call) (r : Receipt)
    → AllByRecursion (λ (c : Call). c.entry < length a) cs
    → Some r ≡ ending_of goes (trial_run goes a cs).0
    → IsLeft (trial_run goes a cs).1 r
ended_left goes a [] r all ended =
    let none : Some r ≡ None = ended ∙ ap (λ (x : List Receipt × List State). ending_of goes x.0)
    (no_more goes a) in
    cc
ended_left goes a (c ∷ cs) r all ended =
    at (cases_Bool (goes first.answer))
    (ended_left goes (states_after a first) cs r (inside_after a first cs all.1)) where
      first : Receipt
      first = receipt_at a c

      at :
          (goes first.answer ≡ true) ⊎ (goes first.answer ≡ false)
          →
          (Some r ≡ ending_of goes (trial_run goes (states_after a first) cs).0
          → IsLeft (trial_run goes (states_after a first) cs).1 r)
          → IsLeft (trial_run goes a (c ∷ cs)).1 r
      at (inl on) later =
          let whole = step_on goes a c cs first refl on in
          rw whole
          (later
          (ended
          ∙ ap (λ (x : List Receipt × List State). ending_of goes x.0) whole
          ∙ ending-on goes first (trial_run goes (states_after a first) cs).0 on))
      at (inr off) later =
          let whole = step_off goes a c cs first refl off in
          let some : Some r ≡ Some first = ended ∙ ap
          (λ (x : List Receipt × List State). ending_of goes x.0) whole ∙ ending-off goes first []
          off in
          let same : first ≡ r = cc in
          let here : IsLeft (states_after a first) first = record {
            inside = subst (λ n. c.entry < n) (sym (length-set a c.entry (after_of first))) all.0;
            state = get_or-set_same a c.entry (after_of first) (empty_state 0) all.0;
          } in
          rw whole (subst (λ (x : Receipt). IsLeft (states_after a first) x) same here)
