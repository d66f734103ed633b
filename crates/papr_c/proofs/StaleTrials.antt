-- Whether a cached translation may no longer hold, by the receipts of a trial.
use Rattle.std.specs.Prelude.{◌||◌}
use Rattle.std.specs.Option.{option_map_or}
use Rattle.std.proofs.Common.{◌≡◌, List, [], ◌∷◌, Bool, true, false, refl, ap, sym, ◌∙◌, ◌⊎◌, inl, inr}
use Rattle.std.proofs.lemmas.Bool.{cases_Bool}
use Rattle.entry_model.specs.State.{State}
use Rattle.entry_model.specs.declared.operation.Answer.{Answer}
use Rattle.entry_model.specs.declared.operation.Answer.TheVariants.{Taken}
use Rattle.entry_model.specs.declared.receipt.Receipt.{Receipt}
use Rattle.entry_model.specs.Receipt.{is_taken}
use Rattle.entry_model.specs.Run.{states_after}
use Rattle.entry_model.specs.Trial.{Call, ending_of, receipt_at, trial_run}
use Rattle.entry_model.proofs.TrialSteps.{ending-on, ending-off}
use Rattle.c_layout.specs.Stale.{is_stale, any_stale}
use Rattle.papr_c.proofs.SoFar.{step_on, step_off, no_more}
use Rattle.std.proofs.Math.Bool.{or-false}

-- ---- a trial of one call
pub stale_alone : (r : Receipt) → is_stale r.answer ≡ any_stale (r ∷ [])
unfolding any_stale
stale_alone r = sym (or-false (is_stale r.answer))

-- ---- a trial of two calls
pub stale_pair : (r s : Receipt) → (is_stale r.answer || is_stale s.answer) ≡ any_stale (r ∷ s ∷ [])
unfolding any_stale
stale_pair r s = ap (λ b. is_stale r.answer || b) (sym (or-false (is_stale s.answer)))

-- ---- a trial that goes on while entries are taken
-- By the receipt that ended it.
abbrev ends_so : List Receipt → Bool
ends_so rs = option_map_or (λ (r : Receipt). is_stale r.answer) (ending_of is_taken rs) false

taken_stays : (x : Answer) → is_taken x ≡ true → is_stale x ≡ false
taken_stays Taken e = refl
taken_stays other e = cc

stale_on :
    (r : Receipt) (rs : List Receipt)
    → is_stale r.answer ≡ false
    → any_stale (r ∷ rs) ≡ any_stale rs
unfolding any_stale
stale_on r rs stays = rw stays refl

stale_none : any_stale [] ≡ false
unfolding any_stale
stale_none = refl

pub stale_entered :
    (a : List State) (cs : List Call)
    → ends_so (trial_run is_taken a cs).0 ≡ any_stale (trial_run is_taken a cs).0
stale_entered a [] = rw (no_more is_taken a) (sym stale_none)
stale_entered a (c ∷ cs) =
    at (cases_Bool (is_taken r.answer)) (stale_entered (states_after a r) cs) where
      r : Receipt
      r = receipt_at a c

      rest : List Receipt
      rest = (trial_run is_taken (states_after a r) cs).0

      at :
          (is_taken r.answer ≡ true) ⊎ (is_taken r.answer ≡ false)
          → ends_so rest ≡ any_stale rest
          → ends_so (trial_run is_taken a (c ∷ cs)).0 ≡ any_stale (trial_run is_taken a (c ∷ cs)).0
      at (inl on) later =
          rw (step_on is_taken a c cs r refl on)
          (ap (λ o. option_map_or (λ (x : Receipt). is_stale x.answer) o false)
          (ending-on is_taken r rest on)
          ∙ later
          ∙ sym (stale_on r rest (taken_stays r.answer on)))
      at (inr off) later =
          rw (step_off is_taken a c cs r refl off)
          (ap (λ o. option_map_or (λ (x : Receipt). is_stale x.answer) o false)
          (ending-off is_taken r [] off)
          ∙ stale_alone r)
