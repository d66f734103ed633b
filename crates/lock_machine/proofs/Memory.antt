-- When a step may lack memory.
use Rattle.std.specs.Prelude.{is_some, option_map, find, [], ◌∷◌, IfNone, IsOk, Ok, Err, if◌then◌else◌}
use Rattle.std.proofs.Common.{◌≡◌, ℕ, Bool, not, true, false, refl, sym, ap, ◌∙◌, subst, Option, None, Some}
use Rattle.std.specs.declared.result.Result.{Result}
use Rattle.std.proofs.lemmas.Bool.{false≢true}
use Rattle.entry_model.specs.declared.receipt.Receipt.{Receipt}
use Rattle.lock_core.specs.declared.error.CoreError.{CoreError}
use Rattle.lock_core.specs.declared.error.CoreError.TheVariants.{Memory, Actor as ActorFault, Entry as EntryFault, Phase as PhaseFault}
use Rattle.lock_core.specs.declared.step.Step.{Step}
use Rattle.lock_core.specs.declared.step.Step.TheVariants.{Split, Join}
use Rattle.lock_core.specs.Machine.{Machine}
use Rattle.lock_core.specs.Steps.{step_result_of, may_act, names_entry, fits_phase, refusals, refusal, is_allowed, made_by, takes_memory}

abbrev is_memory : CoreError → Bool
is_memory Memory = true
is_memory e = false

abbrev is_for_memory : Option CoreError → Bool
is_for_memory (Some e) = is_memory e
is_for_memory None = false

abbrev fails_for_memory : Result (Unit {0}) CoreError → Bool
fails_for_memory (Err e) = is_memory e
fails_for_memory (Ok v) = false

no_memory_among :
    (a b c : Bool)
    → is_for_memory
    (option_map (λ (row : Bool × CoreError). row.1)
    (find (λ (row : Bool × CoreError). row.0)
    ((a, ActorFault) ∷ (b, EntryFault) ∷ (c, PhaseFault) ∷ [])))
    ≡ false
no_memory_among true b c = refl
no_memory_among false true c = refl
no_memory_among false false true = refl
no_memory_among false false false = refl

-- No refusal is for want of memory.
pub refused_otherwise :
    (m : Machine) (i : ℕ) (s : Step) (e : CoreError)
    → refusal m i s ≡ Some e
    → ◌≡◌ {A = Result (Unit {0}) CoreError} (Err e) (Err Memory)
    → ⊥
unfolding refusal refusals
refused_otherwise m i s e is fails =
    false≢true
    (sym
    (no_memory_among (not (may_act m i s)) (not (names_entry m s))
    (not (fits_phase m i s)))
    ∙ ap is_for_memory is
    ∙ ap fails_for_memory fails)

pub split_takes : (m : Machine) (i to : ℕ) (s : Step) → s ≡ Split to → takes_memory m i s ≡ true
unfolding takes_memory
split_takes m i to s is = ap (takes_memory m i) is

pub join_takes : (m : Machine) (i from : ℕ) (s : Step) → s ≡ Join from → takes_memory m i s ≡ true
unfolding takes_memory
join_takes m i from s is = ap (takes_memory m i) is

some_made :
    (may : Bool) (made : Option Receipt) (r : Result (Unit {0}) CoreError)
    → may ≡ true
    → IfNone made (IsOk r)
    → r ≡ Err Memory
    → is_some (if may then made else None) ≡ true
some_made true (Some receipt) r allowed free fails = refl
some_made true None r allowed free fails =
    absurd (false≢true (subst (λ (q : Result (Unit {0}) CoreError). IsOk q) fails free))
some_made false made r allowed free fails = absurd (false≢true allowed)

-- A step on an entry that lacks memory makes a receipt, where it succeeds with none.
pub receipt_takes :
    (m : Machine) (i : ℕ) (s : Step) (r : Result (Unit {0}) CoreError)
    → ((to : ℕ) → s ≡ Split to → ⊥)
    → ((from : ℕ) → s ≡ Join from → ⊥)
    → is_allowed m i s ≡ true
    → IfNone (step_result_of m i s).made (IsOk r)
    → r ≡ Err Memory
    → takes_memory m i s ≡ true
unfolding takes_memory made_by
receipt_takes m i (Split to) r no_split no_join may free fails = absurd (no_split to refl)
receipt_takes m i (Join from) r no_split no_join may free fails = absurd (no_join from refl)
receipt_takes m i s r no_split no_join may free fails =
    some_made (is_allowed m i s) (step_result_of m i s).made r may free fails
