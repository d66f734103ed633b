-- Worked values of fronts, which the checker computes.
use Rattle.std.specs.Prelude.{reverse}
use Rattle.std.proofs.Common.{◌≡◌, ℕ, List, [], ◌∷◌, true, false, refl}
use Rattle.entry_model.specs.State.{State, empty_state}
use Rattle.entry_model.specs.Reply.{has_base}
use Rattle.entry_model.specs.History.{pair_of, state_eq}
use Rattle.storage_prot.specs.Protection.{permission, rows}
use Rattle.storage_prot.specs.declared.want.Want.TheVariants.{Store}
use Rattle.lock_core.specs.declared.step.Step.{Step}
use Rattle.lock_core.specs.declared.step.Step.TheVariants.{Lock, Look, LoadData, Shut, Settle, Mark, Split, Join}
use Rattle.lock_core.specs.Machine.{opening_machine, words_seen_in, words_seen}
use Rattle.lock_core.specs.Steps.{refusal, refusals, is_allowed, may_act, names_entry, fits_phase, fits, step_result, second_look, made_by, after_step, after_allowed_step}
use Rattle.lock_core.specs.Words.{noted_state, next_state, changes, receipt, is_noted, is_still, same_access, is_stored}
use Rattle.lock_core.specs.Runs.{run}
use Rattle.lock_core.specs.ActorFronts.{fronts_after_step, run_fronts}
use Rattle.authority_mask.specs.Authority.{row_says, key_rows}
use Rattle.lock_core.proofs.Rows.{access, removal}

entry : ℕ → State
entry stamp =
    record {
      valid = true;
      dword0 = 0x1001;
      dword1 = 0x3012;
      referenced = false;
      changed = false;
      stamp = stamp;
    }

-- The fronts of three actors on two entries, valid at stamp 1 and empty at stamp 7, after steps in
-- their order. A pair counts four for a stamp and one for a bit.
fronts : List (ℕ × Step) → List (List ℕ)
fronts steps = run_fronts (opening_machine (entry 1 ∷ empty_state 7 ∷ []) 3) (reverse steps)

at_first : fronts [] ≡ (4 ∷ 28 ∷ []) ∷ (4 ∷ 28 ∷ []) ∷ (4 ∷ 28 ∷ []) ∷ []
unfolding fronts opening_machine run_fronts pair_of entry
at_first = refl

-- A store raises its actor's front on its entry by two bits, and a split hands it on.
after_a_store :
    fronts ((0, Look 0 (access Store)) ∷ (0, Mark) ∷ (0, Split 1) ∷ [])
    ≡ (6 ∷ 28 ∷ []) ∷ (6 ∷ 28 ∷ []) ∷ (4 ∷ 28 ∷ []) ∷ []
unfolding fronts run opening_machine after_step after_allowed_step step_result second_look
    is_allowed refusal refusals may_act names_entry fits_phase fits changes noted_state next_state
    receipt is_noted is_still same_access is_stored words_seen words_seen_in state_eq entry access
    removal has_base permission rows row_says key_rows made_by fronts_after_step run_fronts pair_of
after_a_store = refl

-- A removal raises the other's front by a stamp. The join of an actor that has seen less leaves the
-- larger fronts.
after_a_join :
    fronts
    ((0, Split 1)
    ∷ (0, Look 0 (access Store))
    ∷ (0, Mark)
    ∷ (0, Lock 0 removal)
    ∷ (0, LoadData false)
    ∷ (0, LoadData true)
    ∷ (0, Shut)
    ∷ (0, Settle)
    ∷ (0, Join 1)
    ∷ [])
    ≡ (8 ∷ 28 ∷ []) ∷ (4 ∷ 28 ∷ []) ∷ (4 ∷ 28 ∷ []) ∷ []
unfolding fronts run opening_machine after_step after_allowed_step step_result second_look
    is_allowed refusal refusals may_act names_entry fits_phase fits changes noted_state next_state
    receipt is_noted is_still same_access is_stored words_seen words_seen_in state_eq entry access
    removal has_base permission rows row_says key_rows made_by fronts_after_step run_fronts pair_of
after_a_join = refl

-- The join of an actor that has seen more leaves the larger fronts.
after_the_other_join :
    fronts
    ((0, Split 1)
    ∷ (0, Look 0 (access Store))
    ∷ (0, Mark)
    ∷ (1, Lock 0 removal)
    ∷ (1, LoadData false)
    ∷ (1, LoadData true)
    ∷ (1, Shut)
    ∷ (1, Settle)
    ∷ (0, Join 1)
    ∷ [])
    ≡ (8 ∷ 28 ∷ []) ∷ (8 ∷ 28 ∷ []) ∷ (4 ∷ 28 ∷ []) ∷ []
unfolding fronts run opening_machine after_step after_allowed_step step_result second_look
    is_allowed refusal refusals may_act names_entry fits_phase fits changes noted_state next_state
    receipt is_noted is_still same_access is_stored words_seen words_seen_in state_eq entry access
    removal has_base permission rows row_says key_rows made_by fronts_after_step run_fronts pair_of
after_the_other_join = refl
