-- Worked values of the definitions, which the checker computes.
use Rattle.std.specs.Prelude.{reverse}
use Rattle.std.proofs.Common.{◌≡◌, ℕ, List, [], ◌∷◌, Bool, true, false, Some, map, refl}
use Rattle.entry_model.specs.State.{State, empty_state}
use Rattle.entry_model.specs.Reply.{has_base, no_test}
use Rattle.entry_model.specs.declared.operation.Op.{Op}
use Rattle.entry_model.specs.declared.operation.Op.TheVariants.{Enter, Remove, Read, Access}
use Rattle.entry_model.specs.declared.operation.Answer.{Answer}
use Rattle.entry_model.specs.declared.operation.Answer.TheVariants.{Entered, Removed, Words, At}
use Rattle.entry_model.specs.declared.receipt.Receipt.{Receipt}
use Rattle.entry_model.specs.History.{bits, state_eq}
use Rattle.storage_prot.specs.Protection.{permission, rows}
use Rattle.storage_prot.specs.declared.want.Want.{Want}
use Rattle.storage_prot.specs.declared.want.Want.TheVariants.{Load, Store}
use Rattle.lock_core.specs.declared.entry.Entry.{Entry}
use Rattle.lock_core.specs.declared.error.CoreError.TheVariants.{Actor as ActorFault, Entry as EntryFault, Phase as PhaseFault}
use Rattle.lock_core.specs.declared.step.Step.{Step}
use Rattle.lock_core.specs.declared.step.Step.TheVariants.{Lock, Look, LoadData, Shut, StoreData, Settle, Release, Mark, Split, Join}
use Rattle.lock_core.specs.Machine.{Machine, opening_machine, actor_at, words_seen_in, words_seen}
use Rattle.lock_core.specs.Steps.{refusal, refusals, is_allowed, may_act, names_entry, fits_phase, fits, step_result, second_look, after_step, after_allowed_step}
use Rattle.lock_core.specs.Words.{noted_state, next_state, changes, receipt, is_noted, is_still, same_access, is_stored}
use Rattle.lock_core.specs.Runs.{run}
use Rattle.authority_mask.specs.Authority.{no_masks, row_says, key_rows}

-- One entry: its page at 0x3000, M set, protection bits 2, at stamp 1.
entry : Bool → Bool → State
entry referenced changed =
    record {
      valid = true;
      dword0 = 0x1001;
      dword1 = 0x3012;
      referenced = referenced;
      changed = changed;
      stamp = 1;
    }

-- An access to this page, without masks.
unfoldable pub access : Want → Op
access want = Access 0x1001 12 false false want no_masks

-- A removal that removes whatever is there.
unfoldable pub removal : Op
removal = Remove no_test

-- The machine of this entry with two actors, after steps in their order.
after : List (ℕ × Step) → Machine
after steps = run (opening_machine (entry false false ∷ []) 2) (reverse steps)

-- What a receipt says, in short.
abbrev in_short : Receipt → ℕ × ℕ × Answer
in_short r = (r.before.stamp, bits r.before, r.answer)

-- The receipts of both actors, and the state that the entry counts with.
told : Machine → List (ℕ × ℕ × Answer) × List (ℕ × ℕ × Answer) × List State
told m = (
  map in_short (actor_at m 0).receipts,
  map in_short (actor_at m 1).receipts,
  map (λ (x : Entry). x.published) m.entries,
)

-- ---- a store beside a removal
-- A store that is marked between the lock and the shut is kept: the removal answers its bits.
store_is_kept :
    told
    (after
    ((0, Split 1)
    ∷ (0, Lock 0 removal)
    ∷ (1, Look 0 (access Store))
    ∷ (1, LoadData false)
    ∷ (1, LoadData true)
    ∷ (1, Mark)
    ∷ (0, LoadData false)
    ∷ (0, LoadData true)
    ∷ (0, Shut)
    ∷ (0, Settle)
    ∷ []))
    ≡ ((1, 2, Removed) ∷ [], (1, 0, At) ∷ [], empty_state 2 ∷ [])
unfolding after told run opening_machine after_step after_allowed_step step_result second_look
    is_allowed refusal refusals may_act names_entry fits_phase fits changes noted_state next_state
    receipt is_noted is_still same_access is_stored words_seen words_seen_in state_eq entry access
    removal has_base permission rows row_says key_rows
store_is_kept = refl

-- With the look before the lock the mark finds another word, and makes no receipt.
store_finds_the_lock :
    told
    (after
    ((0, Split 1)
    ∷ (1, Look 0 (access Store))
    ∷ (0, Lock 0 removal)
    ∷ (1, LoadData false)
    ∷ (1, LoadData true)
    ∷ (1, Mark)
    ∷ (0, LoadData false)
    ∷ (0, LoadData true)
    ∷ (0, Shut)
    ∷ (0, Settle)
    ∷ []))
    ≡ ((1, 0, Removed) ∷ [], [], empty_state 2 ∷ [])
unfolding after told run opening_machine after_step after_allowed_step step_result second_look
    is_allowed refusal refusals may_act names_entry fits_phase fits changes noted_state next_state
    receipt is_noted is_still same_access is_stored words_seen words_seen_in state_eq entry access
    removal has_base permission rows row_says key_rows
store_finds_the_lock = refl

-- So does one whose mark comes after the shut; and while it is shut the entry counts with its old
-- state.
store_finds_it_shut :
    told
    (after
    ((0, Split 1)
    ∷ (0, Lock 0 removal)
    ∷ (1, Look 0 (access Store))
    ∷ (1, LoadData false)
    ∷ (1, LoadData true)
    ∷ (0, LoadData false)
    ∷ (0, LoadData true)
    ∷ (0, Shut)
    ∷ (1, Mark)
    ∷ []))
    ≡ ([], [], entry false false ∷ [])
unfolding after told run opening_machine after_step after_allowed_step step_result second_look
    is_allowed refusal refusals may_act names_entry fits_phase fits changes noted_state next_state
    receipt is_noted is_still same_access is_stored words_seen words_seen_in state_eq entry access
    removal has_base permission rows row_says key_rows
store_finds_it_shut = refl

-- ---- further steps
-- A removal and a new entry with the same words between look and mark: the stamp is another one.
another_entry_at_the_mark :
    told
    (after
    ((0, Split 1)
    ∷ (1, Look 0 (access Store))
    ∷ (1, LoadData false)
    ∷ (1, LoadData true)
    ∷ (0, Lock 0 removal)
    ∷ (0, LoadData false)
    ∷ (0, LoadData true)
    ∷ (0, Shut)
    ∷ (0, Settle)
    ∷ (0, Lock 0 (Enter 0x1001 0x3012))
    ∷ (0, Shut)
    ∷ (0, StoreData false)
    ∷ (0, StoreData true)
    ∷ (0, Settle)
    ∷ (1, Mark)
    ∷ []))
    ≡ ((1, 0, Removed) ∷ (2, 0, Entered) ∷ [], [], record (entry false false) { stamp = 3 } ∷ [])
unfolding after told run opening_machine after_step after_allowed_step step_result second_look
    is_allowed refusal refusals may_act names_entry fits_phase fits changes noted_state next_state
    receipt is_noted is_still same_access is_stored words_seen words_seen_in state_eq entry access
    removal has_base permission rows row_says key_rows
another_entry_at_the_mark = refl

-- An actor that has seen the entry at its stamp needn't load: by the opening state the first
-- access, and a second look also where another bit came between.
seen_words_serve :
    told
    (after
    ((0, Split 1)
    ∷ (0, Look 0 (access Load))
    ∷ (0, Mark)
    ∷ (1, Look 0 (access Load))
    ∷ (0, Look 0 (access Store))
    ∷ (0, Mark)
    ∷ (1, Look 0 (access Load))
    ∷ []))
    ≡ ((1, 0, At) ∷ (1, 1, At) ∷ [], (1, 2, At) ∷ [], entry true true ∷ [])
unfolding after told run opening_machine after_step after_allowed_step step_result second_look
    is_allowed refusal refusals may_act names_entry fits_phase fits changes noted_state next_state
    receipt is_noted is_still same_access is_stored words_seen words_seen_in state_eq entry access
    removal has_base permission rows row_says key_rows
seen_words_serve = refl

-- Where the words were loaded, the second look wants the very word.
loaded_words_do_not :
    told
    (after
    ((0, Split 1)
    ∷ (0, Look 0 (access Load))
    ∷ (0, Mark)
    ∷ (1, Look 0 (access Load))
    ∷ (1, LoadData false)
    ∷ (1, LoadData true)
    ∷ (0, Look 0 (access Store))
    ∷ (0, Mark)
    ∷ (1, Look 0 (access Load))
    ∷ []))
    ≡ ((1, 0, At) ∷ (1, 1, At) ∷ [], [], entry true true ∷ [])
unfolding after told run opening_machine after_step after_allowed_step step_result second_look
    is_allowed refusal refusals may_act names_entry fits_phase fits changes noted_state next_state
    receipt is_noted is_still same_access is_stored words_seen words_seen_in state_eq entry access
    removal has_base permission rows row_says key_rows
loaded_words_do_not = refl

-- A read that changes nothing has its receipt too, and a join brings it.
a_join_brings_receipts :
    told
    (after
    ((0, Split 1)
    ∷ (1, Lock 0 Read)
    ∷ (1, LoadData false)
    ∷ (1, LoadData true)
    ∷ (1, Release)
    ∷ (0, Look 0 (access Load))
    ∷ (0, Mark)
    ∷ (0, Join 1)
    ∷ []))
    ≡ ((1, 0, At) ∷ (1, 0, Words) ∷ [], [], entry true false ∷ [])
unfolding after told run opening_machine after_step after_allowed_step step_result second_look
    is_allowed refusal refusals may_act names_entry fits_phase fits changes noted_state next_state
    receipt is_noted is_still same_access is_stored words_seen words_seen_in state_eq entry access
    removal has_base permission rows row_says key_rows
a_join_brings_receipts = refl

-- A lock that is taken leaves the second actor idle.
one_holder :
    told
    (after
    ((0, Split 1)
    ∷ (0, Lock 0 Read)
    ∷ (1, Lock 0 removal)
    ∷ (1, LoadData false)
    ∷ (1, LoadData true)
    ∷ (1, Shut)
    ∷ (0, LoadData false)
    ∷ (0, LoadData true)
    ∷ (0, Release)
    ∷ []))
    ≡ ((1, 0, Words) ∷ [], [], entry false false ∷ [])
unfolding after told run opening_machine after_step after_allowed_step step_result second_look
    is_allowed refusal refusals may_act names_entry fits_phase fits changes noted_state next_state
    receipt is_noted is_still same_access is_stored words_seen words_seen_in state_eq entry access
    removal has_base permission rows row_says key_rows
one_holder = refl

-- ---- refusals, in their order
-- An actor that is not live, on an entry that is not there.
nobody_acts : refusal (after ([])) 1 (Look 7 (access Load)) ≡ Some ActorFault
unfolding after told run opening_machine after_step after_allowed_step step_result second_look
    is_allowed refusal refusals may_act names_entry fits_phase fits changes noted_state next_state
    receipt is_noted is_still same_access is_stored words_seen words_seen_in state_eq entry access
    removal has_base permission rows row_says key_rows
nobody_acts = refl

-- An entry that is not there, in a phase that does not allow the step.
no_such_entry : refusal (after ((0, Lock 0 removal) ∷ [])) 0 (Lock 1 removal) ≡ Some EntryFault
unfolding after told run opening_machine after_step after_allowed_step step_result second_look
    is_allowed refusal refusals may_act names_entry fits_phase fits changes noted_state next_state
    receipt is_noted is_still same_access is_stored words_seen words_seen_in state_eq entry access
    removal has_base permission rows row_says key_rows
no_such_entry = refl

-- A mark without a look.
not_when_idle : refusal (after ([])) 0 (Mark) ≡ Some PhaseFault
unfolding after told run opening_machine after_step after_allowed_step step_result second_look
    is_allowed refusal refusals may_act names_entry fits_phase fits changes noted_state next_state
    receipt is_noted is_still same_access is_stored words_seen words_seen_in state_eq entry access
    removal has_base permission rows row_says key_rows
not_when_idle = refl

-- A shut before the data words are loaded.
not_without_words :
    refusal (after ((0, Lock 0 removal) ∷ (0, LoadData false) ∷ [])) 0 (Shut) ≡ Some PhaseFault
unfolding after told run opening_machine after_step after_allowed_step step_result second_look
    is_allowed refusal refusals may_act names_entry fits_phase fits changes noted_state next_state
    receipt is_noted is_still same_access is_stored words_seen words_seen_in state_eq entry access
    removal has_base permission rows row_says key_rows
not_without_words = refl

-- A settle before both data words are stored.
settle_waits :
    refusal
    (after
    ((0, Lock 0 removal)
    ∷ (0, LoadData false)
    ∷ (0, LoadData true)
    ∷ (0, Shut)
    ∷ (0, Settle)
    ∷ (0, Lock 0 (Enter 0x2001 0x5012))
    ∷ (0, Shut)
    ∷ (0, StoreData false)
    ∷ [])) 0 (Settle)
    ≡ Some PhaseFault
unfolding after told run opening_machine after_step after_allowed_step step_result second_look
    is_allowed refusal refusals may_act names_entry fits_phase fits changes noted_state next_state
    receipt is_noted is_still same_access is_stored words_seen words_seen_in state_eq entry access
    removal has_base permission rows row_says key_rows
settle_waits = refl

-- A join of an actor that is not idle.
not_joined_at_work :
    refusal (after ((0, Split 1) ∷ (1, Lock 0 removal) ∷ [])) 0 (Join 1) ≡ Some PhaseFault
unfolding after told run opening_machine after_step after_allowed_step step_result second_look
    is_allowed refusal refusals may_act names_entry fits_phase fits changes noted_state next_state
    receipt is_noted is_still same_access is_stored words_seen words_seen_in state_eq entry access
    removal has_base permission rows row_says key_rows
not_joined_at_work = refl

-- A join of the actor itself.
not_joined_with_itself : refusal (after ([])) 0 (Join 0) ≡ Some ActorFault
unfolding after told run opening_machine after_step after_allowed_step step_result second_look
    is_allowed refusal refusals may_act names_entry fits_phase fits changes noted_state next_state
    receipt is_noted is_still same_access is_stored words_seen words_seen_in state_eq entry access
    removal has_base permission rows row_says key_rows
not_joined_with_itself = refl

-- A split to an actor that is live.
not_split_to_the_living : refusal (after ((0, Split 1) ∷ [])) 0 (Split 1) ≡ Some ActorFault
unfolding after told run opening_machine after_step after_allowed_step step_result second_look
    is_allowed refusal refusals may_act names_entry fits_phase fits changes noted_state next_state
    receipt is_noted is_still same_access is_stored words_seen words_seen_in state_eq entry access
    removal has_base permission rows row_says key_rows
not_split_to_the_living = refl
