-- The atomic operation on the words that stands for a step of the machine.
use Rattle.std.specs.Prelude.{ℕ, ◌-◌, ◌^◌, ◌==◌, if◌then◌else◌, bit_and, bit_or, List, slice_index, slice_set}
use Rattle.lock_core.specs.declared.doing.Doing.{Doing}
use Rattle.lock_core.specs.declared.phase.Phase.{Phase}
use Rattle.lock_core.specs.declared.phase.Phase.TheVariants.{Idle, Held, HeldShut, Looked}
use Rattle.lock_core.specs.declared.step.Step.{Step}
use Rattle.lock_core.specs.declared.step.Step.TheVariants.{Lock, Look, LoadData, Shut, StoreData, Settle, Release, Mark}
use Rattle.lock_core.specs.Words.{next_state, settled_word}
use Rattle.entry_lock.specs.Layout.{word_of, control_place, data_place, doubleword}

-- One atomic operation: the place of its word, and what the word found there becomes.
pub record Operation : Type 0 where
  pub place : ℕ
  pub becomes : ℕ → ℕ

-- An operation on this place.
abbrev pub at_place : ℕ → (ℕ → ℕ) → Operation
at_place place becomes = record { place = place; becomes = becomes }

-- The noted control word with the R and C of the state after.
abbrev pub marked_word : Doing → ℕ
marked_word d =
    word_of (record d.noted {
      referenced = (next_state d).referenced;
      changed = (next_state d).changed;
    })

-- For a step on an entry of an actor in a phase: lock and shut set a bit, release clears one, looks
-- and loads read, stores and settle write, and a mark compares the whole word and exchanges it.
abbrev pub operation_of : Phase → Step → Operation
operation_of Idle (Lock e op) = at_place (control_place e) (λ k. bit_or k (2 ^ 63))
operation_of Idle (Look e op) = at_place (control_place e) (λ k. k)
operation_of (Held d) (LoadData second) = at_place (data_place d.entry second) (λ k. k)
operation_of (Held d) Shut = at_place (control_place d.entry) (λ k. bit_or k (2 ^ 62))
operation_of (Held d) Release = at_place (control_place d.entry) (λ k. bit_and k (2 ^ 63 - 1))
operation_of (HeldShut d) (StoreData second) =
    at_place (data_place d.entry second) (λ k. doubleword second (next_state d))
operation_of (HeldShut d) Settle =
    at_place (control_place d.entry) (λ k. word_of (settled_word (next_state d)))
operation_of (Looked d) (LoadData second) = at_place (data_place d.entry second) (λ k. k)
operation_of (Looked d) (Look e op) = at_place (control_place d.entry) (λ k. k)
operation_of (Looked d) Mark =
    at_place (control_place d.entry) (λ k. if k == word_of d.noted then marked_word d else k)
operation_of phase step = at_place 0 (λ k. k)

-- The words after an operation.
abbrev pub words_after : List ℕ → Operation → List ℕ
words_after words o = slice_set words o.place (o.becomes (slice_index words o.place))
