use Rattle.std.specs.Prelude.{slice_index_or}
use Rattle.std.proofs.Common.{◌≡◌, ℕ, ◌<◌, ◌∷◌, ◌++◌, drop}
use Rattle.entry_model.specs.State.{State}
use Rattle.lock_core.specs.Laws.{IsFair}
use Rattle.entry_lock.specs.Layout.{entry_words}
use Rattle.entry_lock.proofs.opening.words_of.Given as goal

abbrev pub invariant-loop-state : goal.invariant-loop-state
invariant-loop-state l =
    record {
      words : l.words.items ++ entry_words (drop l.state-index l.states) ≡ 0 ∷ entry_words l.states;
      fair : (k : ℕ) (d : State) → k < l.state-index → IsFair (slice_index_or l.states k d);
    }
