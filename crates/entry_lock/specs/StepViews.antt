-- What a pass knows after a step: its view, and the operation that it is at.
use Rattle.std.specs.Prelude.{ℕ, zero, suc, ◌+◌, ◌*◌, max, Bool, true, false, List, [], ◌∷◌, Some, None}
use Rattle.entry_model.specs.declared.line.Line.{Line}
use Rattle.entry_model.specs.declared.receipt.Receipt.{Receipt}
use Rattle.entry_model.specs.Fronts.{fronts_after}
use Rattle.lock_core.specs.declared.doing.Doing.{Doing}
use Rattle.lock_core.specs.declared.phase.Phase.{Phase}
use Rattle.lock_core.specs.declared.phase.Phase.TheVariants.{Idle}
use Rattle.lock_core.specs.declared.step.Step.{Step}
use Rattle.lock_core.specs.Steps.{actor_after}
use Rattle.entry_lock.specs.declared.rule.View.{View}

-- The pass took one more step of the machine.
abbrev pub view_with_step : View → Step → View
view_with_step v step = record v { taken = step ∷ v.taken }

-- The pass is in this phase, and made no receipt. Marks of stored words are of one operation.
abbrev pub view_in_phase : View → Phase → View
view_in_phase v p = record v {
  actor = actor_after v.actor p None;
  first_stored = false;
  second_stored = false;
}

-- The pass made this receipt and is idle. The pair of the receipt's state after is the new front of
-- its entry.
abbrev pub view_with_receipt : View → Receipt → View
view_with_receipt v r = record v {
  actor = actor_after v.actor Idle (Some r);
  fronts = fronts_after v.fronts r;
  first_stored = false;
  second_stored = false;
}

-- The pass stored the first or the second data word.
abbrev pub view_with_store : Bool → View → View
view_with_store false v = record v { first_stored = true }
view_with_store true v = record v { second_stored = true }

-- The pass took one more lock step, look or mark: its entry, the word noted and the word found.
abbrev pub view_with_count : View → ℕ → ℕ → ℕ → View
view_with_count v e looked found =
    record v { count = v.count + 1; last = e; looked = looked; found = found }

-- The operation with the first or the second data word loaded.
abbrev pub doing_with_word : Bool → ℕ → Doing → Doing
doing_with_word false n d = record d { first = Some n }
doing_with_word true n d = record d { second = Some n }

-- The fronts, of which that of the entry is at least n.
abbrev pub raised_fronts : List ℕ → ℕ → ℕ → List ℕ
raised_fronts [] e n = []
raised_fronts (x ∷ xs) zero n = max x n ∷ xs
raised_fronts (x ∷ xs) (suc e) n = x ∷ raised_fronts xs e n

-- The line is gone for the pass: the front of its entry is at least the stamp after the line's.
abbrev pub view_past : View → Line → View
view_past v cached =
    record v { fronts = raised_fronts v.fronts cached.entry ((cached.stamp + 1) * 4) }
