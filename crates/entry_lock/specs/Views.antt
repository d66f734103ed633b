-- What passes know: sums over their views, and the views at the opening, at a split and at a join.
use Rattle.std.specs.Prelude.{ℕ, zero, suc, ◌+◌, ◌==◌, if◌then◌else◌, false, List, [], ◌∷◌, ◌++◌}
use Rattle.entry_model.specs.State.{State}
use Rattle.entry_model.specs.Fronts.{opening_fronts, larger}
use Rattle.lock_core.specs.declared.step.Step.TheVariants.{Split, Join}
use Rattle.lock_core.specs.Machine.{Actor, nobody, newcomer}
use Rattle.lock_core.specs.Steps.{joined_actor}
use Rattle.entry_lock.specs.declared.rule.View.{View}
use Rattle.entry_lock.specs.declared.rule.Opening.{Opening}

-- ---- sums
-- How often a number is in a list.
abbrev pub occurrences : ℕ → List ℕ → ℕ
occurrences n [] = 0
occurrences n (x ∷ xs) = if x == n then 1 + occurrences n xs else occurrences n xs

-- The sum of f over views.
abbrev pub total : (View → ℕ) → List View → ℕ
total f [] = 0
total f (v ∷ vs) = f v + total f vs

-- ---- the opening
-- The opening state of each entry.
abbrev pub states_of : Opening → List State
states_of key = key.states.value.items

-- The n numbers from one on.
abbrev pub numbers_from : ℕ → ℕ → List ℕ
numbers_from at zero = []
numbers_from at (suc n) = at ∷ numbers_from (suc at) n

-- The view of a pass that has taken no step.
abbrev pub fresh_view : List ℕ → Actor → List ℕ → ℕ → List State → View
fresh_view numbers actor fronts passes opening = record {
  numbers = numbers;
  actor = actor;
  taken = [];
  fronts = fronts;
  first_stored = false;
  second_stored = false;
  passes = passes;
  opening = opening;
  count = 0;
  last = 0;
  looked = 0;
  found = 0;
}

-- The first pass has all actor numbers, has made nothing, and its fronts are those of the opening
-- states.
abbrev pub first_view : Opening → View
first_view key =
    fresh_view (numbers_from 0 key.passes) (newcomer []) (opening_fronts (states_of key))
    key.passes (states_of key)

-- ---- splits
-- The actor that a pass with these numbers acts as.
abbrev pub first_number : List ℕ → ℕ
first_number [] = 0
first_number (n ∷ ns) = n

-- The actor that a split of it makes live.
abbrev pub second_number : List ℕ → ℕ
second_number [] = 0
second_number (n ∷ ns) = first_number ns

-- A split gives the second actor number away, since a pass acts as the first of its own.
abbrev pub all_but_second : List ℕ → List ℕ
all_but_second [] = []
all_but_second (n ∷ []) = n ∷ []
all_but_second (n ∷ m ∷ ms) = n ∷ ms

-- The actor number that a split gives away, the second of its own.
abbrev pub second_alone : List ℕ → List ℕ
second_alone [] = []
second_alone (n ∷ []) = []
second_alone (n ∷ m ∷ ms) = m ∷ []

-- The view of the pass that is split, afterwards.
abbrev pub parent_view : View → View
parent_view v = record v {
  numbers = all_but_second v.numbers;
  taken = Split (second_number v.numbers) ∷ v.taken;
}

-- The view of the new pass: it has seen what the other has, and has its fronts. It has
-- made no receipt and taken no step.
abbrev pub child_view : View → View
child_view v =
    fresh_view (second_alone v.numbers) (newcomer v.actor.lines) v.fronts v.passes v.opening

-- ---- joins
-- The view of the pass that takes in another: numbers, receipts and lines of both, and on each
-- entry the larger front.
abbrev pub joined_view : View → View → View
joined_view v w = record v {
  numbers = v.numbers ++ w.numbers;
  actor = joined_actor v.actor w.actor;
  taken = Join (first_number w.numbers) ∷ v.taken;
  fronts = larger v.fronts w.fronts;
}

-- The view of the pass that was taken in, which acts no more.
abbrev pub spent_view : View
spent_view = fresh_view [] nobody [] 0 []
