-- The laws of the running table: its words and views always show the machine after some steps. The
-- kit's table keeps this rule between any two atomic operations, and each pass knows its own of the
-- steps. The laws say how the list of steps begins, and that each step that the machine allows can
-- be taken by one operation; `SingleSteps` says that each operation is one step.
use Rattle.std.specs.Prelude.{◌≡◌, ℕ, ◌<◌, Bool, true, List, [], ◌∷◌, ◌++◌, length, slice_index, slice_set, All}
use mathlib.Core.Option.{some}
use Rattle.entry_model.specs.State.{State}
use Rattle.entry_model.specs.declared.line.Line.{Line}
use Rattle.entry_model.specs.declared.receipt.Receipt.{Receipt}
use Rattle.entry_model.specs.Receipt.{after_of}
use Rattle.entry_model.specs.History.{IsLegal}
use Rattle.entry_model.specs.Fronts.{IsGone}
use Rattle.lock_core.specs.declared.control.Control.{Control}
use Rattle.lock_core.specs.declared.phase.Phase.TheVariants.{Idle}
use Rattle.lock_core.specs.declared.step.Step.{Step}
use Rattle.lock_core.specs.declared.step.Step.TheVariants.{Split, Join}
use Rattle.lock_core.specs.Steps.{is_allowed}
use Rattle.lock_core.specs.Laws.{IsFair}
use Rattle.entry_lock.specs.declared.rule.View.{View}
use Rattle.entry_lock.specs.declared.rule.Opening.{Opening}
use Rattle.entry_lock.specs.Layout.{Means, control_place, entry_words}
use Rattle.entry_lock.specs.Views.{states_of, first_view, parent_view, child_view, joined_view, spent_view}
use Rattle.entry_lock.specs.Rule.{ShowsSteps, machine_after}
use Rattle.entry_lock.specs.StepViews.{view_with_count, view_past}
use Rattle.entry_lock.specs.SeenLines.{IsSeen}
use Rattle.entry_lock.specs.LineSteps.{is_gone_from}
use Rattle.entry_lock.specs.Operations.{operation_of, words_after}
use lib.ListN.{get_elem?}

-- ---- the machine that the table shows
-- Words and views show the machine after these steps, and the pass j, with the view v, acts as its
-- actor n.
pub record ShowsPass
    (key : Opening)
    (steps : List (ℕ × Step))
    (words : List ℕ)
    (views : List View)
    (j n : ℕ)
    (v : View)
    : Type 0 where
  pub shows : ShowsSteps key steps words views
  pub pass : get_elem? views j ≡ some v
  pub others : List ℕ
  pub numbers : v.numbers ≡ n ∷ others

-- A step is on an entry, and no split or join.
pub record IsOnEntry (step : Step) : Type 0 where
  pub no_split : (to : ℕ) → step ≡ Split to → ⊥
  pub no_join : (from : ℕ) → step ≡ Join from → ⊥

-- A table opens on the machine that has taken no step.
abbrev pub TablesOpenOnTheirStates : Type 0
TablesOpenOnTheirStates = (key : Opening) → All IsFair (states_of key) → 0 < key.passes
    → ShowsSteps key [] (0 ∷ entry_words (states_of key)) (first_view key ∷ [])

-- Where the machine allows an actor a step on an entry, the pass that acts as it takes the step by
-- one atomic operation of that kind: words and views then show the machine after it, the pass knows
-- that it took this one step more, and no other pass's view has changed.
abbrev pub EachOperationIsAStep : Type 0
EachOperationIsAStep =
    (key : Opening) (steps : List (ℕ × Step)) (words : List ℕ) (views : List View) (j n : ℕ)
    (v : View) (step : Step) → ShowsPass key steps words views j n v → IsOnEntry step
    → is_allowed (machine_after key steps) n step ≡ true
    → (w : View) × (w.numbers ≡ v.numbers) × (w.taken ≡ step ∷ v.taken)
    × ShowsSteps key ((n, step) ∷ steps)
    (words_after words (operation_of v.actor.phase step)) (slice_set views j w)

-- The one exception: a first look by a cached translation that finds the entry gone from the line's
-- stamp is no step. No word and no actor changes; the pass's front rises past the line.
abbrev pub LooksThatFindGoneAreNoSteps : Type 0
LooksThatFindGoneAreNoSteps =
    (key : Opening) (steps : List (ℕ × Step)) (words : List ℕ) (views : List View) (j n : ℕ)
    (v : View) (cached : Line) (noted : Control) → ShowsPass key steps words views j n v
    → v.actor.phase ≡ Idle → cached.entry < length (states_of key)
    → IsSeen v.actor.lines (states_of key) cached
    → Means (slice_index words (control_place cached.entry)) noted
    → is_gone_from noted cached.stamp ≡ true
    → (let found : ℕ = slice_index words (control_place cached.entry) in
    let w : View = view_with_count (view_past v cached) cached.entry found found in
    ShowsSteps key steps words (slice_set views j w) × IsGone w.fronts cached)

-- A split of a pass is the machine's split: the new pass acts as an actor that wasn't live.
abbrev pub SplitsAreSteps : Type 0
SplitsAreSteps =
    (key : Opening) (steps : List (ℕ × Step)) (words : List ℕ) (views : List View) (j n m : ℕ)
    (v : View) (ms : List ℕ) → ShowsSteps key steps words views
    → get_elem? views j ≡ some v → v.numbers ≡ n ∷ m ∷ ms → v.actor.phase ≡ Idle
    → v.actor.live ≡ true
    → ShowsSteps key ((n, Split m) ∷ steps) words
    (slice_set views j (parent_view v) ++ child_view v ∷ [])

-- A join of two passes is the machine's join: the other actor isn't live afterwards.
abbrev pub JoinsAreSteps : Type 0
JoinsAreSteps =
    (key : Opening) (steps : List (ℕ × Step)) (words : List ℕ) (views : List View) (j k n m : ℕ)
    (v w : View) → ShowsPass key steps words views j n v → v.actor.phase ≡ Idle
    → v.actor.live ≡ true → ShowsPass key steps words views k m w → w.actor.phase ≡ Idle
    → w.actor.live ≡ true → ¬ (k ≡ j)
    → ShowsSteps key ((n, Join m) ∷ steps) words
    (slice_set (slice_set views j (joined_view v w)) k spent_view)

-- ---- histories
-- No receipt of the list clears the bit.
abbrev pub AllKeepBit : (State → Bool) → List Receipt → Type 0
AllKeepBit bit [] = Unit {0}
AllKeepBit bit (r ∷ rs) =
    (bit r.before ≡ true → bit (after_of r) ≡ true) × AllKeepBit bit rs

-- In a legal history, a bit that is set after a receipt is set in each later state before, up to
-- and with that of the first receipt that clears it.
abbrev pub RaisedBitsStand : Type 0
RaisedBitsStand =
    (bit : State → Bool) (a b : State) (xs ys zs : List Receipt) (r s : Receipt)
    → IsLegal a (xs ++ r ∷ ys ++ s ∷ zs) b → bit (after_of r) ≡ true → AllKeepBit bit ys
    → bit s.before ≡ true
