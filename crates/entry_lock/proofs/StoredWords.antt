-- What a store of one word leaves of a view.
use Rattle.std.proofs.Common.{◌≡◌, ◌≢◌, ℕ, Bool, true, false, refl, Some}
use Rattle.entry_model.specs.State.{State}
use Rattle.lock_core.specs.declared.doing.Doing.{Doing}
use Rattle.lock_core.specs.declared.entry.Entry.{Entry}
use Rattle.lock_core.specs.Words.{next_state}
use Rattle.lock_core.specs.Steps.{with_loaded, with_stored}
use Rattle.entry_lock.specs.declared.rule.View.{View}
use Rattle.entry_lock.specs.Layout.{doubleword}
use Rattle.entry_lock.specs.Rule.{AreStored}
use Rattle.entry_lock.specs.StepViews.{view_with_store, doing_with_word}
use Rattle.entry_lock.proofs.Places.{data_of}

-- What is loaded is the word found.
pub loaded_is :
    (second : Bool) (x : Entry) (d : Doing) (n : ℕ)
    → n ≡ data_of second x
    → doing_with_word second n d ≡ with_loaded second x d
loaded_is false x d n h = λ i. record d { first = Some (h i) }
loaded_is true x d n h = λ i. record d { second = Some (h i) }

pub stored_data :
    (second : Bool) (s : State) (x : Entry)
    → doubleword second s ≡ data_of second (with_stored second s x)
stored_data true s x = refl
stored_data false s x = refl

pub stored_other :
    (second : Bool) (s : State) (x : Entry) (other : Bool)
    → other ≢ second
    → data_of other (with_stored second s x) ≡ data_of other x
stored_other true s x true h = absurd (h refl)
stored_other true s x false h = refl
stored_other false s x true h = refl
stored_other false s x false h = absurd (h refl)

pub stored_marks :
    (second : Bool) (v : View) (d : Doing) (x : Entry)
    → AreStored v d x
    → AreStored (view_with_store second v) d (with_stored second (next_state d) x)
stored_marks false v d x a = record { first = λ t. refl; second = a.second }
stored_marks true v d x a = record { first = a.first; second = λ t. refl }

pub stored_actor : (second : Bool) (v : View) → (view_with_store second v).actor ≡ v.actor
stored_actor false v = refl
stored_actor true v = refl

pub stored_numbers : (second : Bool) (v : View) → (view_with_store second v).numbers ≡ v.numbers
stored_numbers false v = refl
stored_numbers true v = refl

pub stored_taken : (second : Bool) (v : View) → (view_with_store second v).taken ≡ v.taken
stored_taken false v = refl
stored_taken true v = refl

pub stored_passes : (second : Bool) (v : View) → (view_with_store second v).passes ≡ v.passes
stored_passes false v = refl
stored_passes true v = refl

pub stored_opening : (second : Bool) (v : View) → (view_with_store second v).opening ≡ v.opening
stored_opening false v = refl
stored_opening true v = refl

pub stored_fronts : (second : Bool) (v : View) → (view_with_store second v).fronts ≡ v.fronts
stored_fronts false v = refl
stored_fronts true v = refl
