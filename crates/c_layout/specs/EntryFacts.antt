-- Two laws of an entry: it holds the state that it was given, and its own state changes nothing.
use Rattle.std.specs.Prelude.{◌≡◌, ◌||◌, not, Bool, true, false, refl}
use Rattle.std.proofs.Common.{ap, ◌∙◌}
use Rattle.entry_model.specs.State.{State}
use Rattle.entry_model.specs.History.{state_eq}
use Rattle.entry_model.proofs.Sorted.{state_self}
use Rattle.c_layout.specs.Entries.{Entry, entry_with}

-- An entry holds the state that it was given.
pub held_as_given : (e : Entry) (s : State) → (entry_with e s).state ≡ s
held_as_given e s = refl

or_none : (b : Bool) → (b || false) ≡ b
or_none true = refl
or_none false = refl

-- The state that it holds already doesn't change it.
pub same_entry : (e : Entry) → entry_with e e.state ≡ e
same_entry e =
    let same : not (state_eq e.state e.state) ≡ false = ap not (state_self e.state) in
    let mark : (e.marked || not (state_eq e.state e.state)) ≡ e.marked =
    ap (λ b. e.marked || b) same ∙ or_none e.marked in
    λ k. record { state = e.state; marked = mark k }
