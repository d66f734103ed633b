-- What holds of the slots at all times, and where a slot is found.
use Rattle.std.proofs.Common.{◌≡◌, ℕ, Bool, true, false, List, [], ◌∷◌, find, is_some, slice_set, IfSome, Option, None, Some, refl, sym, ap, ◌∙◌, inl, inr, ◌⊎◌}
use Rattle.std.specs.List.{list_any}
use Rattle.std.proofs.Math.ListN.{length-set}
use Rattle.std.proofs.lemmas.Bool.{cases_Bool}
use Rattle.std.proofs.lemmas.List.Elements.{All-replicate, All-set}
use Rattle.slb_model.specs.declared.slot.Slot.{Slot}
use Rattle.slb_model.specs.Slots.{IsSlot}
use Rattle.slb_model.specs.Buffer.{IsBuffer, no_slots}

pub no_slots_sound : IsBuffer no_slots
unfolding no_slots
no_slots_sound =
    record {
      count = refl;
      in_range = All-replicate (λ (slot : Option Slot). IfSome slot IsSlot) 32 None tt;
    }

-- One slot is written.
pub written_sound :
    (slots : List (Option Slot)) (number : ℕ) (slot : Option Slot)
    → IsBuffer slots
    → IfSome slot IsSlot
    → IsBuffer (slice_set slots number slot)
written_sound slots number slot sound fine =
    record {
      count = length-set slots number slot ∙ sound.count;
      in_range =
          All-set (λ (s : Option Slot). IfSome s IsSlot) slots number slot fine sound.in_range;
    }

-- An element is found exactly if one passes.
pub is_some_find : {X : Type 0} (p : X → Bool) (xs : List X) → is_some (find p xs) ≡ list_any p xs
is_some_find p [] = refl
is_some_find p (x ∷ xs) = at (is_some_find p xs) (cases_Bool (p x)) where
  at :
      is_some (find p xs) ≡ list_any p xs
      → (p x ≡ true) ⊎ (p x ≡ false)
      → is_some (find p (x ∷ xs)) ≡ list_any p (x ∷ xs)
  at later (inl passes) = rw passes refl
  at later (inr fails) = rw fails later

pub none_passes :
    {X : Type 0} (p : X → Bool) (xs : List X) → None ≡ find p xs → list_any p xs ≡ false
none_passes p xs none = sym (is_some_find p xs) ∙ ap is_some (sym none)

pub one_passes :
    {X : Type 0} (p : X → Bool) (xs : List X) (x : X) → Some x ≡ find p xs → list_any p xs ≡ true
one_passes p xs x some = sym (is_some_find p xs) ∙ ap is_some (sym some)
