-- A buffer of which one slot was written.
use Rattle.std.proofs.Common.{◌≡◌, ℕ, zero, suc, ◌<◌, ◌&&◌, Bool, true, false, List, [], ◌∷◌, replicate, slice_set, Option, Some, None, if◌then◌else◌, nat_lt, refl, ◌∙◌, inl, inr, ◌⊎◌, arith}
use Rattle.basics.specs.Words.{first_refusal}
use Rattle.std.specs.List.{list_any}
use Rattle.std.specs.Option.{option_map_or}
use Rattle.std.proofs.lemmas.Bool.{cases_Bool, ltb-false}
use Rattle.slb_model.specs.declared.error.BadSlb.{BadSlb}
use Rattle.slb_model.specs.declared.error.BadSlb.TheVariants as bad
use Rattle.slb_model.specs.declared.slot.Slot.{Slot}
use Rattle.slb_model.specs.Slots.{covers, is_valid, slot_number, slot_of_words}
use Rattle.slb_model.specs.Buffer.{no_slots, slots_after, valid_slots}
use Rattle.slb_model.specs.Refusals.{mte_refusal, tests_of_words}

none_valid : (p : Slot → Bool) (n : ℕ) → list_any p (valid_slots (replicate n None)) ≡ false
none_valid p zero = refl
none_valid p (suc n) = none_valid p n

-- Where one slot is written, some valid slot passes where that one does.
one_valid :
    (p : Slot → Bool) (n number : ℕ) (slot : Option Slot)
    → number < n
    → list_any p (valid_slots (slice_set (replicate n None) number slot))
    ≡ option_map_or p slot false
one_valid p zero number slot within = absurd (omega arith)
one_valid p (suc n) zero None within = none_valid p n
one_valid p (suc n) zero (Some slot) within = at (cases_Bool (p slot)) where
  at :
      (p slot ≡ true) ⊎ (p slot ≡ false)
      → list_any p (slot ∷ valid_slots (replicate n None)) ≡ p slot
  at (inl passes) = rw passes refl
  at (inr fails) = rw fails (none_valid p n)
one_valid p (suc n) (suc number) slot within = one_valid p n number slot (omega arith)

-- The number of a slot that is written.
numbered :
    (rest : List (Bool × BadSlb)) (number : ℕ) (fault : BadSlb)
    → first_refusal ((nat_lt 31 number, fault) ∷ rest) ≡ None
    → number < 32
numbered rest number fault none = at (cases_Bool (nat_lt 31 number)) where
  at : (nat_lt 31 number ≡ true) ⊎ (nat_lt 31 number ≡ false) → number < 32
  at (inl past) = let wrong = rw past at none in absurd (cc)
  at (inr within) = let low = ltb-false 31 number within in omega arith

pub written :
    (rb rs ea : ℕ)
    → mte_refusal rb rs ≡ None
    → list_any (covers ea) (valid_slots (slots_after no_slots rb rs))
    ≡ (is_valid rb && option_map_or (covers ea) (slot_of_words rb rs) false)
unfolding no_slots slots_after mte_refusal
written rb rs ea none =
    one_valid (covers ea) 32 (slot_number rb) (if is_valid rb then slot_of_words rb rs else None)
    (numbered (if is_valid rb then tests_of_words rs else []) (slot_number rb) bad.Slot none)
    ∙ at (cases_Bool (is_valid rb)) where
      at :
          (is_valid rb ≡ true) ⊎ (is_valid rb ≡ false)
          → option_map_or (covers ea) (if is_valid rb then slot_of_words rb rs else None) false
          ≡ (is_valid rb && option_map_or (covers ea) (slot_of_words rb rs) false)
      at (inl valid) = rw valid refl
      at (inr invalid) = rw invalid refl
