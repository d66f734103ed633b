-- The slot by which an address is answered is the lowest valid one that covers it.
use Rattle.std.proofs.Common.{◌≡◌, ℕ, zero, suc, ◌<◌, true, false, List, [], ◌∷◌, length, get_or, find, IfSome, Option, None, Some, refl, subst, arith, inl, inr, ◌⊎◌}
use Rattle.std.proofs.lemmas.Bool.{cases_Bool}
use Rattle.slb_model.specs.declared.slot.Slot.{Slot}
use Rattle.slb_model.specs.Slots.{covers}
use Rattle.slb_model.specs.Buffer.{valid_slots}

-- Slot number `place` is valid, has this content and covers the address; no valid slot below it
-- does.
pub record IsLowest (slots : List (Option Slot)) (ea place : ℕ) (slot : Slot) : Type 0 where
  pub inside : place < length slots
  pub content : get_or slots place None ≡ Some slot
  pub covering : covers ea slot ≡ true
  pub none_below :
      (lower : ℕ)
      → lower < place
      → IfSome (get_or slots lower None) (λ other. covers ea other ≡ false)

-- One slot more stands before the others, which doesn't cover the address.
further :
    (first : Option Slot) (slots : List (Option Slot)) (ea place : ℕ) (slot : Slot)
    → IfSome first (λ other. covers ea other ≡ false)
    → IsLowest slots ea place slot
    → IsLowest (first ∷ slots) ea (suc place) slot
further first slots ea place slot passed rest =
    record {
      inside = omega (arith, rest.inside);
      content = rest.content;
      covering = rest.covering;
      none_below = below;
    } where
      below :
          (lower : ℕ)
          → lower < suc place
          → IfSome (get_or (first ∷ slots) lower None) (λ other. covers ea other ≡ false)
      below zero less = passed
      below (suc lower) less = rest.none_below lower (omega arith)

pub lowest :
    (slots : List (Option Slot)) (ea : ℕ) (slot : Slot)
    → find (covers ea) (valid_slots slots) ≡ Some slot
    → (place : ℕ) × IsLowest slots ea place slot
lowest [] ea slot none = absurd (cc)
lowest (None ∷ slots) ea slot found =
    let (place, rest) = lowest slots ea slot found in
    (suc place, further None slots ea place slot tt rest)
lowest (Some first ∷ slots) ea slot found =
    at (lowest slots ea slot) (cases_Bool (covers ea first)) where
      at :
          (find (covers ea) (valid_slots slots) ≡ Some slot
          → (place : ℕ) × IsLowest slots ea place slot)
          → (covers ea first ≡ true) ⊎ (covers ea first ≡ false)
          → (place : ℕ) × IsLowest (Some first ∷ slots) ea place slot
      at later (inl passes) =
          let here :
          find (covers ea) (valid_slots (Some first ∷ slots)) ≡ Some first = rw passes refl
          in
          let same : Some first ≡ Some slot = cc in
          let equal : first ≡ slot = cc in (
            0,
            record {
              inside = omega arith;
              content = same;
              covering = subst (λ s. covers ea s ≡ true) equal passes;
              none_below = λ lower less. absurd (omega arith);
            },
          )
      at later (inr fails) =
          let (place, rest) = later (rw fails at found) in
          (suc place, further (Some first) slots ea place slot fails rest)
