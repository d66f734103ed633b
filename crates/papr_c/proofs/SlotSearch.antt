-- The lowest slot of C that has an address is that of slb_model.
use Rattle.std.specs.Prelude.{filter_map}
use Rattle.std.proofs.Common.{◌≡◌, ℕ, zero, suc, ◌<◌, List, [], ◌∷◌, length, get_or, map, find, Option, Some, None, true, false, arith, refl, ap, sym, ◌∙◌, inl, inr, ◌⊎◌}
use Rattle.std.proofs.lemmas.Bool.{cases_Bool}
use Rattle.std.specs.Option.{option_map_or}
use Rattle.slb_model.specs.declared.slot.Slot.{Slot}
use Rattle.slb_model.specs.Slots.{covers}
use Rattle.papr_c.specs.declared.segments.PaprSlot.{PaprSlot}
use Rattle.papr_c.specs.Segments.{slot_of, slot_told, covering, slot_at}

-- A slot that hasn't the address is passed.
passed :
    (s : PaprSlot) (slots : List PaprSlot) (ea : ℕ)
    → covering ea s ≡ false
    → slot_at (s ∷ slots) ea ≡ slot_at slots ea
passed s slots ea fails = at (slot_of s) refl fails where
  at :
      (o : Option Slot)
      → slot_of s ≡ o
      → covering ea s ≡ false
      → slot_at (s ∷ slots) ea ≡ slot_at slots ea
  at None is lacks = rw is refl
  at (Some x) is lacks =
      let here : covers ea x ≡ false = rw is at lacks in
      rw (is, here) refl

-- What a valid slot describes.
slot_in : PaprSlot → Slot
slot_in s = record {
  esid = s.esid;
  one_tb = s.one_tb;
  vsid = s.vsid;
  shift = s.shift;
  ks = s.ks;
  kp = s.kp;
  no_execute = s.no_execute;
}

-- One that has it is found.
found :
    (s : PaprSlot) (slots : List PaprSlot) (ea : ℕ)
    → covering ea s ≡ true
    → slot_told (slot_at (s ∷ slots) ea) ≡ s
unfolding slot_in
found s slots ea passes = at (cases_Bool s.valid) where
  at : (s.valid ≡ true) ⊎ (s.valid ≡ false) → slot_told (slot_at (s ∷ slots) ea) ≡ s
  at (inl valid) =
      let is : slot_of s ≡ Some (slot_in s) = rw valid refl in
      let here : covers ea (slot_in s) ≡ true = sym (ap (λ o. option_map_or (covers ea) o false) is)
      ∙ passes in
      ap
      (λ o.
      slot_told
      (find (covers ea) (filter_map (λ (x : Option Slot). x) (o ∷ map slot_of slots)))) is
      ∙ rw here refl
      ∙ ap (λ v. record s { valid = v }) (sym valid)
  at (inr invalid) =
      let is : slot_of s ≡ None = rw invalid refl in
      let lacks : covering ea s ≡ false = ap (λ o. option_map_or (covers ea) o false) is in
      absurd (cc)

-- The first one that has it.
pub first_found :
    (slots : List PaprSlot) (ea i : ℕ) (d : PaprSlot)
    → i < length slots
    → ((k : ℕ) → k < i → covering ea (get_or slots k d) ≡ false)
    → covering ea (get_or slots i d) ≡ true
    → slot_told (slot_at slots ea) ≡ get_or slots i d
first_found [] ea i d below lower passes = absurd (omega (arith, below))
first_found (s ∷ slots) ea zero d below lower passes = found s slots ea passes
first_found (s ∷ slots) ea (suc i) d below lower passes =
    ap slot_told (passed s slots ea (lower 0 (omega arith)))
    ∙ first_found slots ea i d (omega (arith, below))
    (λ k before. lower (suc k) (omega (arith, before))) passes

-- Where none has it there is none.
pub none_found :
    (slots : List PaprSlot) (ea : ℕ) (d : PaprSlot)
    → ((k : ℕ) → k < length slots → covering ea (get_or slots k d) ≡ false)
    → slot_at slots ea ≡ None
none_found [] ea d fails = refl
none_found (s ∷ slots) ea d fails =
    passed s slots ea (fails 0 (omega arith))
    ∙ none_found slots ea d (λ k below. fails (suc k) (omega (arith, below)))
