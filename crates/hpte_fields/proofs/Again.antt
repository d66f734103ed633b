-- What `normal` gives, it gives back.
use Rattle.std.proofs.Common.{◌≡◌, ℕ, ◌/◌, ◌^◌, ◌<◌, arith, sym, ◌∙◌, refl, bit_and, Some, None, true, false, nat_lt, inl, inr, ◌⊎◌, subst}
use Rattle.std.specs.Prelude.{◌||◌, is_none}
use Rattle.std.specs.Int.Bits.{and_mask, and_shr, or_shr, or_zero_r}
use Rattle.std.proofs.lemmas.Bool.{cases_Bool}
use Rattle.std.proofs.lemmas.Nat.{and_assoc}
use Rattle.page_sizes.specs.Sizes.{size_of}
use Rattle.hpte_fields.specs.Fields.{normal_words, stored_first, stored_second, segment_code}
use Rattle.hpte_fields.proofs.Masks.{set_again, mask_again, mask_of_or, field_stays}

segment_stays : (x : ℕ) → x < 2 ^ 64 → segment_code (stored_first x) ≡ segment_code x
segment_stays x h =
    or_shr (bit_and x 0xFFFFFFFFFFFFFF9F) 1 62
    ∙ or_zero_r (bit_and x 0xFFFFFFFFFFFFFF9F / 2 ^ 62)
    ∙ and_shr x 0xFFFFFFFFFFFFFF9F 62
    ∙ and_mask (x / 2 ^ 62) 2
    ∙ omega arith

large_stays : (x : ℕ) → bit_and (stored_first x) 4 ≡ bit_and x 4
large_stays x =
    mask_of_or (bit_and x 0xFFFFFFFFFFFFFF9F) 1 4
    ∙ or_zero_r (bit_and (bit_and x 0xFFFFFFFFFFFFFF9F) 4)
    ∙ and_assoc 4 x 0xFFFFFFFFFFFFFF9F

-- L and the low part of the real page number stay, and so does the size.
size_stays : (h l : ℕ) → size_of (stored_first h) (stored_second l) ≡ size_of h l
size_stays h l =
    rw (
      large_stays h,
      field_stays l 0xBFFFFFFFFFFFFFFF 12 4 refl,
      field_stays l 0xBFFFFFFFFFFFFFFF 12 12 refl,
      field_stays l 0xBFFFFFFFFFFFFFFF 12 22 refl,
    ) refl

-- the words that H_ENTER stores are given back unchanged
pub normal_again :
    (h l : ℕ) (w : ℕ × ℕ) → h < 2 ^ 64 → normal_words h l ≡ Some w → normal_words w.0 w.1 ≡ Some w
normal_again h l w fits e =
    at (cases_Bool (nat_lt 1 (segment_code h) || is_none (size_of h l))) where
      at :
          ((nat_lt 1 (segment_code h) || is_none (size_of h l)) ≡ true)
          ⊎ ((nat_lt 1 (segment_code h) || is_none (size_of h l)) ≡ false)
          → normal_words w.0 w.1 ≡ Some w
      at (inl refused) = let none : normal_words h l ≡ None = rw refused refl in cc
      at (inr fine) =
          let some : normal_words h l ≡ Some (stored_first h, stored_second l) = rw fine refl in
          let same : w ≡ (stored_first h, stored_second l) = cc in
          let again :
          normal_words (stored_first h) (stored_second l) ≡ Some (stored_first h, stored_second l) =
          rw (segment_stays h fits, size_stays h l, fine)
          (rw (set_again h 0xFFFFFFFFFFFFFF9F 1, mask_again l 0xBFFFFFFFFFFFFFFF) refl) in
          subst (λ v. normal_words v.0 v.1 ≡ Some v) (sym same) again
