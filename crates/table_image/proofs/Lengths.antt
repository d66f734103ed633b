-- How many digits an entry has.
use Rattle.std.proofs.Common.{◌≡◌, ℕ, ◌/◌, ◌%◌, inl, inr, false, eqb, arith, List, length, None, refl}
use Rattle.std.specs.Result.{result_ok}
use Rattle.std.proofs.lemmas.Bool.{cases_Bool, eqb-false, ne_eqb}
use Rattle.hex.specs.Hex.{decode_sized}
use Rattle.table_image.specs.declared.layout.Layout.{Layout}
use Rattle.table_image.specs.Layouts.{entry_words}

-- Sixteen bytes have 32 digits.
decoded_none : (digits : List ℕ) → (length digits ≡ 32 → ⊥)
    → result_ok (decode_sized digits 16) ≡ None
decoded_none digits other = elim (cases_Bool (eqb (length digits % 2) 1)) [
  | inl odd ↦ rw odd refl
  | inr even ↦
      let half : eqb (length digits / 2) 16 ≡ false =
      ne_eqb (length digits / 2) 16 (λ sixteen.
      other (omega (arith, eqb-false (length digits % 2) 1 even))) in
      rw (even, half) refl
]

-- Another number of digits spells nothing.
pub entry_words-other_length : (layout : Layout) (digits : List ℕ) → (length digits ≡ 32 → ⊥)
    → entry_words layout digits ≡ None
unfolding entry_words
entry_words-other_length layout digits other = rw (decoded_none digits other) refl
