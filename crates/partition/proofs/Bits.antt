-- A doubleword 1 whose R and C are taken out and put back.
use Rattle.std.proofs.Common.{◌≡◌, ℕ, zero, suc, ◌<◌, ◌≤◌, ◌-◌, ◌*◌, ◌^◌, ◌==◌, true, false, if◌then◌else◌, bit_and, bit_or, min, refl, sym, ap, ◌∙◌, inl, inr, ◌⊎◌, arith}
use Rattle.std.proofs.lemmas.Bool.{cases_Bool, cases_lt, eqb-true, eqb-false}
use Rattle.std.specs.Int.{bit_at}
use Rattle.std.proofs.lemmas.Nat.Bits.{and_pow, bit_at-lt, bit_at_and, bit_at_or, bit_at_ones, bit_at_above, same_from_bits}
use Rattle.hpte_fields.specs.Fields.{is_changed, is_referenced, with_rc, without_rc}

-- A bit that isn't all of its mask is 0.
cleared : (bit mask masked : ℕ) → bit < 2 → masked ≡ bit * mask → (masked ≡ mask → ⊥) → masked ≡ 0
cleared zero mask masked low is differs = omega arith
cleared (suc zero) mask masked low is differs = absurd (differs (omega arith))
cleared (suc (suc n)) mask masked low is differs = absurd (omega arith)

-- One bit, unchanged.
one_bit :
    (word place : ℕ)
    → (if bit_and word (2 ^ place) == 2 ^ place then 2 ^ place else 0) ≡ bit_and word (2 ^ place)
one_bit word place = at (cases_Bool (bit_and word (2 ^ place) == 2 ^ place)) where
  at :
      ((bit_and word (2 ^ place) == 2 ^ place) ≡ true)
      ⊎ ((bit_and word (2 ^ place) == 2 ^ place) ≡ false)
      → (if bit_and word (2 ^ place) == 2 ^ place then 2 ^ place else 0) ≡ bit_and word (2 ^ place)
  at (inl set) = rw set (sym (eqb-true _ _ set))
  at (inr clear) =
      rw clear
      (sym
      (cleared (bit_at word place) (2 ^ place) (bit_and word (2 ^ place))
      (bit_at-lt word place) (and_pow word place) (eqb-false _ _ clear)))

-- The bit of three masked words together.
three_bits :
    (word a b c i : ℕ)
    → bit_at (bit_or (bit_or (bit_and word a) (bit_and word b)) (bit_and word c)) i
    ≡ min (bit_at word i) (bit_at (bit_or (bit_or a b) c) i)
three_bits word a b c i =
    let outer = bit_at_or (bit_or (bit_and word a) (bit_and word b)) (bit_and word c) i in
    let inner = bit_at_or (bit_and word a) (bit_and word b) i in
    let first = bit_at_and word a i in
    let second = bit_at_and word b i in
    let third = bit_at_and word c i in
    let all = bit_at_or (bit_or a b) c i in
    let both = bit_at_or a b i in
    omega arith

-- Three masks that hold all 64 bits give a word back.
three_masks :
    (word a b c : ℕ)
    → word < 2 ^ 64
    → bit_or (bit_or a b) c ≡ 2 ^ 64 - 1
    → bit_or (bit_or (bit_and word a) (bit_and word b)) (bit_and word c) ≡ word
three_masks word a b c low whole =
    same_from_bits (bit_or (bit_or (bit_and word a) (bit_and word b)) (bit_and word c)) word
    (λ i. at i (cases_lt i 64)) where
      at :
          (i : ℕ)
          → (i < 64) ⊎ (64 ≤ i)
          → bit_at (bit_or (bit_or (bit_and word a) (bit_and word b)) (bit_and word c)) i
          ≡ bit_at word i
      at i (inl inside) =
          let ones :
          bit_at (bit_or (bit_or a b) c) i ≡ 1 = ap (λ n. bit_at n i) whole ∙ bit_at_ones 64
          i inside in
          let bit = bit_at-lt word i in
          three_bits word a b c i ∙ ap (min (bit_at word i)) ones ∙ omega arith
      at i (inr past) =
          let none = bit_at_above word 64 i low past in
          three_bits word a b c i ∙ omega arith

pub put_back :
    (dword1 : ℕ)
    → dword1 < 2 ^ 64
    → with_rc (without_rc dword1) (is_referenced dword1) (is_changed dword1) ≡ dword1
put_back dword1 low =
    let referenced : (if is_referenced dword1 then 0x100 else 0) ≡ bit_and dword1 0x100 = one_bit
    dword1 8 in
    let changed : (if is_changed dword1 then 0x80 else 0) ≡ bit_and dword1 0x80 = one_bit dword1 7
    in
    ap (λ n. bit_or (bit_or (without_rc dword1) n) (if is_changed dword1 then 0x80 else 0))
    referenced
    ∙ ap (bit_or (bit_or (without_rc dword1) (bit_and dword1 0x100))) changed
    ∙ three_masks dword1 0xFFFFFFFFFFFFFE7F 0x100 0x80 low refl
