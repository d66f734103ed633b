-- Bytes that hardware stores.
use Rattle.std.specs.Prelude.{if◌then◌else◌}
use Rattle.std.specs.Int.{bit_at}
use Rattle.std.proofs.Common.{◌≡◌, ◌⊎◌, inl, inr, ℕ, zero, suc, ◌+◌, ◌%◌, ◌<◌, Bool, true, false, refl, ap, ◌∙◌, bit_and, bit_or, arith, min, max}
use Rattle.std.proofs.lemmas.Nat.Bits.{same_from_bits, bit_at_and, bit_at_or, bit_at_xor, bit_at-lt, bit_at-zero}
use Rattle.hardware_walk.specs.Bytes.{bits_stored, BytesSetBits}

-- Of one bit: what memory has and what was read, and the mask.
taken : (x y m : ℕ) → x < 2 → y < 2 → m ≡ 1 → (x + min ((x + y) % 2) m) % 2 ≡ y
taken x y m lx ly e = rw e (omega arith)

kept : (x y m : ℕ) → x < 2 → m ≡ 0 → (x + min ((x + y) % 2) m) % 2 ≡ x
kept x y m lx e = rw e (omega arith)

zero_or_one : (m : ℕ) → m < 2 → (m ≡ 1) ⊎ (m ≡ 0)
zero_or_one zero l = inr refl
zero_or_one (suc m) l = inl (omega arith)

below_max : (x y : ℕ) → x < 2 → y < 2 → max x y < 2
below_max x y lx ly = omega arith

only_h : (d a h : ℕ) → max a h ≡ h → max (max (max d a) 0) h ≡ max (max d h) 0
only_h d a h s = omega (arith, s)

-- Doubleword 1, what may be set in the mask and outside it, in memory and as it was read, the bit
-- that is set, and the mask.
bit_set :
    (d a b a' b' h m : ℕ)
    → min h m ≡ h
    → min b m ≡ 0
    → min b' m ≡ 0
    → max a h ≡ h
    → max a' h ≡ h
    → d < 2
    → a < 2
    → b < 2
    → a' < 2
    → b' < 2
    → h < 2
    → m < 2
    → (max (max d a) b + min ((max (max d a) b + max (max (max d a') b') h) % 2) m) % 2
    ≡ max (max d h) b
bit_set d a b a' b' h m p q q' s s' ld la lb la' lb' lh lm = at (zero_or_one m lm) where
  at :
      (m ≡ 1) ⊎ (m ≡ 0)
      → (max (max d a) b + min ((max (max d a) b + max (max (max d a') b') h) % 2) m) % 2
      ≡ max (max d h) b
  at (inl e) =
      let eb : b ≡ 0 = (let q1 = rw e at q in omega (arith, q1, lb)) in
      let eb' : b' ≡ 0 = (let q1 = rw e at q' in omega (arith, q1, lb')) in
      taken (max (max d a) b) (max (max (max d a') b') h) m
      (below_max (max d a) b (below_max d a ld la) lb)
      (below_max (max (max d a') b') h (below_max (max d a') b' (below_max d a' ld la') lb') lh)
      e
      ∙ rw (eb, eb') (only_h d a' h s')
  at (inr e) =
      let eh : h ≡ 0 = (let p1 = rw e at p in omega (arith, p1)) in
      let ea : a ≡ 0 = (let s1 = rw eh at s in omega (arith, s1)) in
      kept (max (max d a) b) (max (max (max d a') b') h) m
      (below_max (max d a) b (below_max d a ld la) lb) e
      ∙ rw (eh, ea)

swap_max : (d a b : ℕ) → max (max d b) a ≡ max (max d a) b
swap_max d a b = omega arith

bit_set' :
    (d a b a' b' h m : ℕ)
    → min h m ≡ h
    → min b m ≡ 0
    → min b' m ≡ 0
    → max a h ≡ h
    → max a' h ≡ h
    → d < 2
    → a < 2
    → b < 2
    → a' < 2
    → b' < 2
    → h < 2
    → m < 2
    → (max (max d b) a + min ((max (max d b) a + max (max (max d b') a') h) % 2) m) % 2
    ≡ max (max d b) h
bit_set' d a b a' b' h m p q q' s s' ld la lb la' lb' lh lm =
    rw (swap_max d a b, swap_max d a' b', swap_max d h b)
    (bit_set d a b a' b' h m p q q' s s' ld la lb la' lb' lh lm)

module _ (d a b a' b' h m : ℕ) (p : bit_and h m ≡ h) (q : bit_and b m ≡ 0) (q' : bit_and b' m ≡ 0)
    (s : bit_or a h ≡ h) (s' : bit_or a' h ≡ h) where
  stored :
      bits_stored (bit_or (bit_or d a) b) (bit_or (bit_or (bit_or d a') b') h) m
      ≡ bit_or (bit_or d h) b
  stored =
      same_from_bits _ _
      (λ i.
      simp (bit_at_xor, bit_at_and, bit_at_or)
      (bit_set (bit_at d i) (bit_at a i) (bit_at b i) (bit_at a' i) (bit_at b' i) (bit_at h i)
      (bit_at m i) (simp bit_at_and at (ap (λ z. bit_at z i) p))
      ((simp bit_at_and at (ap (λ z. bit_at z i) q)) ∙ bit_at-zero i)
      ((simp bit_at_and at (ap (λ z. bit_at z i) q')) ∙ bit_at-zero i)
      (simp bit_at_or at (ap (λ z. bit_at z i) s)) (simp bit_at_or at (ap (λ z. bit_at z i) s'))
      (bit_at-lt d i) (bit_at-lt a i) (bit_at-lt b i) (bit_at-lt a' i) (bit_at-lt b' i)
      (bit_at-lt h i) (bit_at-lt m i)))

  stored' :
      bits_stored (bit_or (bit_or d b) a) (bit_or (bit_or (bit_or d b') a') h) m
      ≡ bit_or (bit_or d b) h
  stored' =
      same_from_bits _ _
      (λ i.
      simp (bit_at_xor, bit_at_and, bit_at_or)
      (bit_set' (bit_at d i) (bit_at a i) (bit_at b i) (bit_at a' i) (bit_at b' i) (bit_at h i)
      (bit_at m i) (simp bit_at_and at (ap (λ z. bit_at z i) p))
      ((simp bit_at_and at (ap (λ z. bit_at z i) q)) ∙ bit_at-zero i)
      ((simp bit_at_and at (ap (λ z. bit_at z i) q')) ∙ bit_at-zero i)
      (simp bit_at_or at (ap (λ z. bit_at z i) s)) (simp bit_at_or at (ap (λ z. bit_at z i) s'))
      (bit_at-lt d i) (bit_at-lt a i) (bit_at-lt b i) (bit_at-lt a' i) (bit_at-lt b' i)
      (bit_at-lt h i) (bit_at-lt m i)))

r_in_byte : (r : Bool) → bit_or (if r then 0x100 else 0) 0x100 ≡ 0x100
r_in_byte true = refl
r_in_byte false = refl

r_not_in_byte_7 : (r : Bool) → bit_and (if r then 0x100 else 0) 0xFF ≡ 0
r_not_in_byte_7 true = refl
r_not_in_byte_7 false = refl

c_in_byte : (c : Bool) → bit_or (if c then 0x80 else 0) 0x80 ≡ 0x80
c_in_byte true = refl
c_in_byte false = refl

c_not_in_byte_6 : (c : Bool) → bit_and (if c then 0x80 else 0) 0xFF00 ≡ 0
c_not_in_byte_6 true = refl
c_not_in_byte_6 false = refl

pub bytes : BytesSetBits
bytes d r c r' c' = (
  stored d (if r then 0x100 else 0) (if c then 0x80 else 0) (if r' then 0x100 else 0)
      (if c' then 0x80 else 0) 0x100 0xFF00 refl (c_not_in_byte_6 c) (c_not_in_byte_6 c')
      (r_in_byte r) (r_in_byte r'),
  stored' d (if c then 0x80 else 0) (if r then 0x100 else 0) (if c' then 0x80 else 0)
      (if r' then 0x100 else 0) 0x80 0xFF refl (r_not_in_byte_7 r) (r_not_in_byte_7 r')
      (c_in_byte c) (c_in_byte c'),
)
