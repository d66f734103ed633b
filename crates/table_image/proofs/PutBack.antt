-- R and C that are put into a doubleword 1 that has them clear.
use Rattle.std.specs.Prelude.{◌==◌, if◌then◌else◌}
use Rattle.std.proofs.Common.{◌≡◌, ℕ, Bool, true, false, ap, sym, ◌∙◌, refl, bit_and, bit_or}
use Rattle.std.specs.Int.Bits.{and_zero_l, or_zero_r}
use Rattle.std.proofs.lemmas.Nat.{and_comm, and_assoc}
use Rattle.hpte_fields.specs.Fields.{is_referenced, is_changed, with_rc, without_rc, stored_second}
use Rattle.hpte_fields.proofs.Masks.{mask_of_or}

-- One of the bits, as it is put in.
abbrev one : Bool → ℕ → ℕ
one b bit = if b then bit else 0

one_off : (b : Bool) (bit mask : ℕ) → bit_and bit mask ≡ 0 → bit_and (one b bit) mask ≡ 0
one_off true bit mask h = h
one_off false bit mask h = and_zero_l mask

one_in : (b : Bool) (bit mask : ℕ) → bit_and bit mask ≡ bit → bit_and (one b bit) mask ≡ one b bit
one_in true bit mask h = h
one_in false bit mask h = and_zero_l mask

-- The mask of a doubleword with two bits put in is that of each part.
mask_of_three :
    (d a b mask : ℕ)
    → bit_and (bit_or (bit_or d a) b) mask
    ≡ bit_or (bit_or (bit_and d mask) (bit_and a mask)) (bit_and b mask)
mask_of_three d a b mask =
    mask_of_or (bit_or d a) b mask ∙ ap (λ n. bit_or n (bit_and b mask)) (mask_of_or d a mask)

-- A mask without the bits sees the doubleword as it was.
pub put_off :
    (d mask : ℕ) (r c : Bool)
    → bit_and 0x100 mask ≡ 0
    → bit_and 0x80 mask ≡ 0
    → bit_and (with_rc d r c) mask ≡ bit_and d mask
put_off d mask r c first second =
    mask_of_three d (one r 0x100) (one c 0x80) mask
    ∙ ap (λ n. bit_or (bit_or (bit_and d mask) n) (bit_and (one c 0x80) mask))
    (one_off r 0x100 mask first)
    ∙ ap (bit_or (bit_or (bit_and d mask) 0)) (one_off c 0x80 mask second)
    ∙ or_zero_r (bit_or (bit_and d mask) 0)
    ∙ or_zero_r (bit_and d mask)

-- A mask that keeps all of both keeps all.
put_in :
    (d mask : ℕ) (r c : Bool)
    → bit_and d mask ≡ d
    → bit_and 0x100 mask ≡ 0x100
    → bit_and 0x80 mask ≡ 0x80
    → bit_and (with_rc d r c) mask ≡ with_rc d r c
put_in d mask r c kept first second =
    mask_of_three d (one r 0x100) (one c 0x80) mask
    ∙ ap (λ n. bit_or (bit_or n (bit_and (one r 0x100) mask)) (bit_and (one c 0x80) mask)) kept
    ∙ ap (λ n. bit_or (bit_or d n) (bit_and (one c 0x80) mask)) (one_in r 0x100 mask first)
    ∙ ap (bit_or (bit_or d (one r 0x100))) (one_in c 0x80 mask second)

pub put_second :
    (d : ℕ) (r c : Bool) → stored_second d ≡ d → stored_second (with_rc d r c) ≡ with_rc d r c
put_second d r c kept = put_in d 0xBFFFFFFFFFFFFFFF r c kept refl refl

-- ---- what is read back
-- What has neither bit is what is left without them.
pub without_none : (d : ℕ) → stored_second d ≡ d → bit_and d 0x180 ≡ 0 → without_rc d ≡ d
without_none d kept apart =
    let parts : bit_and d 0xBFFFFFFFFFFFFFFF ≡ bit_or (bit_and d 0xBFFFFFFFFFFFFE7F)
    (bit_and d 0x180) = and_comm d 0xBFFFFFFFFFFFFFFF ∙ mask_of_or 0xBFFFFFFFFFFFFE7F 0x180 d ∙
    ap (λ n. bit_or n (bit_and 0x180 d)) (and_comm 0xBFFFFFFFFFFFFE7F d) ∙ ap
    (bit_or (bit_and d 0xBFFFFFFFFFFFFE7F)) (and_comm 0x180 d) in
    let is : d ≡ bit_and d 0xBFFFFFFFFFFFFE7F = sym kept ∙ parts ∙ ap
    (bit_or (bit_and d 0xBFFFFFFFFFFFFE7F)) apart ∙ or_zero_r (bit_and d 0xBFFFFFFFFFFFFE7F) in
    ap (λ n. bit_and n 0xFFFFFFFFFFFFFE7F) is
    ∙ and_assoc 0xFFFFFFFFFFFFFE7F d 0xBFFFFFFFFFFFFE7F
    ∙ sym is

bit_clear : (d bit : ℕ) → bit_and d 0x180 ≡ 0 → bit_and 0x180 bit ≡ bit → bit_and d bit ≡ 0
bit_clear d bit apart inside =
    ap (bit_and d) (sym inside)
    ∙ sym (and_assoc bit d 0x180)
    ∙ ap (λ n. bit_and n bit) apart
    ∙ and_zero_l bit

-- One bit of what was put in.
one_read :
    (d bit : ℕ) (r c : Bool)
    → bit_and d 0x180 ≡ 0
    → bit_and 0x180 bit ≡ bit
    → bit_and (with_rc d r c) bit
    ≡ bit_or (bit_or 0 (bit_and (one r 0x100) bit)) (bit_and (one c 0x80) bit)
one_read d bit r c apart inside =
    mask_of_three d (one r 0x100) (one c 0x80) bit
    ∙ ap (λ n. bit_or (bit_or n (bit_and (one r 0x100) bit)) (bit_and (one c 0x80) bit))
    (bit_clear d bit apart inside)

pub read_referenced : (d : ℕ) (r c : Bool) → bit_and d 0x180 ≡ 0 → is_referenced (with_rc d r c) ≡ r
read_referenced d r c apart = ap (λ n. n == 0x100) (one_read d 0x100 r c apart refl) ∙ at r c where
  at :
      (r c : Bool)
      → (bit_or (bit_or 0 (bit_and (one r 0x100) 0x100)) (bit_and (one c 0x80) 0x100) == 0x100) ≡ r
  at true true = refl
  at true false = refl
  at false true = refl
  at false false = refl

pub read_changed : (d : ℕ) (r c : Bool) → bit_and d 0x180 ≡ 0 → is_changed (with_rc d r c) ≡ c
read_changed d r c apart = ap (λ n. n == 0x80) (one_read d 0x80 r c apart refl) ∙ at r c where
  at :
      (r c : Bool)
      → (bit_or (bit_or 0 (bit_and (one r 0x100) 0x80)) (bit_and (one c 0x80) 0x80) == 0x80) ≡ c
  at true true = refl
  at true false = refl
  at false true = refl
  at false false = refl
