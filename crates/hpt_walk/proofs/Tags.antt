-- What an access compares of doubleword 0: the tag, H and V.
use Rattle.std.proofs.Common.{◌≡◌, ℕ, ◌+◌, ◌*◌, ◌/◌, ◌%◌, ◌^◌, ◌<◌, ◌≤◌, Bool, true, false, arith, ap, sym, ◌∙◌, refl, bit_and, bit_or}
use Rattle.std.specs.Int.Bits.{and_mask}
use Rattle.std.proofs.lemmas.Nat.{or_shifted}
use Rattle.std.proofs.lemmas.Nat.Bits.{and_high, same_from_bits, bit_at_and, bit_at_or}
use Rattle.std.proofs.lemmas.Bool.{eqb-true, eqb-false}
use Rattle.power_addr.specs.Pages.{VirtualPage, tag_of, segment_code_of, virtual_address}
use Rattle.hpte_fields.specs.Fields.{tag_field, is_secondary, is_valid}
use Rattle.hpt_hash.proofs.PageLemmas.{tag_field-parts}
use Rattle.entry_model.specs.Reply.{compared_bits}
use Rattle.hpt_walk.specs.Walk.{h_bit}

-- A mask of two parts.
and_or : (n a b : ℕ) → bit_and n (bit_or a b) ≡ bit_or (bit_and n a) (bit_and n b)
and_or n a b = same_from_bits _ _ (λ i. simp (bit_at_or, bit_at_and) (omega arith))

-- ---- the parts of a doubleword 0
-- The tag, and below it H and V.
pub compared-parts : (d : ℕ) → compared_bits d ≡ d / 2 ^ 7 % 2 ^ 57 * 2 ^ 7 + d % 2 ^ 2
compared-parts d =
    let low : d % 2 ^ 2 < 2 ^ 7 = omega arith in
    and_or d 0xFFFFFFFFFFFFFF80 3
    ∙ ap (λ n. bit_or n (bit_and d 3)) (and_high d 57 7)
    ∙ ap (bit_or (d / 2 ^ 7 % 2 ^ 57 * 2 ^ 7)) (and_mask d 2)
    ∙ or_shifted (d / 2 ^ 7 % 2 ^ 57) 7 (d % 2 ^ 2) low

secondary-set : (d : ℕ) → d / 2 % 2 ≡ 1 → is_secondary d ≡ true
secondary-set d e = let masked :
    bit_and d 2 ≡ 2 = and_high d 1 1 ∙ ap (λ n. n * 2 ^ 1) e in rw masked refl

secondary-clear : (d : ℕ) → d / 2 % 2 ≡ 0 → is_secondary d ≡ false
secondary-clear d e = let masked :
    bit_and d 2 ≡ 0 = and_high d 1 1 ∙ ap (λ n. n * 2 ^ 1) e in rw masked refl

valid-set : (d : ℕ) → d % 2 ≡ 1 → is_valid d ≡ true
valid-set d e = let masked : bit_and d 1 ≡ 1 = and_mask d 1 ∙ e in rw masked refl

-- ---- a page's tag
-- It has nothing in its low seven bits.
tag_of-high :
    (p : VirtualPage)
    → tag_of p
    ≡ (segment_code_of p.one_tb * 2 ^ 55 + virtual_address p / 2 ^ 16 / 2 ^ 7 % 2 ^ 55) * 2 ^ 7
unfolding tag_of
tag_of-high p =
    ap (λ n. segment_code_of p.one_tb * 2 ^ 62 + n) (and_high (virtual_address p / 2 ^ 16) 55 7)
    ∙ omega arith

-- A doubleword 0 that an access compares well has the page's tag, and H and V as the access says.
pub record HasTag (d t : ℕ) (h : Bool) : Type 0 where
  pub tag : t ≡ tag_field d
  pub secondary : is_secondary d ≡ h
  pub valid : is_valid d ≡ true

split_tag :
    (d t h : ℕ)
    → h ≤ 2
    → d / 2 ^ 7 % 2 ^ 57 * 2 ^ 7 + d % 2 ^ 2 ≡ t * 2 ^ 7 + h + 1
    → (t * 2 ^ 7 ≡ d / 2 ^ 7 % 2 ^ 57 * 2 ^ 7) × (d % 2 ^ 2 ≡ h + 1)
split_tag d t h low e = (omega arith, omega arith)

low_bits :
    (d : ℕ) (secondary : Bool)
    → d % 2 ^ 2 ≡ h_bit secondary + 1
    → (is_secondary d ≡ secondary) × (is_valid d ≡ true)
low_bits d true e = (secondary-set d (omega arith), valid-set d (omega arith))
low_bits d false e = (secondary-clear d (omega arith), valid-set d (omega arith))

h_bit-le : (secondary : Bool) → h_bit secondary ≤ 2
h_bit-le true = omega arith
h_bit-le false = omega arith

pub compared-has :
    (p : VirtualPage) (d : ℕ) (secondary : Bool)
    → compared_bits d ≡ tag_of p + h_bit secondary + 1
    → HasTag d (tag_of p) secondary
compared-has p d secondary e =
    let high : ℕ = segment_code_of p.one_tb * 2 ^ 55 + virtual_address p / 2 ^ 16 / 2 ^ 7 % 2 ^ 55
    in
    let parts = split_tag d high (h_bit secondary) (h_bit-le secondary)
    (sym (compared-parts d) ∙ e ∙ ap (λ n. n + h_bit secondary + 1) (tag_of-high p)) in
    let low = low_bits d secondary parts.1 in
    record {
      tag = tag_of-high p ∙ parts.0 ∙ sym (tag_field-parts d);
      secondary = low.0;
      valid = low.1;
    }

-- A valid doubleword is odd.
valid-is : (d : ℕ) → is_valid d ≡ true → d % 2 ≡ 1
valid-is d v = sym (and_mask d 1) ∙ eqb-true (bit_and d 1) 1 v

low_of :
    (d : ℕ) (secondary : Bool)
    → is_secondary d ≡ secondary
    → is_valid d ≡ true
    → d % 2 ^ 2 ≡ h_bit secondary + 1
low_of d true s v =
    let set : d / 2 ^ 1 % 2 ^ 1 * 2 ^ 1 ≡ 2 = sym (and_high d 1 1) ∙ eqb-true (bit_and d 2) 2 s in
    omega (arith, valid-is d v)
low_of d false s v =
    let clear : d / 2 ^ 1 % 2 ^ 1 * 2 ^ 1 ≡ 2 → ⊥ = λ e. eqb-false (bit_and d 2) 2 s
    (and_high d 1 1 ∙ e) in
    omega (arith, valid-is d v)

pub has-compared :
    (p : VirtualPage) (d : ℕ) (secondary : Bool)
    → HasTag d (tag_of p) secondary
    → compared_bits d ≡ tag_of p + h_bit secondary + 1
has-compared p d secondary h =
    compared-parts d
    ∙ ap (λ n. n + d % 2 ^ 2) (sym (h.tag ∙ tag_field-parts d))
    ∙ ap (λ n. tag_of p + n) (low_of d secondary h.secondary h.valid)
    ∙ omega arith
