-- What a tag holds.
use Rattle.std.proofs.Common.{◌≡◌, ℕ, ◌+◌, ◌*◌, ◌/◌, ◌%◌, ◌^◌, ◌<◌, ◌≤◌, Bool, true, false, arith, ap, sym, ◌∙◌, refl, bit_and, bit_or}
use Rattle.std.specs.Int.Bits.{and_high, and_le_r}
use Rattle.std.proofs.lemmas.Nat.{or_shifted}
use Rattle.std.proofs.Math.Nat.{mod-eq_of_lt}
use Rattle.power_addr.specs.Pages.{VirtualPage, IsPage, offset_bits, segment_code_of, virtual_address, tag_of}
use Rattle.power_addr.proofs.Ranges.{virtual_address-lt}

-- The mask keeps the address bits from weight 2 ^ 23 up.
number_of : (a : ℕ) → a < 2 ^ 78 → bit_and (a / 2 ^ 16) 0x3FFFFFFFFFFFFF80 ≡ a / 2 ^ 23 * 2 ^ 7
number_of a h = and_high (a / 2 ^ 16) 55 7 ∙ omega arith

pub segment_code-le : (b : Bool) → segment_code_of b ≤ 1
segment_code-le false = omega arith
segment_code-le true = omega arith

-- B and the number, shifted and joined.
joined :
    (code n : ℕ)
    → code ≤ 1
    → bit_or (code * 2 ^ 62 % 2 ^ 64) (bit_and n 0x3FFFFFFFFFFFFF80)
    ≡ code * 2 ^ 62 + bit_and n 0x3FFFFFFFFFFFFF80
joined code n small =
    let fits : code * 2 ^ 62 % 2 ^ 64 ≡ code * 2 ^ 62 = mod-eq_of_lt (omega arith) in
    ap (λ m. bit_or m (bit_and n 0x3FFFFFFFFFFFFF80)) fits
    ∙ or_shifted code 62 (bit_and n 0x3FFFFFFFFFFFFF80)
    (omega (arith, and_le_r n 0x3FFFFFFFFFFFFF80))

-- The tag as it is computed, with the address in 128 bits.
pub tag_of-computed :
    (p : VirtualPage) (vsid bits index code : ℕ)
    → IsPage p
    → vsid ≡ p.vsid
    → bits ≡ offset_bits p.one_tb
    → index ≡ p.index
    → code ≡ segment_code_of p.one_tb
    → bit_or (code * 2 ^ 62 % 2 ^ 64)
    (bit_and ((vsid * 2 ^ bits % 2 ^ 128 + index * 2 ^ p.shift % 2 ^ 128) / 2 ^ 16)
    0x3FFFFFFFFFFFFF80)
    ≡ tag_of p
unfolding tag_of
tag_of-computed p vsid bits index code is v o x c =
    let small : virtual_address p < 2 ^ 78 = virtual_address-lt p is in
    let segment : p.vsid * 2 ^ offset_bits p.one_tb % 2 ^ 128 ≡ p.vsid * 2 ^ offset_bits p.one_tb =
    mod-eq_of_lt (omega arith) in
    let offset : p.index * 2 ^ p.shift % 2 ^ 128 ≡ p.index * 2 ^ p.shift = mod-eq_of_lt
    (omega arith) in
    rw (v, o, x, c, segment, offset)
    (joined (segment_code_of p.one_tb) (virtual_address p / 2 ^ 16) (segment_code-le p.one_tb))

-- A tag is B and the address bits from weight 2 ^ 23 up.
pub tag_of-parts :
    (p : VirtualPage)
    → IsPage p
    → tag_of p ≡ segment_code_of p.one_tb * 2 ^ 62 + virtual_address p / 2 ^ 23 * 2 ^ 7
unfolding tag_of
tag_of-parts p is =
    ap (λ n. segment_code_of p.one_tb * 2 ^ 62 + n)
    (number_of (virtual_address p) (virtual_address-lt p is))

segment_code-same : (b c : Bool) → segment_code_of b ≡ segment_code_of c → b ≡ c
segment_code-same false false e = refl
segment_code-same true true e = refl
segment_code-same false true e = absurd (omega arith)
segment_code-same true false e = absurd (omega arith)

split_high :
    (b c m n : ℕ)
    → b ≤ 1
    → c ≤ 1
    → m < 2 ^ 78
    → n < 2 ^ 78
    → b * 2 ^ 62 + m / 2 ^ 23 * 2 ^ 7 ≡ c * 2 ^ 62 + n / 2 ^ 23 * 2 ^ 7
    → (b ≡ c) × (m / 2 ^ 23 ≡ n / 2 ^ 23)
split_high b c m n p q r t e = (omega arith, omega arith)

-- Two pages of one tag have one segment size and one address from weight 2 ^ 23 up.
pub same_from_tag :
    (p q : VirtualPage)
    → IsPage p
    → IsPage q
    → tag_of p ≡ tag_of q
    → (p.one_tb ≡ q.one_tb) × (virtual_address p / 2 ^ 23 ≡ virtual_address q / 2 ^ 23)
same_from_tag p q is is' e =
    let parts = split_high (segment_code_of p.one_tb) (segment_code_of q.one_tb) (virtual_address p)
    (virtual_address q) (segment_code-le p.one_tb) (segment_code-le q.one_tb)
    (virtual_address-lt p is) (virtual_address-lt q is')
    (sym (tag_of-parts p is) ∙ e ∙ tag_of-parts q is') in
    (segment_code-same p.one_tb q.one_tb parts.0, parts.1)
