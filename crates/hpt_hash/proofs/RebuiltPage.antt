-- A page comes back from its segment size, its address bits from weight 2 ^ 23 up, its base page
-- size and the low bits of its hash.
use Rattle.std.proofs.Common.{◌≡◌, ℕ, ◌+◌, ◌-◌, ◌*◌, ◌/◌, ◌%◌, ◌^◌, ◌<◌, Bool, true, false, arith, ap, sym, ◌∙◌, bit_and, bit_xor, Some}
use Rattle.std.specs.Int.Bits.{and_mask, xor_mod, xor_assoc, xor_comm, xor_self, xor_zero_l, xor_zero_r}
use Rattle.std.proofs.Math.Pow.{mod-mod-pow}
use Rattle.power_addr.specs.Pages.{VirtualPage, IsPage, offset_bits, virtual_address}
use Rattle.power_addr.proofs.Ranges.{IsKind, small_4k, small_64k, small_16m, large_4k, large_64k, large_16m, large_16g, kind_of, page_of_address-is}
use Rattle.hpt_hash.specs.Hash.{mixed_bits, hash_of}
use Rattle.hpt_hash.specs.Entries.{rebuilt_vsid, rebuilt_offset, rebuilt_page}
use Rattle.hpt_hash.proofs.GroupBits.{low_bits-mod}

-- ---- the low bits of the index, from those of the hash
-- What was mixed in comes out again.
xor_again : (v x : ℕ) → bit_xor (bit_xor v x) v ≡ x
xor_again v x =
    xor_comm (bit_xor v x) v
    ∙ sym (xor_assoc v v x)
    ∙ ap (λ z. bit_xor z x) (xor_self v)
    ∙ xor_zero_l x

-- The shifted number of a 1 TB segment reaches no low bit.
mixed-low : (b : Bool) (v x : ℕ) → mixed_bits b v x % 2 ^ 11 ≡ bit_xor (v % 2 ^ 11) (x % 2 ^ 11)
mixed-low false v x = xor_mod v x 11
mixed-low true v x =
    let none : v * 2 ^ 25 % 2 ^ 11 ≡ 0 = omega arith in
    let same : bit_xor v (v * 2 ^ 25) % 2 ^ 11 ≡ v % 2 ^ 11 = xor_mod v (v * 2 ^ 25) 11 ∙ ap
    (bit_xor (v % 2 ^ 11)) none ∙ xor_zero_r (v % 2 ^ 11) in
    xor_mod (bit_xor v (v * 2 ^ 25)) x 11 ∙ ap (λ n. bit_xor n (x % 2 ^ 11)) same

index-low : (p : VirtualPage) → bit_xor (hash_of p % 2 ^ 11) (p.vsid % 2 ^ 11) ≡ p.index % 2 ^ 11
index-low p =
    let low : hash_of p % 2 ^ 11 ≡ bit_xor (p.vsid % 2 ^ 11) (p.index % 2 ^ 11) = low_bits-mod _ 39
    (omega arith) ∙ mixed-low p.one_tb p.vsid p.index in
    ap (λ n. bit_xor n (p.vsid % 2 ^ 11)) low ∙ xor_again (p.vsid % 2 ^ 11) (p.index % 2 ^ 11)

-- ---- the segment's number and the index, in each kind of page
Rebuilds : ℕ → ℕ → ℕ → ℕ → Type 0
Rebuilds bits s v x =
    ((v * 2 ^ bits + x * 2 ^ s) / 2 ^ 23 / 2 ^ (bits - 23) ≡ v)
    ×
    (((v * 2 ^ bits + x * 2 ^ s) / 2 ^ 23 % 2 ^ (bits - 23) * 2 ^ 23
    + x % 2 ^ 11 * 2 ^ s % 2 ^ 23) % 2 ^ bits
    / 2 ^ s
    ≡ x)

rebuilds : (bits s v x : ℕ) → IsKind bits s → x < 2 ^ (bits - s) → Rebuilds bits s v x
unfolding Rebuilds
rebuilds bits s v x small_4k p = (omega arith, omega arith)
rebuilds bits s v x small_64k p = (omega arith, omega arith)
rebuilds bits s v x small_16m p = (omega arith, omega arith)
rebuilds bits s v x large_4k p = (omega arith, omega arith)
rebuilds bits s v x large_64k p = (omega arith, omega arith)
rebuilds bits s v x large_16m p = (omega arith, omega arith)
rebuilds bits s v x large_16g p = (omega arith, omega arith)

pub rebuilt_page-is :
    (p : VirtualPage)
    → IsPage p
    → rebuilt_page p.one_tb (virtual_address p / 2 ^ 23) p.shift (hash_of p % 2 ^ 11) ≡ Some p
unfolding Rebuilds
rebuilt_page-is p is =
    let back = rebuilds (offset_bits p.one_tb) p.shift p.vsid p.index
    (kind_of p.one_tb p.shift is.shift) is.index in
    let number : ℕ = virtual_address p / 2 ^ 23 in
    let vsid : rebuilt_vsid p.one_tb number ≡ p.vsid = back.0 in
    let low : bit_xor (hash_of p % 2 ^ 11) (rebuilt_vsid p.one_tb number % 2 ^ 11) ≡ p.index % 2 ^
    11 = ap (λ v. bit_xor (hash_of p % 2 ^ 11) (v % 2 ^ 11)) vsid ∙ index-low p in
    let offset : ℕ → ℕ = λ l. number % 2 ^ (offset_bits p.one_tb - 23) * 2 ^ 23 + l * 2 ^ p.shift %
    2 ^ 23 in
    let index : rebuilt_offset p.one_tb number p.shift (hash_of p % 2 ^ 11) % 2 ^ offset_bits
    p.one_tb / 2 ^ p.shift ≡ p.index = ap
    (λ l. offset l % 2 ^ offset_bits p.one_tb / 2 ^ p.shift) low ∙ back.1 in
    page_of_address-is p.one_tb (rebuilt_vsid p.one_tb number) p.shift
    (rebuilt_offset p.one_tb number p.shift (hash_of p % 2 ^ 11)) p is
    (λ i. record { one_tb = p.one_tb; vsid = vsid i; shift = p.shift; index = index i })

-- ---- the offset as it is computed, in 64 bits
high-computed :
    (b : Bool) (number held : ℕ)
    → held ≡ offset_bits b - 23
    → bit_and number (1 * 2 ^ held % 2 ^ 64 - 1) * 2 ^ 23 % 2 ^ 64
    ≡ number % 2 ^ (offset_bits b - 23) * 2 ^ 23
high-computed false number held e =
    rw e (ap (λ n. n * 2 ^ 23 % 2 ^ 64) (and_mask number 5) ∙ omega arith)
high-computed true number held e =
    rw e (ap (λ n. n * 2 ^ 23 % 2 ^ 64) (and_mask number 17) ∙ omega arith)

low-computed :
    (vsid shift low : ℕ)
    → bit_and (bit_xor low (bit_and vsid (2 ^ 11 - 1)) * 2 ^ shift % 2 ^ 64) (2 ^ 23 - 1)
    ≡ bit_xor low (vsid % 2 ^ 11) * 2 ^ shift % 2 ^ 23
low-computed vsid shift low =
    ap (λ n. bit_and (bit_xor low n * 2 ^ shift % 2 ^ 64) (2 ^ 23 - 1)) (and_mask vsid 11)
    ∙ and_mask (bit_xor low (vsid % 2 ^ 11) * 2 ^ shift % 2 ^ 64) 23
    ∙ mod-mod-pow (bit_xor low (vsid % 2 ^ 11) * 2 ^ shift) 41 23

pub rebuilt_offset-computed :
    (b : Bool) (number shift low held : ℕ)
    → held ≡ offset_bits b - 23
    → bit_and number (1 * 2 ^ held % 2 ^ 64 - 1) * 2 ^ 23 % 2 ^ 64
    + bit_and (bit_xor low (bit_and (number / 2 ^ held) (2 ^ 11 - 1)) * 2 ^ shift % 2 ^ 64)
    (2 ^ 23 - 1)
    ≡ rebuilt_offset b number shift low
rebuilt_offset-computed b number shift low held e =
    let high : bit_and number (1 * 2 ^ held % 2 ^ 64 - 1) * 2 ^ 23 % 2 ^ 64 ≡ number % 2 ^
    (offset_bits b - 23) * 2 ^ 23 = high-computed b number held e in
    let rest : bit_and (bit_xor low (bit_and (number / 2 ^ held) (2 ^ 11 - 1)) * 2 ^ shift % 2 ^ 64)
    (2 ^ 23 - 1) ≡ bit_xor low (number / 2 ^ (offset_bits b - 23) % 2 ^ 11) * 2 ^ shift % 2 ^ 23
    = low-computed (number / 2 ^ held) shift low ∙ ap
    (λ h. bit_xor low (number / 2 ^ h % 2 ^ 11) * 2 ^ shift % 2 ^ 23) e in
    ap
    (λ n.
    n
    + bit_and (bit_xor low (bit_and (number / 2 ^ held) (2 ^ 11 - 1)) * 2 ^ shift % 2 ^ 64)
    (2 ^ 23 - 1)) high
    ∙ ap (λ n. number % 2 ^ (offset_bits b - 23) * 2 ^ 23 + n) rest
