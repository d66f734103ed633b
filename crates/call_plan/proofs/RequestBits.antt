-- The fields of a request, masked in place.
use Rattle.std.proofs.Common.{◌≡◌, ℕ, ◌+◌, ◌*◌, ◌/◌, ◌%◌, ◌^◌, ◌<◌, arith, ap, sym, ◌∙◌, bit_and, bit_or, refl}
use Rattle.std.proofs.lemmas.Nat.{and_shr, and_mod, and_mask, shr_split, mod-pow-add, or_shifted}
use Rattle.std.specs.Int.Bits.{and_zero_r}
use Rattle.call_plan.specs.Bulk.{type_of, flags_of, index_of, response}

-- A mask of two bits leaves the field of two bits in its place.
two_bits : (n k m : ℕ) → m / 2 ^ k ≡ 3 → m % 2 ^ k ≡ 0 → bit_and n m ≡ n / 2 ^ k % 2 ^ 2 * 2 ^ k
two_bits n k m top low =
    let high : bit_and n m / 2 ^ k ≡ n / 2 ^ k % 2 ^ 2 = and_shr n m k ∙ ap (bit_and (n / 2 ^ k))
    top ∙ and_mask (n / 2 ^ k) 2 in
    let rest : bit_and n m % 2 ^ k ≡ 0 = and_mod n m k ∙ ap (bit_and (n % 2 ^ k)) low ∙ and_zero_r
    (n % 2 ^ k) in
    let split : bit_and n m / 2 ^ k * 2 ^ k + bit_and n m % 2 ^ k ≡ bit_and n m = shr_split
    (bit_and n m) k in
    let both : bit_and n m / 2 ^ k * 2 ^ k + bit_and n m % 2 ^ k ≡ n / 2 ^ k % 2 ^ 2 * 2 ^ k + 0 =
    (λ i. high i * 2 ^ k + rest i) in
    sym split ∙ both ∙ omega arith

pub type_bits :
    (request : ℕ) → request < 2 ^ 64 → bit_and request 0xC000000000000000 ≡ type_of request * 2 ^ 62
type_bits request fits = let two = two_bits request 62 0xC000000000000000 refl refl in omega arith

pub flags_bits : (request : ℕ) → bit_and request 0x0300000000000000 ≡ flags_of request * 2 ^ 56
flags_bits request = two_bits request 56 0x0300000000000000 refl refl

-- The flags and the index stay in a response.
pub response_bits :
    (status request : ℕ)
    → status < 2 ^ 8
    → status % 4 ≡ 0
    → bit_or (status * 2 ^ 56 % 2 ^ 64) (bit_and request 0x03FFFFFFFFFFFFFF)
    ≡ response status request
response_bits status request fits aligned =
    let kept : bit_and request 0x03FFFFFFFFFFFFFF ≡ request % 2 ^ 58 = and_mask request 58 in
    let parts : request % 2 ^ 58 ≡ flags_of request * 2 ^ 56 + index_of request = mod-pow-add
    request 2 56 in
    let above : status * 2 ^ 56 % 2 ^ 64 ≡ status / 4 * 2 ^ 58 = omega arith in
    let apart : bit_or (status / 4 * 2 ^ 58) (request % 2 ^ 58) ≡ status / 4 * 2 ^ 58 + request % 2
    ^ 58 = or_shifted (status / 4) 58 (request % 2 ^ 58) (omega arith) in
    (λ i. bit_or (above i) (kept i)) ∙ apart ∙ omega arith
