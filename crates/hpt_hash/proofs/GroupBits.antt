-- The groups of a page lie in the table, differ, and hold the low bits of the hash.
use Rattle.std.proofs.Common.{◌≡◌, ◌≢◌, ℕ, ◌+◌, ◌-◌, ◌*◌, ◌/◌, ◌%◌, ◌^◌, ◌<◌, ◌≤◌, Bool, true, false, arith, ap, sym, ◌∙◌, subst, bit_and}
use Rattle.std.specs.Int.Bits.{and_mask}
use Rattle.std.proofs.Math.Pow.{mod-mod-pow, pow-lt}
use Rattle.std.proofs.Math.Nat.{mod-lt, mod-eq_of_lt, div-add-mod, div-lt_iff_lt-mul, add-mul, one-mul, mul_comm}
use Rattle.std.proofs.lemmas.Nat.{pow_pos, pow-add, mod-mul-add}
use Rattle.power_addr.specs.Pages.{VirtualPage}
use Rattle.hpt_hash.specs.Hash.{hash_of, group_of}
use Rattle.hpte_fields.specs.TableSize.{group_count, least_order}
use Rattle.hpt_hash.specs.Entries.{low_hash}

-- ---- complements
-- The complement of a number under a mask that divides the range of the complement.
complement_below :
    (d q k r : ℕ) → r < k → ((q * k + k + d * k) - 1 - (q * k + r)) % k ≡ k - 1 - r
complement_below d q k r h =
    let e : (q * k + k + d * k) - 1 - (q * k + r) ≡ d * k + (k - 1 - r) = omega arith in
    ap (λ n. n % k) e ∙ mod-mul-add d k (k - 1 - r) (omega arith)

three_times : (q d k : ℕ) → (q + 1 + d) * k ≡ q * k + k + d * k
three_times q d k =
    add-mul (q + 1) d k ∙ ap (λ n. n + d * k) (add-mul q 1 k ∙ ap (λ n. q * k + n) (one-mul k))

pub complement-mod :
    (j k h : ℕ) → h < 2 ^ (j + k) → (2 ^ (j + k) - 1 - h) % 2 ^ k ≡ 2 ^ k - 1 - h % 2 ^ k
complement-mod j k h small =
    let split : 2 ^ (j + k) ≡ 2 ^ j * 2 ^ k = pow-add 2 j k in
    let q : ℕ = h / 2 ^ k in
    let whole : h ≡ q * 2 ^ k + h % 2 ^ k = sym (div-add-mod h (2 ^ k)) ∙ ap (λ n. n + h % 2 ^ k)
    (mul_comm (2 ^ k) q) in
    let within : q < 2 ^ j = (div-lt_iff_lt-mul {k = 2 ^ k} {x = h} {y = 2 ^ j} (pow_pos k)).1
    (omega arith) in
    let d : ℕ = 2 ^ j - 1 - q in
    let parts : 2 ^ j * 2 ^ k ≡ q * 2 ^ k + 2 ^ k + d * 2 ^ k = ap (λ n. n * 2 ^ k)
    (let e : 2 ^ j ≡ q + 1 + d = omega arith in e) ∙ three_times q d (2 ^ k) in
    let e : 2 ^ (j + k) - 1 - h ≡ (q * 2 ^ k + 2 ^ k + d * 2 ^ k) - 1 - (q * 2 ^ k + h % 2 ^ k) = ap
    (λ n. n - 1 - h) (split ∙ parts) ∙ ap (λ n. (q * 2 ^ k + 2 ^ k + d * 2 ^ k) - 1 - n) whole
    in
    ap (λ n. n % 2 ^ k) e ∙ complement_below d q (2 ^ k) (h % 2 ^ k) (mod-lt h (pow_pos k))

-- n mod 2 ^ k, for k from 11 on, has the low eleven bits of n.
pub low_bits-mod : (n k : ℕ) → 11 ≤ k → n % 2 ^ k % 2 ^ 11 ≡ n % 2 ^ 11
low_bits-mod n k h = let e :
    k ≡ (k - 11) + 11 = omega arith in ap (λ j. n % 2 ^ j % 2 ^ 11) e ∙ mod-mod-pow n (k - 11) 11

-- ---- groups
pub group_of-lt :
    (p : VirtualPage) (order : ℕ) (secondary : Bool)
    → group_of p order secondary < group_count order
unfolding group_of
group_of-lt p order false = mod-lt (hash_of p) (pow_pos (order - 7))
group_of-lt p order true = let h :
    hash_of p % group_count order < group_count order =
    mod-lt (hash_of p) (pow_pos (order - 7)) in omega arith

-- The two groups of a page differ.
pub group_of-apart :
    (p : VirtualPage) (order : ℕ) → 8 ≤ order → group_of p order false ≢ group_of p order true
unfolding group_of
group_of-apart p order h e =
    let even : group_count order ≡ 2 ^ (order - 8) * 2 ^ 1 = ap (λ n. 2 ^ n) (omega arith) ∙ pow-add
    2 (order - 8) 1 in
    let below : hash_of p % group_count order < group_count order = mod-lt (hash_of p)
    (pow_pos (order - 7)) in
    omega arith

-- A group gives back the low bits of the hash.
pub low_hash-group :
    (p : VirtualPage) (order : ℕ) (secondary : Bool)
    → least_order ≤ order
    → low_hash (group_of p order secondary) secondary ≡ hash_of p % 2 ^ 11
unfolding group_of
low_hash-group p order false h = low_bits-mod (hash_of p) (order - 7) (omega arith)
low_hash-group p order true h =
    let split : order - 7 ≡ (order - 18) + 11 = omega arith in
    let below : hash_of p % 2 ^ (order - 7) < 2 ^ (order - 7) = mod-lt (hash_of p)
    (pow_pos (order - 7)) in
    let low : hash_of p % 2 ^ (order - 7) % 2 ^ 11 ≡ hash_of p % 2 ^ 11 = low_bits-mod (hash_of p)
    (order - 7) (omega arith) in
    let turned :
    (2 ^ (order - 7) - 1 - hash_of p % 2 ^ (order - 7)) % 2 ^ 11
    ≡ 2 ^ 11 - 1 - hash_of p % 2 ^ (order - 7) % 2 ^ 11 =
    subst
    (λ k.
    hash_of p % 2 ^ (order - 7) < 2 ^ k
    → (2 ^ k - 1 - hash_of p % 2 ^ (order - 7)) % 2 ^ 11
    ≡ 2 ^ 11 - 1 - hash_of p % 2 ^ (order - 7) % 2 ^ 11) (sym split)
    (complement-mod (order - 18) 11 (hash_of p % 2 ^ (order - 7))) below in
    omega arith

-- ---- the groups as they are computed
hash_of-lt : (p : VirtualPage) → hash_of p < 2 ^ 39
hash_of-lt p = mod-lt _ (pow_pos 39)

mask_is : (order : ℕ) → order ≤ 46 → 1 * 2 ^ (order - 7) % 2 ^ 64 ≡ 2 ^ (order - 7)
mask_is order h =
    let small : 2 ^ (order - 7) < 2 ^ 64 = pow-lt {i = order - 7} {j = 64} (omega arith) in
    ap (λ n. n % 2 ^ 64) (one-mul (2 ^ (order - 7))) ∙ mod-eq_of_lt small

pub primary-computed :
    (p : VirtualPage) (order hash : ℕ)
    → order ≤ 46
    → hash ≡ hash_of p
    → bit_and hash (1 * 2 ^ (order - 7) % 2 ^ 64 - 1) ≡ group_of p order false
unfolding group_of
primary-computed p order hash h e = rw (e, mask_is order h) (and_mask (hash_of p) (order - 7))

pub secondary-computed :
    (p : VirtualPage) (order hash : ℕ)
    → order ≤ 46
    → hash ≡ hash_of p
    → bit_and (2 ^ 64 - 1 - hash) (1 * 2 ^ (order - 7) % 2 ^ 64 - 1) ≡ group_of p order true
unfolding group_of
secondary-computed p order hash h e =
    let split : 64 ≡ (64 - (order - 7)) + (order - 7) = omega arith in
    let small : hash_of p < 2 ^ 64 = omega (arith, hash_of-lt p) in
    let turned :
    (2 ^ 64 - 1 - hash_of p) % 2 ^ (order - 7)
    ≡ 2 ^ (order - 7) - 1 - hash_of p % 2 ^ (order - 7) =
    subst
    (λ n.
    hash_of p < 2 ^ n
    → (2 ^ n - 1 - hash_of p) % 2 ^ (order - 7)
    ≡ 2 ^ (order - 7) - 1 - hash_of p % 2 ^ (order - 7)) (sym split)
    (complement-mod (64 - (order - 7)) (order - 7) (hash_of p)) small in
    rw (e, mask_is order h) (and_mask (2 ^ 64 - 1 - hash_of p) (order - 7) ∙ turned)
