-- Powers of two, and multiples of them.
use Rattle.std.proofs.Common.{◌≡◌, ℕ, ◌+◌, ◌-◌, ◌*◌, ◌/◌, ◌%◌, ◌^◌, ◌<◌, ◌≤◌, sym, ap, ◌∙◌, inl, inr, ◌⊎◌, arith}
use Rattle.std.proofs.lemmas.Bool.{cases_order}
use Rattle.std.proofs.Math.Nat.{mul_assoc}
use Rattle.std.proofs.lemmas.Nat.{pow-add, pow_below, div-add-mod'}

pub pow_split : (low high : ℕ) → low ≤ high → 2 ^ high ≡ 2 ^ (high - low) * 2 ^ low
pow_split low high below =
    ap (λ n. 2 ^ n) (let e : high ≡ high - low + low = omega arith in e)
    ∙ pow-add 2 (high - low) low

pub pow_most : (i j : ℕ) → i ≤ j → 2 ^ i ≤ 2 ^ j
pow_most i j below = at (cases_order i j) where
  at : (i ≡ j) ⊎ ((i < j) ⊎ (j < i)) → 2 ^ i ≤ 2 ^ j
  at (inl same) = let e : 2 ^ i ≡ 2 ^ j = ap (λ n. 2 ^ n) same in omega arith
  at (inr (inl lower)) = let e : 2 ^ i < 2 ^ j = pow_below i j lower in omega arith
  at (inr (inr higher)) = absurd (omega arith)

-- A multiple of a size is one of each smaller size too.
pub multiple_of_lower :
    (n low high : ℕ) → low ≤ high → n % 2 ^ high ≡ 0 → (q : ℕ) × (n ≡ q * 2 ^ low)
multiple_of_lower n low high below aligned =
    let parts : n / 2 ^ high * 2 ^ high + n % 2 ^ high ≡ n = div-add-mod' n (2 ^ high) in
    let whole : n ≡ n / 2 ^ high * 2 ^ high = omega arith in (
      n / 2 ^ high * 2 ^ (high - low),
      whole
          ∙ ap (λ size. n / 2 ^ high * size) (pow_split low high below)
          ∙ sym (mul_assoc (n / 2 ^ high) (2 ^ (high - low)) (2 ^ low)),
    )
