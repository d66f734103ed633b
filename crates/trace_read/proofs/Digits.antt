-- A number that is read digit by digit.
use Rattle.std.proofs.Common.{ℕ, ◌+◌, ◌*◌, ◌^◌, ◌<◌, ◌≤◌, arith, ◌≡◌, ◌∙◌, sym, true, add-one, List, [], ◌∷◌, Bool, length, take, get_or}
use Rattle.std.specs.Char.{digit_value}
use Rattle.std.specs.List.{slice_split, position_or_len}
use Rattle.std.specs.Str.Parse.{digits_value}
use Rattle.std.proofs.lemmas.Bool.{and_from, lt-ltb}
use Rattle.std.proofs.lemmas.Int.Digits.{digits_value_more}
use Rattle.std.proofs.lemmas.List.Folds.{list_all_more}
use Rattle.std.proofs.lemmas.List.Splits.{slice_split_none}
use Rattle.std.proofs.lemmas.List.Sums.{fails_before_first}
use Rattle.std.proofs.Math.Nat.{pow-suc, pow-le-pow_right, mul-le-mul_right}
use Rattle.trace_read.specs.Numbers.{all_digits}

-- The first bytes of a word are digits, and this is what they write.
pub record AreRead (base : ℕ) (word : List ℕ) (i value : ℕ) : Type 0 where
  pub digits : all_digits base (take i word) ≡ true
  pub value_is : value ≡ digits_value base (take i word)
  pub small : value < base ^ i

-- So many digits of a base write a number below that power of the base.
pub AreRead-below : (base most : ℕ) (word : List ℕ) (i value : ℕ) → 0 < base → i ≤ most
    → AreRead base word i value → value < base ^ most
AreRead-below base most word i value some few read =
    let power : base ^ i ≤ base ^ most = pow-le-pow_right some few in
    omega (arith, read.small)

next_small : (v base i d : ℕ) → v < base ^ i → d < base → v * base + d < base ^ (i + 1)
next_small v base i d h k =
    let more : (v + 1) * base ≤ base ^ i * base = mul-le-mul_right base (omega arith) in
    let power : base ^ (i + 1) ≡ base ^ i * base = rw add-one (pow-suc base i) in
    omega arith

-- With one digit more the value is the base's multiple of the old one and the digit.
pub AreRead-more : (base : ℕ) (word : List ℕ) (i value d : ℕ) → i < length word
    → d ≡ digit_value (get_or word i 0)
    → d < base
    → AreRead base word i value
    → AreRead base word (i + 1) (value * base + d)
AreRead-more base word i value d within is low read = record {
  digits = list_all_more _ word i 0 within ∙ and_from _ _ read.digits (rw (← is) (lt-ltb _ _ low));
  value_is = rw (read.value_is, is) (sym (digits_value_more base word i within));
  small = next_small value base i d read.small low;
}

-- a list without an element that passes is one part
pub slice_split_whole :
    {X : Type 0} (p : X → Bool) (xs : List X)
    → length xs ≤ position_or_len p xs
    → slice_split p xs ≡ xs ∷ []
slice_split_whole p xs h =
    slice_split_none p xs (λ k d within. fails_before_first p xs k d (omega arith))
