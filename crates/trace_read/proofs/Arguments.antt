-- The arguments of a call, read one after the other.
use Rattle.std.proofs.Common.{◌≡◌, ◌<◌, ◌≤◌, length-set, ℕ, zero, suc, ◌+◌, ◌-◌, List, [], ◌∷◌, ◌++◌, length, take, set, Result, Ok, Err, refl, arith}
use Rattle.std.proofs.lemmas.List.{take_all, take_more_set}
use Rattle.trace_read.specs.declared.why.Why.{Why}
use Rattle.trace_read.specs.Acts.{number_at, arguments_from}
use Rattle.trace_read.specs.Whys.{◌>>=◌}

-- The arguments that are read, and after them `n` more: the `k`th from an index on, and so forth.
abbrev pub arguments_onto : List (List ℕ) → ℕ → ℕ → ℕ → List ℕ → Result (List ℕ) Why
arguments_onto ws i k zero args = Ok args
arguments_onto ws i k (suc n) args =
    number_at ws (i + k) >>= (λ a. arguments_onto ws i (k + 1) n (args ++ a ∷ []))

-- The first `k` of eight arguments are read.
pub record AreReadFrom (ws : List (List ℕ)) (i k : ℕ) (args : List ℕ) : Type 0 where
  pub eight : length args ≡ 8
  pub rest : arguments_from ws i ≡ arguments_onto ws i k (8 - k) (take k args)

pub AreReadFrom-none : (ws : List (List ℕ)) (i : ℕ) (args : List ℕ) → length args ≡ 8
    → AreReadFrom ws i 0 args
unfolding arguments_from
AreReadFrom-none ws i args eight =
    let first : i + 0 ≡ i = omega arith in
    record { eight = eight; rest = rw first refl }

pub AreReadFrom-more : (ws : List (List ℕ)) (i k : ℕ) (args : List ℕ) (a : ℕ) → k < 8
    → number_at ws (i + k) ≡ Ok a
    → AreReadFrom ws i k args
    → AreReadFrom ws i (k + 1) (set args k a)
AreReadFrom-more ws i k args a more is read =
    let left : 8 - k ≡ suc (8 - (k + 1)) = omega arith in
    let within : k < length args = omega (arith, read.eight) in
    record {
      eight = rw length-set read.eight;
      rest = rw (take_more_set args k a within) (rw (left, is) at read.rest);
    }

pub AreReadFrom-refused : (ws : List (List ℕ)) (i k : ℕ) (args : List ℕ) (why : Why) → k < 8
    → number_at ws (i + k) ≡ Err why → AreReadFrom ws i k args → arguments_from ws i ≡ Err why
AreReadFrom-refused ws i k args why more is read =
    let left : 8 - k ≡ suc (8 - (k + 1)) = omega arith in
    rw (left, is) at read.rest

pub AreReadFrom-all : (ws : List (List ℕ)) (i k : ℕ) (args : List ℕ) → 8 ≤ k
    → AreReadFrom ws i k args → arguments_from ws i ≡ Ok args
AreReadFrom-all ws i k args all read =
    let none : 8 - k ≡ 0 = omega arith in
    rw (none, take_all k args (omega (arith, read.eight))) at read.rest
