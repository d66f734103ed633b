-- Words that contracts of several crates cite: equal truth values, the first refusal that holds,
-- and a number that is there.
use Rattle.std.specs.Prelude.{ℕ, ◌==◌, Bool, true, false, not, List, find, Option, Some, None, option_map}

-- The two truth values are the same.
abbrev pub bool_eq : Bool → Bool → Bool
bool_eq true b = b
bool_eq false b = not b

-- Of these tests, which are tried in their order, the first that holds says why something is
-- refused.
abbrev pub first_refusal : {E : Type 0} → List (Bool × E) → Option E
first_refusal {E} tests =
    option_map (λ (test : Bool × E). test.1) (find (λ (test : Bool × E). test.0) tests)

-- There is a number, and it is this one.
abbrev pub is_number : ℕ → Option ℕ → Bool
is_number number None = false
is_number number (Some other) = other == number
