-- The test of equal truth values decides equality.
use Rattle.std.specs.Prelude.{MatchBool}
use Rattle.std.proofs.Common.{◌≡◌, Bool, true, false, List, [], ◌∷◌, sym, refl}
use Rattle.basics.specs.Words.{bool_eq}

pub bool_same : (a b : Bool) → bool_eq a b ≡ true → a ≡ b
bool_same true b h = sym h
bool_same false true h = cc
bool_same false false h = refl

pub bool_self : (a : Bool) → bool_eq a a ≡ true
bool_self true = refl
bool_self false = refl

-- A list with an element doesn't end, whatever the test says.
pub no_more :
    {X : Type 0} (b : Bool) (x : X) (xs : List X) → MatchBool b ⊥ ((x ∷ xs) ≡ []) → ⊥
no_more true x xs h = h
no_more false x xs h = cc
