-- Opening tables one after the other, and one more.
use Rattle.std.specs.List.{AllByRecursion}
use Rattle.std.proofs.Common.{◌≡◌, ◌≢◌, ℕ, List, [], ◌∷◌, ◌++◌, map, None, refl}
use Rattle.hpt_pool.specs.Pool.{PoolState, lowest_place}
use Rattle.lpar_set.specs.OpeningTables.{HasRoomFor, with_opening, with_openings}

-- One more table takes its block after the others.
pub openings_push :
    (pool : PoolState) (orders : List ℕ) (order : ℕ)
    → with_openings pool (orders ++ order ∷ []) ≡ with_opening (with_openings pool orders) order
openings_push pool [] order = refl
openings_push pool (o ∷ os) order = openings_push (with_opening pool o) os order

-- And there is room for all of them, if there is for this one.
pub room_push :
    (pool : PoolState) (orders : List ℕ) (order : ℕ)
    → HasRoomFor pool orders
    → lowest_place (with_openings pool orders) order ≢ None
    → HasRoomFor pool (orders ++ order ∷ [])
room_push pool [] order room one = (one, tt)
room_push pool (o ∷ os) order room one =
    (room.0, room_push (with_opening pool o) os order room.1 one)

-- Functions that agree on each element map a list to one.
pub map_agree :
    {A B : Type 0} (f g : A → B) (xs : List A)
    → AllByRecursion (λ x. f x ≡ g x) xs
    → map f xs ≡ map g xs
map_agree f g [] same = refl
map_agree f g (x ∷ xs) same = rw (same.0, map_agree f g xs same.1) refl
