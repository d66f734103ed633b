-- What fits into a room.
use Rattle.std.proofs.Common.{◌≡◌, ◌==◌, ℕ, ◌+◌, ◌-◌, ◌≤◌, min, List, ◌++◌, take, length, ap, sym, ◌∙◌, arith, nat_le}
use Rattle.std.proofs.lemmas.List.{take_min, length-take}
use Rattle.std.proofs.Math.Seq.{take-append-add}
use Rattle.std.proofs.lemmas.Bool.Decides.{nat_tests}

-- What a list and the fitting part of another keep is what both together keep.
pub take_in_room :
    (kept front : List ℕ) (room : ℕ)
    → length kept ≤ room
    → kept ++ take (min (room - length kept) (length front)) front ≡ take room (kept ++ front)
take_in_room kept front room within =
    let split : length kept + (room - length kept) ≡ room = omega arith in
    ap (λ z. kept ++ z) (take_min (room - length kept) front)
    ∙ sym (take-append-add kept front (room - length kept))
    ∙ ap (λ n. take n (kept ++ front)) split

-- All of a list fits exactly if the sum of the lengths does.
pub whole_in_room :
    (kept front room : ℕ)
    → kept ≤ room
    → (min (room - kept) front == front) ≡ nat_le (kept + front) room
whole_in_room kept front room within = grind (arith, nat_tests)

-- A front as long as a front is that front.
pub front_again : (n : ℕ) (xs : List ℕ) → take (length (take n xs)) xs ≡ take n xs
front_again n xs = rw (length-take n xs) (take_min n xs)
