-- Pieces of bytes, one after another.
use Rattle.std.proofs.Common.{◌≡◌, ℕ, ◌+◌, ◌-◌, ◌≤◌, List, ◌++◌, take, drop, length, ap, sym, ◌∙◌, arith, length-append, length-drop}
use Rattle.std.proofs.lemmas.List.{length-take-le, take_all}
use Rattle.std.proofs.Math.Seq.{take-add}

-- A list and the first n of another, which has as many.
pub joined_length :
    (xs ys : List ℕ) (n : ℕ) → n ≤ length ys → length (xs ++ take n ys) ≡ length xs + n
joined_length xs ys n within =
    length-append xs (take n ys) ∙ ap (λ k. length xs + k) (length-take-le n ys within)

-- The front of a text up to a place, and n more from the text's rest.
pub front_more :
    (text : List ℕ) (at n : ℕ)
    → take (at + n) text ≡ take at text ++ take n (take (length text - at) (drop at text))
front_more text at n =
    take-add at n text
    ∙ ap (λ z. take at text ++ take n z)
    (sym (take_all (length text - at) (drop at text) (omega (arith, length-drop at text))))
