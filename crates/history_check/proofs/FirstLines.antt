-- What a search for a line's end gives.
use Rattle.std.specs.Prelude.{◌==◌}
use Rattle.std.proofs.Common.{◌≡◌, ℕ, suc, ◌+◌, ◌-◌, ◌<◌, List, [], ◌∷◌, ◌++◌, true, false, refl, ap, sym, ◌∙◌, ◌⊎◌, inl, inr, length, length-drop, take, drop, get_or, arith, Some, None}
use Rattle.std.proofs.lemmas.Bool.{cases_Bool, eqb-true}
use Rattle.std.proofs.lemmas.List.{get_or-take, drop_more, take-append-drop, length-take-le, take_all}
use Rattle.memchr.specs.Find.{IsFirstByte, is_byte}
use Rattle.receipt_text.specs.Cuts.{lacks}

lacks_all :
    (c : ℕ) (xs : List ℕ)
    → ((k : ℕ) → k < length xs → (get_or xs k 0 == c) ≡ true → ⊥)
    → lacks c xs ≡ true
lacks_all c [] none = refl
lacks_all c (x ∷ xs) none =
    at (cases_Bool (x == c)) (lacks_all c xs (λ k low. none (suc k) (omega arith))) where
      at : (x == c ≡ true) ⊎ (x == c ≡ false) → lacks c xs ≡ true → lacks c (x ∷ xs) ≡ true
      at (inl own) rest = absurd (none 0 (omega arith) own)
      at (inr other) rest = rw other rest

-- The text has no such byte.
pub none_lacks : (c : ℕ) (text : List ℕ) → IsFirstByte (is_byte c) text None → lacks c text ≡ true
none_lacks c text none = lacks_all c text (λ k low. none k (omega arith) low)

-- The text before the first such byte has none.
pub first_lacks :
    (c i : ℕ) (text : List ℕ) → IsFirstByte (is_byte c) text (Some i) → lacks c (take i text) ≡ true
first_lacks c i text first =
    lacks_all c (take i text)
    (λ k low own.
    let below : k < i = omega (arith, low, length-take-le i text (omega (arith, first.0.high)))
    in
    first.0.before k (omega arith) below
    (ap (λ z. z == c) (sym (get_or-take i text k 0 below)) ∙ own))

-- The text is what is before, the byte, and what is after.
pub first_parts :
    (c i : ℕ) (text : List ℕ)
    → IsFirstByte (is_byte c) text (Some i)
    → text ≡ take i text ++ c ∷ take (length text - (i + 1)) (drop (i + 1) text)
first_parts c i text first =
    let rest : take (length text - (i + 1)) (drop (i + 1) text) ≡ drop (i + 1) text = take_all _ _
    (omega (arith, length-drop (i + 1) text)) in
    sym (take-append-drop i text)
    ∙ ap (λ z. take i text ++ z)
    (drop_more text i 0 first.0.high
    ∙ (λ j. eqb-true (get_or text i 0) c first.1 j ∷ sym rest j))
