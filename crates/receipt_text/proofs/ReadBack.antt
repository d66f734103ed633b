-- The line of receipts has their marks.
use Rattle.std.proofs.Common.{◌≡◌, ℕ, ◌≤◌, List, [], ◌∷◌, ◌++◌, true, false, sym, refl, subst, ◌⊎◌, inl, inr, map, length, arith, Option, Some, None, append-nil, ap, ◌∙◌}
use Rattle.std.proofs.lemmas.List.{length-map}
use Rattle.std.specs.Prelude.{◌==◌, MatchOption}
use Rattle.std.specs.List.{AllByRecursion, flat_map}
use Rattle.std.proofs.lemmas.Bool.{cases_Bool, false≢true}
use Rattle.entry_model.specs.declared.receipt.Receipt.{Receipt}
use Rattle.receipt_text.specs.Receipts.{mark_of, mark_text, receipt_text, receipts_text}
use Rattle.receipt_text.specs.Cuts.{lacks}
use Rattle.receipt_text.specs.Marks.{behind_bar, IsMark, AreSpelt, HasMarks}
use Rattle.receipt_text.proofs.Bytes.{lacks_append, lacks_back}
use Rattle.receipt_text.proofs.MarkTexts.{spelt_once, word_10}

-- ---- the bar
first_lacks : (y : ℕ) (a : List ℕ) → lacks 124 (y ∷ a) ≡ true → (y == 124) ≡ false
first_lacks y a h = at (cases_Bool (y == 124)) where
  at : (y == 124 ≡ true) ⊎ (y == 124 ≡ false) → (y == 124) ≡ false
  at (inl e) = let f : false ≡ true = rw e at h in absurd (false≢true f)
  at (inr e) = e

no_start :
    (x y : ℕ) (a : List ℕ) (P : Option (List ℕ) → Type 0)
    → (y == 124) ≡ false
    → P (behind_bar (y ∷ a))
    → P (behind_bar (x ∷ y ∷ a))
no_start x y a P e h = at (cases_Bool (x == 32)) where
  at : (x == 32 ≡ true) ⊎ (x == 32 ≡ false) → P (behind_bar (x ∷ y ∷ a))
  at (inl q) = rw (q, e) h
  at (inr q) = rw q h

-- After a front without a bar.
bar_behind : (a rest : List ℕ) → lacks 124 a ≡ true → behind_bar (a ++ 32 ∷ 124 ∷ rest) ≡ Some rest
bar_behind [] rest h = refl
bar_behind (x ∷ []) rest h = no_start x 32 (124 ∷ rest) (λ o. o ≡ Some rest) refl refl
bar_behind (x ∷ y ∷ a) rest h =
    let k : lacks 124 (y ∷ a) ≡ true = lacks_back 124 (x ∷ []) (y ∷ a) h in
    no_start x y (a ++ 32 ∷ 124 ∷ rest) (λ o. o ≡ Some rest) (first_lacks y a k)
    (bar_behind (y ∷ a) rest k)

no_bar : (a : List ℕ) → lacks 124 a ≡ true → behind_bar a ≡ None
no_bar [] h = refl
no_bar (x ∷ []) h = refl
no_bar (x ∷ y ∷ a) h =
    let k : lacks 124 (y ∷ a) ≡ true = lacks_back 124 (x ∷ []) (y ∷ a) h in
    no_start x y a (λ o. o ≡ None) (first_lacks y a k) (no_bar (y ∷ a) k)

-- ---- the receipts
receipts_marks :
    (rs : List Receipt) → flat_map receipt_text rs ≡ flat_map mark_text (map mark_of rs)
receipts_marks [] = refl
receipts_marks (r ∷ rs) = ap (λ z. receipt_text r ++ z) (receipts_marks rs)

-- The marks of a front and receipts.
pub line_has_marks :
    (a : List ℕ) (rs : List Receipt)
    → lacks 124 a ≡ true
    → length rs ≤ 16
    → AllByRecursion IsMark (map mark_of rs)
    → HasMarks (a ++ receipts_text rs) (map mark_of rs)
line_has_marks a [] h few marks = rw (append-nil a, no_bar a h) refl
line_has_marks a (r ∷ rs) h few marks =
    let e : behind_bar (a ++ receipts_text (r ∷ rs)) ≡ Some (flat_map receipt_text (r ∷ rs)) =
    bar_behind a (flat_map receipt_text (r ∷ rs)) h in
    subst
    (λ o.
    MatchOption o (map mark_of (r ∷ rs) ≡ []) (λ rest. AreSpelt rest (map mark_of (r ∷ rs))))
    (sym e)
    (record {
      some = omega arith;
      most = omega (arith, few, length-map rs mark_of);
      marks = marks;
      text = receipts_marks (r ∷ rs);
    })

-- Receipts with the same text show the same marks.
pub listed_marks :
    (rs qs : List Receipt)
    → AllByRecursion IsMark (map mark_of rs)
    → AllByRecursion IsMark (map mark_of qs)
    → flat_map receipt_text rs ≡ flat_map receipt_text qs
    → map mark_of rs ≡ map mark_of qs
listed_marks rs qs h k e =
    spelt_once (map mark_of rs) (map mark_of qs) h k
    (sym (receipts_marks rs) ∙ e ∙ receipts_marks qs)

each_lacks : (rs : List Receipt) → lacks 10 (flat_map receipt_text rs) ≡ true
each_lacks [] = refl
each_lacks (r ∷ rs) =
    lacks_append 10 (receipt_text r) (flat_map receipt_text rs) (word_10 (mark_of r))
    (each_lacks rs)

-- Receipts have no line's end.
pub receipts_lack : (rs : List Receipt) → lacks 10 (receipts_text rs) ≡ true
receipts_lack [] = refl
receipts_lack (r ∷ rs) = each_lacks (r ∷ rs)
