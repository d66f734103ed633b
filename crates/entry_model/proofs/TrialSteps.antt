-- One step of a trial over entries that stand one after the other.
use Rattle.std.specs.Prelude.{map}
use Rattle.std.proofs.Common.{◌≡◌, ℕ, ◌-◌, List, [], ◌∷◌, ◌++◌, length, drop, Bool, true, false, Some, sym, ap, ◌∙◌, refl, append_assoc, arith}
use Rattle.std.proofs.lemmas.List.{length-append}
use Rattle.std.proofs.Math.Seq.{drop-append_seam}
use Rattle.std.specs.List.{range_with_len, slice_get}
use Rattle.entry_model.specs.declared.operation.Op.{Op}
use Rattle.entry_model.specs.declared.operation.Answer.{Answer}
use Rattle.entry_model.specs.declared.receipt.Receipt.{Receipt}
use Rattle.entry_model.specs.Trial.{Call, call, ending_of, receipts_added}

-- The calls on n entries from one on.
abbrev pub calls_from : Op → ℕ → ℕ → List Call
calls_from op first n = map (call op) (range_with_len first n)

-- ---- the receipt that ends a trial
pub ending-on :
    (goes : Answer → Bool) (r : Receipt) (rs : List Receipt)
    → goes r.answer ≡ true
    → ending_of goes (r ∷ rs) ≡ ending_of goes rs
ending-on goes r rs on = rw on refl

pub ending-off :
    (goes : Answer → Bool) (r : Receipt) (rs : List Receipt)
    → goes r.answer ≡ false
    → ending_of goes (r ∷ rs) ≡ Some r
ending-off goes r rs off = rw off refl

-- ---- the receipts after those of before

pub added-push :
    (old new : List Receipt) (r : Receipt)
    → new ≡ old ++ receipts_added old new
    → receipts_added old (new ++ r ∷ []) ≡ receipts_added old new ++ r ∷ []
added-push old new r behind =
    ap (λ z. drop (length old) (z ++ r ∷ [])) behind
    ∙ ap (drop (length old)) (append_assoc old (receipts_added old new) (r ∷ []))
    ∙ drop-append_seam old (receipts_added old new ++ r ∷ [])

pub behind-push :
    (old new : List Receipt) (r : Receipt)
    → new ≡ old ++ receipts_added old new
    → new ++ r ∷ [] ≡ old ++ receipts_added old (new ++ r ∷ [])
behind-push old new r behind =
    ap (λ z. z ++ r ∷ []) behind
    ∙ append_assoc old (receipts_added old new) (r ∷ [])
    ∙ ap (λ z. old ++ z) (sym (added-push old new r behind))

-- The one that was put there last.
pub last_pushed :
    (rs : List Receipt) (r : Receipt)
    → slice_get (rs ++ r ∷ []) (length (rs ++ r ∷ []) - 1) ≡ Some r
last_pushed rs r =
    let at : length (rs ++ r ∷ []) - 1 ≡ length rs = omega (arith, length-append rs (r ∷ [])) in
    ap (slice_get (rs ++ r ∷ [])) at ∙ seam rs where
      seam : (qs : List Receipt) → slice_get (qs ++ r ∷ []) (length qs) ≡ Some r
      seam [] = refl
      seam (q ∷ qs) = seam qs
