-- Receipts on given states, and texts that begin with a text.
use Rattle.std.specs.Prelude.{nat_eq}
use Rattle.std.specs.List.{AllByRecursion, starts_with}
use Rattle.std.specs.Cmp.Lexicographic.{same_text, other_text}
use Rattle.std.proofs.Common.{◌≡◌, ℕ, ◌+◌, ◌<◌, ◌≤◌, List, [], ◌∷◌, ◌++◌, true, false, ap, sym, ◌∙◌, subst, length, take, drop, map, get_or}
use Rattle.std.proofs.lemmas.List.{take_more, take-append-drop, length-map, take_all}
use Rattle.std.proofs.Math.Seq.{take-append_seam}
use Rattle.entry_model.specs.State.{State}
use Rattle.entry_model.specs.declared.receipt.Receipt.{Receipt}
use Rattle.receipt_text.specs.Marks.{IsMark}
use Rattle.receipt_text.specs.Receipts.{mark_of}
use Rattle.history_check.specs.Replay.{before_each}

-- ---- receipts
pub one_marked :
    (rs : List Receipt) (i : ℕ) (r : Receipt)
    → i < length rs
    → r ≡ get_or rs i r
    → IsMark (mark_of r)
    → AllByRecursion IsMark (map mark_of (take i rs))
    → AllByRecursion IsMark (map mark_of (take (i + 1) rs))
one_marked rs i r low at mark h =
    subst (λ l. AllByRecursion IsMark (map mark_of l))
    (sym (take_more rs i r low ∙ ap (λ z. take i rs ++ z ∷ []) (sym at))) (both (take i rs) h)
  where
    both :
        (xs : List Receipt)
        → AllByRecursion IsMark (map mark_of xs)
        → AllByRecursion IsMark (map mark_of (xs ++ r ∷ []))
    both [] k = (mark, tt)
    both (x ∷ xs) k = (k.0, both xs k.1)

pub all_marked :
    (rs : List Receipt) (i : ℕ)
    → length rs ≤ i
    → AllByRecursion IsMark (map mark_of (take i rs))
    → AllByRecursion IsMark (map mark_of rs)
all_marked rs i past h = subst (λ l. AllByRecursion IsMark (map mark_of l)) (take_all i rs past) h

pub as_many : (rs : List Receipt) (ss : List State) → before_each rs ≡ ss → length rs ≡ length ss
as_many rs ss e = sym (length-map rs (λ (r : Receipt). r.before)) ∙ ap length e

-- ---- texts
pub begins :
    (given text : List ℕ)
    → starts_with nat_eq given text ≡ true
    → given ≡ text ++ drop (length text) given
begins given text e =
    sym (take-append-drop (length text) given)
    ∙ ap (λ z. z ++ drop (length text) given)
    (sym (same_text text (take (length text) given) (sym e)))

pub begins_not :
    (given text rest : List ℕ) → starts_with nat_eq given text ≡ false → given ≡ text ++ rest → ⊥
begins_not given text rest e same =
    other_text text (take (length text) given) (sym e)
    (sym (take-append_seam text rest) ∙ ap (take (length text)) (sym same))
