-- Bits in legal histories, and fronts of joins.
use Rattle.std.proofs.Common.{◌≡◌, ℕ, zero, suc, ◌≤◌, Bool, true, List, [], ◌∷◌, ◌++◌, ap, ◌∙◌, arith, inl, inr, ◌⊎◌}
use Rattle.entry_model.specs.State.{State}
use Rattle.entry_model.specs.declared.line.Line.{Line}
use Rattle.entry_model.specs.declared.receipt.Receipt.{Receipt}
use Rattle.entry_model.specs.Receipt.{after_of}
use Rattle.entry_model.specs.History.{IsLegal}
use Rattle.entry_model.specs.Fronts.{front_at, larger, IsGone}
use Rattle.entry_lock.specs.Laws.{AllKeepBit, RaisedBitsStand}

carried :
    (bit : State → Bool) (a b : State) (ys zs : List Receipt) (s : Receipt)
    → IsLegal a (ys ++ s ∷ zs) b
    → bit a ≡ true
    → AllKeepBit bit ys
    → bit s.before ≡ true
carried bit a b [] zs s h set keeps = ap bit h.0 ∙ set
carried bit a b (y ∷ ys) zs s h set keeps =
    carried bit (after_of y) b ys zs s h.1 (keeps.0 (ap bit h.0 ∙ set)) keeps.1

pub bits_stand : RaisedBitsStand
bits_stand bit a b [] ys zs r s h set keeps = carried bit (after_of r) b ys zs s h.1 set keeps
bits_stand bit a b (x ∷ xs) ys zs r s h set keeps =
    bits_stand bit (after_of x) b xs ys zs r s h.1 set keeps

larger_high :
    (f g : List ℕ) (e n : ℕ) → (n ≤ front_at f e) ⊎ (n ≤ front_at g e) → n ≤ front_at (larger f g) e
larger_high [] g e n (inl h) = omega arith
larger_high [] g e n (inr h) = h
larger_high (x ∷ xs) [] e n (inl h) = h
larger_high (x ∷ xs) [] e n (inr h) = omega arith
larger_high (x ∷ xs) (y ∷ ys) zero n (inl h) = omega arith
larger_high (x ∷ xs) (y ∷ ys) zero n (inr h) = omega arith
larger_high (x ∷ xs) (y ∷ ys) (suc e) n (inl h) = larger_high xs ys e n (inl h)
larger_high (x ∷ xs) (y ∷ ys) (suc e) n (inr h) = larger_high xs ys e n (inr h)

-- A line that is gone for either of two is gone for both joined.
pub gone_joined :
    (f g : List ℕ) (line : Line) → IsGone f line ⊎ IsGone g line → IsGone (larger f g) line
gone_joined f g line h = larger_high f g line.entry _ h
