-- What receipts that keep fronts leave of them.
use Rattle.std.proofs.Common.{◌≡◌, ℕ, zero, suc, ◌<◌, ◌≤◌, List, [], ◌∷◌, ◌++◌, set, length, length-set, inl, inr, ◌⊎◌, refl, ap, sym, ◌∙◌, arith}
use Rattle.entry_model.specs.declared.line.Line.{Line}
use Rattle.entry_model.specs.declared.receipt.Receipt.{Receipt}
use Rattle.entry_model.specs.Receipt.{after_of}
use Rattle.entry_model.specs.History.{pair_of}
use Rattle.entry_model.specs.CachedLines.{IsLater, AllLater}
use Rattle.entry_model.specs.Fronts.{front_at, IsAhead, fronts_after, AreBelow, KeepsFronts, larger, IsGone}
use Rattle.entry_model.proofs.Sorted.{rises, bits_low}

-- Where one front is set, each is the new one of that entry, or the old one.
pub front_set :
    (f : List ℕ) (i n e : ℕ)
    → (front_at (set f i n) e ≡ front_at f e) ⊎ ((e ≡ i) × (front_at (set f i n) e ≡ n))
front_set [] i n e = inl refl
front_set (x ∷ xs) zero n zero = inr (refl, refl)
front_set (x ∷ xs) zero n (suc e) = inl refl
front_set (x ∷ xs) (suc i) n zero = inl refl
front_set (x ∷ xs) (suc i) n (suc e) = at (front_set xs i n e) where
  at :
      (front_at (set xs i n) e ≡ front_at xs e) ⊎ ((e ≡ i) × (front_at (set xs i n) e ≡ n))
      → (front_at (set xs i n) e ≡ front_at xs e)
      ⊎ ((suc e ≡ suc i) × (front_at (set xs i n) e ≡ n))
  at (inl same) = inl same
  at (inr new) = inr (ap suc new.0, new.1)

pub below_self : (f : List ℕ) → AreBelow f f
below_self f = record { size = refl; low = λ e. omega arith }

pub below_on : (f g h : List ℕ) → AreBelow f g → AreBelow g h → AreBelow f h
below_on f g h a b =
    record {
      size = b.size ∙ a.size;
      low = λ e. (let p = a.low e in let q = b.low e in omega arith);
    }

low_set :
    (f g : List ℕ) (i n : ℕ)
    → length g ≡ length f
    → ((e : ℕ) → front_at f e ≤ front_at g e)
    → (e : ℕ)
    → front_at (set f i n) e ≤ front_at (set g i n) e
low_set [] [] i n size low e = low e
low_set [] (y ∷ ys) i n size low e = absurd (omega arith)
low_set (x ∷ xs) [] i n size low e = absurd (omega arith)
low_set (x ∷ xs) (y ∷ ys) zero n size low zero = omega arith
low_set (x ∷ xs) (y ∷ ys) zero n size low (suc e) = low (suc e)
low_set (x ∷ xs) (y ∷ ys) (suc i) n size low zero = low zero
low_set (x ∷ xs) (y ∷ ys) (suc i) n size low (suc e) =
    low_set xs ys i n (omega arith) (λ k. low (suc k)) e

below_set : (f g : List ℕ) (i n : ℕ) → AreBelow f g → AreBelow (set f i n) (set g i n)
below_set f g i n b =
    record {
      size = length-set g i n ∙ b.size ∙ sym (length-set f i n);
      low = low_set f g i n b.size b.low;
    }

-- ---- receipts that keep fronts
pub lower_keeps :
    (f g h : List ℕ) (rs : List Receipt) → AreBelow f g → KeepsFronts g rs h → KeepsFronts f rs h
lower_keeps f g h [] b k = below_on f g h b k
lower_keeps f g h (r ∷ rs) b k = (
  (let p = b.low r.entry in let q = k.0 in omega arith),
  lower_keeps (fronts_after f r) (fronts_after g r) h rs
      (below_set f g r.entry (pair_of (after_of r)) b) k.1,
)

-- Two lists of them, one after the other, are one.
pub keeps_more :
    (f g h : List ℕ) (xs ys : List Receipt)
    → KeepsFronts f xs g
    → KeepsFronts g ys h
    → KeepsFronts f (xs ++ ys) h
keeps_more f g h [] ys a b = lower_keeps f g h ys a b
keeps_more f g h (x ∷ xs) ys a b = (a.0, keeps_more (fronts_after f x) g h xs ys a.1 b)

-- A receipt that is ahead of the fronts keeps them.
pub one_keeps : (f : List ℕ) (r : Receipt) → IsAhead f r → KeepsFronts f (r ∷ []) (fronts_after f r)
one_keeps f r ahead = (ahead, below_self (fronts_after f r))

pub after_rises : (r : Receipt) → pair_of r.before ≤ pair_of (after_of r)
after_rises r = at (rises r) where
  at :
      (after_of r ≡ r.before) ⊎ (pair_of r.before < pair_of (after_of r))
      → pair_of r.before ≤ pair_of (after_of r)
  at (inl same) = let e = ap pair_of same in omega arith
  at (inr more) = omega arith

rises_by :
    (f : List ℕ) (r : Receipt)
    → IsAhead f r
    → (e : ℕ)
    → front_at f e ≤ front_at (fronts_after f r) e
rises_by f r ahead e = at (front_set f r.entry (pair_of (after_of r)) e) where
  at :
      (front_at (fronts_after f r) e ≡ front_at f e)
      ⊎ ((e ≡ r.entry) × (front_at (fronts_after f r) e ≡ pair_of (after_of r)))
      → front_at f e ≤ front_at (fronts_after f r) e
  at (inl same) = omega arith
  at (inr new) =
      let p = ap (front_at f) new.0 in let q = new.1 in let up = after_rises r in omega arith

-- Fronts never fall.
pub keeps_below : (f g : List ℕ) (rs : List Receipt) → KeepsFronts f rs g → AreBelow f g
keeps_below f g [] k = k
keeps_below f g (r ∷ rs) k =
    below_on f (fronts_after f r) g
    (record { size = length-set f r.entry (pair_of (after_of r)); low = rises_by f r k.0 })
    (keeps_below (fronts_after f r) g rs k.1)

-- ---- lines that are gone
pub gone_on : (f g : List ℕ) (line : Line) → AreBelow f g → IsGone f line → IsGone g line
gone_on f g line b gone = let p = b.low line.entry in omega arith

gone_before :
    (f : List ℕ) (r : Receipt) (line : Line) → IsAhead f r → IsGone f line → IsLater line r
unfolding pair_of
gone_before f r line ahead gone e =
    let p = ap (front_at f) e in
    let low = bits_low r.before.referenced r.before.changed in
    omega arith

-- Receipts of an entry that had left the line's stamp come after the line.
pub gone_past :
    (f g : List ℕ) (rs : List Receipt) (line : Line)
    → KeepsFronts f rs g
    → IsGone f line
    → AllLater line rs
gone_past f g [] line k gone = tt
gone_past f g (r ∷ rs) line k gone = (
  gone_before f r line k.0 gone,
  gone_past (fronts_after f r) g rs line k.1
      (gone_on f (fronts_after f r) line
      (record {
        size = length-set f r.entry (pair_of (after_of r));
        low = rises_by f r k.0;
      }) gone),
)

-- ---- the larger of two fronts
pub larger_low :
    (f g : List ℕ) (e n : ℕ) → front_at f e ≤ n → front_at g e ≤ n → front_at (larger f g) e ≤ n
larger_low [] g e n a b = b
larger_low (x ∷ xs) [] e n a b = a
larger_low (x ∷ xs) (y ∷ ys) zero n a b = omega arith
larger_low (x ∷ xs) (y ∷ ys) (suc e) n a b = larger_low xs ys e n a b
