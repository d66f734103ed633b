-- The places of a legal history rise after each change.
use Rattle.std.proofs.Common.{◌≡◌, ◌<◌, ◌≤◌, List, [], ◌∷◌, ◌++◌, ap, sym, ◌∙◌, subst, ◌⊎◌, inl, inr, arith}
use Rattle.std.proofs.lemmas.Bool.{false≢true}
use Rattle.entry_model.specs.State.{State}
use Rattle.entry_model.specs.declared.receipt.Receipt.{Receipt}
use Rattle.entry_model.specs.Receipt.{after_of}
use Rattle.entry_model.specs.History.{IsLegal, pair_of, place, state_eq}
use Rattle.entry_model.proofs.Sorted.{state_self, rises, flag}
use Rattle.entry_model.proofs.FrontLaws.{after_rises}
use Rattle.run_model.specs.StoreLaws.{ChangesEntry, ChangesHavePlacesOfTheirOwn}

-- A receipt that changed its entry raised the pair.
raised : (r : Receipt) → ChangesEntry r → pair_of r.before < pair_of (after_of r)
raised r change = at (rises r) where
  at :
      (after_of r ≡ r.before) ⊎ (pair_of r.before < pair_of (after_of r))
      → pair_of r.before < pair_of (after_of r)
  at (inl same) =
      absurd (false≢true (sym change ∙ ap (λ s. state_eq s r.before) same ∙ state_self r.before))
  at (inr more) = more

-- The pair never falls.
later :
    (a b : State) (ys zs : List Receipt) (s : Receipt)
    → IsLegal a (ys ++ s ∷ zs) b
    → pair_of a ≤ pair_of s.before
later a b [] zs s h = let e = ap pair_of h.0 in omega arith
later a b (y ∷ ys) zs s h =
    let e = ap pair_of h.0 in
    let up = after_rises y in
    let more = later (after_of y) b ys zs s h.1 in
    omega arith

behind :
    (a b : State) (xs ys zs : List Receipt) (r s : Receipt)
    → IsLegal a (xs ++ r ∷ ys ++ s ∷ zs) b
    → ChangesEntry r
    → place r < place s
behind a b [] ys zs r s h change =
    let up = raised r change in
    let more = later (after_of r) b ys zs s h.1 in
    let low = (flag r).1 in
    let high = (flag s).0 in
    omega arith
behind a b (x ∷ xs) ys zs r s h change = behind (after_of x) b xs ys zs r s h.1 change

pub places_rise : ChangesHavePlacesOfTheirOwn
places_rise e a b all xs ys zs r s legal is change =
    behind a b xs ys zs r s (subst (λ l. IsLegal a l b) is legal) change
