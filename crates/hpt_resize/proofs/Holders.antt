-- What holders hold, as lists.
use Rattle.std.proofs.Common.{◌≡◌, ℕ, zero, suc, ◌<◌, length, map, set, get_or, List, [], ◌∷◌, true, false, refl, sym, ap, ◌∙◌, arith}
use Rattle.std.proofs.lemmas.List.{get_or-map}
use Rattle.entry_model.specs.State.{State, empty_state}
use Rattle.entry_model.specs.Run.{state_at}
use Rattle.hpt_resize.specs.Holders.{all_holding}

-- What is read of a holder.
pub held_at :
    {X : Type 0} (held : X → State) (xs : List X) (i : ℕ) (x : X)
    → i < length xs
    → x ≡ get_or xs i x
    → state_at (map held xs) i ≡ held x
held_at held xs i x inside is =
    get_or-map held xs i x (empty_state 0) inside ∙ ap held (sym is)

-- ---- holders so far
-- Each holds a state for the first time, or none that is valid.
abbrev pub AreHolders :
    {X : Type 0} → (X → State) → (X → State → X) → List X → List X → Type 0
AreHolders held holding [] [] = Unit {0}
AreHolders held holding [] (n ∷ ns) = ⊥
AreHolders held holding (o ∷ os) [] = ⊥
AreHolders held holding (o ∷ os) (n ∷ ns) =
    ((n ≡ holding o (held n)) × ((held n).valid ≡ false → n ≡ o)) × AreHolders held holding os ns

pub holders_start :
    {X : Type 0} (held : X → State) (holding : X → State → X)
    → ((x : X) → holding x (held x) ≡ x)
    → (xs : List X)
    → AreHolders held holding xs xs
holders_start held holding stays [] = tt
holders_start held holding stays (x ∷ xs) =
    ((sym (stays x), λ free. refl), holders_start held holding stays xs)

-- One that holds no valid state takes one.
pub holders_more :
    {X : Type 0} (held : X → State) (holding : X → State → X)
    → ((x : X) (s : State) → held (holding x s) ≡ s)
    → (os ns : List X) (i : ℕ) (x : X) (s : State)
    → i < length ns
    → x ≡ get_or ns i x
    → (held x).valid ≡ false
    → s.valid ≡ true
    → AreHolders held holding os ns
    → AreHolders held holding os (set ns i (holding x s))
holders_more held holding given os [] i x s inside is free valid h = absurd (omega (arith, inside))
holders_more held holding given [] (n ∷ ns) i x s inside is free valid h = absurd h
holders_more held holding given (o ∷ os) (n ∷ ns) zero x s inside is free valid h =
    let same : x ≡ o = is ∙ h.0.1 (ap (λ y. (held y).valid) (sym is) ∙ free) in
    let now : held (holding x s) ≡ s = given x s in
    let other : (held (holding x s)).valid ≡ true = ap (λ (t : State). t.valid) now ∙ valid in (
      (
        (λ k. holding (same k) (sym now k)),
        λ none. absurd (cc),
      ),
      h.1,
    )
holders_more held holding given (o ∷ os) (n ∷ ns) (suc i) x s inside is free valid h =
    (h.0, holders_more held holding given os ns i x s (omega (arith, inside)) is free valid h.1)

pub holders_all :
    {X : Type 0} (held : X → State) (holding : X → State → X) (os ns : List X)
    → AreHolders held holding os ns
    → ns ≡ all_holding holding os (map held ns)
holders_all held holding [] [] h = refl
holders_all held holding [] (n ∷ ns) h = absurd h
holders_all held holding (o ∷ os) [] h = absurd h
holders_all held holding (o ∷ os) (n ∷ ns) h =
    λ k. h.0.0 k ∷ holders_all held holding os ns h.1 k
