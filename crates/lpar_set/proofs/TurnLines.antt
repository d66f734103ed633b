-- The turns of each partition, and one turn more.
use Rattle.std.specs.List.{AllByRecursion, range_with_len}
use Rattle.std.proofs.Common.{◌≡◌, ◌≢◌, ℕ, ◌+◌, ◌<◌, ◌≤◌, List, [], ◌∷◌, ◌++◌, length, get_or, map, refl, sym, ap, ◌∙◌, inl, inr, ◌⊎◌, eqb, Contains, arith}
use Rattle.std.proofs.lemmas.Bool.{cases_lt, eq-eqb, eqb-true, ne_eqb, false≢true}
use Rattle.std.proofs.lemmas.List.{append-nil, map-id, map-append}
use Rattle.std.proofs.lemmas.List.Elements.{filter-append}
use Rattle.std.proofs.lemmas.List.FromFn.{map-range_with_len_more}
use Rattle.std.proofs.lemmas.List.Sums.{fails_before_first, passes_at_first}
use Rattle.lpar_set.specs.declared.turn.Turn.{Turn}
use Rattle.lpar_set.specs.SetTrace.{turns_of}
use Rattle.lpar_set.specs.SetGrammar.{begun_at}

-- ---- one more turn
-- One of another partition.
pub other_turn :
    (k : ℕ) (turns : List Turn) (t : Turn)
    → t.partition ≢ k
    → turns_of k (turns ++ t ∷ []) ≡ turns_of k turns
other_turn k turns t other =
    filter-append (λ (t : Turn). eqb t.partition k) turns (t ∷ [])
    ∙ rw (ne_eqb t.partition k other) (append-nil (turns_of k turns))

-- A turn of this partition comes after its others.
pub own_turn :
    (k : ℕ) (turns : List Turn) (t : Turn)
    → t.partition ≡ k
    → turns_of k (turns ++ t ∷ []) ≡ turns_of k turns ++ t ∷ []
own_turn k turns t same =
    filter-append (λ (t : Turn). eqb t.partition k) turns (t ∷ [])
    ∙ rw (eq-eqb t.partition k same) refl

-- A partition after all that have turns has none.
pub no_turns :
    (k : ℕ) (turns : List Turn)
    → AllByRecursion (λ (t : Turn). t.partition < k) turns
    → turns_of k turns ≡ []
no_turns k [] below = refl
no_turns k (t ∷ ts) below =
    let other : t.partition ≢ k = λ same. omega (arith, below.0, same) in
    rw (ne_eqb t.partition k other) (no_turns k ts below.1)

-- ---- numbers from 0 on
pub range_push : (n : ℕ) → range_with_len 0 (n + 1) ≡ range_with_len 0 n ++ n ∷ []
range_push n =
    sym (map-id (range_with_len 0 (n + 1)))
    ∙ map-range_with_len_more (λ (m : ℕ). m) 0 n n (omega arith)
    ∙ ap (λ (l : List ℕ). l ++ n ∷ []) (map-id (range_with_len 0 n))

-- Lines that were numbered from 0 on, and the next.
pub lines_push :
    (turns : List Turn) (t : Turn) (n : ℕ)
    → map (λ (t : Turn). t.line) turns ≡ range_with_len 0 n
    → t.line ≡ n
    → map (λ (t : Turn). t.line) (turns ++ t ∷ []) ≡ range_with_len 0 (n + 1)
lines_push turns t n so next =
    map-append (λ (t : Turn). t.line) turns (t ∷ [])
    ∙ ap (λ (l : List ℕ). l ++ t.line ∷ []) so
    ∙ ap (λ (m : ℕ). range_with_len 0 n ++ m ∷ []) next
    ∙ sym (range_push n)

-- ---- the place of a number
-- A number that is there stands at its place.
pub record StandsAt (begun : List ℕ) (number : ℕ) : Type 0 where
  pub inside : begun_at begun number < length begun
  pub here : (d : ℕ) → get_or begun (begun_at begun number) d ≡ number

-- Where a list has a number, that stands at the place which is looked up.
pub stands_at : (begun : List ℕ) (number : ℕ) → Contains begun number → StandsAt begun number
stands_at begun number there = by (cases_lt (begun_at begun number) (length begun)) where
  by :
      (begun_at begun number < length begun) ⊎ (length begun ≤ begun_at begun number)
      → StandsAt begun number
  by (inl inside) =
      record {
        inside = inside;
        here = λ d. eqb-true _ _ (passes_at_first (λ n. eqb n number) begun d inside);
      }
  by (inr past) =
      let before : there.0 < begun_at begun number = omega (arith, past, there.1) in
      absurd
      (false≢true
      (sym (fails_before_first (λ n. eqb n number) begun there.0 number before)
      ∙ eq-eqb _ _ there.2))
