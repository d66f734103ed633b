-- Lines that are dealt to their processors.
use Rattle.std.specs.Prelude.{min, slice_index_or, Vec}
use Rattle.std.proofs.Common.{◌≡◌, ◌≢◌, ℕ, suc, ◌+◌, ◌<◌, ◌≤◌, List, [], ◌∷◌, ◌++◌, length, map, take, get_or, set, true, false, eqb, ap, sym, ◌∙◌, refl, subst, ◌⊎◌, inl, inr, arith}
use Rattle.std.specs.List.{AllByRecursion}
use Rattle.std.proofs.lemmas.Bool.{cases_Bool, eq-eqb}
use Rattle.std.proofs.lemmas.List.{get_or_default, get_or-map, length-map, map-append, take_all}
use Rattle.basics.proofs.Each.{each_append}
use Rattle.trace_line.specs.declared.line.TraceLine.{TraceLine}
use Rattle.trace_runner.specs.Workers.{lines_of_cpu, count_with_lines, IsReadAt, AreOwn, AllNumbered}
use Rattle.trace_runner.specs.DealtLines.{AreDealt, AllEmpty, count_with_own}
use Rattle.trace_runner.proofs.Numbered.{all_set, all_weaker}
use Rattle.run_model.proofs.StoreNumbers.{not_eqb}
use Rattle.trace_runner.proofs.WorkSteps.{own_more, own_same}
use Rattle.trace_line.specs.Lines.{past_lines}

-- ---- lines at indices
read_push :
    (lines : List TraceLine) (indices : List ℕ) (own : List TraceLine) (i : ℕ) (d : TraceLine)
    → i < length lines
    → IsReadAt lines indices own
    → IsReadAt lines (indices ++ i ∷ []) (own ++ get_or lines i d ∷ [])
read_push lines indices own i d low h = record {
  inside = each_append (λ i. i < length lines) indices (i ∷ []) h.inside (low, tt);
  read =
      λ e.
      map-append (λ j. slice_index_or lines j e) indices (i ∷ [])
      ∙ (λ j. h.read e j ++ get_or_default lines i e d low j ∷ []);
}

-- The line at one of the indices.
pub line_at :
    (lines : List TraceLine) (indices : List ℕ) (own : List TraceLine) (k : ℕ) (d : TraceLine)
    → k < length indices
    → IsReadAt lines indices own
    → get_or own k d ≡ get_or lines (get_or indices k 0) d
line_at lines indices own k d low h =
    ap (λ ls. get_or ls k d) (sym (h.read d))
    ∙ get_or-map (λ i. slice_index_or lines i d) indices k 0 d low

pub as_many :
    (lines : List TraceLine) (indices : List ℕ) (own : List TraceLine)
    → IsReadAt lines indices own
    → length indices ≡ length own
as_many lines indices own h =
    sym (length-map indices (λ i. slice_index_or lines i past_lines))
    ∙ ap length (h.read past_lines)

-- ---- the lines of one processor are its own
pub all_own :
    (cpu : ℕ) (lines : List TraceLine)
    → AllByRecursion (λ (l : TraceLine). eqb l.cpu cpu ≡ true) (lines_of_cpu cpu lines)
all_own cpu [] = tt
all_own cpu (l ∷ ls) = at (cases_Bool (eqb l.cpu cpu)) (all_own cpu ls) where
  at :
      (eqb l.cpu cpu ≡ true) ⊎ (eqb l.cpu cpu ≡ false)
      → AllByRecursion (λ (l : TraceLine). eqb l.cpu cpu ≡ true) (lines_of_cpu cpu ls)
      → AllByRecursion (λ (l : TraceLine). eqb l.cpu cpu ≡ true) (lines_of_cpu cpu (l ∷ ls))
  at (inl own) rest = rw own (own, rest)
  at (inr other) rest = rw other rest

own_again :
    (cpu : ℕ) (own : List TraceLine)
    → AllByRecursion (λ (l : TraceLine). eqb l.cpu cpu ≡ true) own
    → lines_of_cpu cpu own ≡ own
own_again cpu [] h = refl
own_again cpu (l ∷ ls) h = rw h.0 (ap (λ ms. l ∷ ms) (own_again cpu ls h.1))

-- Of a processor's own lines all are its own.
pub own_of_own :
    (cpu : ℕ) (lines : List TraceLine)
    → lines_of_cpu cpu (lines_of_cpu cpu lines) ≡ lines_of_cpu cpu lines
own_of_own cpu lines = own_again cpu (lines_of_cpu cpu lines) (all_own cpu lines)

-- ---- dealing
-- What the lines so far leave with each processor.
abbrev pub AreDealtUpTo : {Z : Type 0} → ℕ → List TraceLine → List (Vec ℕ Z) → Type 0
AreDealtUpTo k lines dealt =
    AllNumbered (λ cpu own. IsReadAt lines own.items (lines_of_cpu cpu (take k lines))) 0 dealt

pub dealt_none :
    {Z : Type 0} (lines : List TraceLine) (dealt : List (Vec ℕ Z))
    → AllEmpty dealt
    → AreDealtUpTo 0 lines dealt
dealt_none {Z = Z} lines dealt empty =
    all_weaker (λ cpu (own : Vec ℕ Z). own.items ≡ []) (λ cpu own. IsReadAt lines own.items []) 0
    dealt none empty where
      none : (cpu : ℕ) (own : Vec ℕ Z) → own.items ≡ [] → IsReadAt lines own.items []
      none cpu own e = record {
        inside = subst (AllByRecursion (λ i. i < length lines)) (sym e) tt;
        read = λ d. ap (map (λ i. slice_index_or lines i d)) e;
      }

pub dealt_more :
    {Z : Type 0} (lines : List TraceLine) (k : ℕ) (d : TraceLine) (dealt : List (Vec ℕ Z))
    (own new : Vec ℕ Z)
    → k < length lines
    → (get_or lines k d).cpu < length dealt
    → own ≡ get_or dealt (get_or lines k d).cpu own
    → new.items ≡ own.items ++ k ∷ []
    → AreDealtUpTo k lines dealt
    → AreDealtUpTo (k + 1) lines (set dealt (get_or lines k d).cpu new)
dealt_more {Z = Z} lines k d dealt own new within inside is more h =
    all_set (HasUpTo k) (HasUpTo (k + 1)) 0 l.cpu l.cpu dealt own new (omega arith) inside is other
    here h where
      l : TraceLine
      l = get_or lines k d

      HasUpTo : ℕ → ℕ → Vec ℕ Z → Type 0
      HasUpTo j cpu v = IsReadAt lines v.items (lines_of_cpu cpu (take j lines))

      other : (cpu : ℕ) (v : Vec ℕ Z) → cpu ≢ l.cpu → HasUpTo k cpu v → HasUpTo (k + 1) cpu v
      other cpu v differ p =
          subst (IsReadAt lines v.items)
          (sym (own_same cpu lines k d within (not_eqb l.cpu cpu (λ e. differ (sym e))))) p

      here : HasUpTo k l.cpu own → HasUpTo (k + 1) l.cpu new
      here p =
          subst (λ ls. IsReadAt lines new.items ls)
          (sym (own_more l.cpu lines k d within (eq-eqb l.cpu l.cpu refl)))
          (subst (λ indices. IsReadAt lines indices (lines_of_cpu l.cpu (take k lines) ++ l ∷ []))
          (sym more)
          (read_push lines own.items (lines_of_cpu l.cpu (take k lines)) k d within p))

pub dealt_all :
    {Z : Type 0} (lines : List TraceLine) (k : ℕ) (dealt : List (Vec ℕ Z))
    → length lines ≤ k
    → AreDealtUpTo k lines dealt
    → AreDealt lines dealt
dealt_all lines k dealt end h =
    subst (λ ls. AllNumbered (λ cpu own. IsReadAt lines own.items (lines_of_cpu cpu ls)) 0 dealt)
    (take_all k lines end) h

-- ---- how many have lines
pub with_lines :
    {Z : Type 0} (lines : List TraceLine) (n : ℕ) (dealt : List (Vec ℕ Z))
    → AllNumbered (λ cpu own. AreOwn lines cpu own.items) n dealt
    → count_with_own dealt ≡ count_with_lines (length dealt) n lines
with_lines lines n [] h = refl
with_lines lines n (own ∷ rest) h =
    λ i.
    min 1 (as_many lines own.items (lines_of_cpu n lines) h.0 i)
    + with_lines lines (suc n) rest h.1 i

pub few_with_own : {Z : Type 0} (dealt : List (Vec ℕ Z)) → count_with_own dealt ≤ length dealt
few_with_own [] = omega arith
few_with_own (own ∷ rest) = omega (arith, few_with_own rest)
