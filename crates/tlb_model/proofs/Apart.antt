-- One set keeps at most four lines, each of another page.
use Rattle.std.proofs.Common.{◌≡◌, ◌<◌, List, [], ◌∷◌, ◌++◌, Bool, true, false, not, Some, None, ◌⊎◌, inl, inr, refl, subst, length, filter, remove, arith, length-append}
use Rattle.std.specs.List.Retain.{RetainsInTurn}
use Rattle.std.proofs.lemmas.Bool.{cases_Bool, cond_both}
use Rattle.power_addr.specs.Pages.{VirtualPage, same_page}
use Rattle.entry_model.specs.declared.line.Line.{Line}
use Rattle.tlb_model.specs.Cache.{is_of, line_of_page, without_page}
use Rattle.basics.proofs.Each.{each_append, each_filter, filter_length}
use Rattle.power_addr.proofs.SamePages.{page_same, page_self}
use Rattle.tlb_model.specs.Sets.{AreApart, IsLineSet}

-- ---- the test of equal pages takes either order
false_other_way : (p q : VirtualPage) → same_page p q ≡ false → same_page q p ≡ false
false_other_way p q differs = at (cases_Bool (same_page q p)) where
  at : (same_page q p ≡ true) ⊎ (same_page q p ≡ false) → same_page q p ≡ false
  at (inl same) = let equal :
      q ≡ p = page_same q p same in let self : same_page p q ≡ true = rw equal (page_self p) in cc
  at (inr differ) = differ

-- ---- one line more
none_of_page :
    (page : VirtualPage) (l : Line) (ls : List Line)
    → line_of_page page (l ∷ ls) ≡ None
    → (is_of page l ≡ false) × (line_of_page page ls ≡ None)
none_of_page page l ls none = at (cases_Bool (is_of page l)) where
  at :
      (is_of page l ≡ true) ⊎ (is_of page l ≡ false)
      → (is_of page l ≡ false) × (line_of_page page ls ≡ None)
  at (inl here) = let wrong : Some l ≡ None = rw here at none in absurd (cc)
  at (inr there) = (there, rw there at none)

apart_append :
    (lines : List Line) (line : Line)
    → AreApart lines
    → line_of_page line.page lines ≡ None
    → AreApart (lines ++ line ∷ [])
apart_append [] line apart none = (tt, tt)
apart_append (l ∷ ls) line apart none =
    let (there, rest) = none_of_page line.page l ls none in (
      each_append (λ other. is_of l.page other ≡ false) ls (line ∷ []) apart.0
          (false_other_way l.page line.page there, tt),
      apart_append ls line apart.1 rest,
    )

pub more_sound :
    (lines : List Line) (line : Line)
    → length lines < 4
    → IsLineSet lines
    → line_of_page line.page lines ≡ None
    → IsLineSet (lines ++ line ∷ [])
more_sound lines line room sound none =
    record {
      count = omega (arith, length-append lines (line ∷ []));
      apart = apart_append lines line sound.apart none;
    }

pub pushed_sound :
    (lines : List Line) (line : Line)
    → IsLineSet lines
    → line_of_page line.page lines ≡ None
    → length lines ≡ 4
    → IsLineSet (remove lines 0 ++ line ∷ [])
pushed_sound [] line sound none full = absurd (omega arith)
pushed_sound (l ∷ ls) line sound none full =
    more_sound ls line (omega arith) (record { count = omega arith; apart = sound.apart.1 })
    (none_of_page line.page l ls none).1

-- ---- lines taken out
apart_filter : (p : Line → Bool) (lines : List Line) → AreApart lines → AreApart (filter p lines)
apart_filter p [] apart = tt
apart_filter p (l ∷ ls) apart =
    cond_both (p l) (l ∷ filter p ls) (filter p ls) AreApart
    (λ _.
    (each_filter (λ other. is_of l.page other ≡ false) p ls apart.0, apart_filter p ls apart.1))
    (λ _. apart_filter p ls apart.1)

pub without_sound :
    (page : VirtualPage) (lines : List Line) → IsLineSet lines → IsLineSet (without_page page lines)
without_sound page lines sound =
    record {
      count = omega (arith, filter_length (λ line. not (is_of page line)) lines, sound.count);
      apart = apart_filter (λ line. not (is_of page line)) lines sound.apart;
    }

-- What `retain` leaves, where its closure only tests.
pub filter_from_turns :
    {S X : Type 0} (R : S → X → Bool → S → X → Type 0) (test : X → Bool) (s : S)
    → ((x : X) (b : Bool) (t : S) (y : X) → R s x b t y → (b ≡ test x) × (y ≡ x) × (t ≡ s))
    → (xs ys : List X)
    → RetainsInTurn R s xs ys
    → ys ≡ filter test xs
filter_from_turns R test s law [] ys none = none
filter_from_turns R test s law (x ∷ xs) ys (b, t, y, turn, zs, rest, is) =
    let (answer, same, stays) = law x b t y turn in
    let later = filter_from_turns R test s law xs zs
    (subst (λ u. RetainsInTurn R u xs zs) stays rest) in
    rw (is, answer, same, later) refl
