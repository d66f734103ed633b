-- The page of doublewords at an index, and the first cause where there is none.
use Rattle.std.specs.Prelude.{IsSome, IsSomeAnd, ◌↔◌, is_some}
use Rattle.std.specs.Option.{option_map_or}
use Rattle.std.proofs.Common.{◌≡◌, ℕ, ◌<◌, ◌^◌, true, false, Option, Some, None, ap, sym, ◌∙◌, refl, subst, ◌⊎◌, inl, inr}
use Rattle.std.proofs.lemmas.Bool.{cases_Bool, true≢false, false≢true}
use Rattle.power_addr.specs.Pages.{VirtualPage}
use Rattle.page_sizes.specs.declared.size.PageSize.{PageSize}
use Rattle.page_sizes.specs.Sizes.{size_of}
use Rattle.hpte_fields.specs.Fields.{is_valid}
use Rattle.hpt_hash.specs.Entries.{page_at}
use Rattle.hpt_hash.proofs.PageLemmas.{page_at-sound, if_some}
use Rattle.papr_c.specs.declared.decoding.NoPage.{NoPage}
use Rattle.papr_c.specs.declared.decoding.NoPage.TheVariants.{Empty, NoSize, NoSegment, OtherGroup, NoIndex}
use Rattle.papr_c.specs.declared.decoding.PaprPage.{PaprPage}
use Rattle.papr_c.specs.Decoding.{is_index, fits_tag, cause_of, cause_number, why_of, page_here, with_page, words_said, decoded}
use Rattle.papr_c.proofs.TagPages.{place_of_page}

-- What is found: a page and no cause, or no page and this cause.
abbrev pub IsHere : ℕ → ℕ → ℕ → ℕ → Option VirtualPage → Option NoPage → Type 0
IsHere order ptex dword0 dword1 page cause =
    (page_here order ptex dword0 dword1 ≡ page) × (cause_of order ptex dword0 dword1 ≡ cause)

pub no_index :
    (order ptex dword0 dword1 : ℕ)
    → is_index order ptex ≡ false
    → IsHere order ptex dword0 dword1 None (Some NoIndex)
unfolding cause_of
no_index order ptex dword0 dword1 out = (rw out refl, rw out refl)

pub empty :
    (order ptex dword0 dword1 : ℕ)
    → is_index order ptex ≡ true
    → is_valid dword0 ≡ false
    → IsHere order ptex dword0 dword1 None (Some Empty)
unfolding cause_of page_at
empty order ptex dword0 dword1 inside clear = (rw (inside, clear) refl, rw (inside, clear) refl)

pub no_size :
    (order ptex dword0 dword1 : ℕ)
    → is_index order ptex ≡ true
    → is_valid dword0 ≡ true
    → size_of dword0 dword1 ≡ None
    → IsHere order ptex dword0 dword1 None (Some NoSize)
unfolding cause_of page_at
no_size order ptex dword0 dword1 inside valid none =
    (rw (inside, valid, none) refl, rw (inside, valid, none) refl)

-- ---- by the place of the tag
size_is :
    (o : Option PageSize) (size : PageSize) (shift : ℕ)
    → o ≡ Some size
    → IsSomeAnd o (λ (s : PageSize). s.base ≡ shift)
    → size.base ≡ shift
size_is None size shift e has = cc
size_is (Some s) size shift e has = let same :
    s ≡ size = cc in subst (λ (z : PageSize). z.base ≡ shift) same has

-- A page that is found has a place.
pub found_fits_tag :
    (order ptex dword0 dword1 : ℕ) (size : PageSize) (p : VirtualPage)
    → dword0 < 2 ^ 64
    → size_of dword0 dword1 ≡ Some size
    → page_at order ptex dword0 dword1 ≡ Some p
    → fits_tag dword0 size.base ≡ true
found_fits_tag order ptex dword0 dword1 size p range sized found =
    let sound = page_at-sound order ptex dword0 dword1 p range found in
    place_of_page p dword0 size.base sound.0 range
    (sym (size_is (size_of dword0 dword1) size p.shift sized sound.1.size)) sound.1.tag

none_without_place :
    (order ptex dword0 dword1 : ℕ) (size : PageSize) (o : Option VirtualPage)
    → dword0 < 2 ^ 64
    → size_of dword0 dword1 ≡ Some size
    → fits_tag dword0 size.base ≡ false
    → page_at order ptex dword0 dword1 ≡ o
    → o ≡ None
none_without_place order ptex dword0 dword1 size None range sized none is = refl
none_without_place order ptex dword0 dword1 size (Some p) range sized none is =
    absurd
    (true≢false (sym (found_fits_tag order ptex dword0 dword1 size p range sized is) ∙ none))

pub no_segment :
    (order ptex dword0 dword1 : ℕ) (size : PageSize)
    → dword0 < 2 ^ 64
    → is_index order ptex ≡ true
    → is_valid dword0 ≡ true
    → size_of dword0 dword1 ≡ Some size
    → fits_tag dword0 size.base ≡ false
    → IsHere order ptex dword0 dword1 None (Some NoSegment)
unfolding cause_of
no_segment order ptex dword0 dword1 size range inside valid sized away =
    let none : page_at order ptex dword0 dword1 ≡ None = none_without_place order ptex dword0 dword1
    size (page_at order ptex dword0 dword1) range sized away refl in
    (rw inside none, rw (inside, valid, sized, away) refl)

pub other_group :
    (order ptex dword0 dword1 : ℕ) (size : PageSize)
    → is_index order ptex ≡ true
    → is_valid dword0 ≡ true
    → size_of dword0 dword1 ≡ Some size
    → fits_tag dword0 size.base ≡ true
    → page_at order ptex dword0 dword1 ≡ None
    → IsHere order ptex dword0 dword1 None (Some OtherGroup)
unfolding cause_of
other_group order ptex dword0 dword1 size inside valid sized place none =
    (rw inside none, rw (inside, valid, sized, place, none) refl)

pub page_found :
    (order ptex dword0 dword1 : ℕ) (size : PageSize) (p : VirtualPage)
    → is_index order ptex ≡ true
    → is_valid dword0 ≡ true
    → size_of dword0 dword1 ≡ Some size
    → fits_tag dword0 size.base ≡ true
    → page_at order ptex dword0 dword1 ≡ Some p
    → IsHere order ptex dword0 dword1 (Some p) None
unfolding cause_of
page_found order ptex dword0 dword1 size p inside valid sized place found =
    (rw inside found, rw (inside, valid, sized, place, found) refl)

-- ---- the two cases
-- There is a page, or a cause.
pub here :
    (order ptex dword0 dword1 : ℕ)
    → dword0 < 2 ^ 64
    → ((p : VirtualPage) × IsHere order ptex dword0 dword1 (Some p) None)
    ⊎ ((cause : NoPage) × IsHere order ptex dword0 dword1 None (Some cause))
here order ptex dword0 dword1 range = at (cases_Bool (is_index order ptex)) where
  found :
      (size : PageSize) (o : Option VirtualPage)
      → is_index order ptex ≡ true
      → is_valid dword0 ≡ true
      → size_of dword0 dword1 ≡ Some size
      → fits_tag dword0 size.base ≡ true
      → page_at order ptex dword0 dword1 ≡ o
      → ((p : VirtualPage) × IsHere order ptex dword0 dword1 (Some p) None)
      ⊎ ((cause : NoPage) × IsHere order ptex dword0 dword1 None (Some cause))
  found size None inside valid sized place is =
      inr (OtherGroup, other_group order ptex dword0 dword1 size inside valid sized place is)
  found size (Some p) inside valid sized place is =
      inl (p, page_found order ptex dword0 dword1 size p inside valid sized place is)

  placed :
      (size : PageSize)
      → is_index order ptex ≡ true
      → is_valid dword0 ≡ true
      → size_of dword0 dword1 ≡ Some size
      → (fits_tag dword0 size.base ≡ true) ⊎ (fits_tag dword0 size.base ≡ false)
      → ((p : VirtualPage) × IsHere order ptex dword0 dword1 (Some p) None)
      ⊎ ((cause : NoPage) × IsHere order ptex dword0 dword1 None (Some cause))
  placed size inside valid sized (inl place) =
      found size (page_at order ptex dword0 dword1) inside valid sized place refl
  placed size inside valid sized (inr away) =
      inr (NoSegment, no_segment order ptex dword0 dword1 size range inside valid sized away)

  of_size :
      (o : Option PageSize)
      → is_index order ptex ≡ true
      → is_valid dword0 ≡ true
      → size_of dword0 dword1 ≡ o
      → ((p : VirtualPage) × IsHere order ptex dword0 dword1 (Some p) None)
      ⊎ ((cause : NoPage) × IsHere order ptex dword0 dword1 None (Some cause))
  of_size None inside valid none = inr (NoSize, no_size order ptex dword0 dword1 inside valid none)
  of_size (Some size) inside valid sized =
      placed size inside valid sized (cases_Bool (fits_tag dword0 size.base))

  of_entry :
      is_index order ptex ≡ true
      → (is_valid dword0 ≡ true) ⊎ (is_valid dword0 ≡ false)
      → ((p : VirtualPage) × IsHere order ptex dword0 dword1 (Some p) None)
      ⊎ ((cause : NoPage) × IsHere order ptex dword0 dword1 None (Some cause))
  of_entry inside (inl valid) = of_size (size_of dword0 dword1) inside valid refl
  of_entry inside (inr clear) = inr (Empty, empty order ptex dword0 dword1 inside clear)

  at :
      (is_index order ptex ≡ true) ⊎ (is_index order ptex ≡ false)
      → ((p : VirtualPage) × IsHere order ptex dword0 dword1 (Some p) None)
      ⊎ ((cause : NoPage) × IsHere order ptex dword0 dword1 None (Some cause))
  at (inl inside) = of_entry inside (cases_Bool (is_valid dword0))
  at (inr out) = inr (NoIndex, no_index order ptex dword0 dword1 out)

-- ---- the laws
some_cause : (cause : NoPage) → cause_number cause ≡ 0 → ⊥
some_cause Empty e = cc
some_cause NoSize e = cc
some_cause NoSegment e = cc
some_cause OtherGroup e = cc
some_cause NoIndex e = cc

pub no_cause_at_pages :
    (order ptex dword0 dword1 : ℕ)
    → dword0 < 2 ^ 64
    → (why_of order ptex dword0 dword1 ≡ 0) ↔ IsSome (page_here order ptex dword0 dword1)
no_cause_at_pages order ptex dword0 dword1 range = at (here order ptex dword0 dword1 range) where
  at :
      ((p : VirtualPage) × IsHere order ptex dword0 dword1 (Some p) None)
      ⊎ ((cause : NoPage) × IsHere order ptex dword0 dword1 None (Some cause))
      → (why_of order ptex dword0 dword1 ≡ 0) ↔ IsSome (page_here order ptex dword0 dword1)
  at (inl (p, h)) = (
    λ e.
        subst (λ (o : Option VirtualPage). IsSome o) (sym h.0) refl,
    λ e. ap (λ o. option_map_or cause_number o 0) h.1,
  )
  at (inr (cause, h)) = (
    λ e.
        absurd (some_cause cause (sym (ap (λ o. option_map_or cause_number o 0) h.1) ∙ e)),
    λ e. absurd (false≢true (subst (λ (o : Option VirtualPage). is_some o ≡ true) h.0 e)),
  )

base_with_page :
    (said : PaprPage) (o : Option VirtualPage) → (with_page said o).base_shift ≡ said.base_shift
base_with_page said None = refl
base_with_page said (Some p) = refl

base_of_words :
    (dword0 dword1 why : ℕ) (size : PageSize)
    → is_valid dword0 ≡ true
    → size_of dword0 dword1 ≡ Some size
    → (words_said dword0 dword1 why).base_shift ≡ size.base
base_of_words dword0 dword1 why size valid sized = rw (valid, sized) refl

some_size :
    (o : Option PageSize) (shift : ℕ)
    → IsSomeAnd o (λ (s : PageSize). s.base ≡ shift)
    → (size : PageSize) × (o ≡ Some size) × (size.base ≡ shift)
some_size None shift has = elim has [ ]
some_size (Some s) shift has = (s, refl, has)

pub base_of_page :
    (order ptex dword0 dword1 : ℕ) (p : VirtualPage)
    → dword0 < 2 ^ 64
    → page_here order ptex dword0 dword1 ≡ Some p
    → (decoded order ptex dword0 dword1).base_shift ≡ p.shift
base_of_page order ptex dword0 dword1 p range is =
    let sound = page_at-sound order ptex dword0 dword1 p range
    (if_some (is_index order ptex) (page_at order ptex dword0 dword1) p is).1 in
    let sized = some_size (size_of dword0 dword1) p.shift sound.1.size in
    base_with_page (words_said dword0 dword1 (why_of order ptex dword0 dword1))
    (page_here order ptex dword0 dword1)
    ∙ base_of_words dword0 dword1 (why_of order ptex dword0 dword1) sized.0 sound.1.valid sized.1
    ∙ sized.2
