use Rattle.std.proofs.Common.{◌≡◌, true, false, sym, ◌∙◌}
use Rattle.hpte_fields.specs.Fields.{is_valid}
use Rattle.papr_c.specs.Decoding.{is_index, fits_tag}
use Rattle.papr_c.proofs.DecodedPages.{no_index, empty, no_size, no_segment, other_group, page_found}
use Rattle.papr_c.proofs.decoding.found_here.Goals as goal

pub returns-then-not-is_index-clause-none : goal.returns-then-not-is_index-clause-none
returns-then-not-is_index-clause-none c =
    let out : is_index c.args.order c.args.ptex ≡ false = let e = c.is_index.ensures in
    let f = c.if-not-is_index.ensures in
    cc in
    no_index c.args.order c.args.ptex c.args.dword0 c.args.dword1 out

pub returns-then-not-is_valid-clause-none : goal.returns-then-not-is_valid-clause-none
returns-then-not-is_valid-clause-none c =
    let inside : is_index c.args.order c.args.ptex ≡ true = let e = c.is_index.ensures in
    let f = c.if-not-is_index.ensures in
    cc in
    let clear : is_valid c.args.dword0 ≡ false = let e = c.is_valid.ensures in
    let f = c.if-not-is_valid.ensures in
    cc in
    empty c.args.order c.args.ptex c.args.dword0 c.args.dword1 inside clear

pub returns-in_default-clause-none : goal.returns-in_default-clause-none
returns-in_default-clause-none c =
    let inside : is_index c.args.order c.args.ptex ≡ true = let e = c.is_index.ensures in
    let f = c.if-not-is_index.ensures in
    cc in
    let valid : is_valid c.args.dword0 ≡ true = let e = c.is_valid.ensures in
    let f = c.if-not-is_valid.ensures in
    cc in
    no_size c.args.order c.args.ptex c.args.dword0 c.args.dword1 inside valid
    (sym c.decode.ensures.value ∙ c.in_default.is)

pub returns-then-not-fits_tag-clause-none : goal.returns-then-not-fits_tag-clause-none
returns-then-not-fits_tag-clause-none c =
    let inside : is_index c.args.order c.args.ptex ≡ true = let e = c.is_index.ensures in
    let f = c.if-not-is_index.ensures in
    cc in
    let valid : is_valid c.args.dword0 ≡ true = let e = c.is_valid.ensures in
    let f = c.if-not-is_valid.ensures in
    cc in
    let no : fits_tag c.args.dword0 c.in-Some.size.base ≡ false = let e = c.fits_tag.ensures in
    let f = c.if-not-fits_tag.ensures in
    cc in
    no_segment c.args.order c.args.ptex c.args.dword0 c.args.dword1 c.in-Some.size
    c.ranges.dword0.fits inside valid (sym c.decode.ensures.value ∙ c.in-Some.is) no

pub returns-in-Some-page_of-clause-page : goal.returns-in-Some-page_of-clause-page
returns-in-Some-page_of-clause-page c =
    let inside : is_index c.args.order c.args.ptex ≡ true = let e = c.is_index.ensures in
    let f = c.if-not-is_index.ensures in
    cc in
    let valid : is_valid c.args.dword0 ≡ true = let e = c.is_valid.ensures in
    let f = c.if-not-is_valid.ensures in
    cc in
    let place : fits_tag c.args.dword0 c.in-Some.size.base ≡ true = let e = c.fits_tag.ensures in
    let f = c.if-not-fits_tag.ensures in
    cc in
    page_found c.args.order c.args.ptex c.args.dword0 c.args.dword1 c.in-Some.size
    c.in-Some-page_of.page inside valid (sym c.decode.ensures.value ∙ c.in-Some.is) place
    (sym c.page_of.ensures.value ∙ c.in-Some-page_of.is)

pub returns-in-None-clause-none : goal.returns-in-None-clause-none
returns-in-None-clause-none c =
    let inside : is_index c.args.order c.args.ptex ≡ true = let e = c.is_index.ensures in
    let f = c.if-not-is_index.ensures in
    cc in
    let valid : is_valid c.args.dword0 ≡ true = let e = c.is_valid.ensures in
    let f = c.if-not-is_valid.ensures in
    cc in
    let place : fits_tag c.args.dword0 c.in-Some.size.base ≡ true = let e = c.fits_tag.ensures in
    let f = c.if-not-fits_tag.ensures in
    cc in
    other_group c.args.order c.args.ptex c.args.dword0 c.args.dword1 c.in-Some.size inside valid
    (sym c.decode.ensures.value ∙ c.in-Some.is) place
    (sym c.page_of.ensures.value ∙ c.in-None.is)
