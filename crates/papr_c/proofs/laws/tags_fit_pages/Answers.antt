use Rattle.papr_c.proofs.TagPages.{place_of_page, page_of_place}
use Rattle.papr_c.proofs.laws.tags_fit_pages.Goals as goal

pub returns : goal.returns
returns c =
    λ dword0 base range. (
      page_of_place dword0 base range,
      λ has. place_of_page has.0 dword0 base has.1 range has.2 has.3,
    )
