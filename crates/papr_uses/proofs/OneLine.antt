-- A cache of one line.
use Rattle.std.proofs.Common.{◌≡◌, ◌<◌, List, [], ◌∷◌, replicate, Some, None, refl, sym, ap, ◌∙◌, arith}
use Rattle.std.proofs.lemmas.List.{get_or-replicate, get_or-set_same, set-set, set-get_or}
use Rattle.power_addr.specs.Pages.{VirtualPage}
use Rattle.entry_model.specs.declared.line.Line.{Line}
use Rattle.tlb_model.specs.Cache.{cached_line, empty_cache, line_of_page, put_last, set_number, set_of, without_page}
use Rattle.tlb_model.specs.Sets.{with_set}
use Rattle.power_addr.proofs.SamePages.{page_self}

-- The page's set is one of the 32.
within : (page : VirtualPage) → set_number page < 32
within page = omega arith

-- Each set of an empty cache is empty.
none_of : (page : VirtualPage) → set_of empty_cache page ≡ []
unfolding empty_cache
none_of page = get_or-replicate 32 (set_number page) [] [] (within page)

-- The set of a page that was made into these lines.
made_set :
    (page : VirtualPage) (lines : List Line) → set_of (with_set page lines empty_cache) page ≡ lines
unfolding empty_cache
made_set page lines = get_or-set_same (replicate 32 []) (set_number page) lines [] (within page)

pub none_cached : (page : VirtualPage) → cached_line empty_cache page ≡ None
unfolding cached_line
none_cached page = ap (line_of_page page) (none_of page)

-- An empty cache into which a line was put.
abbrev pub with_line : Line → List (List Line)
with_line line = with_set line.page (put_last line (set_of empty_cache line.page)) empty_cache

one_line : (line : Line) → set_of (with_line line) line.page ≡ line ∷ []
one_line line =
    made_set line.page (put_last line (set_of empty_cache line.page))
    ∙ ap (put_last line) (none_of line.page)

pub one_cached : (line : Line) → cached_line (with_line line) line.page ≡ Some line
unfolding cached_line
one_cached line = ap (line_of_page line.page) (one_line line) ∙ rw (page_self line.page) refl

-- From which it is dropped.
pub dropped_again :
    (line : Line)
    → with_set line.page (without_page line.page (set_of (with_line line) line.page))
    (with_line line)
    ≡ empty_cache
unfolding empty_cache
dropped_again line =
    let none : without_page line.page (set_of (with_line line) line.page) ≡ [] = ap
    (without_page line.page) (one_line line) ∙ rw (page_self line.page) refl in
    ap (λ (lines : List Line). with_set line.page lines (with_line line)) none
    ∙ set-set empty_cache (set_number line.page) (put_last line (set_of empty_cache line.page)) []
    ∙ ap (λ (lines : List Line). with_set line.page lines empty_cache) (sym (none_of line.page))
    ∙ set-get_or empty_cache (set_number line.page) []
