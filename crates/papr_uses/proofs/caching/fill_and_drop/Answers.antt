use Rattle.std.proofs.Common.{◌≡◌, ◌∙◌, List, ap}
use Rattle.entry_model.specs.declared.line.Line.{Line}
use Rattle.tlb_model.specs.Cache.{cached_line, empty_cache, put_last, set_of, without_page}
use Rattle.tlb_model.specs.Sets.{with_set}
use Rattle.papr_uses.proofs.OneLine.{dropped_again, none_cached, one_cached, with_line}
use Rattle.papr_uses.proofs.caching.fill_and_drop.Goals as goal

-- The cache after one line was put into it.
filled :
    (cleared new : List (List Line)) (line : Line)
    → cleared ≡ empty_cache
    → new ≡ with_set line.page (put_last line (set_of cleared line.page)) cleared
    → new ≡ with_line line
filled cleared new line empty made =
    made
    ∙ ap
    (λ (cache : List (List Line)).
    with_set line.page (put_last line (set_of cache line.page)) cache) empty

pub fill-requires : goal.fill-requires
fill-requires c =
    ap (λ (cache : List (List Line)). cached_line cache c.args.line.page) c.clear.ensures
    ∙ none_cached c.args.line.page

pub returns-clause-found : goal.returns-clause-found
returns-clause-found c =
    c.find-found.ensures
    ∙ ap (λ (cache : List (List Line)). cached_line cache c.args.line.page)
    (filled c.clear.new.self c.fill.new.self c.args.line c.clear.ensures c.fill.ensures)
    ∙ one_cached c.args.line

pub returns-clause-again : goal.returns-clause-again
returns-clause-again c =
    c.drop_line.ensures
    ∙ ap
    (λ (cache : List (List Line)).
    with_set c.args.line.page (without_page c.args.line.page (set_of cache c.args.line.page))
    cache)
    (filled c.clear.new.self c.fill.new.self c.args.line c.clear.ensures c.fill.ensures)
    ∙ dropped_again c.args.line
