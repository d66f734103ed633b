-- A cache after the line of a page was taken out, and another was put last.
use Rattle.std.proofs.Common.{◌≡◌, ℕ, zero, suc, not, List, [], ◌∷◌, Option, Some, None, refl, ap, get_or, slice_set, IfSome}
use Rattle.power_addr.specs.Pages.{VirtualPage}
use Rattle.slb_model.specs.declared.segment.Segment.{Segment}
use Rattle.entry_model.specs.declared.line.Line.{Line}
use Rattle.entry_model.specs.declared.receipt.Receipt.{Receipt}
use Rattle.entry_model.specs.declared.access_reply.AccessReply.{AccessReply}
use Rattle.entry_model.specs.declared.access_reply.By.TheVariants.{Walk}
use Rattle.entry_model.specs.declared.access_reply.Outcome.{Outcome}
use Rattle.entry_model.specs.declared.access_reply.Outcome.TheVariants.{At}
use Rattle.tlb_model.specs.Cache.{is_of, line_of_page, set_of, set_number, cached_line, without_page, put_last, AllInSet, AllCached}
use Rattle.basics.proofs.Each.{each_filter, each_set}
use Rattle.tlb_model.proofs.CachedPages.{none_without, all_put_last, all_in_set_of}
use Rattle.tlb_model.specs.Sets.{with_set}
use Rattle.entry_model.specs.Receipt.{found_of}
use Rattle.entry_model.specs.CachedLines.{line_of}
use Rattle.hpt_walk.specs.Translations.{TranslatesItsPage}
use Rattle.tlb_model.specs.CacheAfter.{set_with, after_walk, cache_after, kept_line, with_kept}

-- The cache without the page's line.
abbrev pub dropped : VirtualPage → List (List Line) → List (List Line)
dropped page cache = with_set page (without_page page (set_of cache page)) cache

-- ---- one set is written
read_same :
    (Q : List Line → Type 0) (cache : List (List Line)) (number : ℕ) (lines : List Line)
    → Q lines
    → Q []
    → Q (get_or (slice_set cache number lines) number [])
read_same Q [] number lines here none = none
read_same Q (s ∷ ss) zero lines here none = here
read_same Q (s ∷ ss) (suc number) lines here none = read_same Q ss number lines here none

write_twice :
    (f : List Line → List Line) (cache : List (List Line)) (number : ℕ) (lines : List Line)
    → slice_set (slice_set cache number lines) number
    (f (get_or (slice_set cache number lines) number []))
    ≡ slice_set cache number (f lines)
write_twice f [] number lines = refl
write_twice f (s ∷ ss) zero lines = refl
write_twice f (s ∷ ss) (suc number) lines = ap (λ rest. s ∷ rest) (write_twice f ss number lines)

-- ---- the line is taken out
pub none_left :
    (page : VirtualPage) (cache : List (List Line)) → cached_line (dropped page cache) page ≡ None
unfolding cached_line
none_left page cache =
    read_same (λ lines. line_of_page page lines ≡ None) cache (set_number page)
    (without_page page (set_of cache page)) (none_without page (set_of cache page)) refl

pub all_dropped :
    (P : Line → Type 0) (page : VirtualPage) (cache : List (List Line))
    → AllCached P cache
    → AllCached P (dropped page cache)
all_dropped P page cache all =
    each_set (AllInSet P) cache (set_number page) (without_page page (set_of cache page))
    (each_filter P (λ line. not (is_of page line)) (set_of cache page)
    (all_in_set_of P cache page all)) all

-- ---- a line is put last
pub kept_is_of :
    (page : VirtualPage) (outcome : Outcome) (found : Option Receipt)
    → IfSome (kept_line page outcome found) (λ line. line.page ≡ page)
kept_is_of page (At address) (Some r) = refl
kept_is_of page outcome found = tt

pub kept_translates :
    (page : VirtualPage) (outcome : Outcome) (found : Option Receipt)
    → IfSome found (λ r. TranslatesItsPage (line_of page r))
    → IfSome (kept_line page outcome found) TranslatesItsPage
kept_translates page (At address) (Some r) h = h
kept_translates page outcome found h = tt

pub kept_fits :
    (page : VirtualPage) (cache : List (List Line)) (kept : Option Line)
    → IfSome kept (λ line. line.page ≡ page)
    → IfSome kept (λ line. cached_line (dropped page cache) line.page ≡ None)
kept_fits page cache None of = tt
kept_fits page cache (Some line) of = rw of (none_left page cache)

pub all_kept :
    (P : Line → Type 0) (kept : Option Line) (cache : List (List Line))
    → AllCached P cache
    → IfSome kept P
    → AllCached P (with_kept kept cache)
all_kept P None cache all fact = all
all_kept P (Some line) cache all fact =
    each_set (AllInSet P) cache (set_number line.page) (put_last line (set_of cache line.page))
    (all_put_last P (set_of cache line.page) line (all_in_set_of P cache line.page all) fact) all

put_is :
    (page : VirtualPage) (outcome : Outcome) (found : Option Receipt) (lines : List Line)
    (cache : List (List Line))
    → with_kept (kept_line page outcome found) (with_set page lines cache)
    ≡ with_set page (set_with (kept_line page outcome found) lines) cache
put_is page (At address) (Some r) lines cache =
    write_twice (put_last _) cache (set_number page) lines
put_is page outcome found lines cache = refl

-- ---- the cache after a walk
pub walked_cache :
    (cache : List (List Line)) (seg : Segment) (r : AccessReply) (kept : Option Line)
    → r.by ≡ Some Walk
    → kept ≡ kept_line seg.page r.outcome (found_of r.receipts)
    → with_kept kept (dropped seg.page cache) ≡ cache_after cache (Some seg) r.by r
unfolding after_walk
walked_cache cache seg r kept way is =
    rw (way, is)
    (put_is seg.page r.outcome (found_of r.receipts)
    (without_page seg.page (set_of cache seg.page)) cache)
