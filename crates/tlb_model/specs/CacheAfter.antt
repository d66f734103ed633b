-- A processor's cached translations after an access, by those before it, the segment and the reply.
use Rattle.std.specs.Prelude.{List, Option, Some, None}
use Rattle.power_addr.specs.Pages.{VirtualPage}
use Rattle.slb_model.specs.declared.segment.Segment.{Segment}
use Rattle.entry_model.specs.declared.line.Line.{Line}
use Rattle.entry_model.specs.declared.receipt.Receipt.{Receipt}
use Rattle.entry_model.specs.declared.access_reply.AccessReply.{AccessReply}
use Rattle.entry_model.specs.declared.access_reply.By.{By}
use Rattle.entry_model.specs.declared.access_reply.By.TheVariants.{Walk}
use Rattle.entry_model.specs.declared.access_reply.Outcome.{Outcome}
use Rattle.entry_model.specs.declared.access_reply.Outcome.TheVariants.{At}
use Rattle.tlb_model.specs.Cache.{cached_line, put_last, set_of, without_page}
use Rattle.tlb_model.specs.Sets.{with_set}
use Rattle.entry_model.specs.Receipt.{found_of}
use Rattle.entry_model.specs.CachedLines.{line_of}

-- ---- the line that a walk gives
-- The line that a walk of the page gives the cache: that of the entry found, where the walk ended
-- At.
abbrev pub kept_line : VirtualPage → Outcome → Option Receipt → Option Line
kept_line page (At address) (Some r) = Some (line_of page r)
kept_line page other found = None

-- A set with this line, if there is one, put last.
abbrev pub set_with : Option Line → List Line → List Line
set_with None lines = lines
set_with (Some line) lines = put_last line lines

-- The cache with this line, if there is one, put last in its set.
abbrev pub with_kept : Option Line → List (List Line) → List (List Line)
with_kept None cache = cache
with_kept (Some line) cache =
    with_set line.page (set_with (Some line) (set_of cache line.page)) cache

-- ---- the cache after an access
-- After a walk of the page: its line is taken out, and the one that the walk gives is put last.
unfoldable pub after_walk : List (List Line) → VirtualPage → AccessReply → List (List Line)
after_walk cache page r =
    let kept = kept_line page r.outcome (found_of r.receipts) in
    with_set page (set_with kept (without_page page (set_of cache page))) cache

-- Replies by Hit, and those without a segment, change nothing.
abbrev pub cache_after :
    List (List Line) → Option Segment → Option By → AccessReply → List (List Line)
cache_after cache (Some seg) (Some Walk) r = after_walk cache seg.page r
cache_after cache seg way r = cache

-- ---- the line that is stale
-- A page that has a cached translation is walked only where this translation is stale.
abbrev pub gone_by_way : Option By → Option Line → Option Line
gone_by_way (Some Walk) line = line
gone_by_way way line = None

-- The cached translation that was stale when this reply was made, if there was one.
abbrev pub gone_line : List (List Line) → Option Segment → AccessReply → Option Line
gone_line cache None r = None
gone_line cache (Some seg) r = gone_by_way r.by (cached_line cache seg.page)
