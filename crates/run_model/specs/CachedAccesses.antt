-- How accesses use cached translations: a hit is by a current one, and a walk passes only stale
-- ones.
use Rattle.std.specs.Prelude.{◌≡◌, ◌<◌, List, [], ◌∷◌, Option, Some, None}
use Rattle.entry_model.specs.State.{State}
use Rattle.entry_model.specs.declared.line.Line.{Line}
use Rattle.entry_model.specs.declared.receipt.Receipt.{Receipt}
use Rattle.entry_model.specs.declared.access_reply.By.{By}
use Rattle.entry_model.specs.declared.access_reply.By.TheVariants.{Hit, Walk}
use Rattle.entry_model.specs.Run.{state_at}
use Rattle.entry_model.specs.CachedLines.{IsCurrent, AllLater}
use Rattle.slb_model.specs.declared.segment.Segment.{Segment}
use Rattle.slb_model.specs.Buffer.{segment_of}
use Rattle.tlb_model.specs.Cache.{cached_line}
use Rattle.tlb_model.specs.Processor.{Processor}
use Rattle.trace_line.specs.declared.act.Act.{Act}
use Rattle.trace_reply.specs.declared.reply.Reply.{Reply}
use Rattle.run_model.specs.Stores.{states_of}
use Rattle.run_model.specs.Sections.{Section, closing}
use Rattle.run_model.specs.GoodRun.{EachLine}
use Rattle.trace_line.specs.declared.act.Act.TheVariants as acts
use Rattle.trace_reply.specs.declared.reply.Reply.TheVariants as replies

-- ---- one access
-- One receipt, of the line's entry, and the line was current at its place in the entry's history.
pub record IsByCurrentLine (line : Line) (rs : List Receipt) : Type 0 where
  pub receipt : Receipt
  pub only : rs ≡ receipt ∷ []
  pub entry : receipt.entry ≡ line.entry
  pub current : IsCurrent line receipt.before

-- The line's entry leaves the line's stamp before the table closes on these states, and had left it
-- at each of the receipts.
pub record IsPastLine (states : List State) (line : Line) (rs : List Receipt) : Type 0 where
  pub left : line.stamp < (state_at states line.entry).stamp
  pub later : AllLater line rs

-- How an access used the line of its page that was cached: a hit is by that line while it is
-- current, and a walk goes past a line that is gone. Where no line was cached there is no hit.
abbrev pub UsesLine : List State → Option By → Option Line → List Receipt → Type 0
UsesLine states (Some Hit) (Some line) rs = IsByCurrentLine line rs
UsesLine states (Some Hit) None rs = ⊥
UsesLine states (Some Walk) (Some line) rs = IsPastLine states line rs
UsesLine states way line rs = Unit {0}

-- ---- the accesses of a section
-- The line that the processor has cached of the page in which this segment has the address.
abbrev pub line_in : Processor → Option Segment → Option Line
line_in p None = None
line_in p (Some seg) = cached_line p.cache seg.page

-- The line is no access of this processor, or the access used the cache so.
abbrev pub UsesItsCache : List State → Processor → Act → Reply → Type 0
UsesItsCache states p (acts.Access want ea user) (replies.Access r) =
    UsesLine states r.by (line_in p (segment_of p.slots ea)) r.receipts
UsesItsCache states p act reply = Unit {0}

-- Each access of a section used its processor's cache so.
abbrev pub AccessesUseCaches : Section → Type 0
AccessesUseCaches s =
    EachLine
    (λ p t. UsesItsCache
    (states_of (closing s))
    p
    t.line.act
    t.reply)
    s
