-- A good run section by section: all stores side by side, from one quiet line to the next.
use Rattle.std.specs.Prelude.{List, [], ◌∷◌, map, Option, Some, None}
use Rattle.std.specs.List.{AllByRecursion}
use Rattle.bus_window.specs.Windows.{BusWindow}
use Rattle.trace_read.specs.Trace.{AcceptedTrace}
use Rattle.trace_reply.specs.declared.reply.Reply.{Reply}
use Rattle.trace_reply.specs.Replies.{RepliedLine, AreReplies, lines_with_replies}
use Rattle.run_model.specs.GoodRun.{IsGoodSection}
use Rattle.run_model.specs.Quiet.{QuietPart, cut}
use Rattle.run_model.specs.Sections.{Section, closing, after_quiet, quiet_on, section_of}
use Rattle.run_model.specs.Stores.{Store, is_on, opening_stores}

-- What these lines, and the quiet line after them if there is one, are on a store.
abbrev pub part_on : List BusWindow → List RepliedLine → Option RepliedLine → Store → Section
part_on ws ts None s = section_of (is_on ws s.window) s ts None
part_on ws ts (Some q) s =
    section_of (is_on ws s.window) s ts (quiet_on (is_on ws s.window) q)

-- What a section leaves of its store.
abbrev pub left_by : Section → Store
left_by x = after_quiet (closing x) x.quiet

-- All stores after these lines and the quiet line.
abbrev pub stores_behind : List BusWindow → List Store → List RepliedLine → RepliedLine → List Store
stores_behind ws ss ts q = map (λ (s : Store). left_by (part_on ws ts (Some q) s)) ss

-- The lines up to the next quiet line are good on each store, with that line, and so on.
abbrev pub AreGood : List BusWindow → List Store → List RepliedLine → List QuietPart → Type 0
AreGood ws ss ts [] = AllByRecursion (λ (s : Store). IsGoodSection (part_on ws ts None s)) ss
AreGood ws ss ts (q ∷ qs) =
    AllByRecursion (λ (s : Store). IsGoodSection (part_on ws ts (Some q.0) s)) ss
    × AreGood ws (stores_behind ws ss ts q.0) q.1 qs

-- A good run, section by section.
pub record IsGoodSideBySide (t : AcceptedTrace) (rs : List Reply) : Type 0 where
  pub kinds : AreReplies t.lines rs
  pub sections :
      let c = cut (lines_with_replies t.lines rs) in
      AreGood t.config.windows (opening_stores t.config) c.0 c.1
