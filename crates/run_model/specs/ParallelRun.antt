-- A run in which each processor works on its own, and what it promises of its own lines. Also what
-- a store promises when it is closed after a section.
use Rattle.std.specs.Prelude.{◌≡◌, ℕ, ◌<◌, Bool, List, [], ◌∷◌, length, IfSome, None}
use Rattle.std.specs.List.{AllByRecursion}
use Rattle.entry_model.specs.State.{State}
use Rattle.entry_model.specs.declared.line.Line.{Line}
use Rattle.entry_model.specs.declared.receipt.Receipt.{Receipt}
use Rattle.entry_model.specs.Run.{state_at}
use Rattle.entry_model.specs.CachedLines.{AllLater}
use Rattle.entry_model.specs.Fronts.{opening_fronts, KeepsFronts, IsGone}
use Rattle.tlb_model.specs.Processor.{Processor}
use Rattle.trace_line.specs.declared.act.Act.{Act}
use Rattle.trace_read.specs.Trace.{AcceptedTrace}
use Rattle.trace_reply.specs.declared.reply.Reply.{Reply}
use Rattle.trace_reply.specs.Replies.{RepliedLine, receipts_in, lines_with_replies}
use Rattle.run_model.specs.Histories.{lines_of_processor}
use Rattle.run_model.specs.LineReplies.{IsCallReply, IsReplyToAccess}
use Rattle.run_model.specs.Processors.{processor_at, processor_after, gone_line_of}
use Rattle.run_model.specs.Quiet.{QuietPart, cut}
use Rattle.run_model.specs.QuietLines.{run_quiet_line}
use Rattle.run_model.specs.Sections.{Section, AreLegalTo, closing_on, after_quiet, quiet_on, section_of}
use Rattle.run_model.specs.StoreContexts.{StoreContext, access_of}
use Rattle.run_model.specs.Stores.{Store, context_of, states_of, opening_stores, is_on}

-- ---- a processor
-- One of its lines, from the fronts that it had to those that it has then. Of a cached translation
-- that was gone, the entry's receipts come later, and the front says that it was gone.
pub record WorksLine
    (context : StoreContext)
    (fronts : List ℕ)
    (processor : Processor)
    (t : RepliedLine)
    (later : List ℕ)
    : Type 0
  where
    pub call : IsCallReply context t.line.act t.reply
    pub access : IsReplyToAccess (access_of context) processor t.line.act t.reply
    pub in_table : AllByRecursion (λ (r : Receipt). r.entry < length fronts) (receipts_in t.reply)
    pub keeps : KeepsFronts fronts (receipts_in t.reply) later
    pub comes_later :
        IfSome
        (gone_line_of processor t.line.act t.reply)
        (λ line. AllLater line (receipts_in t.reply))
    pub gone : IfSome (gone_line_of processor t.line.act t.reply) (IsGone later)

-- The processor works off its lines, one after the other, from these fronts to those.
abbrev pub Works :
    StoreContext → List ℕ → Processor → List RepliedLine → List ℕ → Type 0
Works context fronts processor [] later = later ≡ fronts
Works context fronts processor (t ∷ ts) later =
    (mid : List ℕ)
    × WorksLine context fronts processor t mid
    × Works context mid (processor_after processor t.line.act t.reply) ts later

-- ---- a section
-- All processors, which begin with the fronts of the states that the section opens on.
abbrev pub AllWork : Section → (ℕ → List ℕ) → Type 0
AllWork s fronts =
    (cpu : ℕ)
    → Works
    (context_of s.before)
    (opening_fronts (states_of s.before))
    (processor_at s.before.processors cpu)
    (lines_of_processor cpu s.replied_lines)
    (fronts cpu)

-- The store closed on these states: each entry has one legal history, and a line that is gone by a
-- processor's fronts has a lower stamp than its entry.
pub record IsClosed (s : Section) (fronts : ℕ → List ℕ) (states : List State) : Type 0 where
  pub size : length states ≡ length (states_of s.before)
  pub legal : AreLegalTo s states
  pub gone :
      (cpu : ℕ) (line : Line)
      → IsGone (fronts cpu) line
      → line.stamp < (state_at states line.entry).stamp

-- All processors work, the store closes on these states, and the quiet line has their reply.
pub record RunsApart (s : Section) (states : List State) : Type 0 where
  pub fronts : ℕ → List ℕ
  pub work : AllWork s fronts
  pub closed : IsClosed s fronts states
  pub quiet :
      IfSome s.quiet (λ q. q.reply ≡ (run_quiet_line (closing_on s states) q.line.act).0)

-- ---- a run
-- Sections of a store, one after the other.
abbrev pub RunsParallel : (Act → Bool) → Store → List RepliedLine → List QuietPart → Type 0
RunsParallel on s ts [] = (states : List State) × RunsApart (section_of on s ts None) states
RunsParallel on s ts (q ∷ qs) =
    let x = section_of on s ts (quiet_on on q.0) in
    (states : List State)
    × RunsApart x states
    × RunsParallel on (after_quiet (closing_on x states) x.quiet) q.1 qs

-- The lines on a store in a run with these replies.
abbrev pub IsParallelOn : AcceptedTrace → List Reply → Store → Type 0
IsParallelOn t rs s =
    let c = cut (lines_with_replies t.lines rs) in
    RunsParallel (is_on t.config.windows s.window) s c.0 c.1

-- The run with these replies is such a run, on each store.
abbrev pub IsParallel : AcceptedTrace → List Reply → Type 0
IsParallel t rs = AllByRecursion (IsParallelOn t rs) (opening_stores t.config)
