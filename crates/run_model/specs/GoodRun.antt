-- The good run: its replies place each call on an entry once in that entry's legal history. None
-- comes before what its processor had seen.
use Rattle.std.specs.Prelude.{◌≡◌, ℕ, ◌<◌, List, [], ◌∷◌, IfSome}
use Rattle.std.specs.List.{AllByRecursion}
use Rattle.entry_model.specs.State.{State}
use Rattle.entry_model.specs.History.{pair_of}
use Rattle.entry_model.specs.Run.{state_at}
use Rattle.hpt_walk.specs.Access.{AccessContext}
use Rattle.tlb_model.specs.Processor.{Processor}
use Rattle.trace_read.specs.Trace.{AcceptedTrace}
use Rattle.trace_reply.specs.declared.reply.Reply.{Reply}
use Rattle.trace_reply.specs.Replies.{RepliedLine, AreReplies}
use Rattle.run_model.specs.Histories.{AreLegalBetween, lines_of_processor, InOrder, events_by}
use Rattle.run_model.specs.LineReplies.{IsCallReply, IsReplyToAccess}
use Rattle.run_model.specs.Processors.{processor_at, processor_after, gone_line_of}
use Rattle.run_model.specs.QuietLines.{run_quiet_line}
use Rattle.run_model.specs.Sections.{Section, made_in, closing, sections_on}
use Rattle.run_model.specs.StoreContexts.{access_of}
use Rattle.run_model.specs.Stores.{Store, context_of, states_of, opening_stores}

-- ---- lines
-- A fact of each of one processor's lines, and of the processor before it.
abbrev pub EachLineOfProcessor :
    (Processor → RepliedLine → Type 0) → Processor → List RepliedLine → Type 0
EachLineOfProcessor P p [] = Unit {0}
EachLineOfProcessor P p (t ∷ ts) =
    P p t × EachLineOfProcessor P (processor_after p t.line.act t.reply) ts

-- A fact of each line of each processor in a section.
abbrev pub EachLine : (Processor → RepliedLine → Type 0) → Section → Type 0
EachLine P s =
    (cpu : ℕ)
    → EachLineOfProcessor
    P
    (processor_at s.before.processors cpu)
    (lines_of_processor cpu s.replied_lines)

-- The reply of an access; a walk instead of a cached translation comes only where the line's entry
-- left its stamp.
pub record IsAccessLine
    (context : AccessContext)
    (states : List State)
    (processor : Processor)
    (t : RepliedLine)
    : Type 0
  where
    pub reply : IsReplyToAccess context processor t.line.act t.reply
    pub gone :
        IfSome
        (gone_line_of processor t.line.act t.reply)
        (λ line. line.stamp < (state_at states line.entry).stamp)

-- ---- a section
-- Each receipt is of an entry of the store, and each entry's history is legal, from the state that
-- it opens on to the one that it closes on.
abbrev pub AreLegal : Section → Type 0
AreLegal s = AreLegalBetween (states_of s.before) (states_of (closing s)) (made_in s)

-- On each entry each processor's receipts keep its front, which begins at the state that the entry
-- opens on.
abbrev pub AreInOrder : Section → Type 0
AreInOrder s =
    (cpu entry : ℕ)
    → InOrder
    entry
    (pair_of (state_at (states_of s.before) entry))
    (events_by (processor_at s.before.processors cpu) (lines_of_processor cpu s.replied_lines))

-- Each hypervisor call, device's access, slbmte and slbclear has the reply of its receipts.
abbrev pub CallsAreReplied : Section → Type 0
CallsAreReplied s = EachLine (λ p t. IsCallReply (context_of s.before) t.line.act t.reply) s

-- Each access has the reply of its receipts, where the store closes on its states.
abbrev pub AccessesAreReplied : Section → Type 0
AccessesAreReplied s =
    EachLine (IsAccessLine (access_of (context_of s.before)) (states_of (closing s))) s

-- The quiet line after the section has the reply that the closing states give.
abbrev pub QuietIsReplied : Section → Type 0
QuietIsReplied s = IfSome s.quiet (λ q. q.reply ≡ (run_quiet_line (closing s) q.line.act).0)

-- A good section of a store.
pub record IsGoodSection (s : Section) : Type 0 where
  pub legal : AreLegal s
  pub in_order : AreInOrder s
  pub calls : CallsAreReplied s
  pub accesses : AccessesAreReplied s
  pub quiet : QuietIsReplied s

-- ---- a run
-- Each section of the store is good.
abbrev pub IsGoodOn : AcceptedTrace → List Reply → Store → Type 0
IsGoodOn t rs s = AllByRecursion IsGoodSection (sections_on t rs s)

-- The replies are of the lines' kinds, and each section of each store is good.
pub record IsGoodRun (t : AcceptedTrace) (rs : List Reply) : Type 0 where
  pub kinds : AreReplies t.lines rs
  pub stores : AllByRecursion (IsGoodOn t rs) (opening_stores t.config)
