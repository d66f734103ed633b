-- The lines of a section, judged one after the other in file order.
use Rattle.std.specs.Prelude.{◌≡◌, ℕ, ◌≤◌, Option, Some, None, List, [], ◌∷◌, ◌++◌, length, take, drop}
use Rattle.entry_model.specs.State.{State}
use Rattle.run_model.specs.StoreContexts.{StoreContext}
use Rattle.tlb_model.specs.Processor.{Processor}
use Rattle.trace_line.specs.declared.line.TraceLine.{TraceLine}
use Rattle.trace_reply.specs.declared.reply.Reply.{Reply}
use Rattle.trace_reply.specs.Replies.{RepliedLine, lines_with_replies}
use Rattle.run_model.specs.Processors.{processor_at, processor_after, processors_after, processors_behind}
use Rattle.run_model.specs.Histories.{Event, InOrder, lines_of_processor, events_in, events_by}
use Rattle.reply_text.specs.Text.{reply_text}
use Rattle.history_check.specs.FoundSection.{lines_text}
use Rattle.history_check.specs.FrontKeeping.{LeadsTo, AllLeadTo}
use Rattle.history_check.specs.LineReply.{StandsOn, HasReply}

-- There is one reply for each line, by as many of the states found as the line's count says; none
-- is left over.
abbrev pub AllStand :
    StoreContext
    → List State
    → List Processor
    → List TraceLine
    → List ℕ
    → List State
    → List Reply
    → Type 0
AllStand context closing ps [] [] found [] = found ≡ []
AllStand context closing ps (l ∷ ls) (n ∷ ns) found (r ∷ rs) =
    (n ≤ length found)
    × StandsOn context closing (processor_at ps l.cpu) l (take n found) r
    × AllStand
    context
    closing
    (processors_after ps (record { line = l; reply = r }))
    ls
    ns
    (drop n found)
    rs
AllStand context closing ps ls ns found rs = ⊥

-- On each entry each processor's events keep its front, from these fronts on.
abbrev pub AllInOrder : (ℕ → ℕ → ℕ) → List Processor → List RepliedLine → Type 0
AllInOrder fronts ps ts =
    (cpu e : ℕ)
    → InOrder e (fronts cpu e) (events_by (processor_at ps cpu) (lines_of_processor cpu ts))

-- What of a section the judge has before it: closing states, the lines' counts of states found, the
-- states found.
pub record Judged : Type 0 where
  pub context : StoreContext
  pub closing : List State
  pub lines : List TraceLine
  pub counts : List ℕ
  pub found : List State

-- What the judge has before it, made of its five parts.
abbrev pub judged :
    StoreContext → List State → List TraceLine → List ℕ → List State → Judged
judged context closing ls ns found = record {
  context = context;
  closing = closing;
  lines = ls;
  counts = ns;
  found = found;
}

-- From these processors and fronts on, the lines have these replies, with whose text the given one
-- begins, and leave these processors.
pub record AreReplied
    (j : Judged)
    (ps : List Processor)
    (fronts : ℕ → ℕ → ℕ)
    (given : List ℕ)
    (rs : List Reply)
    (rest : List ℕ)
    (later : List Processor)
    : Type 0
  where
    pub stand : AllStand j.context j.closing ps j.lines j.counts j.found rs
    pub in_order : AllInOrder fronts ps (lines_with_replies j.lines rs)
    pub text : given ≡ lines_text (lines_with_replies j.lines rs) ++ rest
    pub behind : later ≡ processors_behind ps (lines_with_replies j.lines rs)

-- What is said of the lines: with a number, that they have replies, with so many bytes of the text,
-- and what processors they leave; with none, that no replies stand.
abbrev pub TellsLines :
    Judged
    → List Processor
    → (ℕ → ℕ → ℕ)
    → List ℕ
    → Option ℕ
    → List Processor
    → Type 0
TellsLines j ps fronts given (Some n) later =
    (n ≤ length given)
    × ((rs : List Reply) × AreReplied j ps fronts given rs (drop n given) later)
TellsLines j ps fronts given None later =
    (rs : List Reply) (rest : List ℕ) (behind : List Processor)
    → AreReplied j ps fronts given rs rest behind
    → ⊥

-- ---- one line
-- What of a line the judge has before it: the states on which its section closes, the line, the
-- states that its operations found, and the text.
pub record JudgedLine : Type 0 where
  pub context : StoreContext
  pub closing : List State
  pub line : TraceLine
  pub found : List State
  pub given : List ℕ

-- The line with this reply.
abbrev pub replied : JudgedLine → Reply → RepliedLine
replied j r = record { line = j.line; reply = r }

-- There is no good reply of this processor, from this front on.
abbrev pub HasNoReply : JudgedLine → Processor → (ℕ → ℕ) → Type 0
HasNoReply j p front =
    (r : Reply) (rest : List ℕ) (others : List Event)
    → StandsOn j.context j.closing p j.line j.found r
    → j.given ≡ reply_text j.line r ++ rest
    → ((e : ℕ) → InOrder e (front e) (events_in p (replied j r) ++ others))
    → ⊥

-- What is said of a line by its own processor: with a number, that a reply stands, with so many
-- bytes of the text, and what processor and front it leaves; with none, that no reply stands.
abbrev pub TellsReply :
    JudgedLine → Processor → (ℕ → ℕ) → Option ℕ → Processor → (ℕ → ℕ) → Type 0
TellsReply j p front (Some n) later behind =
    (h : HasReply j.context j.closing p j.line j.found j.given n)
    × (later ≡ processor_after p j.line.act h.reply)
    × LeadsTo front (events_in p (replied j h.reply)) behind
TellsReply j p front None later behind = HasNoReply j p front

-- What is said of a line, with the processors and the fronts of all instead of its own processor's.
abbrev pub TellsLine :
    JudgedLine
    → List Processor
    → (ℕ → ℕ → ℕ)
    → Option ℕ
    → List Processor
    → (ℕ → ℕ → ℕ)
    → Type 0
TellsLine j ps fronts (Some n) later behind =
    let p = processor_at ps j.line.cpu in
    (h : HasReply j.context j.closing p j.line j.found j.given n)
    × (later ≡ processors_after ps (replied j h.reply))
    × AllLeadTo fronts j.line.cpu (events_in p (replied j h.reply)) behind
TellsLine j ps fronts None later behind =
    HasNoReply j (processor_at ps j.line.cpu) (fronts j.line.cpu)
