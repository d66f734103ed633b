-- A section on one store, and good replies to its lines with whose text a given text begins.
use Rattle.std.specs.Prelude.{◌≡◌, ℕ, ◌≤◌, Option, Some, None, List, [], ◌∷◌, ◌++◌, drop, length}
use Rattle.entry_model.specs.State.{State}
use Rattle.tlb_model.specs.Processor.{Processor}
use Rattle.trace_line.specs.declared.line.TraceLine.{TraceLine}
use Rattle.trace_reply.specs.declared.reply.Reply.{Reply}
use Rattle.trace_reply.specs.Replies.{RepliedLine, AreReplies, lines_with_replies}
use Rattle.reply_text.specs.Text.{reply_text}
use Rattle.run_model.specs.GoodRun.{EachLine, IsAccessLine, AreInOrder, CallsAreReplied}
use Rattle.run_model.specs.Sections.{Section, AreLegalTo, processors_after_lines, states_behind}
use Rattle.run_model.specs.StoreContexts.{StoreContext, access_of}
use Rattle.run_model.specs.Stores.{Store, context_of, states_of, plain_store}

-- ---- the lines of a section
-- The text of lines with their replies.
abbrev pub lines_text : List RepliedLine → List ℕ
lines_text [] = []
lines_text (t ∷ ts) = reply_text t.line t.reply ++ lines_text ts

-- ---- a section and a text
-- What a section of a store needs of what was before it.
pub record Opening : Type 0 where
  pub context : StoreContext
  pub states : List State
  pub processors : List Processor

-- What the next section of a store needs of a run that has come so far.
abbrev pub opening_of : Store → Opening
opening_of w = record {
  context = context_of w;
  states = states_of w;
  processors = w.processors;
}

-- The section that opens so, of these lines, which no quiet line ends.
abbrev pub section_on : Opening → List RepliedLine → Section
section_on o ts = record {
  before = plain_store o.context o.states o.processors;
  replied_lines = ts;
  quiet = None;
}

-- The states that its receipts leave.
abbrev pub closing_of : Section → List State
closing_of s = states_behind s.before s.replied_lines

-- The section is good where it closes on these states.
abbrev pub IsGoodTo : Section → List State → Type 0
IsGoodTo s closing =
    AreLegalTo s closing
    × AreInOrder s
    × CallsAreReplied s
    × EachLine (IsAccessLine (access_of (context_of s.before)) closing) s

-- A section is good, and closes on the states that its receipts leave.
abbrev pub IsGoodPart : Section → Type 0
IsGoodPart s = IsGoodTo s (closing_of s)

-- The section of these lines on a store is good, and closes on the states that its receipts leave.
abbrev pub IsGoodOn : Opening → List RepliedLine → Type 0
IsGoodOn o ts = IsGoodPart (section_on o ts)

-- With these replies the lines are good, in the sense given, and the given text is their text and
-- then the rest.
pub record AreFoundGood
    (Good : List RepliedLine → Type 0)
    (ls : List TraceLine)
    (given : List ℕ)
    (rs : List Reply)
    (rest : List ℕ)
    : Type 0
  where
    pub kinds : AreReplies ls rs
    pub good : Good (lines_with_replies ls rs)
    pub text : given ≡ lines_text (lines_with_replies ls rs) ++ rest

-- They are found as a good section of a store.
abbrev pub IsFound : Opening → List TraceLine → List ℕ → List Reply → List ℕ → Type 0
IsFound o = AreFoundGood (IsGoodOn o)

-- The lines have good replies, whose text is the first n bytes of the given one; the section closes
-- on these states and processors.
pub record HasSection
    (o : Opening)
    (ls : List TraceLine)
    (text : List ℕ)
    (n : ℕ)
    (states : List State)
    (processors : List Processor)
    : Type 0
  where
    pub replies : List Reply
    pub found : IsFound o ls text replies (drop n text)
    pub closes : closing_of (section_on o (lines_with_replies ls replies)) ≡ states
    pub behind :
        processors_after_lines 0 o.processors (lines_with_replies ls replies) ≡ processors

-- The lines have no good replies with whose text the text begins.
abbrev pub HasNoSection : Opening → List TraceLine → List ℕ → Type 0
HasNoSection o ls text = (rs : List Reply) (rest : List ℕ) → IsFound o ls text rs rest → ⊥

-- What is said of a section: with a number, that it is found, with so many bytes of the text, and
-- what it leaves; with none, that it is not.
abbrev pub TellsSection :
    Opening → List TraceLine → List ℕ → Option ℕ → List State → List Processor → Type 0
TellsSection o ls text (Some n) states processors =
    (n ≤ length text) × HasSection o ls text n states processors
TellsSection o ls text None states processors = HasNoSection o ls text
