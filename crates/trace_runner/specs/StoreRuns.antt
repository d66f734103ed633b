-- The stores of a section: what their processors did, and their replies in file order.
use Rattle.std.specs.Prelude.{◌≡◌, ◌≢◌, ℕ, ◌+◌, ◌<◌, ◌≤◌, List, length, slice_index_or, Vec, None}
use Rattle.std.specs.List.{AllByRecursion}
use Rattle.bus_window.specs.Windows.{BusWindow}
use Rattle.entry_model.specs.State.{State}
use Rattle.tlb_model.specs.Processor.{Processor}
use Rattle.trace_line.specs.declared.line.TraceLine.{TraceLine}
use Rattle.trace_reply.specs.declared.reply.Reply.{Reply}
use Rattle.trace_reply.specs.Replies.{RepliedLine, AreReplies, lines_with_replies}
use Rattle.run_model.specs.AllStores.{AllStores, windows_in}
use Rattle.run_model.specs.Histories.{lines_of_processor}
use Rattle.run_model.specs.ParallelRun.{RunsApart}
use Rattle.run_model.specs.Sections.{Section, processors_after_lines, section_end_on}
use Rattle.run_model.specs.StoreContexts.{StoreContext}
use Rattle.run_model.specs.StoreNumbers.{store_at, Stays, lines_on_store, replied_on_store}
use Rattle.run_model.specs.Stores.{Store, plain_store, is_on, lines_on}
use Rattle.trace_line.specs.Lines.{AreOnProcessors}
use Rattle.run_model.specs.Quiet.{NoneQuiet}
use Rattle.trace_runner.specs.Workers.{Keeping, AllNumbered, lines_of_cpu, replied_lines_of_cpu}

-- ---- a store
-- None of the lines is quiet, and each has one of so many processors.
abbrev pub AreRunnable : ℕ → List TraceLine → Type 0
AreRunnable cpus lines = NoneQuiet lines × AreOnProcessors cpus lines

-- The section of a store with these, and no quiet line.
abbrev pub section_on :
    StoreContext → List State → List Processor → List RepliedLine → Section
section_on context opening processors ts = record {
  before = plain_store context opening processors;
  replied_lines = ts;
  quiet = None;
}

-- Each line's processor has a log, and each processor's log keeps the replies to its lines that are
-- picked for it.
pub record AllKeep
    {L : Type 0}
    (keeps : Keeping L)
    (lines : List TraceLine)
    (picks : ℕ → List Reply)
    (logs : List L)
    : Type 0
  where
    pub cpus : AllByRecursion (λ (l : TraceLine). l.cpu < length logs) lines
    pub kinds :
        (cpu : ℕ) → cpu < length logs → AreReplies (lines_of_cpu cpu lines) (picks cpu)
    pub kept :
        (cpu : ℕ) (d : L)
        → cpu < length logs
        → keeps (slice_index_or logs cpu d) (lines_of_cpu cpu lines) (picks cpu)

-- Among these each processor has its own of the lines, with the replies that are picked for it.
abbrev pub HavePicked : List TraceLine → (ℕ → List Reply) → List RepliedLine → Type 0
HavePicked lines picks ts =
    (cpu : ℕ) → lines_of_processor cpu ts ≡ replied_lines_of_cpu cpu lines (picks cpu)

-- Processors ran these lines on a store: their logs keep the replies that are picked, and the lines
-- with these are a section of the store, from its opening to its closing states.
pub record RunsStore
    {L : Type 0}
    (keeps : Keeping L)
    (context : StoreContext)
    (opening : List State)
    (processors : List Processor)
    (lines : List TraceLine)
    (picks : ℕ → List Reply)
    (closing : List State)
    (later : List Processor)
    (logs : List L)
    : Type 0
  where
    pub keep : AllKeep keeps lines picks logs
    pub apart :
        (ts : List RepliedLine)
        → HavePicked lines picks ts
        → RunsApart (section_on context opening processors ts) closing
    pub after :
        (ts : List RepliedLine)
        → HavePicked lines picks ts
        → later ≡ processors_after_lines 0 processors ts

-- Processors ran these lines on a store, with some picked replies in their logs.
abbrev pub RanStore :
    {L : Type 0}
    → Keeping L
    → StoreContext
    → List State → List Processor → List TraceLine → List State → List Processor → List L → Type 0
RanStore keeps context opening processors lines closing later logs =
    (picks : ℕ → List Reply)
    × RunsStore keeps context opening processors lines picks closing later logs

-- ---- a section of a store
-- A section with these lines, in which each processor worked on its own, leaves of one store the
-- other.
pub record SectionLeaves (ts : List RepliedLine) (x y : Store) : Type 0 where
  pub states : List State
  pub apart : RunsApart (record { before = x; replied_lines = ts; quiet = None }) states
  pub later : y ≡ section_end_on x ts states

-- These lines were run on a store: its logs keep the replies that are picked for them, and where
-- the lines on the store have those replies, their section leaves such a store.
pub record RunsOn
    {L : Type 0}
    (keeps : Keeping L)
    (ws : List BusWindow)
    (lines : List TraceLine)
    (picks : ℕ → List Reply)
    (x y : Store)
    (logs : List L)
    : Type 0
  where
    pub keep : AllKeep keeps lines picks logs
    pub leaves :
        (ts : List RepliedLine)
        → HavePicked lines picks (lines_on (is_on ws x.window) ts)
        → SectionLeaves (lines_on (is_on ws x.window) ts) x y

-- ---- all stores
-- These lines were run on the store of this number, and the other stores stay.
pub record RanOn
    {L : Type 0}
    (keeps : Keeping L)
    (s : AllStores)
    (number : ℕ)
    (lines : List TraceLine)
    (later : AllStores)
    (logs : List L)
    : Type 0
  where
    pub picks : ℕ → List Reply
    pub ran :
        RunsOn
        keeps (windows_in s.windows) lines picks
        (store_at s number) (store_at later number) logs
    pub others :
        (other : ℕ)
        → other ≢ number
        → other ≤ length s.windows
        → store_at later other ≡ store_at s other
    pub stays : Stays s later

-- Of these lines those on the stores with lower numbers than this were run, each on its store, and
-- the stores from this number on stay. The logs are by the numbers of the stores.
pub record RanBelow
    {L Z : Type 0}
    (keeps : Keeping L)
    (s : AllStores)
    (end : ℕ)
    (lines : List TraceLine)
    (later : AllStores)
    (logs : List (Vec L Z))
    : Type 0
  where
    pub picks : ℕ → ℕ → List Reply
    pub size : length logs ≡ end
    pub ran :
        AllNumbered
        (λ number own.
        RunsOn
        keeps (windows_in s.windows) (lines_on_store (windows_in s.windows) number lines)
        (picks number) (store_at s number) (store_at later number) own.items)
        0 logs
    pub others :
        (number : ℕ)
        → end ≤ number
        → number ≤ length s.windows
        → store_at later number ≡ store_at s number
    pub stays : Stays s later

-- The lines were run each on its store.
abbrev pub RanStores :
    {L Z : Type 0}
    → Keeping L → AllStores → List TraceLine → AllStores → List (Vec L Z) → Type 0
RanStores keeps s lines later logs = RanBelow keeps s (1 + length s.windows) lines later logs

-- ---- replies in file order
-- For each store its logs keep the replies that are picked for its lines.
abbrev pub StoresKeep :
    {L Z : Type 0}
    → Keeping L
    → List BusWindow → List TraceLine → (ℕ → ℕ → List Reply) → List (Vec L Z) → Type 0
StoresKeep keeps ws lines picks logs =
    AllNumbered
    (λ store own. AllKeep keeps (lines_on_store ws store lines) (picks store) own.items)
    0 logs

-- There is a reply to each line, and those on each store are those that are picked for it.
pub record IsMerged
    (ws : List BusWindow)
    (lines : List TraceLine)
    (picks : ℕ → ℕ → List Reply)
    (news : List Reply)
    : Type 0
  where
    pub kinds : AreReplies lines news
    pub own :
        (store : ℕ)
        → HavePicked
        (lines_on_store ws store lines)
        (picks store)
        (replied_on_store ws store (lines_with_replies lines news))
