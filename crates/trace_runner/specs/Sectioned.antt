-- The sections of a parallel run on all stores: their replies, and what they add to an output.
use Rattle.std.specs.Prelude.{◌≡◌, ℕ, ◌+◌, ◌≤◌, List, [], ◌∷◌, ◌++◌, length}
use Rattle.std.specs.List.{AllByRecursion}
use Rattle.bus_window.specs.Windows.{BusWindow}
use Rattle.trace_line.specs.declared.line.TraceLine.{TraceLine}
use Rattle.trace_reply.specs.declared.reply.Reply.{Reply}
use Rattle.trace_reply.specs.Replies.{RepliedLine, AreReplies, lines_with_replies}
use Rattle.run_model.specs.AllStores.{AllStores, all_stores, windows_in}
use Rattle.run_model.specs.ParallelRun.{RunsParallel}
use Rattle.run_model.specs.Quiet.{cut}
use Rattle.run_model.specs.StoreNumbers.{store_at, AreNamed, Stays}
use Rattle.run_model.specs.Stores.{Store, is_on, lines_on}
use Rattle.trace_runner.specs.MachineState.{RunsLine}
use Rattle.trace_runner.specs.StoreRuns.{SectionLeaves, IsMerged}
use Rattle.trace_runner.specs.Workers.{Keeping}

-- ---- a section
-- The replies to its lines: where the stores are named, the lines on each store are a section of it
-- with these.
pub record Sectioned
    (s : AllStores)
    (lines : List TraceLine)
    (news : List Reply)
    (later : AllStores)
    : Type 0
  where
    pub kinds : AreReplies lines news
    pub leaves :
        AreNamed s
        → (number : ℕ)
        → number ≤ length s.windows
        → SectionLeaves
        (lines_on
        (is_on (windows_in s.windows) (store_at s number).window)
        (lines_with_replies lines news))
        (store_at s number)
        (store_at later number)
    pub stays : Stays s later

-- ---- a run
-- These lines with their replies are a run in which on each store each processor works on its own.
abbrev pub Runs : AllStores → List RepliedLine → Type 0
Runs s ts =
    let c = cut ts in
    AllByRecursion
    (λ (x : Store). RunsParallel (is_on (windows_in s.windows) x.window) x c.0 c.1)
    (all_stores s)

-- These replies to lines were put after those of an output.
abbrev pub HasGrown :
    {O : Type 0} → Keeping O → List TraceLine → List Reply → O → O → Type 0
HasGrown has lines news old new =
    (ks : List TraceLine) (qs : List Reply) → has old ks qs → has new (ks ++ lines) (qs ++ news)

-- The replies that were picked were put after those of an output, in file order.
pub record AddsReplies
    {O : Type 0}
    (has : Keeping O)
    (ws : List BusWindow)
    (lines : List TraceLine)
    (picks : ℕ → ℕ → List Reply)
    (old new : O)
    : Type 0
  where
    pub news : List Reply
    pub grown : HasGrown has lines news old new
    pub merged : IsMerged ws lines picks news

-- The section's replies were put after those of an output.
pub record RunsSection
    {O : Type 0}
    (has : Keeping O)
    (s : AllStores)
    (lines : List TraceLine)
    (old new : O)
    (later : AllStores)
    : Type 0
  where
    pub news : List Reply
    pub grown : HasGrown has lines news old new
    pub sectioned : Sectioned s lines news later

-- A section ran, and after it the quiet line that ends it; their replies were put after those of
-- an output.
pub record RunsToQuiet
    {O : Type 0}
    (has : Keeping O)
    (s : AllStores)
    (lines : List TraceLine)
    (quiet : TraceLine)
    (old new : O)
    (later : AllStores)
    : Type 0
  where
    pub next : AllStores
    pub between : O
    pub section : RunsSection has s lines old between next
    pub reply : Reply
    pub ran : RunsLine next quiet reply later
    pub put : HasGrown has (quiet ∷ []) (reply ∷ []) between new
    pub number : later.table.memory.table.number ≤ next.table.memory.table.number + 1
    pub processors : length later.table.processors ≡ length next.table.processors

-- An output has the replies to these lines. Where the stores are named, they are a run in which on
-- each store each processor works on its own.
pub record HasRunFrom
    {O : Type 0}
    (has : Keeping O)
    (s : AllStores)
    (lines : List TraceLine)
    (output : O)
    : Type 0
  where
    pub replies : List Reply
    pub put : has output lines replies
    pub kinds : AreNamed s → AreReplies lines replies
    pub runs : AreNamed s → Runs s (lines_with_replies lines replies)
