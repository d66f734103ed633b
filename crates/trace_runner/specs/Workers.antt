-- The workers of a section: a processor each, with a pass of its own.
use Rattle.std.specs.Prelude.{IsSomeAnd}
use Rattle.std.specs.Prelude.{◌≡◌, ◌≢◌, ℕ, zero, suc, ◌+◌, ◌<◌, ◌≤◌, ◌==◌, ◌⊎◌, List, [], ◌∷◌, length, slice_index_or, filter, map, min, Option, None}
use Rattle.std.specs.List.{AllByRecursion}
use Rattle.hpte_fields.specs.TableSize.{entry_count}
use Rattle.entry_model.specs.declared.line.Line.{Line}
use Rattle.tlb_model.specs.Cache.{AllCached}
use Rattle.entry_model.specs.Fronts.{opening_fronts}
use Rattle.entry_lock.specs.declared.table.LockTable.{LockTable}
use Rattle.entry_lock.specs.declared.table.Pass.{Pass}
use Rattle.entry_lock.specs.PassOfTable.{IsOf, view_of}
use Rattle.entry_lock.specs.WaitingStore.{IsSeenInTable}
use Rattle.run_model.specs.StoreContexts.{StoreContext}
use Rattle.tlb_model.specs.Processor.{Processor}
use Rattle.trace_line.specs.declared.line.TraceLine.{TraceLine}
use Rattle.trace_reply.specs.declared.reply.Reply.{Reply}
use Rattle.trace_reply.specs.Replies.{RepliedLine, AreReplies, lines_with_replies}
use Rattle.run_model.specs.Sections.{processor_after_lines}
use Rattle.run_model.specs.Histories.{receipts_by}
use Rattle.run_model.specs.ParallelRun.{Works}
use Rattle.trace_runner.specs.declared.worker.Worker.{Worker}
use Rattle.run_model.specs.HeldLines.{Holding}

-- A line with its reply.
abbrev pub replied_line : TraceLine → Reply → RepliedLine
replied_line line reply = record { line = line; reply = reply }

-- ---- the lines of one processor
-- They are in file order.
abbrev pub lines_of_cpu : ℕ → List TraceLine → List TraceLine
lines_of_cpu cpu lines = filter (λ (l : TraceLine). l.cpu == cpu) lines

-- Read at these indices, the lines are just these, in this order.
pub record IsReadAt (lines : List TraceLine) (indices : List ℕ) (own : List TraceLine) :
    Type 0 where
  pub inside : AllByRecursion (λ i. i < length lines) indices
  pub read : (d : TraceLine) → map (λ i. slice_index_or lines i d) indices ≡ own

-- They are the indices of the processor's own lines among these.
abbrev pub AreOwn : List TraceLine → ℕ → List ℕ → Type 0
AreOwn lines cpu indices = IsReadAt lines indices (lines_of_cpu cpu lines)

-- The processor's own lines among these, each with its reply.
abbrev pub replied_lines_of_cpu : ℕ → List TraceLine → List Reply → List RepliedLine
replied_lines_of_cpu cpu lines replies = lines_with_replies (lines_of_cpu cpu lines) replies

-- ---- one worker
-- The line was seen by this pass.
abbrev pub IsSeenBy : LockTable → Pass → Line → Type 0
IsSeenBy table pass line =
    IsSeenInTable table.order (view_of pass).actor.lines table.opening.items line

-- What a log keeps: these replies to these lines.
abbrev pub Keeping : Type 0 → Type 1
Keeping L = L → List TraceLine → List Reply → Type 0

-- It has run its lines among these: its replies are to them, the pass made their receipts and no
-- other, and it kept its promise from the opening fronts on.
pub record HasRun
    {L : Type 0}
    (context : StoreContext)
    (table : LockTable)
    (cpu : ℕ)
    (lines : List TraceLine)
    (replies : List Reply)
    (w : Worker L)
    (pass : Pass)
    : Type 0
  where
    pub of : IsOf table pass
    pub share : pass.shares ≡ 1
    pub made :
        (view_of pass).actor.receipts ≡ receipts_by (replied_lines_of_cpu cpu lines replies)
    pub kinds : AreReplies (lines_of_cpu cpu lines) replies
    pub works :
        Works
        context
        (opening_fronts table.opening.items)
        w.before.value
        (replied_lines_of_cpu cpu lines replies)
        (view_of pass).fronts
    pub size : length (view_of pass).fronts ≡ entry_count table.order
    pub processor :
        w.cpu ≡ processor_after_lines w.before.value (replied_lines_of_cpu cpu lines replies)
    pub seen : AllCached (IsSeenBy table pass) w.cpu.cache

-- ---- ready and done
-- It has no line among these, and so neither a pass nor a reply: it stays as it was before.
pub record IsIdle
    {L : Type 0}
    (keeps : Keeping L)
    (table : LockTable)
    (cpu : ℕ)
    (lines : List TraceLine)
    (w : Worker L)
    : Type 0
  where
    pub no_line : lines_of_cpu cpu lines ≡ []
    pub no_pass : w.pass ≡ None
    pub none : keeps w.log [] []
    pub processor : w.cpu ≡ w.before.value
    pub hold : AllCached (Holding table.opening.items) w.cpu.cache

-- It has a line, a pass, no reply, the indices of its lines, and room for the replies to them.
pub record HasStart
    {L : Type 0}
    (keeps : Keeping L)
    (room_in : L → ℕ)
    (context : StoreContext)
    (table : LockTable)
    (cpu : ℕ)
    (lines : List TraceLine)
    (w : Worker L)
    : Type 0
  where
    pub some : lines_of_cpu cpu lines ≢ []
    pub fresh : IsSomeAnd w.pass (HasRun context table cpu [] [] w)
    pub own : AreOwn lines cpu w.own.items
    pub none : keeps w.log [] []
    pub room : length (lines_of_cpu cpu lines) ≤ room_in w.log

-- A worker before the section: it has a pass exactly if it has a line.
abbrev pub IsReady :
    {L : Type 0}
    → Keeping L
    → (L → ℕ)
    → StoreContext → LockTable → ℕ → List TraceLine → Worker L → Type 0
IsReady keeps room_in context table cpu lines w =
    IsIdle keeps table cpu lines w ⊎ HasStart keeps room_in context table cpu lines w

-- It has run all of its lines, and its log keeps the replies to them.
pub record HasEnd
    {L : Type 0}
    (keeps : Keeping L)
    (context : StoreContext)
    (table : LockTable)
    (cpu : ℕ)
    (lines : List TraceLine)
    (w : Worker L)
    : Type 0
  where
    pub some : lines_of_cpu cpu lines ≢ []
    pub replies : List Reply
    pub kept : keeps w.log (lines_of_cpu cpu lines) replies
    pub run : IsSomeAnd w.pass (HasRun context table cpu lines replies w)

-- A worker after the section.
abbrev pub IsDone :
    {L : Type 0}
    → Keeping L → StoreContext → LockTable → ℕ → List TraceLine → Worker L → Type 0
IsDone keeps context table cpu lines w =
    IsIdle keeps table cpu lines w ⊎ HasEnd keeps context table cpu lines w

-- A fact of each of a list, by its number from one on.
abbrev pub AllNumbered : {A : Type 0} → (ℕ → A → Type 0) → ℕ → List A → Type 0
AllNumbered P number [] = Unit {0}
AllNumbered P number (x ∷ xs) = P number x × AllNumbered P (suc number) xs

-- All workers are ready, the first as processor 0.
abbrev pub AreReady :
    {L : Type 0}
    → Keeping L
    → (L → ℕ)
    → StoreContext → LockTable → List TraceLine → List (Worker L) → Type 0
AreReady keeps room_in context table lines ws =
    AllNumbered (λ cpu w. IsReady keeps room_in context table cpu lines w) 0 ws

-- All workers are done, the first as processor 0.
abbrev pub AreDone :
    {L : Type 0}
    → Keeping L → StoreContext → LockTable → List TraceLine → List (Worker L) → Type 0
AreDone keeps context table lines ws =
    AllNumbered (λ cpu w. IsDone keeps context table cpu lines w) 0 ws

-- What the processors were before the section's first line.
abbrev pub processors_before : {L : Type 0} → List (Worker L) → List Processor
processors_before ws = map (λ w. w.before.value) ws

-- How many of so many processors from one on have a line among these.
abbrev pub count_with_lines : ℕ → ℕ → List TraceLine → ℕ
count_with_lines zero cpu lines = 0
count_with_lines (suc n) cpu lines =
    min 1 (length (lines_of_cpu cpu lines)) + count_with_lines n (suc cpu) lines

-- A pass with so many shares that has made no step.
pub record IsFresh (table : LockTable) (shares : ℕ) (pass : Pass) : Type 0 where
  pub of : IsOf table pass
  pub count : pass.shares ≡ shares
  pub made : (view_of pass).actor.receipts ≡ []
  pub fronts : (view_of pass).fronts ≡ opening_fronts table.opening.items

-- What is left of the opening pass: so many shares, and no pass where that is none.
abbrev pub IsRest : LockTable → ℕ → Option Pass → Type 0
IsRest table zero rest = rest ≡ None
IsRest table (suc n) rest = IsSomeAnd rest (IsFresh table (suc n))
