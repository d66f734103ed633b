-- The processors of a section of one store, and what they made together.
use Rattle.std.specs.Prelude.{IsSomeAnd, IfSome, is_some, if◌then◌else◌}
use Rattle.std.specs.Prelude.{◌≡◌, ◌⊎◌, ℕ, ◌+◌, List, [], ◌∷◌, ◌++◌, map, Option, Some, None}
use Rattle.entry_model.specs.State.{State}
use Rattle.entry_model.specs.declared.line.Line.{Line}
use Rattle.entry_model.specs.declared.receipt.Receipt.{Receipt}
use Rattle.entry_model.specs.Fronts.{IsGone}
use Rattle.entry_lock.specs.declared.table.LockTable.{LockTable}
use Rattle.entry_lock.specs.declared.table.Pass.{Pass}
use Rattle.entry_lock.specs.SeenLines.{IsSeen}
use Rattle.entry_lock.specs.PassOfTable.{IsOf, view_of}
use Rattle.entry_lock.specs.Closing.{Closes}
use Rattle.run_model.specs.StoreContexts.{StoreContext}
use Rattle.tlb_model.specs.Processor.{Processor}
use Rattle.trace_line.specs.declared.line.TraceLine.{TraceLine}
use Rattle.trace_runner.specs.declared.worker.Worker.{Worker}
use Rattle.trace_runner.specs.Workers.{Keeping, processors_before, AreDone}

-- ---- passes
-- A worker's pass, if it has one, is of this table, with one share.
abbrev pub HasNoOtherPass : {L : Type 0} → LockTable → Worker L → Type 0
HasNoOtherPass table w = IfSome w.pass (λ pass. IsOf table pass × (pass.shares ≡ 1))

-- How many of the workers have a pass.
abbrev pub pass_count : {L : Type 0} → List (Worker L) → ℕ
pass_count [] = 0
pass_count (w ∷ ws) = (if is_some w.pass then 1 else 0) + pass_count ws

-- The receipts that a worker's pass made.
abbrev pub made_in : Option Pass → List Receipt
made_in None = []
made_in (Some pass) = (view_of pass).actor.receipts

-- The receipts of all, one processor after the other.
abbrev pub all_made : {L : Type 0} → List (Worker L) → List Receipt
all_made [] = []
all_made (w ∷ ws) = made_in w.pass ++ all_made ws

-- The line is gone for this pass, if there is one.
abbrev pub IsGoneFor : Option Pass → Line → Type 0
IsGoneFor pass line = IsSomeAnd pass (λ pass. IsGone (view_of pass).fronts line)

-- The line is gone for one of them.
abbrev pub AnyGone : {L : Type 0} → Line → List (Worker L) → Type 0
AnyGone line [] = ⊥
AnyGone line (w ∷ ws) = IsGoneFor w.pass line ⊎ AnyGone line ws

-- This pass, if there is one, has seen the line.
abbrev pub IsSeenFor : List State → Option Pass → Line → Type 0
IsSeenFor opening pass line =
    IsSomeAnd pass (λ pass. IsSeen (view_of pass).actor.lines opening line)

-- One of them has seen the line.
abbrev pub AnySeen : {L : Type 0} → List State → Line → List (Worker L) → Type 0
AnySeen opening line [] = ⊥
AnySeen opening line (w ∷ ws) = IsSeenFor opening w.pass line ⊎ AnySeen opening line ws

-- How many shares the pass has, if there is one.
abbrev pub shares_in : Option Pass → ℕ
shares_in None = 0
shares_in (Some pass) = pass.shares

-- Two passes of the table, of which there may be none or one, became one.
pub record IsPairJoined (table : LockTable) (one other both : Option Pass) : Type 0 where
  pub of : IfSome both (IsOf table)
  pub shares : shares_in both ≡ shares_in one + shares_in other
  pub made : made_in both ≡ made_in one ++ made_in other
  pub gone : (line : Line) → IsGoneFor one line ⊎ IsGoneFor other line → IsGoneFor both line
  pub seen :
      (opening : List State) (line : Line)
      → IsSeenFor opening one line ⊎ IsSeenFor opening other line
      → IsSeenFor opening both line

-- The pass into which all that workers had were joined.
pub record IsJoinOf
    {L : Type 0}
    (table : LockTable)
    (ws : List (Worker L))
    (pass : Pass)
    : Type 0
  where
    pub of : IsOf table pass
    pub shares : pass.shares ≡ pass_count ws
    pub made : (view_of pass).actor.receipts ≡ all_made ws
    pub gone : (line : Line) → AnyGone line ws → IsGone (view_of pass).fronts line
    pub seen :
        (opening : List State) (line : Line)
        → AnySeen opening line ws
        → IsSeen (view_of pass).actor.lines opening line

-- ---- work
-- The workers have run their lines, and the table closed on these states. Their processors and logs
-- come after those that were there.
pub record RanTogether
    {L : Type 0}
    (keeps : Keeping L)
    (context : StoreContext)
    (table : LockTable)
    (lines : List TraceLine)
    (ws : List (Worker L))
    (old_cpus new_cpus : List Processor)
    (old_logs new_logs : List L)
    (states : List State)
    : Type 0
  where
    pub ran : List (Worker L)
    pub done : AreDone keeps context table lines ran
    pub before : processors_before ran ≡ processors_before ws
    pub cpus : new_cpus ≡ old_cpus ++ map (λ w. w.cpu) ran
    pub logs : new_logs ≡ old_logs ++ map (λ w. w.log) ran
    pub pass : Pass
    pub joined : IsJoinOf table ran pass
    pub closes : Closes table.opening.items (view_of pass) states
