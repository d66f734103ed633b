-- Accepted sets: several partitions over one pool of table memory.
use Rattle.std.specs.Prelude.{◌≡◌, ◌≢◌, ℕ, ◌<◌, ◌≤◌, ◌==◌, false, List, [], length, map, filter, slice_index_or}
use Rattle.std.specs.List.{AllByRecursion, AllPairs, range_with_len}
use Rattle.pool_range.specs.Ranges.{IsPoolRange}
use Rattle.hpt_pool.specs.Pool.{no_blocks}
use Rattle.frame_grants.specs.declared.grant.Grant.{Grant}
use Rattle.frame_grants.specs.Grants.{meets_machine}
use Rattle.trace_line.specs.declared.act.Act.TheVariants.{Dump}
use Rattle.trace_line.specs.declared.line.TraceLine.{TraceLine}
use Rattle.trace_read.specs.Settings.{default_settings}
use Rattle.trace_read.specs.Trace.{AcceptedTrace, IsAccepted}
use Rattle.lpar_set.specs.declared.turn.Turn.{Turn}
use Rattle.lpar_set.specs.OpeningTables.{HasRoomFor}
use Rattle.trace_line.specs.Lines.{most_lines}

-- A partition's number and its trace.
pub record NumberedTrace : Type 0 where
  pub number : ℕ
  pub trace : AcceptedTrace

-- The pool that all share, the partitions in the order of their `begin` lines, and the run lines of
-- all in file order.
pub record AcceptedSet : Type 0 where
  pub pool_base : ℕ
  pub pool_order : ℕ
  pub partitions : List NumberedTrace
  pub turns : List Turn

-- ---- what a turn names
-- A partition without lines, as which a list has no further one.
abbrev pub no_partition : NumberedTrace
no_partition = record { number = 0; trace = record { config = default_settings; lines = [] } }

-- A line that asks for nothing.
abbrev pub no_line : TraceLine
no_line = record { number = 0; cpu = 0; act = Dump }

-- The partition at a place in the order of `begin` lines.
abbrev pub partition_at : AcceptedSet → ℕ → NumberedTrace
partition_at s k = slice_index_or s.partitions k no_partition

-- The run line that a turn is.
abbrev pub line_of : AcceptedSet → Turn → TraceLine
line_of s turn = slice_index_or (partition_at s turn.partition).trace.lines turn.line no_line

-- The turns of one partition.
abbrev pub turns_of : ℕ → List Turn → List Turn
turns_of k turns = filter (λ (t : Turn). t.partition == k) turns

-- ---- what holds of each accepted set
-- No machine range of the one meets one of the other.
abbrev pub AreStrangers : List Grant → List Grant → Type 0
AreStrangers grants others =
    AllByRecursion
    (λ (g : Grant). AllByRecursion (λ (other : Grant). meets_machine g other ≡ false) others)
    grants

-- Such a partition may be one of a set over this pool: its number is below 8, its trace is an
-- accepted one beside the pool, its opening table has no entry, and it has no DMA window.
pub record IsOfSet (pool_base pool_order : ℕ) (p : NumberedTrace) : Type 0 where
  pub number : p.number < 8
  pub accepted : IsAccepted p.trace
  pub base : p.trace.config.granted.pool_base ≡ pool_base
  pub order : p.trace.config.granted.pool_order ≡ pool_order
  pub empty : p.trace.config.entries ≡ []
  pub windows : p.trace.config.windows ≡ []

-- Each turn is one of a partition.
abbrev pub IsTurnOf : AcceptedSet → Turn → Type 0
IsTurnOf s turn = turn.partition < length s.partitions

-- The partitions, at least one, have numbers of their own and machine memory of their own, their
-- tables have room in the pool one after the other, and each partition's turns are its lines in
-- their order.
pub record IsAcceptedSet (s : AcceptedSet) : Type 0 where
  pub pool : IsPoolRange s.pool_base s.pool_order
  pub some : 1 ≤ length s.partitions
  pub each : AllByRecursion (IsOfSet s.pool_base s.pool_order) s.partitions
  pub numbers : AllPairs (λ (p q : NumberedTrace). p.number ≢ q.number) s.partitions
  pub strangers :
      AllPairs
      (λ (p q : NumberedTrace).
      AreStrangers p.trace.config.granted.grants q.trace.config.granted.grants)
      s.partitions
  pub room :
      HasRoomFor
      (no_blocks s.pool_base s.pool_order)
      (map (λ (p : NumberedTrace). p.trace.config.order) s.partitions)
  pub turns : AllByRecursion (IsTurnOf s) s.turns
  pub lines :
      (k : ℕ)
      → k < length s.partitions
      → map (λ (t : Turn). t.line) (turns_of k s.turns)
      ≡ range_with_len 0 (length (partition_at s k).trace.lines)
  pub few : length s.turns ≤ most_lines
