-- What holds of the reading of a set between two lines.
use Rattle.std.specs.Prelude.{◌≡◌, ◌≢◌, ℕ, ◌<◌, ◌≤◌, true, false, List, [], length, map, slice_index_or, Option, None, IfSome, Contains}
use Rattle.std.specs.List.{AllByRecursion, AllPairs, range_with_len}
use Rattle.pool_range.specs.Ranges.{IsPoolRange}
use Rattle.hpt_pool.specs.Pool.{no_blocks}
use Rattle.trace_read.specs.Grammar.{Reading}
use Rattle.trace_read.specs.Places.{is_running}
use Rattle.lpar_set.specs.declared.turn.Turn.{Turn}
use Rattle.lpar_set.specs.OpeningTables.{HasRoomFor, with_openings}
use Rattle.lpar_set.specs.SetTrace.{AreStrangers, turns_of}
use Rattle.lpar_set.specs.SetGrammar.{SetReading, reading_of, grants_read}
use Rattle.trace_line.specs.Lines.{most_lines}

-- A partition's reading has this pool, opens with no entry, has no window, has no run
-- line before its `begin`, and has taken no line after the last.
pub record IsBeside (pool_base pool_order taken : ℕ) (reading : Reading) : Type 0 where
  pub base : reading.config.granted.pool_base ≡ pool_base
  pub order : reading.config.granted.pool_order ≡ pool_order
  pub empty : reading.config.entries ≡ []
  pub windows : reading.config.windows ≡ []
  pub none : is_running reading.stage ≡ false → reading.lines ≡ []
  pub behind : reading.taken ≤ taken

-- The reading of a number, if that occurs.
abbrev pub reading_at : SetReading → ℕ → Option Reading
reading_at r number = slice_index_or r.readings number None

-- The order of a partition's opening table.
abbrev pub order_of : SetReading → ℕ → ℕ
order_of r number = (reading_of r number).config.order

-- The orders of the opening tables of the partitions whose `begin` has come, in that order.
abbrev pub orders_begun : SetReading → List ℕ
orders_begun r = map (order_of r) r.begun

-- The partition's `begin` has come.
abbrev pub HasBegun : SetReading → ℕ → Type 0
HasBegun r number = is_running (reading_of r number).stage ≡ true

-- Each of the numbers whose `begin` has come is there once.
pub record AreBegun (r : SetReading) : Type 0 where
  pub below : AllByRecursion (λ number. number < 8) r.begun
  pub apart : AllPairs (λ (n m : ℕ). n ≢ m) r.begun
  pub running : AllByRecursion (HasBegun r) r.begun
  pub all : (number : ℕ) → HasBegun r number → Contains r.begun number

-- The run lines of the partition at a place in the order of `begin` lines are so many.
abbrev pub count_at : SetReading → ℕ → ℕ
count_at r k = length (reading_of r (slice_index_or r.begun k 8)).lines

-- The eight readings have one pool; no grant of one meets one of another in machine memory;
-- the tables of those that have begun take their blocks one after the other; and each partition's
-- turns are its run lines in their order.
pub record IsSetReading (r : SetReading) : Type 0 where
  pub pool : IsPoolRange r.pool_base r.pool_order
  pub eight : length r.readings ≡ 8
  pub fresh : r.untouched ≡ true → AllByRecursion (λ (o : Option Reading). o ≡ None) r.readings
  pub beside :
      AllByRecursion
      (λ (o : Option Reading). IfSome o (IsBeside r.pool_base r.pool_order r.taken))
      r.readings
  pub strangers :
      AllPairs
      (λ (one other : Option Reading). AreStrangers (grants_read one) (grants_read other))
      r.readings
  pub begun : AreBegun r
  pub tables : r.tables ≡ with_openings (no_blocks r.pool_base r.pool_order) (orders_begun r)
  pub room : HasRoomFor (no_blocks r.pool_base r.pool_order) (orders_begun r)
  pub turns : AllByRecursion (λ (t : Turn). t.partition < length r.begun) r.turns
  pub lines :
      (k : ℕ)
      → k < length r.begun
      → map (λ (t : Turn). t.line) (turns_of k r.turns) ≡ range_with_len 0 (count_at r k)
  pub counted : length r.turns ≤ r.taken
  pub few : r.taken ≤ most_lines
