-- The run of a set: its lines one after the other in file order, over one pool of table memory.
use Rattle.std.specs.Prelude.{ℕ, List, [], ◌∷◌, None, Option, replicate, slice_index_or, slice_set}
use Rattle.frame_grants.specs.declared.grant.Grant.{Grant}
use Rattle.hpt_pool.specs.Pool.{PoolState, no_blocks}
use Rattle.hpt_resize.specs.Pending.{PendingTable}
use Rattle.hpt_resize.specs.Resize.{Table}
use Rattle.hpt_resize.specs.TableMemory.{empty_states, with_entries}
use Rattle.tlb_model.specs.Processor.{Processor, new_processor}
use Rattle.trace_line.specs.declared.line.TraceLine.{TraceLine}
use Rattle.trace_read.specs.Configuration.{Configuration}
use Rattle.trace_reply.specs.declared.reply.Reply.{Reply}
use Rattle.run_model.specs.Stores.{Store}
use Rattle.run_model.specs.SerialRun.{run_on}
use Rattle.lpar_set.specs.declared.turn.Turn.{Turn}
use Rattle.lpar_set.specs.OpeningTables.{opening_place, with_opening}
use Rattle.lpar_set.specs.SetTrace.{NumberedTrace, AcceptedSet, line_of}

-- All that one partition carries from line to line, except for the pool: its grants, the highest
-- order that it may ask for, the table that is being prepared, the current one, and its processors.
pub record MemberState : Type 0 where
  pub grants : List Grant
  pub limit : ℕ
  pub pending : Option PendingTable
  pub table : Table
  pub processors : List Processor

-- The pool that all share, and what each partition carries, in the order of `begin` lines.
pub record SetState : Type 0 where
  pub pool : PoolState
  pub members : List MemberState

-- ---- a partition and the pool
-- What a run of the partition carries, if the pool is its.
abbrev pub with_pool : PoolState → MemberState → Store
with_pool pool m = record {
  grants = m.grants;
  window = None;
  memory = record { limit = m.limit; pool = pool; pending = m.pending; table = m.table };
  processors = m.processors;
}

-- What a run carries of a partition except for the pool.
abbrev pub without_pool : Store → MemberState
without_pool w = record {
  grants = w.grants;
  limit = w.memory.limit;
  pending = w.memory.pending;
  table = w.memory.table;
  processors = w.processors;
}

-- ---- the beginning
-- The table of a partition that opens at the lowest place of the pool.
unfoldable pub opening_table : PoolState → Configuration → Table
opening_table pool c = record {
  order = c.order;
  place = opening_place pool c.order;
  number = 0;
  states = with_entries (empty_states c.order) c.entries;
}

-- A partition before its first line, whose table opens in this pool.
abbrev pub opening_member : PoolState → Configuration → MemberState
opening_member pool c = record {
  grants = c.granted.grants;
  limit = c.limit;
  pending = None;
  table = opening_table pool c;
  processors = replicate c.cpus new_processor;
}

-- The tables take their blocks one after the other.
abbrev pub opening_pool : PoolState → List NumberedTrace → PoolState
opening_pool pool [] = pool
opening_pool pool (p ∷ ps) = opening_pool (with_opening pool p.trace.config.order) ps

-- The partitions before their first lines.
abbrev pub opening_members : PoolState → List NumberedTrace → List MemberState
opening_members pool [] = []
opening_members pool (p ∷ ps) =
    opening_member pool p.trace.config
    ∷ opening_members (with_opening pool p.trace.config.order) ps

-- A set before its first run line.
abbrev pub opening_set : AcceptedSet → SetState
opening_set s =
    let pool = no_blocks s.pool_base s.pool_order in
    record { pool = opening_pool pool s.partitions; members = opening_members pool s.partitions }

-- ---- one line
-- What a partition without a table would carry, as which a list has no further one.
abbrev pub no_member : MemberState
no_member = record {
  grants = [];
  limit = 0;
  pending = None;
  table = record { order = 0; place = 0; number = 0; states = [] };
  processors = [];
}

-- The partition at a place in the order of `begin` lines.
abbrev pub member_at : SetState → ℕ → MemberState
member_at w k = slice_index_or w.members k no_member

-- The set after a line of one partition: the pool and that partition are as the line leaves them,
-- and each other partition stays.
abbrev pub with_member : SetState → ℕ → Store → SetState
with_member w k after = record {
  pool = after.memory.pool;
  members = slice_set w.members k (without_pool after);
}

-- The reply to a line of one partition, and the set after it.
abbrev pub set_line : SetState → ℕ → TraceLine → Reply × SetState
set_line w k l =
    let x = run_on (with_pool w.pool (member_at w k)) l in
    (x.0, with_member w k x.1)

-- ---- all lines
-- The replies to turns, one after the other.
abbrev pub replies_from : AcceptedSet → SetState → List Turn → List Reply
replies_from s w [] = []
replies_from s w (t ∷ ts) =
    (set_line w t.partition (line_of s t)).0
    ∷ replies_from s (set_line w t.partition (line_of s t)).1 ts

-- The set after these turns.
abbrev pub set_after : AcceptedSet → SetState → List Turn → SetState
set_after s w [] = w
set_after s w (t ∷ ts) = set_after s (set_line w t.partition (line_of s t)).1 ts

-- The replies of the run of a set, in file order.
abbrev pub set_replies : AcceptedSet → List Reply
set_replies s = replies_from s (opening_set s) s.turns
