-- A run whose blocks lie elsewhere: each line but a PREPARE that needs a table answers the same,
-- and leaves the same except for the places.
use Rattle.std.specs.Prelude.{option_map}
use Rattle.std.proofs.Common.{◌≡◌, ℕ, List, Option, Some, None, refl, sym, subst}
use Rattle.papr_codes.specs.declared.codes.Rc.{Rc}
use Rattle.entry_model.specs.State.{State}
use Rattle.hpt_pool.specs.Pool.{PoolState}
use Rattle.hpt_resize.specs.declared.carry.Collision.{Collision}
use Rattle.hpt_resize.specs.Rehash.{collision_of}
use Rattle.hpt_resize.specs.Pending.{PendingTable}
use Rattle.hpt_resize.specs.Resize.{Table, CommitOutcome, commit_refusal, carry_outcome, answer_outcome, outcome_of_commit}
use Rattle.hpt_resize.specs.TableMemory.{TableMemory, commit_result}
use Rattle.trace_line.specs.declared.line.TraceLine.{TraceLine}
use Rattle.trace_reply.specs.declared.reply.Reply.{Reply}
use Rattle.run_model.specs.Stores.{Store}
use Rattle.run_model.specs.QuietLines.{after_commit, shown_of}
use Rattle.run_model.specs.SerialRun.{with_result}
use Rattle.lpar_set.specs.SetLaws.{without_place}
use Rattle.partition.proofs.Resizing.{answer_at}
use Rattle.trace_reply.specs.declared.reply.Reply.TheVariants as replies

-- ---- other places
-- The table at another place.
abbrev pub table_at : ℕ → Table → Table
table_at place table = record table { place = place }

-- The table that is being prepared, elsewhere.
abbrev pub pending_at : ℕ → PendingTable → PendingTable
pending_at place table = record table { place = place }

-- What is at memory, over another pool, with the tables elsewhere.
abbrev pub moved_memory : TableMemory → PoolState → ℕ → ℕ → TableMemory
moved_memory memory pool place other = record {
  limit = memory.limit;
  pool = pool;
  pending = option_map (pending_at other) memory.pending;
  table = table_at place memory.table;
}

-- The run over that.
abbrev pub moved : Store → PoolState → ℕ → ℕ → Store
moved v pool place other = record v { memory = moved_memory v.memory pool place other }

-- ---- a line
-- The second reply is the first except for the place in a dump, and what the run carries after it
-- is the same except for the places.
pub record IsLikeAfter (x y : Reply × Store) : Type 0 where
  pub reply : without_place y.0 ≡ without_place x.0
  pub pool : PoolState
  pub place : ℕ
  pub other : ℕ
  pub state : y.1 ≡ moved x.1 pool place other

pub result_like :
    (v : Store) (pool : PoolState) (place other : ℕ) (l : TraceLine) (x : Reply × List State)
    → IsLikeAfter (with_result v l x) (with_result (moved v pool place other) l x)
result_like v pool place other l x =
    record { reply = refl; pool = pool; place = place; other = other; state = refl }

-- The same reply with a state that differs in its pool and its places alone.
pub answer_like :
    (v : Store) (pool : PoolState) (place other : ℕ) (reply : Reply)
    → IsLikeAfter (reply, v) (reply, moved v pool place other)
answer_like v pool place other reply =
    record { reply = refl; pool = pool; place = place; other = other; state = refl }

pub dump_like :
    (v : Store) (pool : PoolState) (place other : ℕ)
    → IsLikeAfter (replies.Dump (shown_of v.memory), v)
    (replies.Dump (shown_of (moved v pool place other).memory), moved v pool place other)
unfolding shown_of
dump_like v pool place other =
    record { reply = refl; pool = pool; place = place; other = other; state = refl }

-- ---- commit

-- The second has the first's code, and its memory with another pool and other places.
pub record IsLikeMemory (x y : Rc × TableMemory) : Type 0 where
  pub pool : PoolState
  pub place : ℕ
  pub other : ℕ
  pub same : y ≡ answer_at x.0 (moved_memory x.1 pool place other)

-- The memory after a commit with this outcome.
abbrev committed : TableMemory → CommitOutcome → Rc × TableMemory
committed memory after = (
  after.rc,
  record memory { pool = after.pool; pending = after.pending; table = after.table },
)

carried_like :
    (memory : TableMemory) (pending : PendingTable) (pool : PoolState) (place other : ℕ)
    (collision : Option Collision)
    → IsLikeMemory (committed memory (carry_outcome pending memory.pool memory.table collision))
    (committed (moved_memory memory pool place other)
    (carry_outcome (pending_at other pending) pool (table_at place memory.table)
    collision))
carried_like memory pending pool place other (Some collision) = record {
  pool =
      (carry_outcome (pending_at other pending) pool (table_at place memory.table)
      (Some collision)).pool;
  place = place;
  other = other;
  same = refl;
}
carried_like memory pending pool place other None = record {
  pool = (carry_outcome (pending_at other pending) pool (table_at place memory.table) None).pool;
  place = other;
  other = other;
  same = refl;
}

answered_like :
    (memory : TableMemory) (pending : Option PendingTable) (pool : PoolState) (place other : ℕ)
    (refusal : Option Rc)
    → IsLikeMemory (committed memory (answer_outcome refusal pending memory.pool memory.table))
    (committed (moved_memory memory pool place other)
    (answer_outcome refusal (option_map (pending_at other) pending) pool
    (table_at place memory.table)))
answered_like memory pending pool place other (Some rc) =
    record { pool = pool; place = place; other = other; same = refl }
answered_like memory None pool place other None =
    record { pool = pool; place = place; other = other; same = refl }
answered_like memory (Some pending) pool place other None =
    carried_like memory pending pool place other
    (collision_of memory.table.order pending.order memory.table.states)

refusal_like :
    (flags shift : ℕ) (pending : Option PendingTable) (other : ℕ)
    → commit_refusal flags shift (option_map (pending_at other) pending)
    ≡ commit_refusal flags shift pending
refusal_like flags shift None other = refl
refusal_like flags shift (Some pending) other = refl

pub commit_like :
    (memory : TableMemory) (pool : PoolState) (place other : ℕ) (flags shift : ℕ)
    → IsLikeMemory (commit_result memory flags shift)
    (commit_result (moved_memory memory pool place other) flags shift)
unfolding commit_result outcome_of_commit
commit_like memory pool place other flags shift =
    rw (refusal_like flags shift memory.pending other)
    (answered_like memory memory.pending pool place other
    (commit_refusal flags shift memory.pending))

pub committed_like :
    (v : Store) (pool : PoolState) (place other : ℕ) (x y : Rc × TableMemory)
    → IsLikeMemory x y
    → IsLikeAfter (after_commit v x) (after_commit (moved v pool place other) y)
committed_like v pool place other x y like =
    subst
    (λ (z : Rc × TableMemory).
    IsLikeAfter (after_commit v x) (after_commit (moved v pool place other) z)) (sym like.same)
    (record {
      reply = refl;
      pool = like.pool;
      place = like.place;
      other = like.other;
      state = refl;
    })
