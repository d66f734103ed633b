-- What the two resize calls do to the blocks that a partition holds: no block of another one is
-- touched.
use Rattle.std.proofs.Common.{ℕ, List, [], ◌∷◌, All, AllPairs, Contains, Option, Some, None, refl, sym, arith}
use Rattle.std.proofs.lemmas.List.Elements.{All-nil, All-cons, All-head, All-tail}
use Rattle.std.proofs.lemmas.List.Kept.{AllPairs-cons}
use Rattle.basics.proofs.Lists.{AllPairs-head}
use Rattle.papr_codes.specs.declared.codes.Rc.{Rc}
use Rattle.hpt_pool.specs.Pool.{Block, PoolState, block_at, taken_without}
use Rattle.hpt_pool.proofs.Kept.{without_keeps}
use Rattle.hpt_pool.proofs.Placing.{sound_without}
use Rattle.hpt_resize.specs.declared.carry.Collision.{Collision}
use Rattle.hpt_resize.specs.Rehash.{collision_of}
use Rattle.hpt_resize.specs.Pending.{PendingTable}
use Rattle.hpt_resize.specs.Resize.{IsHeld, IsElsewhere, Table, commit_refusal, carry_outcome, complete_outcome, answer_outcome, outcome_of_prepare, outcome_of_commit}
use Rattle.hpt_resize.specs.TableMemory.{TableMemory, prepare_result, commit_result}
use Rattle.hpt_resize.proofs.Holding.{prepared_safe}
use Rattle.partition.proofs.PoolKept.{KeepsPool, same_pool, prepared_pool}
use Rattle.lpar_set.specs.SetStates.{pending_blocks}
use Rattle.lpar_set.proofs.BlocksApart.{BeginApart, Replaces, AreHeld, same_replaces}

-- The blocks of a table and of the one that is being prepared.
abbrev pub own_blocks : Table → Option PendingTable → List Block
own_blocks table pending = block_at table.place table.order ∷ pending_blocks pending

-- The blocks that a partition holds by its memory.
abbrev pub memory_blocks : TableMemory → List Block
memory_blocks memory = own_blocks memory.table memory.pending

-- The pool keeps its base and its order and stays sound, and the blocks are replaced.
pub record Moves (table : Table) (pending : Option PendingTable) (pool : PoolState)
    (table_after : Table) (pending_after : Option PendingTable) (pool_after : PoolState) :
    Type 0 where
  pub pools : KeepsPool pool pool_after
  pub blocks :
      Replaces pool.taken (own_blocks table pending) pool_after.taken
      (own_blocks table_after pending_after)

-- From one memory to the next the pool stays sound, and the blocks of its tables are replaced.
abbrev pub MovesMemory : TableMemory → TableMemory → Type 0
MovesMemory memory after =
    Moves memory.table memory.pending memory.pool after.table after.pending after.pool

pub same_moves :
    (table : Table) (pending : Option PendingTable) (pool : PoolState)
    → AreHeld pool.taken (own_blocks table pending)
    → Moves table pending pool table pending pool
same_moves table pending pool held =
    record {
      pools = same_pool pool;
      blocks = same_replaces pool.taken (own_blocks table pending) held;
    }

-- ---- one block and those of a pending table
single_apart : (block : Block) → AllPairs BeginApart (block ∷ [])
single_apart block i j d before inside = absurd (omega arith)

pub held_is :
    (pending : Option PendingTable) (pool : PoolState)
    → All (Contains pool.taken) (pending_blocks pending)
    → IsHeld pending pool
held_is None pool held = tt
held_is (Some table) pool held =
    All-head (Contains pool.taken) (block_at table.place table.order) [] held

all_held :
    (pending : Option PendingTable) (pool : PoolState)
    → IsHeld pending pool
    → All (Contains pool.taken) (pending_blocks pending)
all_held None pool held = All-nil (Contains pool.taken)
all_held (Some table) pool held =
    All-cons (Contains pool.taken) (block_at table.place table.order) [] held
    (All-nil (Contains pool.taken))

elsewhere_is :
    (pending : Option PendingTable) (block : Block)
    → All (BeginApart block) (pending_blocks pending)
    → IsElsewhere pending block
elsewhere_is None block apart = tt
elsewhere_is (Some table) block apart =
    λ same. All-head (BeginApart block) (block_at table.place table.order) [] apart (sym same)

all_elsewhere :
    (pending : Option PendingTable) (block : Block)
    → IsElsewhere pending block
    → All (BeginApart block) (pending_blocks pending)
all_elsewhere None block apart = All-nil (BeginApart block)
all_elsewhere (Some table) block apart =
    All-cons (BeginApart block) (block_at table.place table.order) [] (λ same. apart (sym same))
    (All-nil (BeginApart block))

own_apart :
    (block : Block) (pending : Option PendingTable)
    → IsElsewhere pending block
    → AllPairs BeginApart (block ∷ pending_blocks pending)
own_apart block None apart = single_apart block
own_apart block (Some table) apart =
    AllPairs-cons BeginApart block (block_at table.place table.order ∷ [])
    (all_elsewhere (Some table) block apart) (single_apart (block_at table.place table.order))

-- What is held of the two tables, as the clauses of the calls say it.
pub record Holds (table : Table) (pending : Option PendingTable) (pool : PoolState) : Type 0 where
  pub taken : Contains pool.taken (block_at table.place table.order)
  pub held : IsHeld pending pool
  pub elsewhere : IsElsewhere pending (block_at table.place table.order)

pub holds_is :
    (table : Table) (pending : Option PendingTable) (pool : PoolState)
    → AreHeld pool.taken (own_blocks table pending)
    → Holds table pending pool
holds_is table pending pool all =
    let block = block_at table.place table.order in
    record {
      taken = All-head (Contains pool.taken) block (pending_blocks pending) all.held;
      held =
          held_is pending pool
          (All-tail (Contains pool.taken) block (pending_blocks pending) all.held);
      elsewhere =
          elsewhere_is pending block
          (AllPairs-head BeginApart block (pending_blocks pending) all.apart);
    }

-- ---- prepare
safe_replaces :
    (table : Table) (pending pending_after : Option PendingTable) (pool pool_after : PoolState)
    → Holds table pending pool
    → IsHeld pending_after pool_after
    →
    ((block : Block)
    → Contains pool.taken block
    → IsElsewhere pending block
    → Contains pool_after.taken block × IsElsewhere pending_after block)
    → Replaces pool.taken (own_blocks table pending) pool_after.taken
    (own_blocks table pending_after)
safe_replaces table pending pending_after pool pool_after holds held kept =
    let block = block_at table.place table.order in
    let own = kept block holds.taken holds.elsewhere in
    record {
      held =
          All-cons (Contains pool_after.taken) block (pending_blocks pending_after) own.0
          (all_held pending_after pool_after held);
      apart = own_apart block pending_after own.1;
      kept = λ other here apart.
          let first = All-head (BeginApart other) block (pending_blocks pending) apart in
          let rest = All-tail (BeginApart other) block (pending_blocks pending) apart in
          let stays = kept other here (elsewhere_is pending other rest) in (
            stays.0,
            All-cons (BeginApart other) block (pending_blocks pending_after) first
                (all_elsewhere pending_after other stays.1),
          );
    }

pub prepare_moves :
    (memory : TableMemory) (flags shift : ℕ)
    → AreHeld memory.pool.taken (memory_blocks memory)
    → MovesMemory memory (prepare_result memory flags shift).1
unfolding prepare_result
prepare_moves memory flags shift all =
    let holds = holds_is memory.table memory.pending memory.pool all in
    let safe = prepared_safe memory.limit flags shift memory.pending memory.pool holds.held in
    let after = outcome_of_prepare memory.limit flags shift memory.pending memory.pool in
    record {
      pools = prepared_pool memory.limit flags shift memory.pending memory.pool;
      blocks =
          safe_replaces memory.table memory.pending after.pending memory.pool after.pool holds
          safe.held safe.kept;
    }

-- ---- commit
carried_moves :
    (pending : PendingTable) (pool : PoolState) (table : Table) (collision : Option Collision)
    → Holds table (Some pending) pool
    →
    (let after = carry_outcome pending pool table collision in
    Moves table (Some pending) pool after.table after.pending after.pool)
carried_moves pending pool table (Some collision) holds =
    let block = block_at table.place table.order in
    let given = block_at pending.place pending.order in
    let Held = Contains (taken_without pool.taken pending.place) in
    record {
      pools = record { base = refl; size = refl; sound = sound_without pool pending.place };
      blocks = record {
        held =
            All-cons Held block []
            (without_keeps pool.taken pending.place block (λ same. holds.elsewhere (sym same))
            holds.taken) (All-nil Held);
        apart = single_apart block;
        kept = λ other here apart.
            let first = All-head (BeginApart other) block (given ∷ []) apart in
            let second = All-head (BeginApart other) given []
            (All-tail (BeginApart other) block (given ∷ []) apart) in (
              without_keeps pool.taken pending.place other second here,
              All-cons (BeginApart other) block [] first (All-nil (BeginApart other)),
            );
      };
    }
carried_moves pending pool table None holds =
    let block = block_at table.place table.order in
    let stays = block_at pending.place pending.order in
    let Held = Contains (taken_without pool.taken table.place) in
    record {
      pools = record { base = refl; size = refl; sound = sound_without pool table.place };
      blocks = record {
        held =
            All-cons Held stays []
            (without_keeps pool.taken table.place stays holds.elsewhere holds.held)
            (All-nil Held);
        apart = single_apart stays;
        kept = λ other here apart.
            let first = All-head (BeginApart other) block (stays ∷ []) apart in
            let second = All-head (BeginApart other) stays []
            (All-tail (BeginApart other) block (stays ∷ []) apart) in (
              without_keeps pool.taken table.place other first here,
              All-cons (BeginApart other) stays [] second (All-nil (BeginApart other)),
            );
      };
    }

completed_moves :
    (pending : Option PendingTable) (pool : PoolState) (table : Table)
    → AreHeld pool.taken (own_blocks table pending)
    →
    (let after = complete_outcome pending pool table in
    Moves table pending pool after.table after.pending after.pool)
completed_moves None pool table all = same_moves table None pool all
completed_moves (Some pending) pool table all =
    carried_moves pending pool table (collision_of table.order pending.order table.states)
    (holds_is table (Some pending) pool all)

answered_moves :
    (refusal : Option Rc) (pending : Option PendingTable) (pool : PoolState) (table : Table)
    → AreHeld pool.taken (own_blocks table pending)
    →
    (let after = answer_outcome refusal pending pool table in
    Moves table pending pool after.table after.pending after.pool)
answered_moves (Some rc) pending pool table all = same_moves table pending pool all
answered_moves None pending pool table all = completed_moves pending pool table all

pub commit_moves :
    (memory : TableMemory) (flags shift : ℕ)
    → AreHeld memory.pool.taken (memory_blocks memory)
    → MovesMemory memory (commit_result memory flags shift).1
unfolding commit_result outcome_of_commit
commit_moves memory flags shift all =
    answered_moves (commit_refusal flags shift memory.pending) memory.pending memory.pool
    memory.table all
