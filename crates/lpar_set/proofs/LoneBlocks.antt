-- A partition that has a pool to itself: nothing is taken but its own blocks.
use Rattle.std.specs.Prelude.{slice_index}
use Rattle.std.proofs.Common.{◌≡◌, ℕ, ◌==◌, nat_lt, not, Bool, true, false, List, ◌∷◌, filter, All, get_or, Option, Some, None, refl, ap, subst, inl, inr, ◌⊎◌}
use Rattle.std.proofs.lemmas.Bool.{cases_Bool, cond_both, eq-eqb, not-true}
use Rattle.std.proofs.lemmas.List.Elements.{All-cons, All-append, All-filter, All-weaker, filter_passes}
use Rattle.papr_codes.specs.Hcalls.{hcall_of}
use Rattle.papr_codes.specs.declared.calls.Hcall.{Hcall}
use Rattle.papr_codes.specs.declared.calls.Hcall.TheVariants as calls
use Rattle.papr_codes.specs.declared.codes.Rc.{Rc}
use Rattle.papr_codes.specs.declared.codes.Rc.TheVariants.{Success}
use Rattle.hpt_pool.specs.Pool.{Block, PoolState, IsSound, block_at, begins_below, lowest_place, taken_with, taken_without, without_block}
use Rattle.hpt_resize.specs.declared.carry.Collision.{Collision}
use Rattle.hpt_resize.specs.Rehash.{collision_of}
use Rattle.hpt_resize.specs.Pending.{PendingTable}
use Rattle.hpt_resize.specs.Resize.{Table, PrepareOutcome, CommitOutcome, prepare_outcome, is_prepare_request, pool_without, is_pending, new_table_outcome, start_outcome, advance_outcome, outcome_of_prepare, commit_refusal, carry_outcome, complete_outcome, answer_outcome, outcome_of_commit}
use Rattle.hpt_resize.specs.TableMemory.{TableMemory, prepare_result, commit_result}
use Rattle.trace_line.specs.declared.act.Act.{Act}
use Rattle.trace_line.specs.declared.act.Act.TheVariants as acts
use Rattle.trace_line.specs.declared.line.TraceLine.{TraceLine}
use Rattle.trace_line.specs.Lines.{is_quiet}
use Rattle.run_model.specs.Stores.{Store}
use Rattle.run_model.specs.QuietLines.{run_resize, run_quiet_line}
use Rattle.run_model.specs.SerialRun.{run_on}
use Rattle.lpar_set.proofs.BlocksApart.{AreHeld}
use Rattle.lpar_set.proofs.CallBlocks.{memory_blocks}
use Rattle.lpar_set.proofs.RoomAlone.{AllAre}
use Rattle.lpar_set.proofs.RunKept.{line_keeps_run}
use Rattle.partition.specs.PartitionState.{block_of}

-- The block is that of the table that is being prepared.
abbrev pub IsPendingBlock : Option PendingTable → Block → Type 0
IsPendingBlock None block = ⊥
IsPendingBlock (Some table) block = block ≡ block_at table.place table.order

-- All taken blocks are those of these two tables.
abbrev pub AreOwn : Table → Option PendingTable → PoolState → Type 0
AreOwn table pending pool =
    All (λ (block : Block). (block ≡ block_of table) ⊎ IsPendingBlock pending block) pool.taken

-- The pool is sound, the blocks of the tables are taken in it, and no others.
pub record IsAlone (memory : TableMemory) : Type 0 where
  pub pool : IsSound memory.pool
  pub held : AreHeld memory.pool.taken (memory_blocks memory)
  pub only : AreOwn memory.table memory.pending memory.pool

-- ---- what is left, and what is added

without_other :
    (taken : List Block) (kept : Block) (place : ℕ) (P : Block → Type 0)
    → All (λ (block : Block). (block ≡ kept) ⊎ P block) taken
    → ((block : Block) → P block → block.place ≡ place)
    → AllAre kept (taken_without taken place)
unfolding taken_without
without_other taken kept place P all gone =
    λ k d inside.
    at (get_or (filter stays taken) k d) (All-filter stays Either taken all k d inside)
    (filter_passes stays taken k d inside) where
      stays : Block → Bool
      stays block = not (block.place == place)

      Either : Block → Type 0
      Either block = (block ≡ kept) ⊎ P block

      at :
          (block : Block)
          → (block ≡ kept) ⊎ P block
          → not (block.place == place) ≡ true
          → block ≡ kept
      at block (inl same) passes = same
      at block (inr other) passes =
          let same : (block.place == place) ≡ true = eq-eqb block.place place (gone block other) in
          let fails : (block.place == place) ≡ false = not-true _ passes in
          absurd (cc)

pub with_new :
    (taken : List Block) (block : Block) (P : Block → Type 0)
    → All P taken
    → P block
    → All P (taken_with taken block)
unfolding taken_with
with_new taken block P all new =
    All-append P (filter (begins_below block) taken)
    (block ∷ filter (λ other. not (begins_below block other)) taken)
    (All-filter (begins_below block) P taken all)
    (All-cons P block (filter (λ other. not (begins_below block other)) taken) new
    (All-filter (λ other. not (begins_below block other)) P taken all))

-- Without the table that is being prepared, the current table's block alone is taken.
pub only_table :
    (table : Table) (pending : Option PendingTable) (pool : PoolState)
    → AreOwn table pending pool
    → AllAre (block_of table) (pool_without pending pool).taken
only_table table None pool own =
    All-weaker (λ (block : Block). (block ≡ block_of table) ⊎ ⊥)
    (λ (block : Block). block ≡ block_of table) (λ block. one block) pool.taken own where
      one : (block : Block) → (block ≡ block_of table) ⊎ ⊥ → block ≡ block_of table
      one block (inl same) = same
      one block (inr never) = absurd never
only_table table (Some pending) pool own =
    without_other pool.taken (block_of table) pending.place (IsPendingBlock (Some pending)) own
    (λ block is. ap (λ (b : Block). b.place) is)

own_table :
    (table : Table) (pending : Option PendingTable) (pool : PoolState)
    → AllAre (block_of table) pool.taken
    → AreOwn table pending pool
own_table table pending pool all = λ k d inside. inl (all k d inside)

-- ---- prepare
abbrev OwnAfter : Table → PrepareOutcome → Type 0
OwnAfter table after = AreOwn table after.pending after.pool

placed_own :
    (order : ℕ) (table : Table) (pool : PoolState) (place : Option ℕ)
    → AllAre (block_of table) pool.taken
    → OwnAfter table (new_table_outcome order pool place)
placed_own order table pool None all = own_table table None pool all
placed_own order table pool (Some place) all =
    let block = block_at place order in
    with_new pool.taken block (λ (b : Block). (b ≡ block_of table) ⊎ (b ≡ block))
    (λ k d inside. inl (all k d inside)) (inr refl)

started_own :
    (order : ℕ) (table : Table) (pending : Option PendingTable) (pool : PoolState)
    → AreOwn table pending pool
    → OwnAfter table (start_outcome order pending pool)
started_own order table pending pool own =
    let left = pool_without pending pool in
    cond_both (is_pending order pending) (prepare_outcome Success pending pool)
    (new_table_outcome order left (lowest_place left order)) (OwnAfter table) (λ e. own)
    (λ e.
    placed_own order table left (lowest_place left order) (only_table table pending pool own))

continued_own :
    (table : Table) (start : PrepareOutcome) (pending : Option PendingTable)
    → start.pending ≡ pending
    → OwnAfter table start
    → OwnAfter table (advance_outcome start pending)
continued_own table start None is own = own
continued_own table start (Some next) is own =
    subst (λ (o : Option PendingTable). AreOwn table o start.pool) is own

outcome_own :
    (limit flags shift : ℕ) (table : Table) (pending : Option PendingTable) (pool : PoolState)
    → AreOwn table pending pool
    → OwnAfter table (outcome_of_prepare limit flags shift pending pool)
unfolding outcome_of_prepare
outcome_own limit flags shift table pending pool own =
    cond_both (not (is_prepare_request flags shift)) _ _ (OwnAfter table) (λ e. own)
    (λ asked. cond_both (nat_lt limit shift) _ _ (OwnAfter table) (λ e. own)
    (λ low.
    cond_both (shift == 0) _ _ (OwnAfter table)
    (λ e. own_table table None (pool_without pending pool) (only_table table pending pool own))
    (λ nonzero.
    continued_own table (start_outcome shift pending pool)
    (start_outcome shift pending pool).pending refl
    (started_own shift table pending pool own))))

-- All taken blocks are those of the memory's own tables.
abbrev pub OwnsAll : TableMemory → Type 0
OwnsAll memory = AreOwn memory.table memory.pending memory.pool

prepare_own :
    (memory : TableMemory) (flags shift : ℕ)
    → OwnsAll memory
    → OwnsAll (prepare_result memory flags shift).1
unfolding prepare_result
prepare_own memory flags shift own =
    outcome_own memory.limit flags shift memory.table memory.pending memory.pool own

-- ---- commit
abbrev OwnCommitted : CommitOutcome → Type 0
OwnCommitted after = AreOwn after.table after.pending after.pool

carried_own :
    (pending : PendingTable) (pool : PoolState) (table : Table) (collision : Option Collision)
    → AreOwn table (Some pending) pool
    → OwnCommitted (carry_outcome pending pool table collision)
carried_own pending pool table (Some collision) own =
    own_table table None (without_block pool pending.place)
    (only_table table (Some pending) pool own)
carried_own pending pool table None own =
    let new = (carry_outcome pending pool table None).table in
    own_table new None (without_block pool table.place)
    (without_other pool.taken (block_at pending.place pending.order) table.place
    (λ (block : Block). block ≡ block_of table) (λ k d inside. turned (own k d inside))
    (λ block is. ap (λ (b : Block). b.place) is)) where
      turned : {A B : Type 0} → A ⊎ B → B ⊎ A
      turned (inl a) = inr a
      turned (inr b) = inl b

completed_own :
    (pending : Option PendingTable) (pool : PoolState) (table : Table)
    → AreOwn table pending pool
    → OwnCommitted (complete_outcome pending pool table)
completed_own None pool table own = own
completed_own (Some pending) pool table own =
    carried_own pending pool table (collision_of table.order pending.order table.states) own

answered_own :
    (refusal : Option Rc) (pending : Option PendingTable) (pool : PoolState) (table : Table)
    → AreOwn table pending pool
    → OwnCommitted (answer_outcome refusal pending pool table)
answered_own (Some rc) pending pool table own = own
answered_own None pending pool table own = completed_own pending pool table own

commit_own :
    (memory : TableMemory) (flags shift : ℕ)
    → OwnsAll memory
    → OwnsAll (commit_result memory flags shift).1
unfolding commit_result outcome_of_commit
commit_own memory flags shift own =
    answered_own (commit_refusal flags shift memory.pending) memory.pending memory.pool memory.table
    own

-- ---- each line
resize_own :
    (w : Store) (call : Hcall) (args : List ℕ)
    → OwnsAll w.memory
    → OwnsAll (run_resize w call args).1.memory
unfolding run_resize
resize_own w calls.Prepare args own =
    prepare_own w.memory (slice_index args 0) (slice_index args 1) own
resize_own w calls.Commit args own =
    commit_own w.memory (slice_index args 0) (slice_index args 1) own
resize_own w other args own = own

quiet_own : (w : Store) (act : Act) → OwnsAll w.memory → OwnsAll (run_quiet_line w act).1.memory
unfolding run_quiet_line
quiet_own w (acts.Call number args spelt) own = resize_own w (hcall_of number) args own
quiet_own w other own = own

line_own : (w : Store) (l : TraceLine) → OwnsAll w.memory → OwnsAll (run_on w l).1.memory
unfolding run_on
line_own w l own = at (cases_Bool (is_quiet l.act)) where
  at : (is_quiet l.act ≡ true) ⊎ (is_quiet l.act ≡ false) → OwnsAll (run_on w l).1.memory
  at (inl quiet) = rw quiet (quiet_own w l.act own)
  at (inr loud) = rw loud own

pub alone_keeps : (w : Store) (l : TraceLine) → IsAlone w.memory → IsAlone (run_on w l).1.memory
alone_keeps w l alone =
    let kept = line_keeps_run w l alone.held in
    record {
      pool = kept.moves.pools.sound alone.pool;
      held = record { held = kept.moves.blocks.held; apart = kept.moves.blocks.apart };
      only = line_own w l alone.only;
    }
