-- What a commit leaves of the table, and the processors after it of their cached translations.
use Rattle.std.proofs.Common.{◌≡◌, ◌⊎◌, inl, inr, ℕ, List, map, if◌then◌else◌, refl, sym, subst, Option, Some, None}
use Rattle.std.proofs.lemmas.Bool.{cond_both}
use Rattle.papr_codes.specs.declared.codes.Rc.{Rc}
use Rattle.papr_codes.specs.declared.codes.Rc.TheVariants.{Success}
use Rattle.hpt_pool.specs.Pool.{PoolState}
use Rattle.hpt_resize.specs.declared.carry.Collision.{Collision}
use Rattle.hpt_resize.specs.Rehash.{collision_of}
use Rattle.hpt_resize.specs.Pending.{PendingTable}
use Rattle.hpt_resize.specs.TableMemory.{TableMemory, commit_result}
use Rattle.hpt_resize.specs.Resize.{Table, CommitOutcome, commit_refusal, carry_outcome, complete_outcome, answer_outcome, outcome_of_commit}
use Rattle.tlb_model.specs.Processor.{Processor, without_cache}
use Rattle.run_model.specs.QuietLines.{is_success}
use Rattle.run_model.specs.HeldLines.{AllHold}
use Rattle.run_model.proofs.HeldLines.{none_hold}

-- A commit succeeds, or the table stays.
abbrev pub Moves : Table → CommitOutcome → Type 0
Moves table c = (c.rc ≡ Success) ⊎ (c.table ≡ table)

carried_moves :
    (pending : PendingTable) (pool : PoolState) (table : Table) (collision : Option Collision)
    → Moves table (carry_outcome pending pool table collision)
carried_moves pending pool table (Some collision) = inr refl
carried_moves pending pool table None = inl refl

completed_moves :
    (pending : Option PendingTable) (pool : PoolState) (table : Table)
    → Moves table (complete_outcome pending pool table)
completed_moves None pool table = inr refl
completed_moves (Some pending) pool table =
    carried_moves pending pool table (collision_of table.order pending.order table.states)

answered_moves :
    (refusal : Option Rc) (pending : Option PendingTable) (pool : PoolState) (table : Table)
    → Moves table (answer_outcome refusal pending pool table)
answered_moves (Some rc) pending pool table = inr refl
answered_moves None pending pool table = completed_moves pending pool table

pub commit_moves :
    (flags shift : ℕ) (pending : Option PendingTable) (pool : PoolState) (table : Table)
    → Moves table (outcome_of_commit flags shift pending pool table)
unfolding outcome_of_commit
commit_moves flags shift pending pool table =
    answered_moves (commit_refusal flags shift pending) pending pool table

-- The processors after a commit that was answered so.
abbrev pub cleared : Rc → List Processor → List Processor
cleared rc processors = if is_success rc then map without_cache processors else processors

-- Their cached translations hold of the table that it leaves.
pub moved_hold :
    (rc : Rc) (old new : Table) (processors : List Processor)
    → (rc ≡ Success) ⊎ (new ≡ old)
    → AllHold old.states processors
    → AllHold new.states (cleared rc processors)
moved_hold rc old new processors (inl done) h =
    subst (λ (code : Rc). AllHold new.states (cleared code processors)) (sym done)
    (none_hold new.states processors)
moved_hold rc old new processors (inr same) h =
    cond_both (is_success rc) (map without_cache processors) processors (AllHold new.states)
    (λ e. none_hold new.states processors)
    (λ e. subst (λ (t : Table). AllHold t.states processors) (sym same) h)

-- A commit on a partition's table memory succeeds, or the current table stays.
pub result_moves :
    (memory : TableMemory) (flags shift : ℕ)
    → ((commit_result memory flags shift).0 ≡ Success)
    ⊎ ((commit_result memory flags shift).1.table ≡ memory.table)
unfolding commit_result
result_moves memory flags shift = commit_moves flags shift memory.pending memory.pool memory.table

-- Where it did not succeed, the table stays.
pub table_stays :
    (rc : Rc) (old new : Table) → (rc ≡ Success) ⊎ (new ≡ old) → (rc ≡ Success → ⊥) → new ≡ old
table_stays rc old new (inl done) failed = absurd (failed done)
table_stays rc old new (inr same) failed = same
