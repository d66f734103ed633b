-- A commit that succeeds leaves a table of the order that it names.
use Rattle.std.proofs.Common.{◌≡◌, ℕ, ◌==◌, true, false, Option, Some, None, inl, inr, ◌⊎◌}
use Rattle.std.proofs.lemmas.Bool.{cases_Bool, eqb-true}
use Rattle.papr_codes.specs.declared.codes.Rc.TheVariants.{Success}
use Rattle.hpt_pool.specs.Pool.{PoolState}
use Rattle.hpt_resize.specs.declared.carry.Collision.{Collision}
use Rattle.hpt_resize.specs.Pending.{PendingTable, is_ready}
use Rattle.hpt_resize.specs.Rehash.{collision_of}
use Rattle.hpt_resize.specs.Resize.{Table, outcome_of_commit, is_commit_request, answer_outcome, pending_refusal, carry_outcome}
use Rattle.hpt_resize.specs.TableMemory.{TableMemory, commit_result}

carried :
    (shift : ℕ) (pending : PendingTable) (pool : PoolState) (table : Table)
    (collision : Option Collision)
    → pending.order ≡ shift
    → (carry_outcome pending pool table collision).rc ≡ Success
    → (carry_outcome pending pool table collision).table.order ≡ shift
carried shift pending pool table (Some collision) order done = absurd (cc)
carried shift pending pool table None order done = order

answered :
    (shift : ℕ) (pending : Option PendingTable) (pool : PoolState) (table : Table)
    → (answer_outcome (pending_refusal shift pending) pending pool table).rc ≡ Success
    → (answer_outcome (pending_refusal shift pending) pending pool table).table.order ≡ shift
answered shift None pool table done = absurd (cc)
answered shift (Some pending) pool table done =
    at (cases_Bool (pending.order == shift)) (cases_Bool (is_ready pending)) where
      at :
          ((pending.order == shift) ≡ true) ⊎ ((pending.order == shift) ≡ false)
          → (is_ready pending ≡ true) ⊎ (is_ready pending ≡ false)
          →
          (answer_outcome (pending_refusal shift (Some pending)) (Some pending) pool
          table).table.order
          ≡ shift
      at (inl order) (inl ready) =
          rw (order, ready)
          (carried shift pending pool table (collision_of table.order pending.order table.states)
          (eqb-true pending.order shift order) (rw (order, ready) at done))
      at (inl order) (inr busy) = let wrong = rw (order, busy) at done in absurd (cc)
      at (inr other) ready = let wrong = rw other at done in absurd (cc)

pub commit_order :
    (memory : TableMemory) (shift : ℕ)
    → (commit_result memory 0 shift).0 ≡ Success
    → (commit_result memory 0 shift).1.table.order ≡ shift
unfolding commit_result outcome_of_commit
commit_order memory shift done = at (cases_Bool (is_commit_request 0 shift)) where
  at :
      (is_commit_request 0 shift ≡ true) ⊎ (is_commit_request 0 shift ≡ false)
      → (outcome_of_commit 0 shift memory.pending memory.pool memory.table).table.order ≡ shift
  at (inl asked) =
      rw asked (answered shift memory.pending memory.pool memory.table (rw asked at done))
  at (inr refused) = let wrong = rw refused at done in absurd (cc)
