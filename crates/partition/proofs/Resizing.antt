-- What the two resize calls leave at memory is a partition again.
use Rattle.std.proofs.Common.{◌≡◌, ◌≢◌, ℕ, ◌+◌, ◌≤◌, ◌==◌, ◌||◌, not, Bool, true, false, if◌then◌else◌, List, [], ◌∷◌, length, Contains, Option, Some, None, refl, sym, ap, ◌∙◌, subst, arith}
use Rattle.std.proofs.lemmas.Bool.{eq-eqb, or_right}
use Rattle.hpt_pool.specs.Pool.{PoolState, without_block}
use Rattle.hpt_pool.proofs.Placing.{sound_without}
use Rattle.frame_grants.specs.Grants.{GrantedMemory}
use Rattle.entry_model.specs.declared.receipt.Receipt.{Receipt}
use Rattle.entry_model.specs.declared.hreply.HReply.{HReply}
use Rattle.entry_model.specs.Trial.{IsTrial, IsReplyOf, plan_of_code}
use Rattle.papr_codes.specs.declared.codes.Rc.{Rc}
use Rattle.papr_codes.specs.declared.codes.Rc.TheVariants.{Success, Busy, Closed, Parameter}
use Rattle.hpt_resize.specs.declared.carry.Collision.{Collision}
use Rattle.hpt_resize.specs.declared.current.Current.{Current}
use Rattle.hpt_resize.specs.declared.current.CommitAnswer.{CommitAnswer}
use Rattle.hpt_resize.specs.Rehash.{collision_of}
use Rattle.hpte_fields.specs.TableSize.{entry_count}
use Rattle.hpt_resize.specs.Pending.{PendingTable, is_ready}
use Rattle.hpt_resize.specs.Resize.{IsHeld, IsElsewhere, IsTable, KeepsBlocks, PrepareOutcome, Table, CommitOutcome, prepare_outcome, outcome_of_prepare, commit_outcome, is_commit_request, pending_refusal, commit_refusal, carry_outcome, complete_outcome, answer_outcome, outcome_of_commit, table_of}
use Rattle.hpt_resize.specs.TableMemory.{TableMemory, prepare_result, commit_result}
use Rattle.partition.specs.PartitionState.{PartitionState, IsPartition, CountsTables, block_of, reply_of_code}
use Rattle.partition.proofs.PoolKept.{KeepsPool, same_pool, prepared_pool}

-- The code that a resize call gives, and the table memory that it leaves.
abbrev pub answer_at : Rc → TableMemory → Rc × TableMemory
answer_at rc memory = (rc, memory)

-- ---- replies
abbrev pair : Rc → List ℕ → Rc × List ℕ
pair rc words = (rc, words)

abbrev reply_with : Rc → List ℕ → List Receipt → HReply
reply_with rc words receipts = record { rc = rc; words = words; receipts = receipts }

alone :
    (rc code : Rc) (words : List ℕ) (receipts : List Receipt)
    → IsTrial (plan_of_code rc).goes_on [] receipts
    → pair code words ≡ pair rc []
    → reply_with code words receipts ≡ reply_of_code rc
alone rc code words [] trial told =
    let same : code ≡ rc = ap (λ (p : Rc × List ℕ). p.0) told in
    let none : words ≡ [] = ap (λ (p : Rc × List ℕ). p.1) told in
    cc
alone rc code words (r ∷ rs) trial told = absurd trial

pub reply_alone :
    (rc : Rc) (reply : HReply) → IsReplyOf (plan_of_code rc) reply → reply ≡ reply_of_code rc
reply_alone rc reply is = alone rc reply.rc reply.words reply.receipts is.trial is.told

pub code_of : (rc : Rc) (reply : HReply) → IsReplyOf (plan_of_code rc) reply → reply.rc ≡ rc
code_of rc reply is = ap (λ (r : HReply). r.rc) (reply_alone rc reply is)

-- ---- the states
pub memory_or : (m n : ℕ) → m ≡ n → ((m == 0) || (m == n)) ≡ true
memory_or m n same = or_right (m == 0) (m == n) (eq-eqb m n same)

-- ---- prepare
-- The partition of these parts: the highest order, the pool, the pending and the current table, and
-- the memory that is granted.
abbrev pub partition : ℕ → PoolState → Option PendingTable → Table → GrantedMemory → PartitionState
partition limit pool pending table granted =
    record {
      memory = record { limit = limit; pool = pool; pending = pending; table = table };
      granted = granted;
    }

pub prepare_kept :
    (limit flags shift : ℕ) (pending pending' : Option PendingTable) (pool pool' : PoolState)
    (table : Table) (granted : GrantedMemory) (rc : Rc)
    → IsPartition (partition limit pool pending table granted)
    → prepare_outcome rc pending' pool' ≡ outcome_of_prepare limit flags shift pending pool
    → IsHeld pending' pool'
    → KeepsBlocks pending pool pending' pool'
    → IsPartition (partition limit pool' pending' table granted)
prepare_kept limit flags shift pending pending' pool pool' table granted rc before is held kept =
    let pools = subst (λ (p : PoolState). KeepsPool pool p)
    (sym (ap (λ (p : PrepareOutcome). p.pool) is))
    (prepared_pool limit flags shift pending pool) in
    let blocks = kept (block_of table) before.taken before.elsewhere in
    record {
      limit_fits = before.limit_fits;
      order_fits = before.order_fits;
      pool = pools.sound before.pool;
      base = pools.base ∙ before.base;
      size = pools.size ∙ before.size;
      held = held;
      taken = blocks.0;
      elsewhere = blocks.1;
      in_or_out = before.in_or_out;
    }

-- ---- commit
-- What is to be shown of the call.
record IsAfter (pending : Option PendingTable) (pool : PoolState) (table : Table)
    (after : CommitOutcome) :
    Type 0 where
  pools : KeepsPool pool after.pool
  elsewhere :
      IsElsewhere pending (block_of table) → IsElsewhere after.pending (block_of after.table)
  at_most : after.table.number ≤ table.number + 1
  rises : after.rc ≡ Success → after.table.number ≡ table.number + 1
  stays : after.rc ≢ Success → after.table.number ≡ table.number

without : (pool : PoolState) (place : ℕ) → KeepsPool pool (without_block pool place)
without pool place = record { base = refl; size = refl; sound = sound_without pool place }

carried_after :
    (pending : PendingTable) (pool : PoolState) (table : Table) (o : Option Collision)
    → IsAfter (Some pending) pool table (carry_outcome pending pool table o)
carried_after pending pool table (Some collision) =
    record {
      pools = without pool pending.place;
      elsewhere = λ apart. tt;
      at_most = omega arith;
      rises = λ e. absurd (cc);
      stays = λ e. refl;
    }
carried_after pending pool table None =
    record {
      pools = without pool table.place;
      elsewhere = λ apart. tt;
      at_most = omega arith;
      rises = λ e. refl;
      stays = λ e. absurd (e refl);
    }

completed_after :
    (pending : Option PendingTable) (pool : PoolState) (table : Table)
    → IsAfter pending pool table (complete_outcome pending pool table)
completed_after None pool table =
    record {
      pools = same_pool pool;
      elsewhere = λ apart. tt;
      at_most = omega arith;
      rises = λ e. absurd (cc);
      stays = λ e. refl;
    }
completed_after (Some pending) pool table =
    carried_after pending pool table (collision_of table.order pending.order table.states)

answered_after :
    (o : Option Rc) (pending : Option PendingTable) (pool : PoolState) (table : Table)
    → o ≢ Some Success
    → IsAfter pending pool table (answer_outcome o pending pool table)
answered_after None pending pool table fails = completed_after pending pool table
answered_after (Some rc) pending pool table fails =
    record {
      pools = same_pool pool;
      elsewhere = λ apart. apart;
      at_most = omega arith;
      rises = λ e. absurd (fails (ap Some e));
      stays = λ e. refl;
    }

if_fails :
    (b : Bool) (x y : Option Rc)
    → x ≢ Some Success
    → y ≢ Some Success
    → (if b then x else y) ≢ Some Success
if_fails true x y first second = first
if_fails false x y first second = second

pub refusal_fails :
    (flags shift : ℕ) (pending : Option PendingTable)
    → commit_refusal flags shift pending ≢ Some Success
refusal_fails flags shift pending =
    if_fails (is_commit_request flags shift) (pending_refusal shift pending) (Some Parameter)
    (at pending) (λ e. absurd (cc)) where
      at : (o : Option PendingTable) → pending_refusal shift o ≢ Some Success
      at None = λ e. absurd (cc)
      at (Some table) =
          if_fails (not (table.order == shift)) (Some Closed)
          (if is_ready table then None else Some Busy) (λ e. absurd (cc))
          (if_fails (is_ready table) None (Some Busy) (λ e. absurd (cc)) (λ e. absurd (cc)))

committed_after :
    (flags shift : ℕ) (pending : Option PendingTable) (pool : PoolState) (table : Table)
    → IsAfter pending pool table (outcome_of_commit flags shift pending pool table)
unfolding outcome_of_commit
committed_after flags shift pending pool table =
    answered_after (commit_refusal flags shift pending) pending pool table
    (refusal_fails flags shift pending)

after_of :
    (flags shift : ℕ) (pending pending' : Option PendingTable) (pool pool' : PoolState)
    (table table' : Table) (answer : CommitAnswer)
    → commit_outcome answer pending' pool' table' ≡ outcome_of_commit flags shift pending pool table
    → IsAfter pending pool table (commit_outcome answer pending' pool' table')
after_of flags shift pending pending' pool pool' table table' answer is =
    subst (λ (after : CommitOutcome). IsAfter pending pool table after) (sym is)
    (committed_after flags shift pending pool table)

pub commit_kept :
    (limit flags shift : ℕ) (pending pending' : Option PendingTable) (pool pool' : PoolState)
    (table : Table) (current : Current) (granted : GrantedMemory) (answer : CommitAnswer)
    → IsPartition (partition limit pool pending table granted)
    → commit_outcome answer pending' pool' (table_of current)
    ≡ outcome_of_commit flags shift pending pool table
    → IsTable current
    → IsHeld pending' pool'
    → (IsElsewhere pending (block_of table) → Contains pool'.taken (block_of (table_of current)))
    → IsPartition (partition limit pool' pending' (table_of current) granted)
commit_kept limit flags shift pending pending' pool pool' table current granted answer before is
    tables held taken =
    let after = after_of flags shift pending pending' pool pool' table (table_of current) answer is
    in
    let whole : length current.states.items ≡ entry_count current.order = tables.whole in
    record {
      limit_fits = before.limit_fits;
      order_fits = tables.order_fits;
      pool = after.pools.sound before.pool;
      base = after.pools.base ∙ before.base;
      size = after.pools.size ∙ before.size;
      held = held;
      taken = taken before.elsewhere;
      elsewhere = after.elsewhere before.elsewhere;
      in_or_out = memory_or (length current.states.items) (entry_count current.order) whole;
    }

pub commit_counts :
    (flags shift : ℕ) (pending pending' : Option PendingTable) (pool pool' : PoolState)
    (table table' : Table) (answer : CommitAnswer) (limit : ℕ) (granted : GrantedMemory)
    → commit_outcome answer pending' pool' table' ≡ outcome_of_commit flags shift pending pool table
    → CountsTables answer.rc (partition limit pool pending table granted)
    (partition limit pool' pending' table' granted)
commit_counts flags shift pending pending' pool pool' table table' answer limit granted is =
    let after = after_of flags shift pending pending' pool pool' table table' answer is in
    record { at_most = after.at_most; rises = after.rises; stays = after.stays }

-- ---- the clauses
pub prepare_is :
    (limit flags shift : ℕ) (pending pending' : Option PendingTable) (pool pool' : PoolState)
    (table : Table) (rc : Rc)
    → prepare_outcome rc pending' pool' ≡ outcome_of_prepare limit flags shift pending pool
    →
    (let memory : TableMemory = record {
      limit = limit;
      pool = pool;
      pending = pending;
      table = table;
    } in
    prepare_result memory flags shift)
    ≡ answer_at rc (record { limit = limit; pool = pool'; pending = pending'; table = table })
unfolding prepare_result
prepare_is limit flags shift pending pending' pool pool' table rc is =
    ap
    (λ (p : PrepareOutcome).
    answer_at p.rc
    (record { limit = limit; pool = p.pool; pending = p.pending; table = table })) (sym is)

pub commit_is :
    (limit flags shift : ℕ) (pending pending' : Option PendingTable) (pool pool' : PoolState)
    (table table' : Table) (answer : CommitAnswer)
    → commit_outcome answer pending' pool' table' ≡ outcome_of_commit flags shift pending pool table
    →
    (let memory : TableMemory = record {
      limit = limit;
      pool = pool;
      pending = pending;
      table = table;
    } in
    commit_result memory flags shift)
    ≡ answer_at answer.rc
    (record { limit = limit; pool = pool'; pending = pending'; table = table' })
unfolding commit_result
commit_is limit flags shift pending pending' pool pool' table table' answer is =
    ap
    (λ (p : CommitOutcome).
    answer_at p.rc
    (record { limit = limit; pool = p.pool; pending = p.pending; table = p.table }))
    (sym is)
