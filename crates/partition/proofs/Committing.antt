-- A commit that succeeds is a rehash without a collision.
use Rattle.std.proofs.Common.{◌≡◌, ℕ, ◌+◌, ◌≤◌, ◌==◌, not, Bool, true, false, if◌then◌else◌, Option, Some, None, refl, ap, ◌∙◌, arith}
use Rattle.std.specs.List.{AllByRecursion}
use Rattle.std.proofs.lemmas.Bool.Decides.{nat_tests}
use Rattle.hpt_pool.specs.Pool.{PoolState}
use Rattle.hpt_walk.specs.Laws.{IsEntryState}
use Rattle.papr_codes.specs.declared.codes.Rc.{Rc}
use Rattle.papr_codes.specs.declared.codes.Rc.TheVariants.{Success, Busy, Closed, Parameter}
use Rattle.hpt_resize.specs.declared.carry.Collision.{Collision}
use Rattle.hpt_resize.specs.Rehash.{collision_of}
use Rattle.hpt_resize.specs.Pending.{PendingTable, is_ready}
use Rattle.hpt_resize.specs.Resize.{Table, is_commit_request, pending_refusal, commit_refusal, carry_outcome, answer_outcome, outcome_of_commit}
use Rattle.hpt_resize.specs.TableMemory.{TableMemory, commit_result}
use Rattle.partition.specs.Laws.{PairsCarriedPages}
use Rattle.partition.proofs.Resizing.{refusal_fails}
use Rattle.partition.proofs.Carrying.{rehash_keeps}
use Rattle.hpte_fields.specs.TableSize.{least_order}

-- ---- what a call that isn't refused says
if_else :
    (b : Bool) (x : Option Rc) (rc : Rc)
    → (if b then x else Some rc) ≡ None
    → (b ≡ true) × (x ≡ None)
if_else true x rc e = (refl, e)
if_else false x rc e = cc

if_then : (b : Bool) (x : Option Rc) (rc : Rc) → (if b then Some rc else x) ≡ None → b ≡ false
if_then true x rc e = cc
if_then false x rc e = refl

asked_order :
    (flags shift : ℕ) (pending : PendingTable)
    → commit_refusal flags shift (Some pending) ≡ None
    → least_order ≤ pending.order
asked_order flags shift pending none =
    let asked = if_else (is_commit_request flags shift) (pending_refusal shift (Some pending))
    Parameter none in
    let other = if_then (not (pending.order == shift))
    (if is_ready pending then None else Some Busy) Closed asked.1 in
    let request = asked.0 in
    grind (arith, nat_tests, request, other)

-- ---- the law
carried_keeps :
    (pending : PendingTable) (pool : PoolState) (table : Table) (o : Option Collision)
    → least_order ≤ pending.order
    → AllByRecursion IsEntryState table.states
    → collision_of table.order pending.order table.states ≡ o
    → (carry_outcome pending pool table o).rc ≡ Success
    → PairsCarriedPages table (carry_outcome pending pool table o).table
carried_keeps pending pool table (Some collision) low states is ok = absurd (cc)
carried_keeps pending pool table None low states is ok =
    rehash_keeps table pending.order pending.place (table.number + 1) low states is

answered_keeps :
    (flags shift : ℕ) (pending : Option PendingTable) (pool : PoolState) (table : Table)
    (o : Option Rc)
    → AllByRecursion IsEntryState table.states
    → commit_refusal flags shift pending ≡ o
    → (answer_outcome o pending pool table).rc ≡ Success
    → PairsCarriedPages table (answer_outcome o pending pool table).table
answered_keeps flags shift pending pool table (Some rc) states is ok =
    absurd (refusal_fails flags shift pending (is ∙ ap Some ok))
answered_keeps flags shift None pool table None states is ok = absurd (cc)
answered_keeps flags shift (Some pending) pool table None states is ok =
    carried_keeps pending pool table (collision_of table.order pending.order table.states)
    (asked_order flags shift pending is) states refl ok

pub commit_keeps :
    (memory : TableMemory) (flags shift : ℕ)
    → AllByRecursion IsEntryState memory.table.states
    → (commit_result memory flags shift).0 ≡ Success
    → PairsCarriedPages memory.table (commit_result memory flags shift).1.table
unfolding commit_result outcome_of_commit
commit_keeps memory flags shift states ok =
    answered_keeps flags shift memory.pending memory.pool memory.table
    (commit_refusal flags shift memory.pending) states refl ok
