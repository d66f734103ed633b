-- A line of one partition of a set, and what it leaves of all.
use Rattle.std.proofs.Common.{◌≡◌, ℕ, ◌<◌, List, length, slice_set, Contains, Result, Ok, Err, OnOk, OnErr, sym, ap, ◌∙◌, subst}
use Rattle.std.proofs.lemmas.List.{set-get_or}
use Rattle.std.proofs.lemmas.List.Elements.{All-head, All-tail}
use Rattle.lpar_set.proofs.CallBlocks.{held_is}
use Rattle.hpt_pool.specs.Pool.{PoolState, no_blocks, block_at}
use Rattle.hpt_resize.specs.Resize.{IsHeld}
use Rattle.trace_line.specs.declared.line.TraceLine.{TraceLine}
use Rattle.trace_reply.specs.declared.reply.Reply.{Reply}
use Rattle.run_model.specs.Stores.{Store}
use Rattle.run_model.specs.SerialRun.{run_on}
use Rattle.lpar_set.specs.SetRun.{MemberState, SetState, with_pool, no_member, member_at, with_member, set_line, opening_pool, opening_members, opening_set}
use Rattle.lpar_set.specs.SetTrace.{NumberedTrace, AcceptedSet, IsAcceptedSet}
use Rattle.lpar_set.specs.SetStates.{pending_blocks, IsSetState}
use Rattle.lpar_set.proofs.MemberSteps.{replied}
use Rattle.lpar_set.proofs.SetKept.{own_held, line_keeps, opening_keeps}

-- ---- the blocks of the line's partition
pub own_taken :
    (w : SetState) (k : ℕ)
    → IsSetState w
    → k < length w.members
    → Contains w.pool.taken (block_at (member_at w k).table.place (member_at w k).table.order)
own_taken w k is inside =
    let m = member_at w k in
    All-head (Contains w.pool.taken) (block_at m.table.place m.table.order)
    (pending_blocks m.pending) (own_held w k is inside).held

pub own_pending :
    (w : SetState) (k : ℕ)
    → IsSetState w
    → k < length w.members
    → IsHeld (member_at w k).pending w.pool
own_pending w k is inside =
    let m = member_at w k in
    held_is m.pending w.pool
    (All-tail (Contains w.pool.taken) (block_at m.table.place m.table.order)
    (pending_blocks m.pending) (own_held w k is inside).held)

-- ---- the set after the line
-- The set in which this pool and this partition are.
abbrev pub with_parts : SetState → ℕ → PoolState → MemberState → SetState
with_parts w k pool m = record { pool = pool; members = slice_set w.members k m }

-- A line's reply, and the set that the line leaves.
abbrev pub in_set : Reply → SetState → Reply × SetState
in_set r w = (r, w)

pub set_moved :
    (w : SetState) (k : ℕ) (m m' : MemberState) (pool' : PoolState) (l : TraceLine) (r : Reply)
    → m ≡ member_at w k
    → replied r (with_pool pool' m') ≡ run_on (with_pool w.pool m) l
    → in_set r (with_parts w k pool' m') ≡ set_line w k l
set_moved w k m m' pool' l r is moved =
    ap (λ (x : Reply × Store). in_set x.0 (with_member w k x.1))
    (moved ∙ ap (λ (n : MemberState). run_on (with_pool w.pool n) l) is)

-- A set whose member and pool are as they were is the same set.
pub same_parts :
    (w : SetState) (k : ℕ) (m m' : MemberState) (pool' : PoolState)
    → m ≡ member_at w k
    → m' ≡ m
    → pool' ≡ w.pool
    → with_parts w k pool' m' ≡ w
same_parts w k m m' pool' is same same_pool =
    let members : slice_set w.members k m' ≡ w.members = ap (slice_set w.members k) (same ∙ is) ∙
    set-get_or w.members k no_member in
    λ i. record { pool = same_pool i; members = members i }

pub still_set :
    {E : Type 0} (result : Result Unit E) (w : SetState) (k : ℕ) (m m' : MemberState)
    (pool' : PoolState) (l : TraceLine) (r : Reply)
    → IsSetState w
    → k < length w.members
    → m ≡ member_at w k
    → OnOk result (replied r (with_pool pool' m') ≡ run_on (with_pool w.pool m) l)
    → OnErr result (m' ≡ m)
    → OnErr result (pool' ≡ w.pool)
    → IsSetState (with_parts w k pool' m')
still_set (Ok x) w k m m' pool' l r between inside is moved same same_pool =
    subst IsSetState
    (sym (ap (λ (x : Reply × SetState). x.1) (set_moved w k m m' pool' l r is moved)))
    (line_keeps w k l between inside)
still_set (Err e) w k m m' pool' l r between inside is moved same same_pool =
    subst IsSetState (sym (same_parts w k m m' pool' is same same_pool)) between

-- ---- the beginning
-- The set of these partitions over this pool.
abbrev pub set_of : PoolState → List MemberState → SetState
set_of pool members = record { pool = pool; members = members }

opened_set :
    (s : AcceptedSet) (pool pool' : PoolState) (ps : List NumberedTrace)
    (members : List MemberState)
    → pool ≡ no_blocks s.pool_base s.pool_order
    → ps ≡ s.partitions
    → members ≡ opening_members pool ps
    → pool' ≡ opening_pool pool ps
    → set_of pool' members ≡ opening_set s
opened_set s pool pool' ps members begins all opened taken =
    (λ i. set_of (taken i) (opened i))
    ∙ (λ i. set_of (opening_pool (begins i) (all i)) (opening_members (begins i) (all i)))

pub opened_keeps :
    (s : AcceptedSet) (pool pool' : PoolState) (ps : List NumberedTrace)
    (members : List MemberState)
    → IsAcceptedSet s
    → pool ≡ no_blocks s.pool_base s.pool_order
    → ps ≡ s.partitions
    → members ≡ opening_members pool ps
    → pool' ≡ opening_pool pool ps
    → IsSetState (set_of pool' members)
opened_keeps s pool pool' ps members is begins all opened taken =
    subst IsSetState (sym (opened_set s pool pool' ps members begins all opened taken))
    (opening_keeps s is)
