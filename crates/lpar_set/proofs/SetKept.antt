-- Each line keeps what holds of a set between two lines.
use Rattle.std.specs.List.{AllByRecursion}
use Rattle.std.proofs.Common.{◌≡◌, ◌≢◌, ℕ, suc, ◌<◌, ◌≤◌, List, [], ◌∷◌, ◌++◌, length, take, drop, slice_set, Contains, sym, ap, ◌∙◌, subst, arith}
use Rattle.std.proofs.lemmas.List.{set_split, set-get_or, get_or-set_same, get_or-set_other, length-set}
use Rattle.std.proofs.lemmas.List.Elements.{All-nil, All-from_recursion, recursion_from_All, All-get_or, All-set}
use Rattle.std.proofs.lemmas.Grind.{flat_map-append}
use Rattle.pool_range.specs.Ranges.{IsPoolRange}
use Rattle.hpt_pool.specs.Pool.{PoolState, IsPlaced, IsSound, no_blocks}
use Rattle.trace_line.specs.declared.line.TraceLine.{TraceLine}
use Rattle.run_model.specs.Stores.{Store}
use Rattle.run_model.specs.SerialRun.{run_on}
use Rattle.run_model.proofs.TableSizes.{IsSized, one_sized}
use Rattle.lpar_set.specs.OpeningTables.{with_opening}
use Rattle.lpar_set.specs.SetTrace.{NumberedTrace, AcceptedSet, IsAcceptedSet}
use Rattle.lpar_set.specs.SetRun.{MemberState, SetState, with_pool, without_pool, no_member, member_at, opening_members, opening_set, set_line}
use Rattle.lpar_set.specs.SetStates.{blocks_of, held_blocks, IsMember, HasAllowed, IsSetState}
use Rattle.lpar_set.proofs.BlocksApart.{AreHeld, held_middle, held_after}
use Rattle.lpar_set.proofs.Openings.{openings_are, opens_held}
use Rattle.lpar_set.proofs.RunKept.{KeepsRun, line_keeps_run}
use Rattle.hpte_fields.specs.TableSize.{least_order}

-- ---- the partition of the line
pub member_sized :
    (pool : PoolState) (m : MemberState)
    → IsMember m
    → HasAllowed m
    → IsSized (with_pool pool m).memory
member_sized pool m is allowed = record {
  stands =
      record {
        limited = is.limit_fits.1;
        low = is.order_fits.0;
        size = is.whole;
        allowed = allowed;
      };
  high = is.order_fits.1;
}

sized_member :
    (w : Store) → least_order ≤ w.memory.limit → IsSized w.memory → IsMember (without_pool w)
sized_member w low is = record {
  limit_fits = (low, is.stands.limited);
  order_fits = (is.stands.low, is.high);
  whole = is.stands.size;
}

-- ---- the blocks of all
-- Those of the partitions before one, its own, and those of the partitions after.
pub held_set :
    (members : List MemberState) (k : ℕ) (m : MemberState)
    → k < length members
    → held_blocks (slice_set members k m)
    ≡ held_blocks (take k members) ++ (blocks_of m ++ held_blocks (drop (suc k) members))
held_set members k m inside =
    ap held_blocks (set_split members k m inside)
    ∙ flat_map-append blocks_of (take k members) (m ∷ drop (suc k) members)

pub held_at :
    (w : SetState) (k : ℕ)
    → k < length w.members
    → held_blocks w.members
    ≡ held_blocks (take k w.members)
    ++ (blocks_of (member_at w k) ++ held_blocks (drop (suc k) w.members))
held_at w k inside =
    ap held_blocks (sym (set-get_or w.members k no_member))
    ∙ held_set w.members k (member_at w k) inside

all_held : (w : SetState) → IsSetState w → AreHeld w.pool.taken (held_blocks w.members)
all_held w is =
    record {
      held = All-from_recursion (Contains w.pool.taken) (held_blocks w.members) is.held;
      apart = is.apart;
    }

in_parts :
    (w : SetState) (k : ℕ)
    → IsSetState w
    → k < length w.members
    → AreHeld w.pool.taken
    (held_blocks (take k w.members)
    ++ (blocks_of (member_at w k) ++ held_blocks (drop (suc k) w.members)))
in_parts w k is inside = subst (AreHeld w.pool.taken) (held_at w k inside) (all_held w is)

-- The blocks of one partition.
pub own_held :
    (w : SetState) (k : ℕ)
    → IsSetState w
    → k < length w.members
    → AreHeld w.pool.taken (blocks_of (member_at w k))
own_held w k is inside =
    held_middle w.pool.taken (held_blocks (take k w.members)) (blocks_of (member_at w k))
    (held_blocks (drop (suc k) w.members)) (in_parts w k is inside)

pub own_is : (w : SetState) (k : ℕ) → IsSetState w → k < length w.members → IsMember (member_at w k)
own_is w k is inside =
    All-get_or IsMember w.members k no_member inside
    (All-from_recursion IsMember w.members is.members)

pub own_allowed :
    (w : SetState) (k : ℕ) → IsSetState w → k < length w.members → HasAllowed (member_at w k)
own_allowed w k is inside =
    All-get_or HasAllowed w.members k no_member inside
    (All-from_recursion HasAllowed w.members is.allowed)

-- ---- a line
-- What the line leaves of the run of its partition.
pub line_run :
    (w : SetState) (k : ℕ) (l : TraceLine)
    → IsSetState w
    → k < length w.members
    → KeepsRun (with_pool w.pool (member_at w k)) (run_on (with_pool w.pool (member_at w k)) l).1
line_run w k l is inside =
    line_keeps_run (with_pool w.pool (member_at w k)) l (own_held w k is inside)

pub line_keeps :
    (w : SetState) (k : ℕ) (l : TraceLine)
    → IsSetState w
    → k < length w.members
    → IsSetState (set_line w k l).1
line_keeps w k l is inside =
    let m = member_at w k in
    let run = with_pool w.pool m in
    let after = (run_on run l).1 in
    let low = held_blocks (take k w.members) in
    let high = held_blocks (drop (suc k) w.members) in
    let kept = line_run w k l is inside in
    let member = own_is w k is inside in
    let sized : IsSized after.memory = one_sized run l
    (member_sized w.pool m member (own_allowed w k is inside)) in
    let limit : least_order ≤ after.memory.limit = subst (λ n. least_order ≤ n) (sym kept.limit)
    member.limit_fits.0 in
    let held : AreHeld after.memory.pool.taken (low ++ (blocks_of (without_pool after) ++ high)) =
    held_after w.pool.taken (blocks_of m) after.memory.pool.taken
    (blocks_of (without_pool after)) low high kept.moves.blocks (in_parts w k is inside) in
    let all : AreHeld after.memory.pool.taken
    (held_blocks (slice_set w.members k (without_pool after))) = subst
    (AreHeld after.memory.pool.taken) (sym (held_set w.members k (without_pool after) inside))
    held in
    record {
      pool = kept.moves.pools.sound is.pool;
      members =
          recursion_from_All IsMember (slice_set w.members k (without_pool after))
          (All-set IsMember w.members k (without_pool after) (sized_member after limit sized)
          (All-from_recursion IsMember w.members is.members));
      allowed =
          recursion_from_All HasAllowed (slice_set w.members k (without_pool after))
          (All-set HasAllowed w.members k (without_pool after) sized.stands.allowed
          (All-from_recursion HasAllowed w.members is.allowed));
      held =
          recursion_from_All (Contains after.memory.pool.taken)
          (held_blocks (slice_set w.members k (without_pool after))) all.held;
      apart = all.apart;
    }

-- ---- what stays
-- The pool's range stays, and of the line's partition its limit, its grants and the count of its
-- processors.
pub record Stays (w after : SetState) (k : ℕ) : Type 0 where
  pub base : after.pool.base ≡ w.pool.base
  pub order : after.pool.order ≡ w.pool.order
  pub limit : (member_at after k).limit ≡ (member_at w k).limit
  pub grants : (member_at after k).grants ≡ (member_at w k).grants
  pub processors : length (member_at after k).processors ≡ length (member_at w k).processors
  pub others : (other : ℕ) → other ≢ k → member_at after other ≡ member_at w other
  pub count : length after.members ≡ length w.members

pub pool_stays :
    (w : SetState) (k : ℕ) (l : TraceLine)
    → IsSetState w
    → k < length w.members
    → Stays w (set_line w k l).1 k
pool_stays w k l is inside =
    let run = with_pool w.pool (member_at w k) in
    let after = (run_on run l).1 in
    let kept = line_run w k l is inside in
    let own : member_at (set_line w k l).1 k ≡ without_pool after = get_or-set_same w.members k
    (without_pool after) no_member inside in
    record {
      base = kept.moves.pools.base;
      order = kept.moves.pools.size;
      limit = ap (λ (m : MemberState). m.limit) own ∙ kept.limit;
      grants = ap (λ (m : MemberState). m.grants) own ∙ kept.grants;
      processors = ap (λ (m : MemberState). length m.processors) own ∙ kept.processors;
      others =
          λ other apart. get_or-set_other w.members k other (without_pool after) no_member apart;
      count = length-set w.members k (without_pool after);
    }

-- ---- the beginning
pub empty_sound : (base order : ℕ) → IsPoolRange base order → IsSound (no_blocks base order)
empty_sound base order is = record {
  pool = is;
  blocks = record {
    placed = All-nil (IsPlaced (no_blocks base order));
    rising = λ i j d before inside. absurd (omega arith);
    apart = λ i j d before inside. absurd (omega arith);
  };
}

none_pending :
    (pool : PoolState) (ps : List NumberedTrace)
    → AllByRecursion HasAllowed (opening_members pool ps)
none_pending pool [] = tt
none_pending pool (p ∷ ps) = (tt, none_pending (with_opening pool p.trace.config.order) ps)

pub opening_keeps : (s : AcceptedSet) → IsAcceptedSet s → IsSetState (opening_set s)
opening_keeps s is =
    let pool = no_blocks s.pool_base s.pool_order in
    let opened = opens_held s.pool_base s.pool_order pool s.partitions
    (empty_sound s.pool_base s.pool_order is.pool) is.room is.each in
    record {
      pool = opened.sound;
      members = openings_are s.pool_base s.pool_order pool s.partitions is.each;
      allowed = none_pending pool s.partitions;
      held =
          recursion_from_All (Contains (opening_set s).pool.taken)
          (held_blocks (opening_set s).members) opened.held.held;
      apart = opened.held.apart;
    }
