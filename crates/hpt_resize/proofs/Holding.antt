-- Which blocks of the pool are taken after the calls.
use Rattle.std.proofs.Common.{◌≡◌, ◌≢◌, ℕ, ◌==◌, nat_lt, Bool, true, false, not, if◌then◌else◌, Contains, Option, Some, None, MatchOption, refl, sym, subst}
use Rattle.std.proofs.lemmas.List.Elements.{All-contains}
use Rattle.hpt_pool.proofs.Placing.{apart_places, fits_apart}
use Rattle.basics.proofs.Lists.{find-Some}
use Rattle.hpt_pool.specs.Pool.{Block, PoolState, block_at, overlap, fits, multiples, lowest_place}
use Rattle.hpt_pool.proofs.Kept.{with_contains, with_keeps, without_keeps}
use Rattle.papr_codes.specs.declared.codes.Rc.{Rc}
use Rattle.papr_codes.specs.declared.codes.Rc.TheVariants.{Success, LongBusy, Parameter, NoMem, Resource}
use Rattle.hpt_resize.specs.Pending.{PendingTable, is_ready, with_more_ready}
use Rattle.hpt_resize.specs.Resize.{IsHeld, IsElsewhere, KeepsBlocks, PrepareOutcome, prepare_outcome, is_prepare_request, pool_without, is_pending, new_table_outcome, start_outcome, advance_outcome, outcome_of_prepare}

-- ---- a place that fits
-- Where a block fits no taken one begins.
fits_elsewhere :
    (pool : PoolState) (order place : ℕ) (block : Block)
    → fits pool order place ≡ true
    → Contains pool.taken block
    → place ≢ block.place
fits_elsewhere pool order place block fit here =
    apart_places (block_at place order) block
    (All-contains (λ (other : Block). overlap (block_at place order) other ≡ false) pool.taken block
    (fits_apart pool order place fit) here)

pub lowest_fits :
    (pool : PoolState) (order place : ℕ)
    → lowest_place pool order ≡ Some place
    → fits pool order place ≡ true
unfolding lowest_place
lowest_fits pool order place found =
    (find-Some (fits pool order) (multiples pool order) place found).0

-- ---- the parts of a prepare
-- What is to be shown of the call: it is put together from its parts.
pub record IsSafe (pending : Option PendingTable) (pool : PoolState) (after : PrepareOutcome) :
    Type 0 where
  pub held : IsHeld after.pending after.pool
  pub kept : KeepsBlocks pending pool after.pending after.pool

same_safe :
    (rc : Rc) (pending : Option PendingTable) (pool : PoolState)
    → IsHeld pending pool
    → IsSafe pending pool (prepare_outcome rc pending pool)
same_safe rc pending pool held = record { held = held; kept = λ block here apart. (here, apart) }

if_safe :
    (b : Bool) (one other : PrepareOutcome) (pending : Option PendingTable) (pool : PoolState)
    → IsSafe pending pool one
    → IsSafe pending pool other
    → IsSafe pending pool (if b then one else other)
if_safe true one other pending pool first second = first
if_safe false one other pending pool first second = second

pub dropped_keeps :
    (pending : Option PendingTable) (pool : PoolState) (block : Block)
    → Contains pool.taken block
    → IsElsewhere pending block
    → Contains (pool_without pending pool).taken block
dropped_keeps None pool block here apart = here
dropped_keeps (Some table) pool block here apart =
    without_keeps pool.taken table.place block (λ same. apart (sym same)) here

pub dropped_safe :
    (rc : Rc) (pending : Option PendingTable) (pool : PoolState)
    → IsSafe pending pool (prepare_outcome rc None (pool_without pending pool))
dropped_safe rc pending pool =
    record {
      held = tt;
      kept = λ block here apart. (dropped_keeps pending pool block here apart, tt);
    }

placed_safe :
    (pending : Option PendingTable) (pool : PoolState) (order : ℕ) (place : Option ℕ)
    → lowest_place (pool_without pending pool) order ≡ place
    → IsSafe pending pool (new_table_outcome order (pool_without pending pool) place)
placed_safe pending pool order None found = dropped_safe NoMem pending pool
placed_safe pending pool order (Some place) found = record {
  held = with_contains (pool_without pending pool).taken (block_at place order);
  kept = λ block here apart.
      let still = dropped_keeps pending pool block here apart in (
        with_keeps (pool_without pending pool).taken (block_at place order) block still,
        fits_elsewhere (pool_without pending pool) order place block
            (lowest_fits (pool_without pending pool) order place found) still,
      );
}

pub started_safe :
    (order : ℕ) (pending : Option PendingTable) (pool : PoolState)
    → IsHeld pending pool
    → IsSafe pending pool (start_outcome order pending pool)
started_safe order pending pool held =
    if_safe (is_pending order pending) (prepare_outcome Success pending pool)
    (new_table_outcome order (pool_without pending pool)
    (lowest_place (pool_without pending pool) order)) pending pool
    (same_safe Success pending pool held)
    (placed_safe pending pool order (lowest_place (pool_without pending pool) order) refl)

continued_safe :
    (pending : Option PendingTable) (pool : PoolState) (start : PrepareOutcome)
    (o : Option PendingTable)
    → start.pending ≡ o
    → IsSafe pending pool start
    → IsSafe pending pool (advance_outcome start o)
continued_safe pending pool start None is safe = safe
continued_safe pending pool start (Some table) is safe = record {
  held = subst (λ o. IsHeld o start.pool) is safe.held;
  kept = λ block here apart.
      let both = safe.kept block here apart in
      (both.0, subst (λ o. IsElsewhere o block) is both.1);
}

pub prepared_safe :
    (limit flags shift : ℕ) (pending : Option PendingTable) (pool : PoolState)
    → IsHeld pending pool
    → IsSafe pending pool (outcome_of_prepare limit flags shift pending pool)
unfolding outcome_of_prepare
prepared_safe limit flags shift pending pool held =
    if_safe (not (is_prepare_request flags shift)) _ _ pending pool
    (same_safe Parameter pending pool held)
    (if_safe (nat_lt limit shift) _ _ pending pool (same_safe Resource pending pool held)
    (if_safe (shift == 0) _ _ pending pool (dropped_safe Success pending pool)
    (continued_safe pending pool (start_outcome shift pending pool)
    (start_outcome shift pending pool).pending refl
    (started_safe shift pending pool held))))

-- ---- after a table was started, by the clause of what goes on with it
pub advanced_safe :
    (rc answer : Rc) (pending one two : Option PendingTable) (pool pool_after : PoolState)
    → IsSafe pending pool (prepare_outcome rc one pool_after)
    → MatchOption one ((answer ≡ rc) × (two ≡ None))
    (λ table.
    (two ≡ Some (with_more_ready table))
    × (answer ≡ (if is_ready (with_more_ready table) then Success else LongBusy)))
    → IsSafe pending pool (prepare_outcome answer two pool_after)
advanced_safe rc answer pending None two pool pool_after safe (said, none) = record {
  held = subst (λ o. IsHeld o pool_after) (sym none) tt;
  kept =
      λ block here apart.
      ((safe.kept block here apart).0, subst (λ o. IsElsewhere o block) (sym none) tt);
}
advanced_safe rc answer pending (Some table) two pool pool_after safe (now, said) = record {
  held = subst (λ o. IsHeld o pool_after) (sym now) safe.held;
  kept =
      λ block here apart.
      let both = safe.kept block here apart in
      (both.0, subst (λ o. IsElsewhere o block) (sym now) both.1);
}
