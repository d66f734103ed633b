-- The resize calls keep the pool: its base, its order, and that it is sound.
use Rattle.std.proofs.Common.{◌≡◌, ℕ, ◌≤◌, ◌==◌, nat_lt, Bool, true, false, not, if◌then◌else◌, Option, Some, None, refl, ◌∙◌, arith}
use Rattle.std.proofs.lemmas.Bool.Decides.{nat_tests}
use Rattle.hpt_pool.specs.Pool.{PoolState, IsSound, block_at, lowest_place}
use Rattle.hpt_pool.proofs.Placing.{fits_in, sound_with, sound_without}
use Rattle.hpt_resize.specs.Pending.{PendingTable}
use Rattle.hpt_resize.specs.Resize.{PrepareOutcome, is_prepare_request, is_pending, pool_without, new_table_outcome, start_outcome, advance_outcome, outcome_of_prepare}
use Rattle.hpt_resize.proofs.Holding.{lowest_fits}
use Rattle.hpte_fields.specs.TableSize.{least_order}

-- The pool is as large as before and begins at the same address, and it is sound if it was.
pub record KeepsPool (old new : PoolState) : Type 0 where
  pub base : new.base ≡ old.base
  pub size : new.order ≡ old.order
  pub sound : IsSound old → IsSound new

pub same_pool : (pool : PoolState) → KeepsPool pool pool
same_pool pool = record { base = refl; size = refl; sound = λ s. s }

and_then :
    (one two three : PoolState) → KeepsPool one two → KeepsPool two three → KeepsPool one three
and_then one two three first second =
    record {
      base = second.base ∙ first.base;
      size = second.size ∙ first.size;
      sound = λ s. second.sound (first.sound s);
    }

pub dropped_pool :
    (pending : Option PendingTable) (pool : PoolState) → KeepsPool pool (pool_without pending pool)
dropped_pool None pool = same_pool pool
dropped_pool (Some table) pool =
    record { base = refl; size = refl; sound = sound_without pool table.place }

placed_pool :
    (order : ℕ) (pool : PoolState) (place : Option ℕ)
    → least_order ≤ order
    → lowest_place pool order ≡ place
    → KeepsPool pool (new_table_outcome order pool place).pool
placed_pool order pool None large is = same_pool pool
placed_pool order pool (Some place) large is =
    record {
      base = refl;
      size = refl;
      sound =
          λ s.
          sound_with pool (block_at place order) s
          (fits_in pool order place large (lowest_fits pool order place is));
    }

if_pool :
    (b : Bool) (one other : PrepareOutcome) (pool : PoolState)
    → (b ≡ true → KeepsPool pool one.pool)
    → (b ≡ false → KeepsPool pool other.pool)
    → KeepsPool pool (if b then one else other).pool
if_pool true one other pool first second = first refl
if_pool false one other pool first second = second refl

started_pool :
    (order : ℕ) (pending : Option PendingTable) (pool : PoolState)
    → least_order ≤ order
    → KeepsPool pool (start_outcome order pending pool).pool
started_pool order pending pool large =
    let dropped = pool_without pending pool in
    if_pool (is_pending order pending) _
    (new_table_outcome order dropped (lowest_place dropped order)) pool (λ e. same_pool pool)
    (λ e.
    and_then pool dropped (new_table_outcome order dropped (lowest_place dropped order)).pool
    (dropped_pool pending pool)
    (placed_pool order dropped (lowest_place dropped order) large refl))

continued_pool :
    (pool : PoolState) (start : PrepareOutcome) (o : Option PendingTable)
    → KeepsPool pool start.pool
    → KeepsPool pool (advance_outcome start o).pool
continued_pool pool start None kept = kept
continued_pool pool start (Some table) kept = kept

pub asked_low :
    (flags shift : ℕ)
    → not (is_prepare_request flags shift) ≡ false
    → (shift == 0) ≡ false
    → least_order ≤ shift
asked_low flags shift asked nonzero = grind (arith, nat_tests, asked, nonzero)

pub prepared_pool :
    (limit flags shift : ℕ) (pending : Option PendingTable) (pool : PoolState)
    → KeepsPool pool (outcome_of_prepare limit flags shift pending pool).pool
unfolding outcome_of_prepare
prepared_pool limit flags shift pending pool =
    if_pool (not (is_prepare_request flags shift)) _ _ pool (λ e. same_pool pool)
    (λ asked. if_pool (nat_lt limit shift) _ _ pool (λ e. same_pool pool)
    (λ low. if_pool (shift == 0) _ _ pool (λ e. dropped_pool pending pool)
    (λ nonzero.
    continued_pool pool (start_outcome shift pending pool)
    (start_outcome shift pending pool).pending
    (started_pool shift pending pool (asked_low flags shift asked nonzero)))))
