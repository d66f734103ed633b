-- H_RESIZE_HPT_PREPARE over lent memory is that over a pool.
use Rattle.std.specs.Prelude.{◌==◌, nat_le, nat_lt, is_some}
use Rattle.std.proofs.Common.{◌≡◌, ℕ, ℤ, ◌≤◌, min, length, true, false, Option, Some, None, arith, refl, ◌∙◌, inl, inr, ◌⊎◌}
use Rattle.std.proofs.lemmas.Bool.{cases_Bool, eqb-true}
use Rattle.hpte_fields.specs.TableSize.{entry_count, greatest_order, least_order}
use Rattle.hpt_pool.specs.Pool.{PoolState, lowest_place}
use Rattle.papr_codes.specs.ReturnCodes.{rc_code}
use Rattle.papr_codes.specs.declared.codes.Rc.TheVariants.{NoMem}
use Rattle.hpt_resize.specs.Pending.{PendingTable, no_entries, with_more_ready}
use Rattle.hpt_resize.specs.Resize.{PrepareOutcome, is_prepare_request, is_pending, pool_without, new_table_outcome, start_outcome, advance_outcome, outcome_of_prepare}
use Rattle.papr_c.specs.Resizing.{ResizeMemory, resize_memory, nothing_pending, with_pending, pending_of, table_of_order, prepared, outcome_of_resize_prepare}
use Rattle.papr_c.specs.ResizeLaw.{HasLentBlock, IsPrepareOfPool, resize_of}

-- What C has of a table is that table.
ready_back :
    (t : PendingTable)
    → least_order ≤ t.order
    → t.order ≤ greatest_order
    → t.ready ≤ entry_count t.order
    → resize_of (pending_of (with_pending t)) ≡ with_pending t
ready_back t low high few =
    let is_low : nat_le least_order t.order ≡ true = grind arith in
    let is_high : nat_le t.order greatest_order ≡ true = grind arith in
    let is_few : nat_le t.ready (entry_count t.order) ≡ true = grind arith in
    rw (is_low, is_high, is_few) refl

-- The calls of C and of the partition answer one code, and leave one table pending.
AreAlike : ℤ × ResizeMemory → PrepareOutcome → Type 0
AreAlike here there =
    (here.0 ≡ rc_code there.rc) × (resize_of (pending_of here.1.resize) ≡ resize_of there.pending)

-- The memory is that of a table of the order: the pending one of it, or a new one.
fitting :
    (shift : ℕ) (m : ResizeMemory) (pool : PoolState)
    → least_order ≤ shift
    → shift ≤ greatest_order
    → is_some (lowest_place (pool_without (pending_of m.resize) pool) shift) ≡ true
    → AreAlike (prepared (table_of_order shift (pending_of m.resize)) m.into)
    (advance_outcome (start_outcome shift (pending_of m.resize) pool)
    (start_outcome shift (pending_of m.resize) pool).pending)
unfolding AreAlike
fitting shift m pool low high block = at (pending_of m.resize) block where
  new :
      (p : Option PendingTable) (o : Option ℕ)
      → lowest_place (pool_without p pool) shift ≡ o
      → is_some o ≡ true
      → AreAlike (prepared (no_entries shift 0) m.into)
      (advance_outcome
      (new_table_outcome shift (pool_without p pool)
      (lowest_place (pool_without p pool) shift))
      (new_table_outcome shift (pool_without p pool)
      (lowest_place (pool_without p pool) shift)).pending)
  new p None is there = absurd (cc)
  new p (Some place) is there =
      rw is (refl, ready_back (with_more_ready (no_entries shift 0)) low high (omega arith))

  at :
      (p : Option PendingTable)
      → is_some (lowest_place (pool_without p pool) shift) ≡ true
      → AreAlike (prepared (table_of_order shift p) m.into)
      (advance_outcome (start_outcome shift p pool) (start_outcome shift p pool).pending)
  at None there = new None (lowest_place (pool_without None pool) shift) refl there
  at (Some t) there = by (cases_Bool (t.order == shift)) where
    by :
        (t.order == shift ≡ true) ⊎ (t.order == shift ≡ false)
        → AreAlike (prepared (table_of_order shift (Some t)) m.into)
        (advance_outcome (start_outcome shift (Some t) pool)
        (start_outcome shift (Some t) pool).pending)
    by (inl same) =
        let order : t.order ≡ shift = eqb-true t.order shift same in
        rw same (
          refl,
          ready_back (with_more_ready t) (omega (arith, order, low)) (omega (arith, order, high))
              (omega arith),
        )
    by (inr other) =
        rw other (new (Some t) (lowest_place (pool_without (Some t) pool) shift) refl there)

-- It isn't: no table of the order is pending, and the pool has no block.
lacking :
    (shift : ℕ) (m : ResizeMemory) (pool : PoolState)
    → HasLentBlock shift m pool
    → (length m.into == entry_count shift) ≡ false
    → AreAlike (rc_code NoMem, resize_memory nothing_pending m.into)
    (advance_outcome (start_outcome shift (pending_of m.resize) pool)
    (start_outcome shift (pending_of m.resize) pool).pending)
unfolding AreAlike
lacking shift m pool lent short = at (cases_Bool (is_pending shift (pending_of m.resize))) where
  none :
      (o : Option ℕ)
      → lowest_place (pool_without (pending_of m.resize) pool) shift ≡ o
      → is_some o ≡ false
      → is_pending shift (pending_of m.resize) ≡ false
      → AreAlike (rc_code NoMem, resize_memory nothing_pending m.into)
      (advance_outcome (start_outcome shift (pending_of m.resize) pool)
      (start_outcome shift (pending_of m.resize) pool).pending)
  none (Some place) is there other = absurd (cc)
  none None is there other = rw (other, is) (refl, refl)

  at :
      (is_pending shift (pending_of m.resize) ≡ true)
      ⊎ (is_pending shift (pending_of m.resize) ≡ false)
      → AreAlike (rc_code NoMem, resize_memory nothing_pending m.into)
      (advance_outcome (start_outcome shift (pending_of m.resize) pool)
      (start_outcome shift (pending_of m.resize) pool).pending)
  at (inl same) = let whole :
      (length m.into == entry_count shift) ≡ true = grind (arith, lent.stands same) in absurd (cc)
  at (inr other) =
      none (lowest_place (pool_without (pending_of m.resize) pool) shift) refl (lent.block ∙ short)
      other

pub prepares : IsPrepareOfPool
unfolding outcome_of_resize_prepare outcome_of_prepare AreAlike
prepares limit flags shift m pool lent =
    at (cases_Bool (is_prepare_request flags shift))
    (cases_Bool (nat_lt (min limit greatest_order) shift))
    (cases_Bool (shift == 0)) (cases_Bool (length m.into == entry_count shift)) where
      at :
          (is_prepare_request flags shift ≡ true) ⊎ (is_prepare_request flags shift ≡ false)
          → (nat_lt (min limit greatest_order) shift ≡ true)
          ⊎ (nat_lt (min limit greatest_order) shift ≡ false)
          → ((shift == 0) ≡ true) ⊎ ((shift == 0) ≡ false)
          → ((length m.into == entry_count shift) ≡ true)
          ⊎ ((length m.into == entry_count shift) ≡ false)
          → AreAlike (outcome_of_resize_prepare limit flags shift m)
          (outcome_of_prepare (min limit greatest_order) flags shift (pending_of m.resize) pool)
      at (inr bad) above zero fits = rw bad (refl, refl)
      at (inl request) (inl above) zero fits = rw (request, above) (refl, refl)
      at (inl request) (inr below) (inl zero) fits = rw (request, below, zero) (refl, refl)
      at (inl request) (inr below) (inr some) (inl whole) =
          rw (request, below, some, whole)
          (fitting shift m pool (grind arith) (grind arith) (lent.block ∙ whole))
      at (inl request) (inr below) (inr some) (inr short) =
          rw (request, below, some, short) (lacking shift m pool lent short)
