-- The opening table has a place in the pool of an accepted configuration.
use Rattle.std.specs.Prelude.{unwrap_or}
use Rattle.std.proofs.Common.{◌≡◌, ℕ, ◌+◌, ◌-◌, ◌*◌, ◌^◌, ◌≤◌, true, false, List, length, Contains, Option, Some, None, IfSome, MatchOption, refl, sym, ap, ◌∙◌, subst, arith}
use Rattle.std.specs.Option.{IsSome}
use Rattle.std.proofs.lemmas.Nat.{pow_pos}
use Rattle.hpt_pool.specs.Pool.{PoolState, IsSound, IsLowest, FitsNowhere, block_at, fits, lowest_place, no_blocks, with_block}
use Rattle.hpt_pool.proofs.Lowest.{multiple_placed, fits_is}
use Rattle.hpt_pool.proofs.Kept.{with_contains}
use Rattle.pool_range.specs.Ranges.{IsPoolRange}
use Rattle.frame_grants.specs.Grants.{GrantedMemory}
use Rattle.trace_read.specs.Configuration.{Configuration}
use Rattle.entry_model.specs.State.{State}
use Rattle.hpte_fields.specs.TableSize.{entry_count, greatest_order, least_order}
use Rattle.hpt_resize.specs.TableMemory.{empty_states, with_entries, opening_memory}
use Rattle.hpt_resize.proofs.OpeningStates.{opening-length}
use Rattle.partition.specs.PartitionState.{PartitionState, IsPartition, opening_partition}
use Rattle.partition.proofs.Resizing.{partition, memory_or}
use Rattle.frame_grants.specs.Grants as grants

fits_first :
    (base order table : ℕ)
    → IsPoolRange base order
    → least_order ≤ table
    → table ≤ order
    → fits (no_blocks base order) table base ≡ true
fits_first base order table pool large small =
    let first : base + 0 * 2 ^ table ≡ base = omega arith in
    let some = pow_pos (order - table) in
    subst (λ n. fits (no_blocks base order) table n ≡ true) first
    (fits_is (no_blocks base order) table (base + 0 * 2 ^ table)
    (multiple_placed (no_blocks base order) table 0 pool large small some))

pub has_place :
    (pool : PoolState) (base order table : ℕ) (o : Option ℕ)
    → pool ≡ no_blocks base order
    → IsPoolRange base order
    → least_order ≤ table
    → table ≤ order
    → MatchOption o (FitsNowhere pool table) (IsLowest pool table)
    → IsSome o
has_place pool base order table (Some place) is sound large small lowest = refl
has_place pool base order table None is sound large small nowhere =
    let fit : fits pool table base ≡ true = subst (λ (p : PoolState). fits p table base ≡ true)
    (sym is) (fits_first base order table sound large small) in
    let fails : fits pool table base ≡ false = nowhere base in
    absurd (cc)

-- The configured pool is a range that a pool may have, since sound grants have it.
pub sound_pool :
    (copied granted : GrantedMemory) (base order : ℕ)
    → grants.IsSound copied
    → copied ≡ granted
    → granted.pool_base ≡ base
    → granted.pool_order ≡ order
    → IsPoolRange base order
sound_pool copied granted base order sound same base_is order_is =
    let first : copied.pool_base ≡ base = ap (λ (g : GrantedMemory). g.pool_base) same ∙ base_is in
    let second : copied.pool_order ≡ order = ap (λ (g : GrantedMemory). g.pool_order) same ∙
    order_is in
    subst (λ n. IsPoolRange n order) first
    (subst (λ n. IsPoolRange copied.pool_base n) second sound.pool)

pub beside :
    (pool : PoolState) (granted : GrantedMemory) (base order : ℕ)
    → pool ≡ no_blocks base order
    → granted.pool_base ≡ base
    → granted.pool_order ≡ order
    → pool ≡ no_blocks granted.pool_base granted.pool_order
beside pool granted base order is first second = cc

-- ---- the partition
-- The partition with this pool, these grants, and a first table at this place with these states is
-- the opening one of the configuration, and has what partitions have at all times.
pub record IsOpened (config : Configuration) (new : PoolState) (place : ℕ) (states : List State)
    (granted : GrantedMemory) :
    Type 0 where
  pub kept :
      IsPartition
      (partition config.limit new None
      (record { order = config.order; place = place; number = 0; states = states })
      granted)
  pub is :
      partition config.limit new None
      (record { order = config.order; place = place; number = 0; states = states }) granted
      ≡ opening_partition config

opened_is :
    (config : Configuration) (new : PoolState) (place : ℕ) (states : List State)
    (granted : GrantedMemory)
    → new
    ≡ with_block (no_blocks config.granted.pool_base config.granted.pool_order)
    (block_at place config.order)
    → lowest_place (no_blocks config.granted.pool_base config.granted.pool_order) config.order
    ≡ Some place
    → states ≡ with_entries (empty_states config.order) config.entries
    → granted ≡ config.granted
    → partition config.limit new None
    (record { order = config.order; place = place; number = 0; states = states }) granted
    ≡ opening_partition config
unfolding opening_partition opening_memory
opened_is config new place states granted now lowest empty same =
    let at : unwrap_or
    (lowest_place (no_blocks config.granted.pool_base config.granted.pool_order) config.order) 0
    ≡ place = ap (λ (o : Option ℕ). unwrap_or o 0) lowest in
    rw (now, empty, same, at) refl

pub is_opened :
    (config : Configuration) (pool new : PoolState) (o : Option ℕ) (place : ℕ) (states : List State)
    (granted : GrantedMemory)
    → least_order ≤ config.order
    → config.order ≤ config.limit
    → config.limit ≤ greatest_order
    → granted ≡ config.granted
    → pool ≡ no_blocks config.granted.pool_base config.granted.pool_order
    → o ≡ lowest_place pool config.order
    → o ≡ Some place
    → IfSome o (λ p. new ≡ with_block pool (block_at p config.order))
    → IsSound new
    → states ≡ with_entries (empty_states config.order) config.entries
    → IsOpened config new place states granted
is_opened config pool new None place states granted low within high same is first found made sound
    empty =
    absurd (cc)
is_opened config pool new (Some other) place states granted low within high same is first found made
    sound empty =
    let at : other ≡ place = cc in
    let open_pool : PoolState = no_blocks config.granted.pool_base config.granted.pool_order in
    let now : new ≡ with_block open_pool (block_at place config.order) = made ∙ ap
    (λ n. with_block pool (block_at n config.order)) at ∙ ap
    (λ (p : PoolState). with_block p (block_at place config.order)) is in
    let lowest : lowest_place open_pool config.order ≡ Some place = ap
    (λ (p : PoolState). lowest_place p config.order) (sym is) ∙ sym first ∙ found in
    let long : length states ≡ entry_count config.order = ap length empty ∙ opening-length
    config.order config.entries in
    record {
      kept = record {
        limit_fits = (omega arith, high);
        order_fits = (low, omega arith);
        pool = sound;
        base =
            ap (λ (p : PoolState). p.base) now ∙ ap (λ (g : GrantedMemory). g.pool_base) (sym same);
        size =
            ap (λ (p : PoolState). p.order) now
            ∙ ap (λ (g : GrantedMemory). g.pool_order) (sym same);
        held = tt;
        taken =
            subst (λ (p : PoolState). Contains p.taken (block_at place config.order)) (sym now)
            (with_contains open_pool.taken (block_at place config.order));
        elsewhere = tt;
        in_or_out = memory_or (length states) (entry_count config.order) long;
      };
      is = opened_is config new place states granted now lowest empty same;
    }

-- ---- for callers

pub opened_number :
    (config : Configuration) (partition : PartitionState)
    → partition ≡ opening_partition config
    → partition.memory.table.number ≡ 0
unfolding opening_partition opening_memory
opened_number config partition is = ap (λ (p : PartitionState). p.memory.table.number) is
