-- Blocks that are apart: what a further one needs, and what taking and giving keep.
use Rattle.std.proofs.Common.{◌≡◌, ℕ, ◌+◌, ◌%◌, ◌^◌, ◌<◌, ◌≤◌, ◌&&◌, ◌==◌, nat_le, get_or, Bool, true, false, not, ◌∷◌, ◌++◌, filter, All, AllPairs, sym, subst, arith, ◌≢◌}
use Rattle.std.specs.List.{list_any}
use Rattle.std.proofs.lemmas.Bool.{not-true, and_parts}
use Rattle.std.proofs.lemmas.Bool.Decides.{nat_tests}
use Rattle.std.proofs.lemmas.Nat.{pow_pos}
use Rattle.std.proofs.lemmas.List.Elements.{All-cons, All-append, All-filter, filter_passes}
use Rattle.std.proofs.lemmas.List.Kept.{AllPairs-filter}
use Rattle.hpt_pool.specs.Pool.{Block, PoolState, block_at, overlap, fits, begins_below, taken_with, taken_without, with_block, without_block, IsPlaced, AreApart, IsSound}
use Rattle.basics.proofs.Lists.{AllPairs-between, filters_join, list_any-false}

-- A block has at least one byte.
abbrev pub size_above : (block : Block) → 0 < 2 ^ block.order
size_above block = pow_pos block.order

-- ---- two blocks
pub overlap_turned : (one other : Block) → overlap one other ≡ false → overlap other one ≡ false
overlap_turned one other apart = grind (arith, nat_tests, apart)

-- Blocks that share no address begin at two places.
pub apart_places :
    (block other : Block) → overlap block other ≡ false → block.place ≢ other.place
apart_places block other clear =
    let size = size_above block in
    let other_size = size_above other in
    λ same. grind (arith, nat_tests, clear, same)

-- ---- a block that is taken
-- A block that fits overlaps none that is taken.
pub fits_apart :
    (pool_state : PoolState) (order place : ℕ)
    → fits pool_state order place ≡ true
    → All (λ other. overlap (block_at place order) other ≡ false) pool_state.taken
fits_apart pool_state order place fit =
    list_any-false (overlap (block_at place order)) pool_state.taken
    (not-true _ (and_parts _ _ fit).1)

-- The block is aligned and lies in the pool, and it overlaps none that is taken.
pub record FitsIn (pool_state : PoolState) (block : Block) : Type 0 where
  pub placed : IsPlaced pool_state block
  pub apart : All (λ other. overlap block other ≡ false) pool_state.taken

pub fits_in :
    (pool_state : PoolState) (order place : ℕ)
    → 18 ≤ order
    → fits pool_state order place ≡ true
    → FitsIn pool_state (block_at place order)
fits_in pool_state order place large fit =
    let meets = list_any (overlap (block_at place order)) pool_state.taken in
    let lies : Bool = place % 2 ^ order == 0 && nat_le pool_state.base place && nat_le
    (place + 2 ^ order) (pool_state.base + 2 ^ pool_state.order) in
    let whole : lies ≡ true = (and_parts lies (not meets) fit).0 in
    let aligned : place % 2 ^ order ≡ 0 = grind (arith, nat_tests, whole) in
    let low : pool_state.base ≤ place = grind (arith, nat_tests, whole) in
    let high : place + 2 ^ order ≤ pool_state.base + 2 ^ pool_state.order = grind
    (arith, nat_tests, whole) in
    record {
      placed = record { at_least = large; aligned = aligned; from_base = low; to_end = high };
      apart = fits_apart pool_state order place fit;
    }

-- A block that begins below another has the lower place.
lower_place : (block other : Block) → begins_below block other ≡ true → other.place < block.place
lower_place block other below = grind (arith, nat_tests)

higher_place :
    (block other : Block)
    → overlap block other ≡ false
    → begins_below block other ≡ false
    → block.place < other.place
higher_place block other apart not_below =
    let size = size_above block in
    let other_size = size_above other in
    grind (arith, nat_tests, apart, not_below)

-- In rising blocks those that begin below another one stand first.
pub parts_join :
    (pool_state : PoolState) (block : Block)
    → AreApart pool_state
    → filter (begins_below block) pool_state.taken
    ++ filter (λ other. not (begins_below block other)) pool_state.taken
    ≡ pool_state.taken
parts_join pool_state block apart =
    filters_join (begins_below block) pool_state.taken (λ i j d before inside.
    let rise = apart.rising i j d before inside in
    λ fails. grind (arith, nat_tests, rise, fails))

pub sound_with :
    (pool_state : PoolState) (block : Block)
    → IsSound pool_state
    → FitsIn pool_state block
    → IsSound (with_block pool_state block)
unfolding taken_with
sound_with pool_state block sound fit =
    let taken = pool_state.taken in
    let apart = sound.blocks in
    let below = begins_below block in
    let others : Block → Bool = λ other. not (begins_below block other) in
    let low = filter below taken in
    let high = filter others taken in
    let join = parts_join pool_state block apart in
    let Rise : Block → Block → Type 0 = λ lower higher. lower.place < higher.place in
    let Apart : Block → Block → Type 0 = λ lower higher. overlap lower higher ≡ false in
    let Clear : Block → Type 0 = λ other. overlap block other ≡ false in
    let clear_low = All-filter below Clear taken fit.apart in
    let clear_high = All-filter others Clear taken fit.apart in
    record {
      pool = sound.pool;
      blocks = record {
        placed =
            λ k d inside.
            again pool_state block _
            (All-append (IsPlaced pool_state) low (block ∷ high)
            (All-filter below (IsPlaced pool_state) taken apart.placed)
            (All-cons (IsPlaced pool_state) block high fit.placed
            (All-filter others (IsPlaced pool_state) taken apart.placed)) k d inside);
        rising =
            AllPairs-between Rise block low high (subst (AllPairs Rise) (sym join) apart.rising)
            (λ k d inside.
            lower_place block (get_or low k d) (filter_passes below taken k d inside))
            (λ k d inside.
            higher_place block (get_or high k d) (clear_high k d inside)
            (not-true _ (filter_passes others taken k d inside)));
        apart =
            AllPairs-between Apart block low high (subst (AllPairs Apart) (sym join) apart.apart)
            (λ k d inside. overlap_turned block (get_or low k d) (clear_low k d inside))
            clear_high;
      };
    } where
      again :
          (before : PoolState) (new other : Block)
          → IsPlaced before other
          → IsPlaced (with_block before new) other
      again before new other placed =
          record {
            at_least = placed.at_least;
            aligned = placed.aligned;
            from_base = placed.from_base;
            to_end = placed.to_end;
          }

-- ---- a block that is given back
pub sound_without :
    (pool_state : PoolState) (place : ℕ)
    → IsSound pool_state
    → IsSound (without_block pool_state place)
unfolding taken_without
sound_without pool_state place sound =
    let apart = sound.blocks in
    let stays : Block → Bool = λ block. not (block.place == place) in
    record {
      pool = sound.pool;
      blocks = record {
        placed =
            λ k d inside.
            again pool_state place _
            (All-filter stays (IsPlaced pool_state) pool_state.taken apart.placed k d inside);
        rising =
            AllPairs-filter (λ (lower higher : Block). lower.place < higher.place) stays
            pool_state.taken apart.rising;
        apart =
            AllPairs-filter (λ (lower higher : Block). overlap lower higher ≡ false) stays
            pool_state.taken apart.apart;
      };
    } where
      again :
          (before : PoolState) (at_place : ℕ) (other : Block)
          → IsPlaced before other
          → IsPlaced (without_block before at_place) other
      again before at_place other placed =
          record {
            at_least = placed.at_least;
            aligned = placed.aligned;
            from_base = placed.from_base;
            to_end = placed.to_end;
          }
