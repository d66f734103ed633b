-- How a partition opens in a pool that others share, and with the pool to itself.
use Rattle.std.proofs.Common.{◌≡◌, ◌≢◌, ℕ, false, zero, suc, ◌+◌, ◌-◌, ◌*◌, ◌^◌, ◌<◌, ◌≤◌, List, [], ◌∷◌, length, get_or, Contains, None, refl, ap, inl, ◌⊎◌, arith}
use Rattle.std.proofs.lemmas.Nat.{pow_pos}
use Rattle.std.proofs.lemmas.List.Elements.{All-nil}
use Rattle.pool_range.specs.Ranges.{IsPoolRange}
use Rattle.hpt_pool.specs.Pool.{Block, PoolState, block_at, overlap, lowest_place, no_blocks}
use Rattle.hpt_resize.specs.TableMemory.{opening_memory}
use Rattle.trace_read.specs.Configuration.{Configuration}
use Rattle.run_model.specs.Stores.{page_table}
use Rattle.lpar_set.specs.OpeningTables.{opening_place, with_opening}
use Rattle.lpar_set.specs.SetTrace.{NumberedTrace, no_partition}
use Rattle.lpar_set.specs.SetRun.{MemberState, with_pool, no_member, opening_table, opening_member, opening_pool, opening_members}
use Rattle.lpar_set.proofs.Moved.{moved}
use Rattle.lpar_set.proofs.Openings.{placed_in, with_one}
use Rattle.lpar_set.proofs.SetKept.{empty_sound}
use Rattle.lpar_set.proofs.LoneBlocks.{IsAlone, with_new}
use Rattle.lpar_set.proofs.RoomAlone.{some_place, clear_fits}
use Rattle.hpte_fields.specs.TableSize.{least_order}

-- ---- alone
-- An empty pool has room for a table that is no larger.
empty_room :
    (base size order : ℕ)
    → IsPoolRange base size
    → least_order ≤ order
    → order ≤ size
    → lowest_place (no_blocks base size) order ≢ None
empty_room base size order range large small =
    let pool = no_blocks base size in
    let some : 0 < 2 ^ (size - order) = pow_pos (size - order) in
    some_place pool order 0 some
    (clear_fits pool order 0 range large small some
    (All-nil
    (λ (other : Block).
    overlap (block_at (base + 0 * 2 ^ order) order) other ≡ false)))

pub opens_alone :
    (c : Configuration)
    → IsPoolRange c.granted.pool_base c.granted.pool_order
    → least_order ≤ c.order
    → c.order ≤ c.granted.pool_order
    → IsAlone (page_table c).memory
unfolding page_table opening_memory
opens_alone c range large small =
    let base = c.granted.pool_base in
    let size = c.granted.pool_order in
    let order = c.order in
    let pool = no_blocks base size in
    let block = block_at (opening_place pool order) order in
    let placed = placed_in pool order (empty_sound base size range) large
    (empty_room base size order range large small) in
    record {
      pool = placed.sound;
      held =
          with_one pool order [] placed
          (record {
            held = All-nil (Contains pool.taken);
            apart = λ i j d before inside. absurd (omega arith);
          });
      only =
          with_new [] block (λ (b : Block). (b ≡ block) ⊎ ⊥)
          (All-nil (λ (b : Block). (b ≡ block) ⊎ ⊥)) (inl refl);
    }

-- ---- in a pool that others share
-- It opens over whatever the partitions before it left, and as alone except for its place.
pub opens_like :
    (whole left : PoolState) (c : Configuration)
    →
    (let pool = no_blocks c.granted.pool_base c.granted.pool_order in
    page_table c
    ≡ moved (with_pool whole (opening_member left c)) (with_opening pool c.order)
    (opening_place pool c.order) 0)
unfolding page_table opening_memory opening_table
opens_like whole left c = refl

-- A partition opens over this pool.
pub record OpensOver (members : List MemberState) (ps : List NumberedTrace) (k : ℕ) : Type 0 where
  pub left : PoolState
  pub is : get_or members k no_member ≡ opening_member left (get_or ps k no_partition).trace.config

pub opens_over :
    (pool : PoolState) (ps : List NumberedTrace) (k : ℕ)
    → k < length ps
    → OpensOver (opening_members pool ps) ps k
opens_over pool [] k inside = absurd (omega arith)
opens_over pool (p ∷ ps) zero inside = record { left = pool; is = refl }
opens_over pool (p ∷ ps) (suc k) inside =
    let rest = opens_over (with_opening pool p.trace.config.order) ps k (omega arith) in
    record { left = rest.left; is = rest.is }

pub opening_count :
    (pool : PoolState) (ps : List NumberedTrace) → length (opening_members pool ps) ≡ length ps
opening_count pool [] = refl
opening_count pool (p ∷ ps) = ap suc (opening_count (with_opening pool p.trace.config.order) ps)

-- ---- the size of the pool
pub alone_order : (c : Configuration) → (page_table c).memory.pool.order ≡ c.granted.pool_order
unfolding page_table opening_memory
alone_order c = refl

pub shared_order :
    (pool : PoolState) (ps : List NumberedTrace) → (opening_pool pool ps).order ≡ pool.order
shared_order pool [] = refl
shared_order pool (p ∷ ps) = shared_order (with_opening pool p.trace.config.order) ps
