-- What holds of a set between two lines.
use Rattle.std.specs.Prelude.{◌≡◌, ◌≢◌, List, [], ◌∷◌, length, Option, None, Some, IfSome, Contains}
use Rattle.std.specs.List.{AllByRecursion, AllPairs, flat_map}
use Rattle.hpte_fields.specs.TableSize.{entry_count, IsTableOrder}
use Rattle.hpt_pool.specs.Pool.{Block, IsSound, block_at}
use Rattle.hpt_resize.specs.Pending.{PendingTable}
use Rattle.lpar_set.specs.SetRun.{MemberState, SetState}

-- The block of a table that is being prepared.
abbrev pub pending_blocks : Option PendingTable → List Block
pending_blocks None = []
pending_blocks (Some table) = block_at table.place table.order ∷ []

-- The blocks of the pool that a partition holds: its table's, and that of the one being prepared.
abbrev pub blocks_of : MemberState → List Block
blocks_of m = block_at m.table.place m.table.order ∷ pending_blocks m.pending

-- All blocks that partitions hold.
abbrev pub held_blocks : List MemberState → List Block
held_blocks members = flat_map blocks_of members

-- The partition's orders are those that guests may have, and its table has a state for each entry.
pub record IsMember (m : MemberState) : Type 0 where
  pub limit_fits : IsTableOrder m.limit
  pub order_fits : IsTableOrder m.table.order
  pub whole : length m.table.states ≡ entry_count m.table.order

-- The table that it is preparing, if there is one, has such an order too.
abbrev pub HasAllowed : MemberState → Type 0
HasAllowed m = IfSome m.pending (λ (t : PendingTable). IsTableOrder t.order)

-- The pool is sound; each block that a partition holds is taken in it, and no two of them begin at
-- one place.
pub record IsSetState (w : SetState) : Type 0 where
  pub pool : IsSound w.pool
  pub members : AllByRecursion IsMember w.members
  pub allowed : AllByRecursion HasAllowed w.members
  pub held : AllByRecursion (Contains w.pool.taken) (held_blocks w.members)
  pub apart : AllPairs (λ (b c : Block). b.place ≢ c.place) (held_blocks w.members)
