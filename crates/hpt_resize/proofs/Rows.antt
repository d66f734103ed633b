-- Worked values, which the checker computes.
use Rattle.std.proofs.Common.{◌≡◌, ℕ, true, false, List, [], ◌∷◌, Option, Some, None, refl}
use Rattle.hpt_pool.specs.Pool.{Block, PoolState, block_at, multiples, lowest_place, taken_with, taken_without}
use Rattle.power_addr.specs.Pages.{tag_of}
use Rattle.hpt_hash.specs.Hash.{group_of}
use Rattle.hpt_hash.specs.Entries.{page_at}
use Rattle.entry_model.specs.State.{State}
use Rattle.papr_codes.specs.declared.codes.Rc.TheVariants.{Success, Busy, Closed, LongBusy, Parameter, NoMem, Resource}
use Rattle.hpt_resize.specs.Rehash.{carried_page, target_of}
use Rattle.hpt_resize.specs.Pending.{PendingTable}
use Rattle.hpt_resize.specs.Resize.{prepare_outcome, outcome_of_prepare, commit_refusal}

entry : ℕ → ℕ → State
entry dword0 dword1 =
    record {
      valid = true;
      dword0 = dword0;
      dword1 = dword1;
      referenced = false;
      changed = false;
      stamp = 3;
    }

-- ---- where an entry goes
-- The page of VSID 0x801 and index 5 has the hash 0x804: group 4 of 0x800, and 0x804 of 0x1000.
to_a_larger_table : target_of 18 19 (entry 0x801011 0x3012) 0x20 ≡ Some 0x4020
unfolding target_of carried_page page_at group_of tag_of entry
to_a_larger_table = refl

-- The page of VSID 1 and index 5 has the hash 4, and so group 4 in either table.
to_a_smaller_table : target_of 19 18 (entry 0x1011 0x4012) 0x25 ≡ Some 0x25
unfolding target_of carried_page page_at group_of tag_of entry
to_a_smaller_table = refl

-- A base page of 4 KB in 64 KB goes where its base page belongs, as the same page by itself does.
in_a_larger_page : target_of 18 19 (entry 0x801015 0x27012) 0x22 ≡ Some 0x4022
unfolding target_of carried_page page_at group_of tag_of entry
in_a_larger_page = refl

-- Not in a group of its page.
of_no_page : target_of 18 19 (entry 0x1015 0x11012) 0x400 ≡ None
unfolding target_of carried_page page_at group_of tag_of entry
of_no_page = refl

not_bolted : target_of 18 19 (entry 0x1001 0x4012) 0x21 ≡ None
unfolding target_of carried_page page_at group_of tag_of entry
not_bolted = refl

-- ---- prepare
-- A pool of four leaves, of which the first is taken.
pool : List Block → PoolState
pool more = record { base = 0x1000000000; order = 20; taken = block_at 0x1000000000 18 ∷ more }

pending : ℕ → ℕ → ℕ → Option PendingTable
pending order place ready = Some (record { order = order; place = place; ready = ready })

a_first_part :
    outcome_of_prepare 20 0 19 None (pool [])
    ≡ prepare_outcome LongBusy (pending 19 0x1000080000 16384)
    (pool (block_at 0x1000080000 19 ∷ []))
unfolding outcome_of_prepare lowest_place multiples taken_with pool pending
a_first_part = refl

the_rest :
    outcome_of_prepare 20 0 19 (pending 19 0x1000080000 16384)
    (pool (block_at 0x1000080000 19 ∷ []))
    ≡ prepare_outcome Success (pending 19 0x1000080000 32768) (pool (block_at 0x1000080000 19 ∷ []))
unfolding outcome_of_prepare pool pending
the_rest = refl

no_block : outcome_of_prepare 20 0 20 None (pool []) ≡ prepare_outcome NoMem None (pool [])
unfolding outcome_of_prepare lowest_place multiples pool
no_block = refl

-- The drop stays where the pool has no block.
no_block_after_the_drop :
    outcome_of_prepare 20 0 20 (pending 19 0x1000080000 16384)
    (pool (block_at 0x1000080000 19 ∷ []))
    ≡ prepare_outcome NoMem None (pool [])
unfolding outcome_of_prepare lowest_place multiples taken_without pool pending
no_block_after_the_drop = refl

given_up :
    outcome_of_prepare 20 0 0 (pending 19 0x1000080000 16384) (pool (block_at 0x1000080000 19 ∷ []))
    ≡ prepare_outcome Success None (pool [])
unfolding outcome_of_prepare taken_without pool pending
given_up = refl

too_small : outcome_of_prepare 20 0 17 None (pool []) ≡ prepare_outcome Parameter None (pool [])
unfolding outcome_of_prepare pool
too_small = refl

above_the_limit :
    outcome_of_prepare 20 0 21 (pending 19 0x1000080000 5) (pool [])
    ≡ prepare_outcome Resource (pending 19 0x1000080000 5) (pool [])
unfolding outcome_of_prepare pool pending
above_the_limit = refl

flags_first : outcome_of_prepare 20 1 21 None (pool []) ≡ prepare_outcome Parameter None (pool [])
unfolding outcome_of_prepare pool
flags_first = refl

-- ---- commit
nothing_pending : commit_refusal 0 19 None ≡ Some Closed
nothing_pending = refl

of_another_order : commit_refusal 0 18 (pending 19 0x1000080000 32768) ≡ Some Closed
unfolding pending
of_another_order = refl

not_ready : commit_refusal 0 19 (pending 19 0x1000080000 16384) ≡ Some Busy
unfolding pending
not_ready = refl

ready : commit_refusal 0 19 (pending 19 0x1000080000 32768) ≡ None
unfolding pending
ready = refl

with_a_flag : commit_refusal 1 18 None ≡ Some Parameter
with_a_flag = refl
