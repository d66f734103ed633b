-- A partition that opens in a pool with room.
use Rattle.std.specs.Prelude.{unwrap_or}
use Rattle.std.proofs.Common.{◌≡◌, ℕ, List, replicate, Option, Some, None, sym, ap, ◌∙◌}
use Rattle.hpt_pool.specs.Pool.{PoolState, lowest_place}
use Rattle.entry_model.specs.State.{State}
use Rattle.hpt_resize.specs.Pending.{PendingTable}
use Rattle.hpt_resize.specs.TableMemory.{empty_states, with_entries}
use Rattle.tlb_model.specs.Processor.{Processor, new_processor}
use Rattle.trace_read.specs.Configuration.{Configuration}
use Rattle.frame_grants.specs.declared.grant.Grant.{Grant}
use Rattle.lpar_set.specs.OpeningTables.{opening_place}
use Rattle.lpar_set.specs.SetRun.{MemberState, opening_table, opening_member}

-- The place that the pool gave is the lowest.
pub opened_place :
    (pool : PoolState) (order place : ℕ) (o : Option ℕ)
    → o ≡ lowest_place pool order
    → o ≡ Some place
    → place ≡ opening_place pool order
opened_place pool order place o lowest found =
    ap (λ (p : Option ℕ). unwrap_or p 0) (sym found ∙ lowest)

-- A partition with a table of that order, of these parts.
abbrev pub member_of :
    Configuration → List Grant → Option PendingTable → ℕ → List State → List Processor → MemberState
member_of config grants pending place states processors =
    record {
      grants = grants;
      limit = config.limit;
      pending = pending;
      table = record { order = config.order; place = place; number = 0; states = states };
      processors = processors;
    }

pub opened_is :
    (pool : PoolState) (config : Configuration) (grants : List Grant)
    (pending : Option PendingTable) (place : ℕ) (states : List State)
    (processors : List Processor)
    → grants ≡ config.granted.grants
    → pending ≡ None
    → place ≡ opening_place pool config.order
    → states ≡ with_entries (empty_states config.order) config.entries
    → processors ≡ replicate config.cpus new_processor
    → member_of config grants pending place states processors ≡ opening_member pool config
unfolding opening_table
opened_is pool config grants pending place states processors same none at empty fresh =
    λ i. member_of config (same i) (none i) (at i) (empty i) (fresh i)
