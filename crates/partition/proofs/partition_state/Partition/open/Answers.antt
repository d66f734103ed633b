use Rattle.std.proofs.Common.{◌≡◌, length, ap, sym, ◌∙◌, subst, Option, arith, ◌≤◌}
use Rattle.hpt_pool.specs.Pool.{no_blocks}
use Rattle.hpt_resize.specs.Pending.{PendingTable}
use Rattle.trace_read.specs.Configuration.{Configuration}
use Rattle.partition.specs.PartitionState.{IsPartition, opening_partition}
use Rattle.partition.proofs.Resizing.{partition}
use Rattle.partition.proofs.Opening.{IsOpened, is_opened, has_place, sound_pool, beside}
use Rattle.hpt_resize.specs.TableMemory.{empty_states, with_entries}
use Rattle.hpt_resize.proofs.OpeningStates.{opening-length}
use Rattle.partition.proofs.partition_state.Partition.open.Goals as goal
use Rattle.hpte_fields.specs.TableSize.{greatest_order}

pub accepted-range-requires : goal.accepted-range-requires
accepted-range-requires c =
    sound_pool c.copy-grants.result c.config.inside.grants c.config.inside.pool_base
    c.config.inside.pool_order c.copy-grants.ensures.sound c.copy-grants.ensures.value
    c.config.invariant.0.settings.base c.config.invariant.0.settings.size

-- The pool is the configured one, with nothing taken.
pub unwrap-place-requires : goal.unwrap-place-requires
unwrap-place-requires c =
    let pool = sound_pool c.copy-grants.result c.config.inside.grants c.config.inside.pool_base
    c.config.inside.pool_order c.copy-grants.ensures.sound c.copy-grants.ensures.value
    c.config.invariant.0.settings.base c.config.invariant.0.settings.size in
    has_place c.in_ok-pool.pool c.config.inside.pool_base c.config.inside.pool_order
    c.config.inside.order c.take.result
    (c.in_ok-pool.ensures
    ∙ (λ i. no_blocks (c.accepted-range.ensures.base i) (c.accepted-range.ensures.order i)))
    pool c.config.invariant.0.settings.at_least c.config.invariant.0.room c.take.ensures.lowest

abbrev config : goal.After-none → Configuration
config c =
    record {
      order = c.config.inside.order;
      limit = c.config.inside.limit;
      cpus = c.config.inside.cpus;
      granted = c.config.inside.grants;
      entries = c.config.inside.entries;
      windows = c.config.inside.windows;
    }

opening :
    (c : goal.After-none)
    → c.in_ok-states.states.items
    ≡ with_entries (empty_states c.config.inside.order) c.config.inside.entries
opening c =
    c.in_ok-states.ensures
    ∙ ap (λ (x : Configuration). with_entries (empty_states x.order) x.entries)
    (sym c.config.view_is)

made :
    (c : goal.After-none)
    → IsOpened (config c) c.take.new.self c.unwrap-place.result c.in_ok-states.states.items
    c.copy-grants.result
made c =
    let small : c.config.inside.limit ≤ greatest_order =
    omega (arith, c.config.invariant.0.settings.at_most) in
    is_opened (config c) c.in_ok-pool.pool c.take.new.self c.take.result c.unwrap-place.result
    c.in_ok-states.states.items c.copy-grants.result c.config.invariant.0.settings.at_least
    c.config.invariant.0.settings.within small c.copy-grants.ensures.value
    (beside c.in_ok-pool.pool c.config.inside.grants c.config.inside.pool_base
    c.config.inside.pool_order
    (c.in_ok-pool.ensures
    ∙
    (λ i.
    no_blocks (c.accepted-range.ensures.base i) (c.accepted-range.ensures.order i)))
    c.config.invariant.0.settings.base c.config.invariant.0.settings.size)
    c.take.ensures.place c.unwrap-place.ensures c.take.ensures.taken c.take.ensures.sound
    (opening c)

pub invariant_of-result : goal.invariant_of-result
invariant_of-result c =
    subst
    (λ (o : Option PendingTable).
    IsPartition
    (partition c.config.inside.limit c.take.new.self o
    (record {
      order = c.config.inside.order;
      place = c.unwrap-place.result;
      number = 0;
      states = c.in_ok-states.states.items;
    }) c.copy-grants.result)) (sym c.none.ensures) (made c).kept

pub returns-clause-ok : goal.returns-clause-ok
returns-clause-ok c =
    ap
    (λ (o : Option PendingTable).
    partition c.config.inside.limit c.take.new.self o
    (record {
      order = c.config.inside.order;
      place = c.unwrap-place.result;
      number = 0;
      states = c.in_ok-states.states.items;
    }) c.copy-grants.result) c.none.ensures
    ∙ (made c).is
    ∙ ap opening_partition c.config.view_is

pub returns-clause-has_states : goal.returns-clause-has_states
returns-clause-has_states c =
    ap length (opening c) ∙ opening-length c.config.inside.order c.config.inside.entries
