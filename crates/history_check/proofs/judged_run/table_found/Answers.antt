use Rattle.std.proofs.Common.{◌∙◌, sym, ap, length, None}
use Rattle.hpt_resize.specs.TableMemory.{with_states}
use Rattle.partition.specs.PartitionState.{PartitionState, with_memory}
use Rattle.run_model.specs.AllStores.{table_store}
use Rattle.history_check.proofs.JudgedRuns.{found_in_run, not_in_run, within_text}
use Rattle.hpte_fields.proofs.TableSizes.{entries_few}
use Rattle.history_check.proofs.judged_run.table_found.Goals as goal

pub section_found-found-requires-clause-few : goal.section_found-found-requires-clause-few
section_found-found-requires-clause-few c =
    entries_few _ _ (ap length c.take_states-states.ensures.states ∙ c.requires.has_states)
    c.order-order.ensures.sound.order_fits

pub returns-clause-within : goal.returns-clause-within
returns-clause-within c = within_text _ _ _ _ _ _ c.section_found-found.ensures.told

pub returns-clause-some : goal.returns-clause-some
returns-clause-some c =
    let order = sym c.order-order.ensures.value in
    let grants = sym
    (ap (λ g. g.grants) c.grants.ensures
    ∙ ap (λ (p : PartitionState). p.granted.grants) c.take_states-states.ensures.out) in
    let put = c.put_states.ensures.put ∙ ap
    (λ (p : PartitionState).
    with_memory p (with_states p.memory c.section_found-found.new.states.items))
    c.take_states-states.ensures.out in
    let after = ap
    (λ (p : PartitionState).
    table_store p.granted.grants p.memory c.section_found-found.new.processors.items) put in
    found_in_run _
    (table_store c.args.partition.now.granted.grants c.args.partition.now.memory
    c.args.processors.now.items) _ _ _ _ _ _
    (λ i.
    record {
      context = record { order = order i; grants = grants i; window = None };
      states = sym c.take_states-states.ensures.states i;
      processors = c.args.processors.now.items;
    }) after c.section_found-found.ensures.told

pub returns-clause-none : goal.returns-clause-none
returns-clause-none c =
    let order = sym c.order-order.ensures.value in
    let grants = sym
    (ap (λ g. g.grants) c.grants.ensures
    ∙ ap (λ (p : PartitionState). p.granted.grants) c.take_states-states.ensures.out) in
    not_in_run _
    (table_store c.args.partition.now.granted.grants c.args.partition.now.memory
    c.args.processors.now.items) _ _ _ _ _
    (λ i.
    record {
      context = record { order = order i; grants = grants i; window = None };
      states = sym c.take_states-states.ensures.states i;
      processors = c.args.processors.now.items;
    }) c.section_found-found.ensures.told
