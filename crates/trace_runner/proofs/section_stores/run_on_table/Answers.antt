use Rattle.std.proofs.Common.{◌≡◌, ◌∙◌, ap, refl, subst, List, None}
use Rattle.hpt_resize.specs.TableMemory.{with_states}
use Rattle.partition.specs.PartitionState.{PartitionState, with_memory}
use Rattle.entry_model.specs.State.{State}
use Rattle.run_model.specs.AllStores.{AllStores, table_store, machine_stores}
use Rattle.run_model.specs.StoreContexts.{StoreContext, context_on}
use Rattle.run_model.specs.Stores.{context_of}
use Rattle.trace_runner.specs.StoreRuns.{RanStore, RanOn}
use Rattle.trace_runner.proofs.StoresRan.{table_ran}
use Rattle.trace_runner.proofs.section_stores.run_on_table.Goals as goal

pub returns : goal.returns
returns g c =
    let partition = c.machine.inside.partition in
    let processors = c.machine.inside.cpus.items in
    let windows = c.machine.inside.windows.items in
    let run = c.in_ok-run.run' in
    let keeps = g.L.ReplyLog.keeps in
    let order : c.order-order.result ≡ partition.memory.table.order = c.order-order.ensures.value in
    let granted : c.grants.result.now ≡ partition.granted = c.grants.ensures ∙ ap
    (λ (p : PartitionState). p.granted) c.take_states-states.ensures.out in
    let context : context_on c.order-order.result
    (record { grants = c.grants.result.now.grants; window = None }) ≡ context_of
    (table_store partition.granted.grants partition.memory processors) = λ j. context_on (order j)
    (record { grants = (granted j).grants; window = None }) in
    let put_back : c.put_states.new.self ≡ with_memory partition
    (with_states partition.memory run.states.items) = c.put_states.ensures.put ∙ ap
    (λ (p : PartitionState). with_memory p (with_states p.memory run.states.items))
    c.take_states-states.ensures.out in
    let ran :
    RanStore keeps
    (context_of (table_store partition.granted.grants partition.memory processors))
    partition.memory.table.states processors c.args.lines.now run.states.items run.cpus.items
    run.logs.items = subst
    (λ (opening : List State).
    RanStore keeps (context_of (table_store partition.granted.grants partition.memory processors))
    opening processors
    c.args.lines.now run.states.items run.cpus.items run.logs.items)
    c.take_states-states.ensures.states
    (subst
    (λ (set : StoreContext).
    RanStore keeps set c.take_states-states.result.items processors c.args.lines.now
    run.states.items run.cpus.items run.logs.items) context c.in_ok-run.ensures.ran) in
    let later = machine_stores c.put_states.new.self.granted.grants c.put_states.new.self.memory
    run.cpus.items windows in
    subst (λ (s : AllStores). RanOn keeps s 0 c.args.lines.now later run.logs.items)
    c.machine.view_is
    (table_ran keeps (machine_stores partition.granted.grants partition.memory processors windows)
    later c.args.lines.now
    run.states.items run.logs.items ran
    (ap (λ (p : PartitionState). table_store p.granted.grants p.memory run.cpus.items) put_back)
    refl
    c.in_ok-run.ensures.cpus)
