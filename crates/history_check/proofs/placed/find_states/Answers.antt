use Rattle.std.proofs.Common.{length}
use Rattle.history_check.proofs.ListedStates.{order_within, states_are_found}
use Rattle.history_check.proofs.placed.find_states.Goals as goal

pub make_steps-requires : goal.make_steps-requires
make_steps-requires c =
    rw c.as_slice.ensures.value
    (order_within (length c.args.states.now.items) (length c.args.lines.now) c.args.steps.items
    c.in_order-order.result.items c.requires c.in_order-order.ensures)

pub returns-clause-found : goal.returns-clause-found
returns-clause-found c =
    let a = c.args.states.now.items in
    let ls = c.args.lines.now in
    let order = c.in_order-order.result.items in
    let found = rw c.as_slice.ensures.value at c.in_ok-found.ensures.found in
    let ending = rw c.as_slice.ensures.value at c.in_ok-found.ensures.ending in
    states_are_found ls a c.make_steps.new.states.items c.args.steps.items order
    c.in_ok-found.found.items c.in_order-order.ensures found ending
