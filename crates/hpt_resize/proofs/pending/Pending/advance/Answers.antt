use Rattle.std.proofs.Common.{◌≡◌, ◌+◌, ◌≤◌, length, sym, arith}
use Rattle.std.specs.Prelude.{vec_capacity}
use Rattle.hpte_fields.specs.TableSize.{entry_count}
use Rattle.hpt_resize.proofs.Preparing.{more_prepared}
use Rattle.hpt_resize.proofs.pending.Pending.advance.Goals as goal

pub invariant_of-self : goal.invariant_of-self
invariant_of-self c =
    let long : length c.self.inside.states.items ≡ c.self.inside.states.len = sym
    c.self.inside.states.ok.0 in
    let fits : length c.self.inside.states.items + c.min.result ≤ entry_count c.self.inside.order =
    omega (arith, c.self.invariant.ready) in
    more_prepared c.self.inside.order c.min.result (vec_capacity c.self.inside.states)
    (vec_capacity c.push_empty.new.states) c.self.inside.states.items
    c.push_empty.new.states.items c.self.invariant fits c.push_empty.ensures.capacity
    c.push_empty.ensures.items
