use Rattle.std.proofs.Common.{sym, ◌∙◌, arith}
use Rattle.c_layout.proofs.Searching.{IsCountBelow, listed_few, machine_many, machine_none, machine_empty, machine_last}
use Rattle.c_layout.proofs.grants.PaprGrantsGrantedMemory.machine_of.Goals as goal

pub returns-then-self : goal.returns-then-self
returns-then-self c =
    sym
    (machine_many c.args.self.now.grants c.args.self.now.count c.args.logical c.args.length
    c.if-self.true)

pub returns-then-length-eq0 : goal.returns-then-length-eq0
returns-then-length-eq0 c = sym (machine_empty _ c.args.logical c.args.length c.if-length-eq0.true)

pub returns-then-below-eq0 : goal.returns-then-below-eq0
returns-then-below-eq0 c =
    let counted : IsCountBelow c.args.self.now.grants c.args.self.now.count c.args.logical
    c.count_below-below.result = record {
      bound = c.count_below-below.ensures.bound;
      at_most = c.count_below-below.ensures.below;
      above = c.count_below-below.ensures.above;
    } in
    let by = machine_none c.args.self.now.grants c.args.self.now.count c.args.logical c.args.length
    (omega (arith, c.if-self.false, c.args.self.now.room))
    (c.args.self.now.in_order c.if-self.false) (rw c.if-below-eq0.true at counted) in
    sym (rw (← listed_few c.args.self.now.grants c.args.self.now.count c.if-self.false) at by)

pub returns-then-not-holds : goal.returns-then-not-holds
returns-then-not-holds c =
    let counted : IsCountBelow c.args.self.now.grants c.args.self.now.count c.args.logical
    c.count_below-below.result = record {
      bound = c.count_below-below.ensures.bound;
      at_most = c.count_below-below.ensures.below;
      above = c.count_below-below.ensures.above;
    } in
    let by = machine_last c.args.self.now.grants c.args.self.now.count c.args.logical c.args.length
    c.count_below-below.result (omega (arith, c.if-self.false, c.args.self.now.room))
    (c.args.self.now.in_order c.if-self.false) counted
    (omega (arith, c.if-below-eq0.false)) (omega (arith, c.if-length-eq0.false)) in
    let fails = sym c.holds.ensures ∙ c.if-not-holds.true in
    let none = rw fails at by in
    sym (rw (← listed_few c.args.self.now.grants c.args.self.now.count c.if-self.false) at none)

pub returns : goal.returns
returns c =
    let counted : IsCountBelow c.args.self.now.grants c.args.self.now.count c.args.logical
    c.count_below-below.result = record {
      bound = c.count_below-below.ensures.bound;
      at_most = c.count_below-below.ensures.below;
      above = c.count_below-below.ensures.above;
    } in
    let by = machine_last c.args.self.now.grants c.args.self.now.count c.args.logical c.args.length
    c.count_below-below.result (omega (arith, c.if-self.false, c.args.self.now.room))
    (c.args.self.now.in_order c.if-self.false) counted
    (omega (arith, c.if-below-eq0.false)) (omega (arith, c.if-length-eq0.false)) in
    let passes = sym c.holds.ensures ∙ c.if-not-holds.false in
    let some = rw passes at by in
    rw c.kind.ensures
    (sym (rw (← listed_few c.args.self.now.grants c.args.self.now.count c.if-self.false) at some))
