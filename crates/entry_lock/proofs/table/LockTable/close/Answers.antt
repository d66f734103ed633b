use Rattle.std.proofs.Common.{◌≡◌, ◌+◌, List, length, refl, sym, ap, ◌∙◌, subst, arith}
use Rattle.std.specs.Mem.Slots.{slots_items}
use Rattle.entry_model.specs.State.{State}
use Rattle.entry_lock.specs.Layout.{entry_states}
use Rattle.entry_lock.specs.Views.{states_of}
use Rattle.entry_lock.specs.Closing.{Closes}
use Rattle.entry_lock.proofs.Closings.{closes, next_states}
use Rattle.entry_lock.proofs.table.LockTable.close.Goals as goal

pub loop-entry-preserved : goal.loop-entry-preserved
loop-entry-preserved c =
    record {
      states =
          next_states _ c.loop-entry.entry c.loop-entry.entry (c.loop-entry.entry + 1) c.word.result
          c.word-first.result c.word-second.result c.control_of-control.result _ _
          c.state_of.result refl refl c.word.ensures c.word-first.ensures c.word-second.ensures
          c.control_of-control.ensures.exact c.state_of.ensures c.loop-entry.invariant.states
          c.push_reserved.ensures.items;
      len =
          (let l = c.push_reserved.ensures.len in
          let m = c.loop-entry.invariant.len in
          omega arith);
      room = c.push_reserved.ensures.capacity ∙ c.loop-entry.invariant.room;
    }

pub returns-clause-closes : goal.returns-clause-closes
returns-clause-closes c =
    let k = c.args.self.lists in
    let p = c.args.pass in
    let key = c.args.self.table.shared.key in
    let all : length p.seat.me.0.numbers ≡ key.passes = p.counted.count ∙ c.requires.all ∙ sym
    k.passes_are in
    let done = closes key p.seat.id p.seat.me.0 (slots_items c.close_with-closed.result.words) _
    p.idle.acting p.idle.idle all c.close_with-closed.ensures.values.2 in
    let count : c.loop-entry.entry ≡ length (states_of key) =
    (let e = c.len-entry-end.ensures in
    let o = ap length k.opening_is in
    let t = c.loop-entry-test.false in
    let u = c.loop-entry.auto.entry-end in
    omega arith) in
    subst (λ (z : List State × List State). Closes z.0 p.seat.me.0 z.1)
    (λ i. (
      sym k.opening_is i,
      (ap (entry_states (slots_items c.close_with-closed.result.words)) (sym count)
          ∙ sym c.loop-entry.invariant.states) i,
    )) done
