use Rattle.std.proofs.Common.{◌≡◌, ◌-◌, ◌<◌, length, sym, ap, ◌∙◌, subst, arith}
use Rattle.std.proofs.lemmas.Nat.{pow_pos}
use Rattle.std.specs.Arc.{arc_value}
use Rattle.hpte_fields.specs.TableSize.{entry_count}
use Rattle.c_layout.proofs.Marks.{states-length}
use Rattle.papr_shared.proofs.PutStates.{reads_on, reads_none, rests_before, put_none, put_more, put_marked, put_closes}
use Rattle.papr_shared.proofs.passes.put_states.Goals as goal

pub loop-entry-init : goal.loop-entry-init
loop-entry-init c = record {
  same = reads_none c.args.working.now.sharer;
  put = put_none c.args.working.now.sharer c.args.entries.now;
}

pub loop-entry-preserved : goal.loop-entry-preserved
loop-entry-preserved c =
    let pass = c.args.working.now.sharer in
    let here = c.loop-entry.working.sharer in
    let entry = c.loop-entry.entry in
    let all : c.entry_count-entry-end.result ≡ length c.args.entries.now =
    c.entry_count-entry-end.ensures
    ∙ ap entry_count c.order.ensures.value
    ∙ sym c.requires.count
    ∙ states-length c.args.entries.now in
    record {
      same =
          reads_on pass here c.state_at_rest.new.self.sharer c.loop-entry.invariant.same
          c.state_at_rest.ensures.same;
      put =
          put_more pass c.args.entries.now c.loop-entry.entries entry c.index-entries-entry.result
          c.hold.new.self c.state_at_rest.result (omega (arith, c.loop-entry-test.true, all))
          c.hold.ensures
          (rests_before pass here entry c.state_at_rest.result c.loop-entry.invariant.same
          c.state_at_rest.ensures.rests) c.loop-entry.invariant.put;
    }

pub returns-clause-closes : goal.returns-clause-closes
returns-clause-closes c =
    let pass = c.args.working.now.sharer in
    let table = arc_value pass.table in
    let count : length c.args.entries.now ≡ entry_count table.order =
    sym (states-length c.args.entries.now) ∙ c.requires.count in
    let end : c.entry_count-entry-end.result ≡ entry_count table.order =
    c.entry_count-entry-end.ensures ∙ ap entry_count c.order.ensures.value in
    let long : length c.args.entries.now ≡ length table.opening.items =
    count ∙ sym table.sized.size ∙ sym (ap length table.lists.opening_is) in
    let some : 0 < length c.args.entries.now =
    subst (λ n. 0 < n) (sym count) (pow_pos (table.order - 4)) in
    put_closes pass c.args.entries.now c.loop-entry.entries c.loop-entry.entry
    (omega (arith, c.loop-entry-test.false, count, end)) c.loop-entry.invariant.put long some

pub returns-clause-marks : goal.returns-clause-marks
returns-clause-marks c =
    let count : length c.args.entries.now ≡ c.entry_count-entry-end.result =
    sym (states-length c.args.entries.now)
    ∙ c.requires.count
    ∙ sym (c.entry_count-entry-end.ensures ∙ ap entry_count c.order.ensures.value) in
    put_marked c.args.working.now.sharer c.args.entries.now c.loop-entry.entries c.loop-entry.entry
    (omega (arith, c.loop-entry-test.false, count)) c.loop-entry.invariant.put
