use Rattle.std.proofs.Common.{ap, sym, subst, ◌∙◌, List, length}
use Rattle.entry_model.specs.State.{State}
use Rattle.trace_reply.specs.Replies.{receipts_in}
use Rattle.trace_reply.specs.Slots.{reply_in}
use Rattle.run_model.specs.HeldLines.{AllHold}
use Rattle.run_model.proofs.HeldLines.{all_on}
use Rattle.lpar_set.proofs.member.Member.run.Goals as goal

pub invariant_of-self : goal.invariant_of-self
invariant_of-self c =
    let before = c.open-table.ensures.states ∙ ap (λ v. v.items) c.replace-states.ensures.value in
    let held = subst (λ (s : List State). AllHold s c.self.inside.cpus.items) (sym before)
    c.self.invariant.hold in
    let holding = all_on c.open-table.result.states c.run_act.new.table.states
    (receipts_in (reply_in c.run_act.new.slot)) c.self.inside.cpus.items c.args.line.now.cpu
    c.run_act.new.cpu c.run_act.ensures.run held c.run_act.ensures.seen in
    let is = c.self.invariant.member in
    record {
      member = record {
        limit_fits = is.limit_fits;
        order_fits = is.order_fits;
        whole = ap length c.close.ensures ∙ c.run_act.ensures.size ∙ ap length before ∙ is.whole;
      };
      hold = rw c.close.ensures holding;
    }
