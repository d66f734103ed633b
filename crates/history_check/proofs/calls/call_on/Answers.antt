use Rattle.std.proofs.Common.{sym, ◌∙◌, subst}
use Rattle.entry_model.specs.Replies.{reply_with}
use Rattle.entry_model.specs.Trial.{IsReplyOf}
use Rattle.run_model.specs.StoreContexts.{context_on}
use Rattle.run_model.specs.LineReplies.{hcall_plan}
use Rattle.history_check.proofs.Replays.{call_before, call_replayed}
use Rattle.history_check.proofs.calls.call_on.Goals as goal

-- the store's order is the given one
pub returns-clause-only : goal.returns-clause-only
returns-clause-only c = λ k y before.
    let y' = subst
    (λ o.
    IsReplyOf (hcall_plan (context_on o c.args.around.now) c.args.hcall c.args.args.now) k)
    (sym c.new-store.ensures.order) y in
    call_replayed (context_on c.new-store.result.order c.args.around.now) c.args.hcall
    c.args.args.now c.new-store.result c.make_call.new.store
    (reply_with c.make_call.result c.make_call.new.receipts) k c.new-store.ensures.decided
    (c.new-store.ensures.states ∙ sym before) c.make_call.ensures.made c.make_call.ensures.reply
    y'

pub returns-clause-before : goal.returns-clause-before
returns-clause-before c =
    λ size.
    call_before (context_on c.new-store.result.order c.args.around.now) c.args.hcall c.args.args.now
    c.new-store.result c.make_call.new.store
    (reply_with c.make_call.result c.make_call.new.receipts) c.args.states.now
    c.new-store.ensures.decided c.new-store.ensures.states c.make_call.ensures.made
    c.make_call.ensures.reply size
