use Rattle.std.proofs.Common.{sym, ◌∙◌, subst}
use Rattle.entry_model.specs.Receipt.{is_no_match}
use Rattle.entry_model.specs.Reply.{access_mode}
use Rattle.entry_model.specs.Trial.{IsTrial}
use Rattle.hpt_walk.specs.Walk.{walk_calls}
use Rattle.history_check.proofs.Replays.{replayed_before, replayed_trial, walk_stops}
use Rattle.history_check.proofs.accesses.walk_on.Goals as goal

-- the store's order is the given one
pub returns-clause-only : goal.returns-clause-only
returns-clause-only c = λ rs trial before.
    let cs = walk_calls c.new-store.result.order c.args.page.now
    (access_mode c.args.key c.args.no_execute c.args.want c.args.masks) in
    let trial' = subst
    (λ o.
    IsTrial is_no_match
    (walk_calls o c.args.page.now
    (access_mode c.args.key c.args.no_execute c.args.want c.args.masks)) rs)
    (sym c.new-store.ensures.order) trial in
    replayed_trial is_no_match cs c.new-store.result c.walk_into.new.store c.walk_into.new.receipts
    rs (walk_stops cs) c.new-store.ensures.decided (c.new-store.ensures.states ∙ sym before)
    c.walk_into.ensures.made c.walk_into.ensures.trial trial'

pub returns-clause-before : goal.returns-clause-before
returns-clause-before c = λ size.
    let cs = walk_calls c.new-store.result.order c.args.page.now
    (access_mode c.args.key c.args.no_execute c.args.want c.args.masks) in
    replayed_before is_no_match cs c.new-store.result c.walk_into.new.store c.walk_into.new.receipts
    c.args.states.now (walk_stops cs) c.new-store.ensures.decided c.new-store.ensures.states
    c.walk_into.ensures.made c.walk_into.ensures.trial size
