use Rattle.std.proofs.Common.{sym, ◌∙◌}
use Rattle.entry_model.specs.Replies.{device_reply_with}
use Rattle.history_check.proofs.Replays.{device_before, device_replayed}
use Rattle.history_check.proofs.calls.device_on.Goals as goal

pub returns-clause-only : goal.returns-clause-only
returns-clause-only c =
    λ d y before.
    device_replayed c.args.around.now.grants c.args.around.now.window c.args.ioba c.args.write
    c.new-store.result c.make_device_access.new.store
    (device_reply_with c.make_device_access.result c.make_device_access.new.receipts) d
    c.new-store.ensures.decided (c.new-store.ensures.states ∙ sym before)
    c.make_device_access.ensures.made c.make_device_access.ensures.reply y

pub returns-clause-before : goal.returns-clause-before
returns-clause-before c =
    λ size.
    device_before c.args.around.now.grants c.args.around.now.window c.args.ioba c.args.write
    c.new-store.result c.make_device_access.new.store
    (device_reply_with c.make_device_access.result c.make_device_access.new.receipts)
    c.args.states.now c.new-store.ensures.decided c.new-store.ensures.states
    c.make_device_access.ensures.made c.make_device_access.ensures.reply size
