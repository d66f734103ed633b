use Rattle.std.proofs.Common.{◌≡◌, ◌∙◌, ap, sym, List, None}
use Rattle.trace_reply.specs.Slots.{reply_in}
use Rattle.run_model.specs.AllStores.{WindowState, AllStores}
use Rattle.run_model.specs.StoreNumbers.{index_from}
use Rattle.trace_runner.proofs.WindowIndices.{quiet_steps, steps_on_table}
use Rattle.trace_runner.proofs.machine.Machine.line.Goals as goal

pub returns-then-is_quiet-clause-reply : goal.returns-then-is_quiet-clause-reply
returns-then-is_quiet-clause-reply c =
    quiet_steps c.quiet.result c.args.self.now c.quiet.new.self c.args.line.now
    (reply_in c.quiet.new.slot) c.quiet.ensures.named
    (sym c.is_quiet.ensures ∙ c.if-is_quiet.true) c.quiet.ensures.reply c.quiet.ensures.windows

pub returns-in-None-clause-reply : goal.returns-in-None-clause-reply
returns-in-None-clause-reply c =
    let none : index_from 0 c.args.self.now.windows c.args.line.now.act ≡ None =
    ap (λ (s : AllStores). index_from 0 s.windows c.args.line.now.act) (sym c.self.view_is)
    ∙ ap (λ (vs : List WindowState). index_from 0 vs c.args.line.now.act)
    (sym c.as_slice.ensures.value)
    ∙ sym c.window_of.ensures
    ∙ c.in-None.is in
    steps_on_table c.args.self.now c.run.new.self c.args.line.now (reply_in c.run.new.slot)
    (sym (ap (λ (s : AllStores). s.table.window) c.self.view_is)) none c.run.ensures.reply
    c.run.ensures.windows
