use Rattle.entry_model.proofs.Runs.{run-length}
use Rattle.run_model.specs.StoreContexts.{context_on}
use Rattle.trace_reply.specs.Slots.{reply_in}
use Rattle.run_model.proofs.PlainTables.{alone}
use Rattle.trace_runner.proofs.act.run_alone.Goals as goal

pub returns-clause-reply : goal.returns-clause-reply
returns-clause-reply c =
    let e = c.run_act.ensures in
    let context = context_on c.args.table.now.order c.args.around.now in
    alone context c.args.cpu.now c.args.act.now (reply_in c.run_act.new.slot) c.args.table.now
    c.run_act.new.store c.requires.not_quiet e.made e.call e.access e.comes_later e.gone

pub returns-clause-size : goal.returns-clause-size
returns-clause-size c = run-length _ _ _ c.run_act.ensures.made.run
