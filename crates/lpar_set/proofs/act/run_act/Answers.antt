use Rattle.entry_model.proofs.Runs.{run-length}
use Rattle.hpt_walk.specs.Access.{access_context}
use Rattle.run_model.specs.StoreContexts.{table_context}
use Rattle.trace_reply.specs.Slots.{reply_in}
use Rattle.run_model.proofs.PlainTables.{alone}
use Rattle.lpar_set.proofs.act.run_act.Goals as goal

pub returns-clause-reply : goal.returns-clause-reply
returns-clause-reply c =
    let e = c.apply_act.ensures in
    let context = table_context (access_context c.args.table.now.order c.args.grants.now.grants) in
    alone context c.args.cpu.now c.args.act.now (reply_in c.apply_act.new.slot) c.args.table.now
    c.apply_act.new.table c.requires.not_quiet e.made e.call e.access e.comes_later e.gone

pub returns-clause-size : goal.returns-clause-size
returns-clause-size c = run-length _ _ _ c.apply_act.ensures.made.run
