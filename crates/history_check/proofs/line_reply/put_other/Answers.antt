use Rattle.history_check.proofs.line_reply.put_other.Goals as goal
use Rattle.run_model.proofs.StoreLines.{dump_is_quiet}

pub returns-in-Dump-clause-reply : goal.returns-in-Dump-clause-reply
returns-in-Dump-clause-reply c = absurd (dump_is_quiet c.args.act.now c.in-Dump.is c.requires)

pub returns-in-Dump-clause-only : goal.returns-in-Dump-clause-only
returns-in-Dump-clause-only c = absurd (dump_is_quiet c.args.act.now c.in-Dump.is c.requires)
