use Rattle.std.proofs.Common.{rules}
use Rattle.papr_c.proofs.LentEntries.{table_few}
use Rattle.papr_c.proofs.taking.papr_take_changed.Goals as goal

pub take_marks-requires-clause-few : goal.take_marks-requires-clause-few
take_marks-requires-clause-few c =
    table_few c.args.order c.args.entries.now (search rules)
