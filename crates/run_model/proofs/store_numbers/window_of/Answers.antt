use Rattle.std.proofs.Common.{sym}
use Rattle.run_model.proofs.StoreNumbers.{none_from, on_none}
use Rattle.run_model.proofs.store_numbers.window_of.Goals as goal

pub returns-in_err-number : goal.returns-in_err-number
returns-in_err-number c =
    rw c.from_residual.ensures
    (sym
    (none_from c.args.act.now (on_none c.args.act.now (sym c.in_err-number.ensures)) 0
    c.args.windows.now))
