use Rattle.std.proofs.Common.{sym, subst}
use Rattle.papr_uses.specs.Promises.{NoPutIsBusy}
use Rattle.papr_uses.proofs.Promised.{keeps_also}
use Rattle.papr_uses.proofs.promises.no_put_is_busy.Goals as goal

pub returns : goal.returns
returns c =
    keeps_also (λ t rs h. subst (NoPutIsBusy t) (sym h.serial) h.assured.not_busy)
    c.run_serially.ensures
