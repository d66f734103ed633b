use Rattle.std.proofs.Common.{◌≡◌, drop}
use Rattle.frame_grants.specs.Grants.{no_grants}
use Rattle.papr_c.specs.Grants.{making_from}
use Rattle.papr_c.proofs.granting.papr_make_grants.Given as goal

abbrev pub invariant-loop-index : goal.invariant-loop-index
invariant-loop-index l =
    making_from (no_grants l.pool_base l.pool_order) 0 l.given
    ≡ making_from l.grants l.index (drop l.index l.given)
