use Rattle.papr_c.proofs.ToldOnce.{told_once}
use Rattle.papr_c.proofs.laws.each_mark_is_told_once.Goals as goal

pub returns : goal.returns
returns c = told_once
