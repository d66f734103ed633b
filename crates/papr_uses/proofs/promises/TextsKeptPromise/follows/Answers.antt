use Rattle.std.proofs.Common.{ap, [], ◌++◌}
use Rattle.papr_uses.proofs.promises.TextsKeptPromise.follows.Goals as goal

pub returns : goal.returns
returns c = λ t rs h.
    let is = h.assured.accepted in
    let good = h.assured.good in
    let text = c.at_most_one.ensures.text t in record {
      good = c.good_runs_are_good.ensures t rs good;
      only = λ qs other same. text qs rs [] [] is other good (ap (λ x. x ++ []) same);
    }
