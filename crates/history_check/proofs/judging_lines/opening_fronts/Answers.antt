use Rattle.std.proofs.Common.{arith, ap, ◌∙◌}
use Rattle.std.proofs.lemmas.Grind.{common_steps}
use Rattle.history_check.specs.FrontKeeping.{fronts_of}
use Rattle.history_check.proofs.ProcessorFronts.{more_fronts}
use Rattle.history_check.proofs.judging_lines.opening_fronts.Goals as goal

pub loop-preserved : goal.loop-preserved
loop-preserved c = record {
  size = grind (arith, common_steps);
  fronts =
      λ cpu e.
      ap (λ l. fronts_of l c.args.opening.now cpu e) c.in_ok-push.ensures.items
      ∙ more_fronts c.loop.fronts.items _ c.args.opening.now cpu e c.in_ok-new.ensures
      (λ k. c.loop.invariant.fronts k e);
}
