use Rattle.run_model.specs.StoreNumbers.{AreNamed}
use Rattle.history_check.specs.StoreParts.{FoundBelow}
use Rattle.history_check.proofs.judged_run.JudgedRun.section.Given as goal

abbrev pub invariant-loop-number : goal.invariant-loop-number
invariant-loop-number l = record {
  named : AreNamed l.fn.self;
  found : FoundBelow l.fn.self l.number l.lines l.text l.self;
}
