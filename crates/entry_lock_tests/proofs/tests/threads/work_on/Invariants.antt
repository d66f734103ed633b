use Rattle.std.proofs.Common.{◌≡◌}
use Rattle.entry_lock.specs.PassOfTable.{IsOf}
use Rattle.entry_lock_tests.proofs.tests.threads.work_on.Given as goal

abbrev pub invariant-loop-turn : goal.invariant-loop-turn
invariant-loop-turn l =
    record {
      of : IsOf l.table l.tried.pass;
      shares : l.tried.pass.shares ≡ l.initial.tried.pass.shares;
    }
