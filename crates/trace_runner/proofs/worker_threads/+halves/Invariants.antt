use Rattle.std.proofs.Common.{◌+◌, ◌-◌, ◌*◌, length}
use Rattle.trace_runner.proofs.worker_threads.+halves.Given as goal

abbrev pub decreases-run_from : goal.decreases-run_from
decreases-run_from g l = 4 * length l.workers.now

abbrev pub decreases-both_halves : goal.decreases-both_halves
decreases-both_halves g l = 4 * (length l.front.now + length l.back.now) - 1

abbrev pub decreases-both_halves-low : goal.decreases-both_halves-low
decreases-both_halves-low g l = 4 * length l.front.now + 1

abbrev pub decreases-both_halves-high : goal.decreases-both_halves-high
decreases-both_halves-high g l = 4 * length l.back.now + 1
