use Rattle.std.proofs.Common.{◌≡◌, ◌+◌, ◌++◌, length, map, reverse, vec_capacity}
use Rattle.trace_runner.proofs.JoinedWorkers.{Joining}
use Rattle.trace_runner.proofs.joined_workers.join_workers.Given as goal

abbrev pub invariant-loop : goal.invariant-loop
invariant-loop g l = record {
  joining : Joining l.table l.fn.workers.items (reverse l.rest.items) l.all;
  count : length l.rest.items + l.counter ≡ length l.fn.workers.items;
  cpus :
      l.cpus.items ++ map (λ w. w.cpu) (reverse l.rest.items)
      ≡ l.fn.cpus.items ++ map (λ w. w.cpu) l.fn.workers.items;
  logs :
      l.logs.items ++ map (λ w. w.log) (reverse l.rest.items)
      ≡ l.fn.logs.items ++ map (λ w. w.log) l.fn.workers.items;
  room_for_cpus : vec_capacity l.cpus ≡ vec_capacity l.fn.cpus;
  room_for_logs : vec_capacity l.logs ≡ vec_capacity l.fn.logs;
}
