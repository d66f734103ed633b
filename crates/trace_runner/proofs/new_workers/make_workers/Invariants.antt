use Rattle.std.proofs.Common.{◌≡◌, ◌+◌, ◌++◌, List, length, reverse, vec_capacity}
use Rattle.run_model.specs.StoreContexts.{StoreContext}
use Rattle.trace_line.specs.declared.line.TraceLine.{TraceLine}
use Rattle.run_model.specs.HeldLines.{AllHold}
use Rattle.trace_runner.specs.Workers.{processors_before, AreOwn, IsReady, IsRest, AllNumbered}
use Rattle.trace_runner.specs.DealtLines.{AreDealt, count_with_own}
use Rattle.trace_runner.proofs.new_workers.make_workers.Given as goal

abbrev pub invariant-loop : goal.invariant-loop
invariant-loop g l = record {
  rest : IsRest l.table (count_with_own l.left.items) l.rest;
  hold : AllHold l.table.opening.items l.cpus.items;
  count : length l.cpus.items + l.counter ≡ l.count;
  left : length l.left.items + l.counter ≡ l.count;
  room : vec_capacity l.cpus ≡ vec_capacity l.fn.cpus;
  size : length l.workers.items ≡ l.counter;
  before : l.cpus.items ++ processors_before (reverse l.workers.items) ≡ l.fn.cpus.items;
  ready : (set : StoreContext) (lines : List TraceLine)
      → AreDealt lines l.fn.dealt.items
      → AllNumbered (λ cpu own. AreOwn lines cpu own.items) 0 l.left.items
      × AllNumbered (λ j w. IsReady g.L.ReplyLog.keeps g.L.ReplyLog.room set l.table j lines w)
      (length l.left.items) (reverse l.workers.items);
}
