use Rattle.std.proofs.Common.{◌≡◌, ◌+◌, length}
use Rattle.run_model.specs.AllStores.{windows_in}
use Rattle.trace_runner.proofs.DealtStores.{AreUpTo}
use Rattle.trace_runner.proofs.dealt_stores.deal_stores.Given as goal

abbrev pub invariant-loop-line : goal.invariant-loop-line
invariant-loop-line l = record {
  size : length l.dealt.items ≡ 1 + length l.windows;
  dealt : AreUpTo (windows_in l.windows) l.line-index l.lines l.dealt.items;
}
