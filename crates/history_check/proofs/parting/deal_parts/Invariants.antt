use Rattle.std.proofs.Common.{◌≡◌, ◌+◌, length}
use Rattle.run_model.specs.AllStores.{windows_in}
use Rattle.history_check.proofs.DealtParts.{HaveUpTo}
use Rattle.history_check.proofs.parting.deal_parts.Given as goal

abbrev pub invariant-loop-line : goal.invariant-loop-line
invariant-loop-line l = record {
  size : length l.parts.items ≡ 1 + length l.windows;
  dealt : HaveUpTo (windows_in l.windows) l.lines l.text l.line-index l.rest l.parts.items;
}
