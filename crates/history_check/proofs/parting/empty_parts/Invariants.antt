use Rattle.std.proofs.Common.{◌≡◌, [], length}
use Rattle.std.specs.List.{AllByRecursion}
use Rattle.history_check.specs.declared.parting.Part.{Part}
use Rattle.history_check.proofs.parting.empty_parts.Given as goal

abbrev pub invariant-loop : goal.invariant-loop
invariant-loop l = record {
  size : length l.parts.items ≡ l.counter;
  empty :
      AllByRecursion (λ (part : Part). (part.lines.items ≡ []) × (part.text.items ≡ []))
      l.parts.items;
}
