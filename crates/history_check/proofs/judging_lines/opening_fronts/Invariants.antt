use Rattle.std.proofs.Common.{◌≡◌, ℕ, length}
use Rattle.entry_model.specs.Fronts.{front_at}
use Rattle.history_check.specs.FrontKeeping.{fronts_of}
use Rattle.history_check.proofs.judging_lines.opening_fronts.Given as goal

abbrev pub invariant-loop : goal.invariant-loop
invariant-loop l = record {
  size : length l.fronts.items ≡ l.counter;
  fronts : (cpu e : ℕ) → fronts_of l.fronts.items l.opening cpu e ≡ front_at l.opening e;
}
