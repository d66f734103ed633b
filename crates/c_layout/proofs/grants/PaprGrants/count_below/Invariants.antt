use Rattle.std.proofs.Common.{◌-◌, ◌≤◌, ◌<◌, ℕ}
use Rattle.c_layout.specs.Grants.{fields_at}
use Rattle.c_layout.proofs.grants.PaprGrants.count_below.Given as goal

abbrev pub invariant-loop-low : goal.invariant-loop-low
invariant-loop-low l = record {
  ordered : l.low ≤ l.high;
  bound : l.high ≤ l.self.count;
  below : (k : ℕ) → k < l.low → (fields_at l.self.grants k).logical ≤ l.logical;
  above : (k : ℕ) → l.high ≤ k → k < l.self.count → l.logical < (fields_at l.self.grants k).logical;
}

abbrev pub decreases-loop-low : goal.decreases-loop-low
decreases-loop-low l = l.high - l.low
