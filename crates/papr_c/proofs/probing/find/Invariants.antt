use Rattle.std.proofs.Common.{◌≡◌, ◌≤◌, drop, length}
use Rattle.entry_model.specs.Receipt.{found_of}
use Rattle.hpt_walk.specs.PageCalls.{calls_of}
use Rattle.papr_c.specs.Walks.{each_as_is}
use Rattle.c_layout.specs.Entries.{states_of}
use Rattle.papr_c.proofs.probing.find.Given as goal

-- No entry of the calls before this one translates the page.
abbrev pub invariant-loop-made : goal.invariant-loop-made
invariant-loop-made l = record {
  inside : l.made ≤ length (calls_of l.calls);
  none :
      found_of (each_as_is (states_of l.entries) (calls_of l.calls))
      ≡ found_of (each_as_is (states_of l.entries) (drop l.made (calls_of l.calls)));
}
