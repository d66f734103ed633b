use Rattle.std.proofs.Common.{List}
use Rattle.entry_model.specs.declared.receipt.Receipt.{Receipt}
use Rattle.papr_c.proofs.SoFar.{IsSoFar}
use Rattle.c_layout.specs.Entries.{states_of, ArePassed}
use Rattle.papr_c.proofs.trying.try_by_groups.Given as goal

-- The calls before this one were made, and each answer went on.
abbrev pub invariant-loop-made : goal.invariant-loop-made
invariant-loop-made g l = record {
  so_far :
      (rs : List Receipt)
      × IsSoFar (g.C.CallList.goes_on l.calls) (g.C.CallList.calls l.calls) l.made
      (states_of l.fn.entries)
      (states_of l.entries) l.fn.receipts l.receipts rs;
  passed : ArePassed l.fn.entries l.entries;
}

abbrev pub invariant-loop-made-2 : goal.invariant-loop-made-2
invariant-loop-made-2 g l = record {
  so_far :
      (rs : List Receipt)
      × IsSoFar (g.C.CallList.goes_on l.calls) (g.C.CallList.calls l.calls) l.made
      (states_of l.fn.entries)
      (states_of l.entries) l.fn.receipts l.receipts rs;
  passed : ArePassed l.fn.entries l.entries;
}
