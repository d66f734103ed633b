use Rattle.std.proofs.Common.{ℕ, List}
use Rattle.entry_model.specs.declared.receipt.Receipt.{Receipt}
use Rattle.c_layout.specs.Entries.{states_of, ArePassed}
use Rattle.papr_c.proofs.Removing.{IsRemoving}
use Rattle.papr_c.proofs.removals.remove_pairs.Given as goal

-- The pairs so far were removed or not found.
abbrev pub invariant-loop-i : goal.invariant-loop-i
invariant-loop-i l = record {
  so_far :
      (told : List ℕ)
      × ((rs : List Receipt)
      × IsRemoving l.order l.i l.pairs (states_of l.fn.entries) (states_of l.entries) l.fn.words
      l.words l.fn.receipts l.receipts l.stale told rs);
  passed : ArePassed l.fn.entries l.entries;
}
