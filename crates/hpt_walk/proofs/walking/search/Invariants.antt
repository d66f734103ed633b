use Rattle.std.proofs.Common.{◌≡◌, ◌-◌, ◌+◌, ◌*◌, List, ◌++◌, length}
use Rattle.entry_model.specs.declared.receipt.Receipt.{Receipt}
use Rattle.entry_model.specs.Receipt.{is_no_match}
use Rattle.entry_model.specs.Trial.{IsTrial, ending_of, receipts_added}
use Rattle.entry_model.proofs.TrialSteps.{calls_from}
use Rattle.hpt_walk.proofs.walking.search.Given as goal

-- The receipts so far are of the entries before this one, and each answer went on: what completes
-- the rest completes the whole.
abbrev pub invariant-loop-slot : goal.invariant-loop-slot
invariant-loop-slot g l = record {
  behind : l.receipts ≡ l.fn.receipts ++ receipts_added l.fn.receipts l.receipts;
  count : length l.receipts ≡ length l.fn.receipts + l.slot;
  made : g.T.EntryStore.made l.fn.store l.store (receipts_added l.fn.receipts l.receipts);
  order : g.T.EntryStore.table_order l.store ≡ g.T.EntryStore.table_order l.fn.store;
  trial :
      (rs : List Receipt)
      → IsTrial is_no_match (calls_from l.op (l.group * 8 + l.slot) (8 - l.slot)) rs
      → IsTrial is_no_match (calls_from l.op (l.group * 8) 8)
      (receipts_added l.fn.receipts l.receipts ++ rs);
  ending :
      (rs : List Receipt)
      → ending_of is_no_match (receipts_added l.fn.receipts l.receipts ++ rs)
      ≡ ending_of is_no_match rs;
}
