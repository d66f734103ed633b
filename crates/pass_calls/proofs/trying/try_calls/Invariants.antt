use Rattle.std.proofs.Common.{◌≡◌, ◌++◌, length}
use Rattle.entry_model.specs.Trial.{receipts_added}
use Rattle.entry_model.specs.Begun.{IsBegunTrial}
use Rattle.pass_calls.proofs.trying.try_calls.Given as goal

-- The receipts are of the calls before this one, and the trial went on after each.
abbrev pub invariant-loop-i : goal.invariant-loop-i
invariant-loop-i g l = record {
  behind : l.receipts ≡ l.fn.receipts ++ receipts_added l.fn.receipts l.receipts;
  count : length l.receipts ≡ l.i;
  made : g.S.TriedStore.made l.fn.store l.store (receipts_added l.fn.receipts l.receipts);
  order : g.S.TriedStore.table_order l.store ≡ g.S.TriedStore.table_order l.fn.store;
  begun : IsBegunTrial (g.C.CallList.goes_on l.calls) (g.C.CallList.calls l.calls) l.receipts;
}
