use Rattle.std.proofs.Common.{◌≡◌, length}
use Rattle.entry_model.specs.Begun.{IsBegunTrial}
use Rattle.entry_model.proofs.making.make_trial.Given as goal

-- The receipts so far are of the calls before this one, and each answer went on.
abbrev pub invariant-loop-made : goal.invariant-loop-made
invariant-loop-made g l = record {
  count : length l.receipts ≡ l.made;
  made : g.S.EntryStore.made l.fn.store l.store l.receipts;
  order : g.S.EntryStore.table_order l.store ≡ g.S.EntryStore.table_order l.fn.store;
  begun : IsBegunTrial (g.C.CallList.goes_on l.calls) (g.C.CallList.calls l.calls) l.receipts;
}
