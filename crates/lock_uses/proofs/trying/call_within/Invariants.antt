use Rattle.std.proofs.Common.{◌≡◌}
use Rattle.entry_model.specs.Begun.{IsBegun}
use Rattle.call_plan.specs.Plans.{plan_of}
use Rattle.lock_uses.proofs.trying.call_within.Given as goal

-- The call is begun.
abbrev pub invariant-loop : goal.invariant-loop
invariant-loop g l = record {
  order : g.S.TriedStore.table_order l.store ≡ g.S.TriedStore.table_order l.fn.store;
  begun : IsBegun (plan_of l.plan) l.receipts;
}
