use Rattle.std.proofs.Common.{rules}
use Rattle.std.proofs.lemmas.List.Sorted.{IsNonDecreasingBy-from_sort_by_key}
use Rattle.history_check.specs.declared.mark_steps.LineStep.{LineStep}
use Rattle.history_check.proofs.ordering.in_order.Goals as goal

pub returns : goal.returns
returns c = record {
  each_once = c.sort_unstable_by_key.ensures.permutation;
  ascending =
      IsNonDecreasingBy-from_sort_by_key (λ (x : LineStep). x.place) _
      c.sort_unstable_by_key.ensures.sorted (λ a r q k. search rules);
}
