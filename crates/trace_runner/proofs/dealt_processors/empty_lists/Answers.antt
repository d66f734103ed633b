use Rattle.std.proofs.Common.{◌≡◌, ◌+◌, ◌∙◌, [], ap, sym, subst, length}
use Rattle.std.proofs.lemmas.List.{length_push}
use Rattle.trace_runner.specs.DealtLines.{AllEmpty}
use Rattle.trace_runner.proofs.Numbered.{all_push}
use Rattle.trace_runner.proofs.dealt_processors.empty_lists.Goals as goal

pub loop-init : goal.loop-init
loop-init g c = record {
  size = ap length c.in_ok-lists.ensures.items;
  empty = subst AllEmpty (sym c.in_ok-lists.ensures.items) tt;
}

pub loop-preserved : goal.loop-preserved
loop-preserved g c = record {
  size =
      ap length c.in_ok-push.ensures.items
      ∙ length_push c.loop.lists.items c.new.result
      ∙ ap (λ n. n + 1) c.loop.invariant.size;
  empty =
      subst AllEmpty (sym c.in_ok-push.ensures.items)
      (all_push (λ k own. own.items ≡ []) 0 c.loop.lists.items c.new.result
      c.loop.invariant.empty c.new.ensures.items);
}
