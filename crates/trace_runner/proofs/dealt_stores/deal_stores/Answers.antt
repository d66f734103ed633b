use Rattle.std.proofs.Common.{◌≡◌, ◌+◌, ◌<◌, ◌∙◌, sym, ap, subst, length, get_or, set, arith}
use Rattle.std.proofs.lemmas.List.{length-set}
use Rattle.run_model.specs.AllStores.{windows_in}
use Rattle.run_model.specs.StoreNumbers.{store_of}
use Rattle.trace_runner.proofs.DealtStores.{AreUpTo, stores_more, stores_all}
use Rattle.trace_runner.proofs.dealt_stores.deal_stores.Goals as goal
use Rattle.trace_line.specs.Lines.{past_lines}

pub loop-line-preserved : goal.loop-line-preserved
loop-line-preserved c =
    let i = c.loop-line.invariant in
    let ws = windows_in c.args.windows.now in
    let lines = c.args.lines.now in
    let k = c.loop-line.line-index in
    let dealt = c.loop-line.dealt.items in
    let is : c.store_of-store.result ≡ store_of ws (get_or lines k past_lines).act =
    c.store_of-store.ensures.store in
    let inside : c.store_of-store.result < length dealt = omega
    (arith, c.store_of-store.ensures.in_range, i.size) in
    record {
      size = length-set dealt c.store_of-store.result c.push.new.self ∙ i.size;
      dealt =
          subst (λ n. AreUpTo ws (k + 1) lines (set dealt n c.push.new.self)) (sym is)
          (stores_more ws lines k past_lines dealt c.index_mut.result.now c.push.new.self
          c.loop-line-test.true (subst (λ n. n < length dealt) is inside)
          (c.index_mut.ensures.value ∙ ap (λ n. get_or dealt n c.index_mut.result.now) is)
          c.in_ok-push.ensures.items i.dealt);
    }

pub returns-clause-dealt : goal.returns-clause-dealt
returns-clause-dealt c =
    stores_all (windows_in c.args.windows.now) c.args.lines.now c.loop-line.line-index
    c.loop-line.dealt.items (omega (arith, c.loop-line-test.false)) c.loop-line.invariant.dealt
