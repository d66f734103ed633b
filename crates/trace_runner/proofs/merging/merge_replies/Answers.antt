use Rattle.std.proofs.Common.{◌≡◌, ◌+◌, ◌<◌, ◌∙◌, refl, sym, ap, subst, length, drop, get_or, set, arith}
use Rattle.std.specs.Vec.{with_item}
use Rattle.std.proofs.lemmas.List.{length-set}
use Rattle.run_model.specs.AllStores.{windows_in}
use Rattle.trace_runner.specs.Workers.{lines_of_cpu}
use Rattle.run_model.specs.StoreNumbers.{store_of, lines_on_store}
use Rattle.trace_runner.proofs.MergedReplies.{Merging, merging_none, merging_store, merging_first, merging_more, merging_all}
use Rattle.trace_runner.proofs.merging.merge_replies.Given.{Over}
use Rattle.trace_runner.proofs.merging.merge_replies.Goals.{After-index_mut}
use Rattle.trace_runner.proofs.merging.merge_replies.Goals as goal
use Rattle.trace_line.specs.Lines.{past_lines}

pub loop-line-init : goal.loop-line-init
loop-line-init g c = record {
  size = refl;
  merging =
      λ picks k.
      merging_none g.L.ReplyLog.keeps g.L.RunLog.has (windows_in c.args.windows.now)
      c.args.lines.now picks c.args.logs.now.items c.args.output.now k;
}

-- The logs that are taken are those of the line's store, and are there.
taken :
    (g : Over) (c : After-index_mut g)
    →
    (store_of (windows_in c.args.windows.now)
    (get_or c.args.lines.now c.loop-line.line-index past_lines).act
    < length c.loop-line.logs.items)
    ×
    (c.index_mut.result.now
    ≡ get_or c.loop-line.logs.items
    (store_of (windows_in c.args.windows.now)
    (get_or c.args.lines.now c.loop-line.line-index past_lines).act) c.index_mut.result.now)
taken g c =
    let logs = c.loop-line.logs.items in
    let is = c.store_of-store.ensures.store in
    let inside : c.store_of-store.result < length logs = omega
    (arith, c.store_of-store.ensures.in_range, c.loop-line.invariant.size, c.requires.stores) in (
      subst (λ n. n < length logs) is inside,
      c.index_mut.ensures.value ∙ ap (λ n. get_or logs n c.index_mut.result.now) is,
    )

pub index_mut-requires-in-loop-line : goal.index_mut-requires-in-loop-line
index_mut-requires-in-loop-line g c =
    let i = c.loop-line.invariant in
    let ws = windows_in c.args.windows.now in
    let lines = c.args.lines.now in
    let k = c.loop-line.line-index in
    let logs = c.loop-line.logs.items in
    let own = c.index_mut.result.now in
    let own_logs = taken g (goal.at.index_mut-requires-in-loop-line g c).After-index_mut in
    let h =
    merging_store g.L.ReplyLog.keeps g.L.RunLog.has ws lines k past_lines c.requires.kept.0 logs
    own c.args.output.now c.loop-line.output c.loop-line-test.true own_logs.0 own_logs.1
    (i.merging c.requires.kept.0 c.requires.kept.1) in
    omega (arith, h.cpus.0, own.ok.0)

pub move_first-requires : goal.move_first-requires
move_first-requires g c =
    let i = c.loop-line.invariant in
    let ws = windows_in c.args.windows.now in
    let lines = c.args.lines.now in
    let k = c.loop-line.line-index in
    let l = get_or lines k past_lines in
    let logs = c.loop-line.logs.items in
    let own = c.index_mut.result.now in
    let log = c.index_mut-in-loop-line.result.now in
    let own_logs = taken g (goal.at.move_first-requires g c).After-index_mut in
    let first =
    merging_first g.L.ReplyLog.keeps g.L.RunLog.has ws lines k past_lines c.requires.kept.0
    logs own c.args.output.now c.loop-line.output log c.loop-line-test.true own_logs.0
    own_logs.1 c.index_mut-in-loop-line.ensures.value
    (i.merging c.requires.kept.0 c.requires.kept.1) in
    record {
      some = (
        l,
        first.x,
        lines_of_cpu l.cpu (lines_on_store ws (store_of ws l.act) (drop (k + 1) lines)),
        first.ss,
        first.kept,
      );
    }

pub loop-line-preserved : goal.loop-line-preserved
loop-line-preserved g c =
    let i = c.loop-line.invariant in
    let ws = windows_in c.args.windows.now in
    let lines = c.args.lines.now in
    let k = c.loop-line.line-index in
    let l = get_or lines k past_lines in
    let logs = c.loop-line.logs.items in
    let own = c.index_mut.result.now in
    let log = c.index_mut-in-loop-line.result.now in
    let own_logs = taken g (goal.at.loop-line-preserved g c).After-index_mut in
    let keeps = g.L.ReplyLog.keeps in
    let has = g.L.RunLog.has in
    let new_own = with_item own l.cpu c.move_first.new.self in
    record {
      size = length-set logs c.store_of-store.result new_own ∙ i.size;
      merging =
          λ picks keep.
          subst
          (λ n.
          Merging keeps has ws lines (k + 1) picks (set logs n new_own) c.args.output.now
          c.move_first.new.output) (sym c.store_of-store.ensures.store)
          (merging_more keeps has ws lines k past_lines picks logs own c.args.output.now
          c.loop-line.output log c.move_first.new.self new_own c.move_first.new.output
          c.loop-line-test.true own_logs.0 own_logs.1
          c.index_mut-in-loop-line.ensures.value refl c.in_ok-move_first.ensures.left
          c.in_ok-move_first.ensures.moved (i.merging picks keep));
    }

pub returns : goal.returns
returns g c =
    record {
      merged =
          λ picks keep.
          merging_all g.L.ReplyLog.keeps g.L.RunLog.has (windows_in c.args.windows.now)
          c.args.lines.now c.loop-line.line-index picks c.loop-line.logs.items
          c.args.output.now c.loop-line.output (omega (arith, c.loop-line-test.false))
          (c.loop-line.invariant.merging picks keep);
    }
