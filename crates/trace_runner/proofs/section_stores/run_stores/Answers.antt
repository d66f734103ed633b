use Rattle.std.proofs.Common.{◌≡◌, ◌+◌, ◌<◌, ◌≤◌, ◌∙◌, [], sym, ap, subst, length, vec_len, arith}
use Rattle.std.proofs.lemmas.Bool.{eqb-true}
use Rattle.run_model.specs.AllStores.{AllStores, windows_in}
use Rattle.run_model.specs.StoreNumbers.{lines_on_store}
use Rattle.trace_runner.specs.StoreRuns.{AreRunnable, RanBelow}
use Rattle.trace_runner.proofs.NewWorkers.{nil_of}
use Rattle.trace_runner.proofs.Numbered.{all_at}
use Rattle.run_model.proofs.StoreNumbers.{same_count}
use Rattle.trace_runner.proofs.DealtStores.{on_store_runnable}
use Rattle.trace_runner.proofs.StoresRan.{below_none, below_more, table_alone}
use Rattle.trace_runner.proofs.section_stores.run_stores.Given.{Over}
use Rattle.trace_runner.proofs.section_stores.run_stores.Goals.{After-as_slice-own_lines}
use Rattle.trace_runner.proofs.section_stores.run_stores.Goals as goal

pub returns-then-is_empty : goal.returns-then-is_empty
returns-then-is_empty g c =
    let machine = c.args.machine in
    let vs = c.machine.inside.windows.items in
    let empty = eqb-true (vec_len c.machine.inside.windows) 0
    (sym c.is_empty.ensures ∙ c.if-is_empty.true) in
    let none : vs ≡ [] = nil_of vs (omega (arith, empty, c.machine.inside.windows.ok.0)) in
    subst
    (RanBelow g.L.ReplyLog.keeps machine (1 + length machine.windows) c.args.lines.now
    c.in_ok-after.after) (sym c.in_ok-push.ensures.items)
    (table_alone g.L.ReplyLog.keeps machine c.in_ok-after.after c.args.lines.now
    c.in_ok-logs.logs.items c.in_ok-after.own
    (sym (ap (λ (s : AllStores). s.windows) c.machine.view_is) ∙ none)
    c.in_ok-logs.ensures.items c.in_ok-after.ensures)

pub loop-number-init : goal.loop-number-init
loop-number-init g c =
    subst
    (λ (s : AllStores).
    RanBelow g.L.ReplyLog.keeps c.args.machine 0 c.args.lines.now s c.in_ok-logs.logs.items)
    (sym c.machine.view_is)
    (below_none g.L.ReplyLog.keeps c.args.machine c.args.lines.now c.in_ok-logs.logs.items
    c.in_ok-logs.ensures.items)

-- There is a store of the number, and its lines are those that are run.
dealt_to :
    (g : Over) (c : After-as_slice-own_lines g)
    →
    (c.loop-number.number ≤ length c.args.machine.windows)
    ×
    (c.as_slice-own_lines.result.now
    ≡ lines_on_store (windows_in c.args.machine.windows) c.loop-number.number c.args.lines.now)
dealt_to g c =
    let number = c.loop-number.number in
    let lines = c.args.lines.now in
    let windows : c.as_slice.result.now ≡ c.args.machine.windows = c.as_slice.ensures.value ∙ ap
    (λ (s : AllStores). s.windows) c.machine.view_is in
    let dealt = c.in_ok-dealt.dealt.items in
    let inside : number < length dealt = omega
    (arith, c.loop-number-test.true, c.len-number-end.ensures, c.in_ok-dealt.dealt.ok.0) in
    let own = all_at
    (λ store w. w.items ≡ lines_on_store (windows_in c.as_slice.result.now) store lines) 0
    number number dealt c.index.result.now (omega arith) inside c.index.ensures
    c.in_ok-dealt.ensures.dealt in (
      omega (arith, inside, c.in_ok-dealt.ensures.size, ap length windows),
      c.as_slice-own_lines.ensures.value
          ∙ own
          ∙ ap (λ vs. lines_on_store (windows_in vs) number lines) windows,
    )

pub run_on_store-requires-clause-inside : goal.run_on_store-requires-clause-inside
run_on_store-requires-clause-inside g c κs within =
    let here = dealt_to g
    (goal.at.run_on_store-requires-clause-inside g c).After-as_slice-own_lines in
    let same = same_count c.loop-number.later.windows c.args.machine.windows
    c.loop-number.invariant.stays.windows in
    omega (arith, here.0, same)

pub run_on_store-requires-clause-runnable : goal.run_on_store-requires-clause-runnable
run_on_store-requires-clause-runnable g c κs within =
    let here = dealt_to g
    (goal.at.run_on_store-requires-clause-runnable g c).After-as_slice-own_lines in
    let count = length c.loop-number.later.table.processors in
    subst (AreRunnable count) (sym here.1)
    (on_store_runnable count (windows_in c.args.machine.windows) c.loop-number.number
    c.args.lines.now
    (subst (λ n. AreRunnable n c.args.lines.now)
    (sym c.loop-number.invariant.stays.processors) c.requires.runnable))

pub loop-number-preserved : goal.loop-number-preserved
loop-number-preserved g c =
    let here = dealt_to g (goal.at.loop-number-preserved g c).After-as_slice-own_lines in
    let keeps = g.L.ReplyLog.keeps in
    let number = c.loop-number.number in
    subst
    (RanBelow keeps c.args.machine (number + 1) c.args.lines.now c.in_ok-after-2.after)
    (sym c.in_ok-push-2.ensures.items)
    (below_more keeps c.args.machine c.loop-number.later c.in_ok-after-2.after number
    c.args.lines.now c.as_slice-own_lines.result.now c.loop-number.logs.items
    c.in_ok-after-2.own here.0 here.1 c.loop-number.invariant c.in_ok-after-2.ensures)
