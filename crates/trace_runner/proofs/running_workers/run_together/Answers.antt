use Rattle.std.proofs.Common.{◌<◌, ◌++◌, ◌∙◌, sym, ap, subst, length, map, arith}
use Rattle.std.specs.List.{AllByRecursion}
use Rattle.trace_runner.specs.declared.worker.Worker.{Worker}
use Rattle.run_model.specs.StoreContexts.{context_on}
use Rattle.trace_runner.specs.Workers.{count_with_lines, processors_before}
use Rattle.trace_runner.specs.SectionRun.{pass_count, HasNoOtherPass, IsJoinOf}
use Rattle.trace_runner.proofs.SectionPromises.{refilled, passes_are, done_passes}
use Rattle.trace_runner.proofs.running_workers.run_together.Goals as goal

pub join_workers-pass-requires-clause-some : goal.join_workers-pass-requires-clause-some
join_workers-pass-requires-clause-some g c κs within =
    let ws = c.run_workers.new.workers in
    let same = refilled c.args.workers.len ws c.args.workers.items c.args.workers.ok.0
    (c.run_workers.auto.workers ∙ ap length c.as_mut_slice.ensures.value) in
    let count = c.run_workers.auto.workers ∙ ap length c.as_mut_slice.ensures.value in
    let passes = passes_are g.L.ReplyLog.keeps (context_on c.args.table.order c.args.around.now)
    c.args.table c.args.lines.now ws c.run_workers.ensures.done ∙ ap
    (λ n. count_with_lines n 0 c.args.lines.now) count in
    subst (λ l. 0 < pass_count l) (sym same)
    (omega (arith, passes, c.requires.passes, c.requires.some))

pub join_workers-pass-requires-clause-passes : goal.join_workers-pass-requires-clause-passes
join_workers-pass-requires-clause-passes g c κs within =
    let ws = c.run_workers.new.workers in
    let same = refilled c.args.workers.len ws c.args.workers.items c.args.workers.ok.0
    (c.run_workers.auto.workers ∙ ap length c.as_mut_slice.ensures.value) in
    subst (AllByRecursion (HasNoOtherPass c.args.table)) (sym same)
    (done_passes g.L.ReplyLog.keeps (context_on c.args.table.order c.args.around.now)
    c.args.table c.args.lines.now ws c.run_workers.ensures.done)

pub close-requires-clause-all : goal.close-requires-clause-all
close-requires-clause-all g c =
    let ws = c.run_workers.new.workers in
    let count = c.run_workers.auto.workers ∙ ap length c.as_mut_slice.ensures.value in
    let same = refilled c.args.workers.len ws c.args.workers.items c.args.workers.ok.0 count in
    let all = passes_are g.L.ReplyLog.keeps (context_on c.args.table.order c.args.around.now)
    c.args.table c.args.lines.now ws c.run_workers.ensures.done ∙ ap
    (λ n. count_with_lines n 0 c.args.lines.now) count in
    c.join_workers-pass.ensures.all.shares ∙ ap pass_count same ∙ all ∙ sym c.requires.passes

pub returns : goal.returns
returns g c =
    let ws = c.run_workers.new.workers in
    let same = refilled c.args.workers.len ws c.args.workers.items c.args.workers.ok.0
    (c.run_workers.auto.workers ∙ ap length c.as_mut_slice.ensures.value) in
    let e = c.join_workers-pass.ensures in
    record {
      ran = ws;
      done = c.run_workers.ensures.done;
      before = c.run_workers.ensures.before ∙ ap processors_before c.as_mut_slice.ensures.value;
      cpus =
          e.cpus
          ∙ ap (λ l. c.args.cpus.now.items ++ map (λ (w : Worker g.row.L.Denot). w.cpu) l) same;
      logs =
          e.logs
          ∙ ap (λ l. c.args.logs.now.items ++ map (λ (w : Worker g.row.L.Denot). w.log) l) same;
      pass = c.join_workers-pass.result;
      joined = subst (λ l. IsJoinOf c.args.table l c.join_workers-pass.result) same e.all;
      closes = c.close.ensures.closes;
    }
