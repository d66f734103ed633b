use Rattle.std.proofs.Common.{◌≡◌, ◌+◌, ◌++◌, ◌<◌, ◌≤◌, ◌∙◌, sym, subst, refl, get_or, length, [], ◌∷◌, arith}
use Rattle.std.specs.List.{AllByRecursion}
use Rattle.trace_line.specs.declared.line.TraceLine.{TraceLine}
use Rattle.run_model.specs.Quiet.{NoneQuiet}
use Rattle.trace_runner.proofs.PartsOfLines.{part, no_quiet_more, no_quiet_yet, part_each}
use Rattle.trace_runner.proofs.SectionsRun.{done_none, done_more, put_more, run_ended}
use Rattle.trace_runner.proofs.parallel.run_sections.Goals as goal
use Rattle.trace_runner.proofs.parallel.run_sections.Goals.{then-is_quiet+in_ok-machine, else-is_quiet}
use Rattle.trace_read.specs.Configuration.{most_processors}
use Rattle.basics.proofs.Each.{each_within}
use Rattle.trace_line.specs.Lines.{past_lines}

pub loop-i-init : goal.loop-i-init
loop-i-init g c = record {
  low = omega arith;
  none_quiet = tt;
  processors = refl;
  number = omega (arith, c.requires.number);
  replies = [];
  put = c.in_ok-output.ensures;
  done = done_none c.args.opened c.args.lines.now;
}

pub section_to_quiet-requires-clause-cpus : goal.section_to_quiet-requires-clause-cpus
section_to_quiet-requires-clause-cpus g c κs within =
    part_each (λ (l : TraceLine). l.cpu < length c.loop-i.machine.table.processors) c.args.lines.now
    c.loop-i.start c.loop-i.i
    (subst (λ n. AllByRecursion (λ (l : TraceLine). l.cpu < n) c.args.lines.now)
    (sym c.loop-i.invariant.processors) c.requires.cpus)

pub section_to_quiet-requires-clause-few : goal.section_to_quiet-requires-clause-few
section_to_quiet-requires-clause-few g c κs within =
    subst (λ n. n ≤ most_processors) (sym c.loop-i.invariant.processors) c.requires.few_cpus

pub section_to_quiet-requires-clause-cpu : goal.section_to_quiet-requires-clause-cpu
section_to_quiet-requires-clause-cpu g c κs within =
    subst (λ n. (get_or c.args.lines.now c.loop-i.i past_lines).cpu < n)
    (sym c.loop-i.invariant.processors)
    (each_within (λ (l : TraceLine). l.cpu < length c.args.opened.table.processors) c.args.lines.now
    c.loop-i.i past_lines c.requires.cpus c.loop-i-test.true)

pub section_to_quiet-requires-clause-number : goal.section_to_quiet-requires-clause-number
section_to_quiet-requires-clause-number g c κs within =
    omega (arith, c.loop-i.invariant.number, c.loop-i-test.true, c.requires.few)

pub loop-i-preserved : goal.loop-i-preserved
loop-i-preserved g c =
    let i = c.loop-i.invariant in
    elim c.if-is_quiet.branch [
      | then-is_quiet+in_ok-machine w ↦
          let q = w.in_ok-machine.ensures in
          let e = q.section in
          rw (w.machine-is, w.output-is, w.start-is) (record {
            low = omega arith;
            none_quiet = no_quiet_yet c.args.lines.now (c.loop-i.i + 1);
            processors =
                q.processors ∙ e.sectioned.stays.processors ∙ i.processors;
            number =
                omega (arith, q.number, e.sectioned.stays.number, i.number);
            replies = (i.replies ++ e.news) ++ q.reply ∷ [];
            put =
                put_more g.L.RunLog.has c.args.lines.now c.loop-i.start c.loop-i.i past_lines
                i.replies
                e.news q.reply c.loop-i.output q.between w.section_to_quiet.new.output i.low
                c.loop-i-test.true i.put e.grown q.put;
            done =
                done_more c.args.opened c.loop-i.machine q.next w.in_ok-machine.machine
                c.args.lines.now c.loop-i.start c.loop-i.i past_lines i.replies e.news q.reply i.low
                c.loop-i-test.true i.done i.none_quiet e.sectioned
                (sym c.is_quiet.ensures ∙ w.if-is_quiet.true) q.ran;
          })
      | else-is_quiet w ↦
          rw (w.machine-is, w.output-is, w.start-is) (record {
            low = omega (arith, i.low);
            none_quiet =
                no_quiet_more c.args.lines.now c.loop-i.start c.loop-i.i past_lines i.low
                c.loop-i-test.true
                i.none_quiet (sym c.is_quiet.ensures ∙ w.if-is_quiet.false);
            processors = i.processors;
            number = omega (arith, i.number);
            replies = i.replies;
            put = i.put;
            done = i.done;
          })
    ]

pub section-requires-clause-none_quiet : goal.section-requires-clause-none_quiet
section-requires-clause-none_quiet g c κs within =
    let last : c.loop-i.i ≡ length c.args.lines.now = omega
    (arith, c.loop-i-test.false, c.loop-i.auto.i-end) in
    subst (λ n. NoneQuiet (part c.loop-i.start n c.args.lines.now)) last
    c.loop-i.invariant.none_quiet

pub section-requires-clause-cpus : goal.section-requires-clause-cpus
section-requires-clause-cpus g c κs within =
    part_each (λ (l : TraceLine). l.cpu < length c.loop-i.machine.table.processors) c.args.lines.now
    c.loop-i.start (length c.args.lines.now)
    (subst (λ n. AllByRecursion (λ (l : TraceLine). l.cpu < n) c.args.lines.now)
    (sym c.loop-i.invariant.processors) c.requires.cpus)

pub section-requires-clause-few : goal.section-requires-clause-few
section-requires-clause-few g c κs within =
    subst (λ n. n ≤ most_processors) (sym c.loop-i.invariant.processors) c.requires.few_cpus

pub returns : goal.returns
returns g c =
    let last : c.loop-i.i ≡ length c.args.lines.now = omega
    (arith, c.loop-i-test.false, c.loop-i.auto.i-end) in
    let i = c.loop-i.invariant in
    run_ended g.L.RunLog.has c.args.opened c.loop-i.machine c.in_ok-section.field-0 c.args.lines.now
    c.loop-i.start c.loop-i.i i.replies c.loop-i.output c.section.new.output i.low last i.done
    i.none_quiet i.put c.in_ok-section.ensures
