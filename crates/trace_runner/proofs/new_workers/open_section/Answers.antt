use Rattle.std.proofs.Common.{◌≡◌, ◌∙◌, ap, length, arith}
use Rattle.trace_runner.specs.Workers.{count_with_lines}
use Rattle.trace_runner.specs.DealtLines.{count_with_own}
use Rattle.trace_runner.proofs.CountedWorkers.{some_worker}
use Rattle.trace_runner.proofs.DealtLines.{with_lines, few_with_own}
use Rattle.trace_runner.proofs.SectionPromises.{workers_count}
use Rattle.trace_runner.proofs.new_workers.open_section.Goals as goal

pub open-requires-clause-some_pass : goal.open-requires-clause-some_pass
open-requires-clause-some_pass g c =
    let lines = c.args.lines.now in
    let dealt = c.in_ok-dealt.dealt.items in
    let cpus = c.args.cpus.now.items in
    let same : length dealt ≡ length cpus = omega (arith, c.in_ok-dealt.ensures.size) in
    let count = c.count_workers-passes.ensures.count ∙ ap count_with_own c.as_slice.ensures.value ∙
    with_lines lines 0 dealt c.in_ok-dealt.ensures.dealt ∙ ap (λ n. count_with_lines n 0 lines)
    same in
    omega (arith, count, some_worker (length cpus) lines c.requires.some c.requires.on_cpus)

pub open-requires-clause-few : goal.open-requires-clause-few
open-requires-clause-few g c =
    omega (
      arith,
      c.count_workers-passes.ensures.count,
      ap count_with_own c.as_slice.ensures.value,
      few_with_own c.in_ok-dealt.dealt.items,
      c.in_ok-dealt.ensures.size,
      c.requires.few,
    )

pub returns-clause-some : goal.returns-clause-some
returns-clause-some g c =
    let lines = c.args.lines.now in
    let dealt = c.in_ok-dealt.dealt.items in
    let cpus = c.args.cpus.now.items in
    let same : length dealt ≡ length cpus = omega (arith, c.in_ok-dealt.ensures.size) in
    let count = c.in-Ok.ensures.passes ∙ c.count_workers-passes.ensures.count ∙ ap count_with_own
    c.as_slice.ensures.value ∙ with_lines lines 0 dealt c.in_ok-dealt.ensures.dealt ∙ ap
    (λ n. count_with_lines n 0 lines) same in
    omega (arith, count, some_worker (length cpus) lines c.requires.some c.requires.on_cpus)

pub returns-clause-passes : goal.returns-clause-passes
returns-clause-passes g c =
    let lines = c.args.lines.now in
    let dealt = c.in_ok-dealt.dealt.items in
    let workers = c.in_ok-workers.workers.items in
    let same : length dealt ≡ length workers = omega (
      arith,
      c.in_ok-dealt.ensures.size,
      workers_count workers c.args.cpus.now.items c.in_ok-workers.ensures.before,
    ) in
    c.in-Ok.ensures.passes
    ∙ c.count_workers-passes.ensures.count
    ∙ ap count_with_own c.as_slice.ensures.value
    ∙ with_lines lines 0 dealt c.in_ok-dealt.ensures.dealt
    ∙ ap (λ n. count_with_lines n 0 lines) same

pub returns-clause-ready : goal.returns-clause-ready
returns-clause-ready g c context =
    c.in_ok-workers.ensures.ready context c.args.lines.now c.in_ok-dealt.ensures.dealt
