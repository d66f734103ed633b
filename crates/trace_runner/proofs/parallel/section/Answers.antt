use Rattle.std.proofs.Common.{◌∙◌, ap, length, arith}
use Rattle.run_model.specs.AllStores.{AllStores}
use Rattle.trace_runner.proofs.StoresRan.{stores_count, section_keeps, section_ran}
use Rattle.trace_runner.proofs.parallel.section.Goals as goal

pub merge_replies-requires-clause-stores : goal.merge_replies-requires-clause-stores
merge_replies-requires-clause-stores g c κs within =
    let windows = c.as_slice.ensures.value ∙ ap (λ (s : AllStores). s.windows) c.later.view_is in
    omega (
      arith,
      stores_count g.L.ReplyLog.keeps c.args.machine c.args.lines.now c.in_ok-later.later
          c.in_ok-later.logs.items c.in_ok-later.ensures,
      ap length windows,
    )

pub merge_replies-requires-clause-kept : goal.merge_replies-requires-clause-kept
merge_replies-requires-clause-kept g c κs within =
    section_keeps g.L.ReplyLog.keeps c.args.machine c.args.lines.now c.in_ok-later.later
    c.in_ok-later.logs.items c.in_ok-later.ensures c.as_slice.result.now
    (c.as_slice.ensures.value ∙ ap (λ (s : AllStores). s.windows) c.later.view_is)

pub returns : goal.returns
returns g c =
    section_ran g.L.ReplyLog.keeps c.args.machine c.args.lines.now c.in_ok-later.later
    c.in_ok-later.logs.items c.in_ok-later.ensures g.L.RunLog.has c.as_slice.result.now
    c.args.output.now c.merge_replies.new.output
    (c.as_slice.ensures.value ∙ ap (λ (s : AllStores). s.windows) c.later.view_is)
    c.in_ok-merge_replies.ensures.merged
