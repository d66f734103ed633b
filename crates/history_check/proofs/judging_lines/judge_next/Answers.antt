use Rattle.std.proofs.Common.{◌<◌, refl, sym, subst, set}
use Rattle.history_check.specs.JudgedLines.{JudgedLine}
use Rattle.history_check.proofs.LineTold.{next_told}
use Rattle.history_check.proofs.judging_lines.judge_next.Goals as goal

pub returns-clause-told : goal.returns-clause-told
returns-clause-told c =
    let cpu = c.args.line.now.cpu in
    let j : JudgedLine = record {
      context = c.args.context.now;
      closing = c.args.closing.now;
      line = c.args.line.now;
      found = c.args.found.now;
      given = c.args.given.now;
    } in
    next_told j c.args.processors.now.items
    (set c.args.processors.now.items cpu c.judge_line.new.processor) c.args.fronts.now.items
    (set c.args.fronts.now.items cpu c.judge_line.new.fronts) c.args.opening.now
    c.index_mut-processor.result.now c.judge_line.new.processor c.index_mut-own.result.now
    c.judge_line.new.fronts c.in_ok-judged.judged c.requires.cpu
    (subst (λ n. cpu < n) (sym c.requires.fronts) c.requires.cpu)
    c.index_mut-processor.ensures.value c.index_mut-own.ensures.value refl refl
    c.in_ok-judged.ensures
