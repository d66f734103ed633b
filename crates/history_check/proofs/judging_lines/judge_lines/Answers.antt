use Rattle.entry_model.specs.Fronts.{front_at}
use Rattle.history_check.specs.FrontKeeping.{fronts_of}
use Rattle.history_check.specs.JudgedLines.{judged}
use Rattle.history_check.proofs.SectionLoop.{same_fronts}
use Rattle.history_check.proofs.judging_lines.judge_lines.Goals as goal

pub returns-clause-told : goal.returns-clause-told
returns-clause-told c =
    same_fronts
    (judged c.args.context.now c.args.closing.now c.args.lines.now c.args.counts.now
    c.args.found.now) c.args.processors.now.items c.judge_each.new.processors.items
    (λ cpu e. front_at c.args.opening.now e)
    (fronts_of c.in_ok-fronts.fronts.items c.args.opening.now) c.args.given.now
    c.in_ok-told.told c.in_ok-fronts.ensures.fronts c.in_ok-told.ensures.told
