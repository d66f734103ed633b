use Rattle.std.proofs.Common.{◌≡◌, ℕ, length}
use Rattle.trace_reply.specs.Replies.{AreReplies}
use Rattle.run_model.specs.SerialRun.{serial_replies}
use Rattle.run_model.specs.GoodRun.{IsGoodRun}
use Rattle.run_model.specs.Assurances.{Assures}
use Rattle.run_model.specs.Laws.{HasOneProcessor}
use Rattle.trace_runner.proofs.WorkSteps.{kinds_count}
use Rattle.trace_runner.proofs.ParallelAssured.{ok_replies}
use Rattle.trace_runner.proofs.parallel.run_parallel.Goals as goal

pub returns-clause-kinds : goal.returns-clause-kinds
returns-clause-kinds g c =
    let t = c.args.trace.now in
    ok_replies t c.run_logged.result (λ rs. AreReplies t.lines rs)
    (λ rs kinds good assured one. kinds) c.run_logged.ensures

pub returns-clause-count : goal.returns-clause-count
returns-clause-count g c =
    let t = c.args.trace.now in
    ok_replies t c.run_logged.result (λ rs. length rs ≡ length t.lines)
    (λ rs kinds good assured one. kinds_count t.lines rs kinds) c.run_logged.ensures

pub returns-clause-good : goal.returns-clause-good
returns-clause-good g c =
    let t = c.args.trace.now in
    ok_replies t c.run_logged.result (λ rs. IsGoodRun t rs) (λ rs kinds good assured one. good)
    c.run_logged.ensures

pub returns-clause-assured : goal.returns-clause-assured
returns-clause-assured g c =
    let t = c.args.trace.now in
    ok_replies t c.run_logged.result (λ rs. Assures t rs) (λ rs kinds good assured one. assured)
    c.run_logged.ensures

pub returns-clause-one : goal.returns-clause-one
returns-clause-one g c =
    let t = c.args.trace.now in
    ok_replies t c.run_logged.result
    (λ rs. (cpu : ℕ) → HasOneProcessor cpu t.lines → rs ≡ serial_replies t)
    (λ rs kinds good assured one. one) c.run_logged.ensures
