use Rattle.std.proofs.Common.{◌≡◌, [], String, string_bytes, sym, subst}
use Rattle.std.proofs.lemmas.Result.{IfOk-weaker}
use Rattle.std.specs.declared.alloc.Global.{Global}
use Rattle.trace_runner.specs.TextLog.{HasText}
use Rattle.trace_runner.proofs.TextLogs.{has_none}
use Rattle.trace_runner.proofs.text_log.ReplyTextRunLog.output.Goals as goal

pub returns : goal.returns
returns c =
    IfOk-weaker c.with_capacity.result (λ (text : String Global). string_bytes text ≡ []) _
    (λ text empty. subst (λ bs. HasText bs [] []) (sym empty) has_none)
    c.with_capacity.ensures.bytes
