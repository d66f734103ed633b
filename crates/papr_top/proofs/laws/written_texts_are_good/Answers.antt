use Rattle.std.proofs.Common.{ℕ, List, ◌⊎◌, inl, inr, sym, subst}
use Rattle.trace_read.specs.Trace.{AcceptedTrace}
use Rattle.run_model.specs.SerialRun.{serial_replies}
use Rattle.history_check.specs.declared.verdict.Verdict.TheVariants.{Good}
use Rattle.history_check.specs.Verdict.{IsVerdict}
use Rattle.history_check.proofs.EarlierSections.{good_verdict}
use Rattle.papr_top.specs.Texts.{IsSerialText, IsParallelText}
use Rattle.papr_top.proofs.laws.written_texts_are_good.Goals as goal

judged_good :
    (t : AcceptedTrace) (text : List ℕ)
    → IsSerialText t text ⊎ IsParallelText t text
    → IsVerdict t text Good
judged_good t text (inl serial) =
    subst (λ x. IsVerdict t x Good) (sym serial.is)
    (good_verdict t (serial_replies t) serial.assured.run.good)
judged_good t text (inr parallel) =
    subst (λ x. IsVerdict t x Good) (sym parallel.is)
    (good_verdict t parallel.replies parallel.assured.good)

pub returns : goal.returns
returns c = judged_good
