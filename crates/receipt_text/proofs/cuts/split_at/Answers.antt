use Rattle.receipt_text.proofs.Bytes.{lacks_more}
use Rattle.receipt_text.proofs.cuts.split_at.Goals as goal

pub loop-i-preserved : goal.loop-i-preserved
loop-i-preserved c = lacks_more _ _ _ c.loop-i-test.true c.if-c-byte.false c.loop-i.invariant
