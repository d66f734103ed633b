use Rattle.std.proofs.Common.{◌∙◌, take, rules}
use Rattle.trace_io.proofs.Twice.{put_more}
use Rattle.trace_io.proofs.Pieces.{front_more}
use Rattle.trace_io.proofs.writing.write_all.Goals as goal

pub loop-at-preserved : goal.loop-at-preserved
loop-at-preserved g c = record {
  within = search rules;
  put =
      rw (front_more c.args.text.now c.loop-at.at c.in_ok-at.field-0)
      (put_more _ _ _ (take c.loop-at.at c.args.text.now) _ c.loop-at.invariant.put
      c.in_ok-at.ensures.put);
  stands = c.in_ok-at.ensures.stands ∙ c.loop-at.invariant.stands;
}
