use Rattle.std.proofs.Common.{◌≡◌, ◌∙◌, sym, arith, [], string_bytes, append-nil, drop}
use Rattle.std.proofs.lemmas.List.{drop_all}
use Rattle.reply_text.specs.Text.{text_from}
use Rattle.number_text.proofs.Prefixes.{starts_still}
use Rattle.reply_text.proofs.TextSteps.{text_goes_on}
use Rattle.reply_text.proofs.text.put_replies.Goals as goal

pub loop-i-preserved : goal.loop-i-preserved
loop-i-preserved c = record {
  told =
      text_goes_on c.args.lines.now c.args.replies.now c.loop-i.i _ _ _ _ _ c.loop-i-test.true
      (omega arith) c.index-replies-i.is c.in_ok-put_reply.ensures.text c.loop-i.invariant.told;
  kept = rw c.in_ok-put_reply.ensures.text (starts_still _ _ _ c.loop-i.invariant.kept);
}

pub returns-clause-text : goal.returns-clause-text
unfolding text_from
returns-clause-text c =
    let none : drop c.loop-i.i c.args.lines.now ≡ [] = drop_all c.loop-i.i c.args.lines.now
    (omega arith) in
    sym (append-nil (string_bytes c.loop-i.out)) ∙ rw none at c.loop-i.invariant.told
