use Rattle.std.proofs.Common.{take}
use Rattle.reply_text.specs.Summary.{IsCountOf}
use Rattle.reply_text.proofs.summary.count_replies.Given as goal

abbrev pub invariant-loop-reply : goal.invariant-loop-reply
invariant-loop-reply l = IsCountOf l.counts (take l.reply-index l.replies)
