-- What was written, with one promise instead of another.
use Rattle.std.proofs.Common.{ℕ, List, Option}
use Rattle.trace_read.specs.Trace.{AcceptedTrace}
use Rattle.trace_reply.specs.declared.reply.Reply.{Reply}
use Rattle.papr_uses.specs.Promises.{Promise, PutsReplies}

-- The replies keep each promise that follows from one that they keep.
pub keeps_also :
    {D : Type 0} {P Q : Promise} {bytes : List ℕ} {old new : Option (List ℕ)}
    → ((t : AcceptedTrace) (rs : List Reply) → P t rs → Q t rs)
    → (D → PutsReplies P bytes old new)
    → D
    → PutsReplies Q bytes old new
keeps_also follows puts done =
    let p = puts done in
    record {
      trace = p.trace;
      replies = p.replies;
      accepted = p.accepted;
      put = p.put;
      kept = follows p.trace p.replies p.kept;
    }
