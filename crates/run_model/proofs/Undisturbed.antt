-- Lines that run with nobody else at the table: what both the serial run and a good run of one
-- processor are.
use Rattle.std.specs.Prelude.{◌≡◌, ◌<◌, List, [], ◌∷◌, IfSome}
use Rattle.entry_model.specs.State.{State}
use Rattle.entry_model.specs.Run.{state_at, IsRun}
use Rattle.run_model.specs.StoreContexts.{StoreContext, access_of}
use Rattle.tlb_model.specs.Processor.{Processor}
use Rattle.trace_reply.specs.Replies.{RepliedLine, receipts_in}
use Rattle.run_model.specs.Processors.{processor_at, processors_after, gone_line_of}
use Rattle.run_model.specs.LineReplies.{IsCallReply, IsReplyToAccess}

-- A line that isn't quiet, from these states to those.
pub record IsUndisturbed (set : StoreContext) (processor : Processor) (a : List State)
    (t : RepliedLine) (b : List State) :
    Type 0 where
  pub call : IsCallReply set t.line.act t.reply
  pub access : IsReplyToAccess (access_of set) processor t.line.act t.reply
  pub gone :
      IfSome (gone_line_of processor t.line.act t.reply)
      (λ line. line.stamp < (state_at a line.entry).stamp)
  pub run : IsRun a (receipts_in t.reply) b

-- The lines run one after the other with nobody else at the table, from these states to those.
abbrev pub AreUndisturbed :
    StoreContext → List Processor → List State → List RepliedLine → List State → Type 0
AreUndisturbed set processors a [] b = b ≡ a
AreUndisturbed set processors a (t ∷ ts) b =
    (mid : List State)
    × IsUndisturbed set (processor_at processors t.line.cpu) a t mid
    × AreUndisturbed set (processors_after processors t) mid ts b
