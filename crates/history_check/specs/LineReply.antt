-- The reply to one line, by the states that its operations found.
use Rattle.std.specs.Prelude.{◌≡◌, ◌<◌, ◌≤◌, ℕ, List, length, ◌++◌, drop, Some, IfSome}
use Rattle.std.specs.List.{AllByRecursion}
use Rattle.entry_model.specs.State.{State}
use Rattle.entry_model.specs.declared.access_reply.AccessReply.{AccessReply}
use Rattle.entry_model.specs.declared.access_reply.By.TheVariants.{Hit}
use Rattle.slb_model.specs.Buffer.{segment_of}
use Rattle.entry_model.specs.Run.{state_at}
use Rattle.hpt_walk.specs.Access.{AccessContext, IsAccessReply}
use Rattle.hpt_walk.specs.declared.request.Request.{Request}
use Rattle.tlb_model.specs.Cache.{cached_line}
use Rattle.tlb_model.specs.Processor.{Processor}
use Rattle.trace_line.specs.declared.act.Act.{Act}
use Rattle.trace_line.specs.declared.line.TraceLine.{TraceLine}
use Rattle.trace_reply.specs.declared.reply.Reply.{Reply}
use Rattle.trace_reply.specs.Replies.{IsOfKind, receipts_in}
use Rattle.reply_text.specs.Text.{reply_text}
use Rattle.run_model.specs.Processors.{gone_line_of}
use Rattle.run_model.specs.LineReplies.{IsCallReply, IsReplyToAccess}
use Rattle.run_model.specs.StoreContexts.{StoreContext, access_of}
use Rattle.receipt_text.specs.Marks.{IsMark}
use Rattle.history_check.specs.ReplyMarks.{marks_in, way_of}
use Rattle.history_check.specs.Replay.{before_each}
use Rattle.vcpu.specs.Walked.{WalkFindsPage}
use Rattle.trace_line.specs.declared.act.Act.TheVariants as acts
use Rattle.trace_reply.specs.declared.reply.Reply.TheVariants as replies

-- The reply is one to an access of this processor.
abbrev pub IsAccessOn : AccessContext → Processor → Request → AccessReply → Type 0
IsAccessOn context p a r =
    IsAccessReply context (cached_line p.cache) a (segment_of p.slots a.ea) r

-- A reply of this processor to what a line asks.
pub record IsReplyTo (context : StoreContext) (p : Processor) (act : Act) (r : Reply) : Type 0
  where
    pub kind : IsOfKind act r
    pub call : IsCallReply context act r
    pub access : IsReplyToAccess (access_of context) p act r

-- A reply of this processor to what a line asks, by operations that found these states.
pub record IsReplyOn
    (context : StoreContext)
    (p : Processor)
    (act : Act)
    (found : List State)
    (r : Reply)
    : Type 0
  where
    pub reply : IsReplyTo context p act r
    pub before : before_each (receipts_in r) ≡ found

-- The entry that a line's walk found translates the page that was walked.
abbrev pub LineFindsPage : Processor → Act → Reply → Type 0
LineFindsPage p (acts.Access want ea user) (replies.Access r) =
    WalkFindsPage (segment_of p.slots ea) r.by r.receipts
LineFindsPage p act r = Unit {0}

-- The reply is to an access by a cached translation.
abbrev pub IsHitReply : Reply → Type 0
IsHitReply r = way_of r ≡ Some Hit

-- A reply's receipts are on the states found and have marks, and the given text begins with the
-- reply's text, which has n bytes.
pub record FitsText
    (l : TraceLine)
    (found : List State)
    (given : List ℕ)
    (r : Reply)
    (n : ℕ)
    : Type 0
  where
    pub before : before_each (receipts_in r) ≡ found
    pub marks : AllByRecursion IsMark (marks_in r)
    pub within : n ≤ length given
    pub text : given ≡ reply_text l r ++ drop n given

-- The text begins with that of no such reply.
abbrev pub FitsNoReply :
    StoreContext → Processor → TraceLine → List State → List ℕ → Type 0
FitsNoReply context p l found given =
    (r : Reply) (rest : List ℕ)
    → IsReplyOn context p l.act found r
    → given ≡ reply_text l r ++ rest
    → ⊥

-- The reply stands: it is one to the line by operations that found these states, its receipts have
-- marks, and a cached translation that was gone has left its stamp when the section closes.
pub record StandsOn
    (context : StoreContext)
    (closing : List State)
    (p : Processor)
    (l : TraceLine)
    (found : List State)
    (r : Reply)
    : Type 0
  where
    pub reply : IsReplyTo context p l.act r
    pub before : before_each (receipts_in r) ≡ found
    pub marks : AllByRecursion IsMark (marks_in r)
    pub gone :
        IfSome
        (gone_line_of p l.act r)
        (λ line. line.stamp < (state_at closing line.entry).stamp)

-- A reply stands whose text, of n bytes, is what the text begins with.
pub record HasReply
    (context : StoreContext)
    (closing : List State)
    (p : Processor)
    (l : TraceLine)
    (found : List State)
    (given : List ℕ)
    (n : ℕ)
    : Type 0
  where
    pub reply : Reply
    pub stands : StandsOn context closing p l found reply
    pub within : n ≤ length given
    pub text : given ≡ reply_text l reply ++ drop n given
