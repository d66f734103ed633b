-- A line has at most one reply by given states with whose text a given text begins.
use Rattle.std.specs.Prelude.{IfSome}
use Rattle.std.specs.List.{AllByRecursion}
use Rattle.std.proofs.Common.{◌≡◌, ℕ, ◌<◌, false, List, [], ◌∷◌, ◌++◌, ap, sym, ◌∙◌, map, drop, subst, Option}
use Rattle.entry_model.specs.State.{State}
use Rattle.entry_model.specs.declared.receipt.Receipt.{Receipt}
use Rattle.entry_model.specs.declared.line.Line.{Line}
use Rattle.entry_model.specs.Run.{state_at}
use Rattle.run_model.specs.StoreContexts.{StoreContext, access_of}
use Rattle.run_model.specs.LineReplies.{IsReplyToAccess}
use Rattle.hpt_walk.specs.Access.{AccessContext, request}
use Rattle.slb_model.specs.Buffer.{segment_of}
use Rattle.tlb_model.specs.Cache.{cached_line}
use Rattle.trace_line.specs.declared.act.Act.{Act}
use Rattle.vcpu.proofs.WalksFindPages.{access_finds}
use Rattle.tlb_model.specs.Processor.{Processor}
use Rattle.trace_line.specs.declared.line.TraceLine.{TraceLine}
use Rattle.trace_line.specs.Lines.{is_quiet}
use Rattle.trace_reply.specs.declared.reply.Reply.{Reply}
use Rattle.trace_reply.specs.Replies.{receipts_in}
use Rattle.reply_text.specs.Text.{reply_text}
use Rattle.run_model.specs.Processors.{gone_line_of, processor_after}
use Rattle.run_model.specs.Histories.{Event, made, gone_events, InOrder, events_in}
use Rattle.receipt_text.specs.Marks.{IsMark}
use Rattle.history_check.specs.ReplyMarks.{marks_in}
use Rattle.receipt_text.specs.Receipts.{mark_of}
use Rattle.history_check.specs.Replay.{before_each}
use Rattle.history_check.specs.LineReply.{IsReplyTo, LineFindsPage, FitsText, StandsOn, HasReply}
use Rattle.history_check.specs.FrontKeeping.{LeadsTo, LeadsNowhere}
use Rattle.history_check.proofs.Alike.{AllBefore}
use Rattle.history_check.proofs.AtMostOne.{zip, line_same}
use Rattle.history_check.proofs.TextMarks.{AreShort, line_shows}
use Rattle.trace_line.specs.declared.act.Act.TheVariants as acts
use Rattle.trace_reply.specs.declared.reply.Reply.TheVariants as replies

pub short : (rs : List Receipt) → AllByRecursion IsMark (map mark_of rs) → AreShort rs
short [] h = tt
short (r ∷ rs) h = (record { entry = h.0.entry; stamp = h.0.stamp }, short rs h.1)

same_before : (xs ys : List Receipt) → before_each xs ≡ before_each ys → AllBefore (zip xs ys)
same_before [] ys e = tt
same_before (x ∷ xs) [] e = tt
same_before (x ∷ xs) (y ∷ ys) e =
    let here : x.before ≡ y.before = cc in
    let rest : before_each xs ≡ before_each ys = cc in
    (here, same_before xs ys rest)

pub one_reply :
    (context : StoreContext) (p : Processor) (l : TraceLine) (r q : Reply) (given x y : List ℕ)
    → is_quiet l.act ≡ false
    → IsReplyTo context p l.act r
    → IsReplyTo context p l.act q
    → before_each (receipts_in r) ≡ before_each (receipts_in q)
    → AllByRecursion IsMark (marks_in r)
    → AllByRecursion IsMark (marks_in q)
    → given ≡ reply_text l r ++ x
    → given ≡ reply_text l q ++ y
    → (r ≡ q) × (x ≡ y)
one_reply context p l r q given x y n h k before s t e f =
    let shown = line_shows l r q x y n h.kind k.kind (short (receipts_in r) s)
    (short (receipts_in q) t) (sym e ∙ f) in (
      line_same context p l.act r q n h.call h.access k.call k.access shown.0
          (same_before (receipts_in r) (receipts_in q) before),
      shown.1,
    )

-- ---- what a line's walk found translates its page
access_finds_page :
    (set : AccessContext) (p : Processor) (act : Act) (r : Reply)
    → IsReplyToAccess set p act r
    → LineFindsPage p act r
access_finds_page set p (acts.Access want ea user) (replies.Access r) is =
    access_finds set (cached_line p.cache) (request want ea user p.masks) (segment_of p.slots ea) r
    is
access_finds_page set p act r is = tt

pub line_finds :
    (context : StoreContext) (p : Processor) (act : Act) (r : Reply)
    → IsReplyTo context p act r
    → LineFindsPage p act r
line_finds context p act r is = access_finds_page (access_of context) p act r is.access

-- ---- where the one reply doesn't stand, none does
-- the cached translation that was gone hasn't left its stamp
pub left_not :
    (context : StoreContext) (closing : List State) (p : Processor) (l : TraceLine)
    (found : List State) (given : List ℕ) (r : Reply) (n : ℕ) (g : Option Line)
    → is_quiet l.act ≡ false
    → IsReplyTo context p l.act r × FitsText l found given r n
    → g ≡ gone_line_of p l.act r
    → (IfSome g (λ line. line.stamp < (state_at closing line.entry).stamp) → ⊥)
    → (q : Reply) (rest : List ℕ)
    → StandsOn context closing p l found q
    → given ≡ reply_text l q ++ rest
    → ⊥
left_not context closing p l found given r n g quiet told is off q rest h same =
    let one = one_reply context p l r q given (drop n given) rest quiet told.0 h.reply
    (told.1.before ∙ sym h.before) told.1.marks h.marks told.1.text same in
    off
    (subst (λ z. IfSome z (λ line. line.stamp < (state_at closing line.entry).stamp))
    (ap (gone_line_of p l.act) (sym one.0) ∙ sym is) h.gone)

-- an event comes before its entry's front
pub kept_not :
    (context : StoreContext) (closing : List State) (p : Processor) (l : TraceLine)
    (found : List State) (given : List ℕ) (r : Reply) (n : ℕ) (g : Option Line)
    (rs : List Receipt) (f : ℕ → ℕ)
    → is_quiet l.act ≡ false
    → IsReplyTo context p l.act r × FitsText l found given r n
    → g ≡ gone_line_of p l.act r
    → rs ≡ receipts_in r
    → LeadsNowhere f (gone_events g ++ map (λ (x : Receipt). made x) rs)
    → (q : Reply) (rest : List ℕ) (later : List Event)
    → StandsOn context closing p l found q
    → given ≡ reply_text l q ++ rest
    → ((e : ℕ) → InOrder e (f e) (events_in p (record { line = l; reply = q }) ++ later))
    → ⊥
kept_not context closing p l found given r n g rs f quiet told is all none q rest later h same order
    =
    let one = one_reply context p l r q given (drop n given) rest quiet told.0 h.reply
    (told.1.before ∙ sym h.before) told.1.marks h.marks told.1.text same in
    let events : gone_events g ++ map (λ (x : Receipt). made x) rs ≡ events_in p
    (record { line = l; reply = q }) =
    (λ i. gone_events (is i) ++ map (λ (x : Receipt). made x) (all i)) ∙ ap
    (λ z. events_in p (record { line = l; reply = z })) one.0 in
    none later (λ e. subst (λ z. InOrder e (f e) (z ++ later)) (sym events) (order e))

-- ---- where it does
pub line_told :
    (context : StoreContext) (closing : List State) (p q : Processor) (l : TraceLine)
    (found : List State) (given : List ℕ) (r : Reply) (n : ℕ) (g : Option Line)
    (rs : List Receipt) (f h : ℕ → ℕ)
    → IsReplyTo context p l.act r × FitsText l found given r n
    → g ≡ gone_line_of p l.act r
    → IfSome g (λ line. line.stamp < (state_at closing line.entry).stamp)
    → rs ≡ receipts_in r
    → LeadsTo f (gone_events g ++ map (λ (x : Receipt). made x) rs) h
    → q ≡ processor_after p l.act r
    → (k : HasReply context closing p l found given n)
    × (q ≡ processor_after p l.act k.reply)
    × LeadsTo f (events_in p (record { line = l; reply = k.reply })) h
line_told context closing p q l found given r n g rs f h told is left all leads after =
    let events : gone_events g ++ map (λ (x : Receipt). made x) rs ≡ events_in p
    (record { line = l; reply = r }) = λ i. gone_events (is i) ++ map (λ (x : Receipt). made x)
    (all i) in (
      record {
        reply = r;
        stands =
            record {
              reply = told.0;
              before = told.1.before;
              marks = told.1.marks;
              gone =
                  subst (λ z. IfSome z (λ line. line.stamp < (state_at closing line.entry).stamp))
                  is left;
            };
        within = told.1.within;
        text = told.1.text;
      },
      after,
      subst (λ z. LeadsTo f z h) events leads,
    )
