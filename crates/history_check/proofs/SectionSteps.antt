-- Judging one line more of a section.
use Rattle.std.proofs.Common.{◌≡◌, ℕ, ◌<◌, ◌≤◌, List, [], ◌∷◌, ◌++◌, true, false, ap, sym, ◌∙◌, refl, subst, ◌⊎◌, inl, inr, append_assoc, length, take, drop, eqb}
use Rattle.std.proofs.lemmas.Bool.{cases_Bool, eqb-true}
use Rattle.entry_model.specs.State.{State}
use Rattle.run_model.specs.StoreContexts.{StoreContext}
use Rattle.tlb_model.specs.Processor.{Processor}
use Rattle.trace_line.specs.declared.line.TraceLine.{TraceLine}
use Rattle.trace_line.specs.Lines.{is_quiet}
use Rattle.trace_reply.specs.declared.reply.Reply.{Reply}
use Rattle.trace_reply.specs.Replies.{RepliedLine, lines_with_replies}
use Rattle.reply_text.specs.Text.{reply_text}
use Rattle.run_model.specs.Processors.{processor_at, processor_after, processors_after, processors_behind}
use Rattle.run_model.specs.Histories.{InOrder, lines_of_processor, events_in, events_by}
use Rattle.run_model.proofs.LinesByProcessor.{own_yes, own_no, processor_own, processor_other}
use Rattle.history_check.specs.FoundSection.{lines_text}
use Rattle.history_check.specs.FrontKeeping.{AllLeadTo}
use Rattle.history_check.specs.LineReply.{HasReply}
use Rattle.history_check.specs.JudgedLines.{AllStand, AllInOrder, judged, AreReplied}
use Rattle.history_check.proofs.OneReply.{one_reply}

-- ---- fronts
-- the events of a line, and of those after it
order_on :
    (F G : ℕ → ℕ → ℕ) (ps : List Processor) (t : RepliedLine) (ts : List RepliedLine)
    → t.line.cpu < length ps
    → AllLeadTo F t.line.cpu (events_in (processor_at ps t.line.cpu) t) G
    → AllInOrder G (processors_after ps t) ts
    → AllInOrder F ps (t ∷ ts)
order_on F G ps t ts low leads h cpu e = at (cases_Bool (eqb t.line.cpu cpu)) where
  at :
      (eqb t.line.cpu cpu ≡ true) ⊎ (eqb t.line.cpu cpu ≡ false)
      → InOrder e (F cpu e) (events_by (processor_at ps cpu) (lines_of_processor cpu (t ∷ ts)))
  at (inl own) =
      let same : t.line.cpu ≡ cpu = eqb-true t.line.cpu cpu own in
      let p = processor_at ps t.line.cpu in
      let behind : processor_at (processors_after ps t) t.line.cpu ≡ processor_after p t.line.act
      t.reply = processor_own ps t low in
      let later = events_by (processor_after p t.line.act t.reply)
      (lines_of_processor t.line.cpu ts) in
      let here : InOrder e (G t.line.cpu e) later = subst
      (λ q. InOrder e (G t.line.cpu e) (events_by q (lines_of_processor t.line.cpu ts))) behind
      (h t.line.cpu e) in
      let whole : InOrder e (F t.line.cpu e) (events_in p t ++ later) = leads.own.with_events e
      later here in
      let mine : InOrder e (F t.line.cpu e) (events_by p (lines_of_processor t.line.cpu (t ∷ ts))) =
      subst (λ l. InOrder e (F t.line.cpu e) (events_by p l))
      (sym (own_yes t.line.cpu t ts refl)) whole in
      subst (λ c. InOrder e (F c e) (events_by (processor_at ps c) (lines_of_processor c (t ∷ ts))))
      same mine
  at (inr other) =
      let kept : InOrder e (F cpu e) (events_by (processor_at ps cpu) (lines_of_processor cpu ts)) =
      subst (λ q. InOrder e (F cpu e) (events_by q (lines_of_processor cpu ts)))
      (processor_other ps t cpu other)
      (subst
      (λ f.
      InOrder e f
      (events_by (processor_at (processors_after ps t) cpu)
      (lines_of_processor cpu ts))) (leads.others cpu other e) (h cpu e)) in
      subst (λ l. InOrder e (F cpu e) (events_by (processor_at ps cpu) l))
      (sym (own_no cpu t ts other)) kept

-- the events of the first line's processor
pub first_order :
    (F : ℕ → ℕ → ℕ) (ps : List Processor) (t : RepliedLine) (ts : List RepliedLine)
    → AllInOrder F ps (t ∷ ts)
    → (e : ℕ)
    → InOrder e (F t.line.cpu e)
    (events_in (processor_at ps t.line.cpu) t
    ++ events_by (processor_after (processor_at ps t.line.cpu) t.line.act t.reply)
    (lines_of_processor t.line.cpu ts))
first_order F ps t ts h e =
    subst (λ l. InOrder e (F t.line.cpu e) (events_by (processor_at ps t.line.cpu) l))
    (own_yes t.line.cpu t ts refl) (h t.line.cpu e)

order_back :
    (F G : ℕ → ℕ → ℕ) (ps : List Processor) (t : RepliedLine) (ts : List RepliedLine)
    → t.line.cpu < length ps
    → AllLeadTo F t.line.cpu (events_in (processor_at ps t.line.cpu) t) G
    → AllInOrder F ps (t ∷ ts)
    → AllInOrder G (processors_after ps t) ts
order_back F G ps t ts low leads h cpu e = at (cases_Bool (eqb t.line.cpu cpu)) where
  at :
      (eqb t.line.cpu cpu ≡ true) ⊎ (eqb t.line.cpu cpu ≡ false)
      → InOrder e (G cpu e)
      (events_by (processor_at (processors_after ps t) cpu) (lines_of_processor cpu ts))
  at (inl own) =
      let same : t.line.cpu ≡ cpu = eqb-true t.line.cpu cpu own in
      let p = processor_at ps t.line.cpu in
      let later = events_by (processor_after p t.line.act t.reply)
      (lines_of_processor t.line.cpu ts) in
      let here : InOrder e (G t.line.cpu e) later = leads.own.without e later
      (first_order F ps t ts h e) in
      let mine : InOrder e (G t.line.cpu e)
      (events_by (processor_at (processors_after ps t) t.line.cpu)
      (lines_of_processor t.line.cpu ts)) = subst
      (λ q. InOrder e (G t.line.cpu e) (events_by q (lines_of_processor t.line.cpu ts)))
      (sym (processor_own ps t low)) here in
      subst
      (λ c.
      InOrder e (G c e)
      (events_by (processor_at (processors_after ps t) c) (lines_of_processor c ts))) same
      mine
  at (inr other) =
      let kept : InOrder e (F cpu e) (events_by (processor_at ps cpu) (lines_of_processor cpu ts)) =
      subst (λ l. InOrder e (F cpu e) (events_by (processor_at ps cpu) l))
      (own_no cpu t ts other) (h cpu e) in
      subst
      (λ f.
      InOrder e f
      (events_by (processor_at (processors_after ps t) cpu) (lines_of_processor cpu ts)))
      (sym (leads.others cpu other e))
      (subst (λ q. InOrder e (F cpu e) (events_by q (lines_of_processor cpu ts)))
      (sym (processor_other ps t cpu other)) kept)

-- ---- what is left to judge

-- What is left decides, both ways.
pub record IsLeft (context : StoreContext) (closing : List State) (ls ms : List TraceLine)
    (ns ks : List ℕ) (found states : List State) (ps qs : List Processor) (F G : ℕ → ℕ → ℕ)
    (given text : List ℕ) :
    Type 0 where
  pub on :
      (rs : List Reply) (rest : List ℕ) (later : List Processor)
      → AreReplied (judged context closing ms ks states) qs G text rs rest later
      → (whole : List Reply)
      × AreReplied (judged context closing ls ns found) ps F given whole rest later
  pub back :
      (rs : List Reply) (rest : List ℕ) (later : List Processor)
      → AreReplied (judged context closing ls ns found) ps F given rs rest later
      → (part : List Reply)
      × AreReplied (judged context closing ms ks states) qs G text part rest later

pub all_left :
    (context : StoreContext) (closing : List State) (ls : List TraceLine) (ns : List ℕ)
    (found : List State) (ps : List Processor) (F : ℕ → ℕ → ℕ) (given : List ℕ)
    → IsLeft context closing ls ls ns ns found found ps ps F F given given
all_left context closing ls ns found ps F given =
    record { on = λ rs rest later h. (rs, h); back = λ rs rest later h. (rs, h) }

-- one line with the reply that stands
pub more_on :
    (context : StoreContext) (closing : List State) (l : TraceLine) (ls : List TraceLine) (n : ℕ)
    (ns : List ℕ) (states : List State) (ps qs : List Processor) (F G : ℕ → ℕ → ℕ)
    (text : List ℕ) (b : ℕ)
    (h : HasReply context closing (processor_at ps l.cpu) l (take n states) text b)
    → l.cpu < length ps
    → n ≤ length states
    → qs ≡ processors_after ps (record { line = l; reply = h.reply })
    → AllLeadTo F l.cpu (events_in (processor_at ps l.cpu) (record { line = l; reply = h.reply })) G
    → (rs : List Reply) (rest : List ℕ) (later : List Processor)
    → AreReplied (judged context closing ls ns (drop n states)) qs G (drop b text) rs rest later
    → AreReplied (judged context closing (l ∷ ls) (n ∷ ns) states) ps F text (h.reply ∷ rs) rest
    later
more_on context closing l ls n ns states ps qs F G text b h low few next leads rs rest later k =
    let t : RepliedLine = record { line = l; reply = h.reply } in
    let ts = lines_with_replies ls rs in
    record {
      stand = (
        few,
        h.stands,
        subst (λ z. AllStand context closing z ls ns (drop n states) rs) next k.stand,
      );
      in_order = order_on F G ps t ts low leads (subst (λ z. AllInOrder G z ts) next k.in_order);
      text =
          h.text
          ∙ ap (λ z. reply_text l h.reply ++ z) k.text
          ∙ sym (append_assoc (reply_text l h.reply) (lines_text ts) rest);
      behind = k.behind ∙ ap (λ z. processors_behind z ts) next;
    }

-- and the other way: there is no other reply
pub more_back :
    (context : StoreContext) (closing : List State) (l : TraceLine) (ls : List TraceLine) (n : ℕ)
    (ns : List ℕ) (states : List State) (ps qs : List Processor) (F G : ℕ → ℕ → ℕ)
    (text : List ℕ) (b : ℕ)
    (h : HasReply context closing (processor_at ps l.cpu) l (take n states) text b)
    → is_quiet l.act ≡ false
    → l.cpu < length ps
    → qs ≡ processors_after ps (record { line = l; reply = h.reply })
    → AllLeadTo F l.cpu (events_in (processor_at ps l.cpu) (record { line = l; reply = h.reply })) G
    → (rs : List Reply) (rest : List ℕ) (later : List Processor)
    → AreReplied (judged context closing (l ∷ ls) (n ∷ ns) states) ps F text rs rest later
    → (part : List Reply)
    × AreReplied (judged context closing ls ns (drop n states)) qs G (drop b text) part rest later
more_back context closing l ls n ns states ps qs F G text b h plain low next leads [] rest later k =
    absurd k.stand
more_back context closing l ls n ns states ps qs F G text b h plain low next leads (r ∷ rs) rest
    later k =
    let p = processor_at ps l.cpu in
    let ts = lines_with_replies ls rs in
    let there : text ≡ reply_text l r ++ (lines_text ts ++ rest) = k.text ∙ append_assoc
    (reply_text l r) (lines_text ts) rest in
    let one = one_reply context p l h.reply r text (drop b text) (lines_text ts ++ rest) plain
    h.stands.reply k.stand.1.reply (h.stands.before ∙ sym k.stand.1.before) h.stands.marks
    k.stand.1.marks h.text there in
    let t : RepliedLine = record { line = l; reply = h.reply } in
    let next' : processors_after ps (record { line = l; reply = r }) ≡ qs = ap
    (λ z. processors_after ps (record { line = l; reply = z })) (sym one.0) ∙ sym next in (
      rs,
      record {
        stand = subst (λ z. AllStand context closing z ls ns (drop n states) rs) next' k.stand.2;
        in_order =
            subst (λ z. AllInOrder G z ts) (sym next)
            (order_back F G ps t ts low leads
            (subst (λ z. AllInOrder F ps (record { line = l; reply = z } ∷ ts)) (sym one.0)
            k.in_order));
        text = one.1;
        behind = k.behind ∙ ap (λ z. processors_behind z ts) next';
      },
    )
