-- The loop over the lines of a section.
use Rattle.std.proofs.Common.{◌≡◌, ℕ, ◌+◌, ◌-◌, ◌<◌, ◌≤◌, List, [], ◌∷◌, ◌++◌, false, ap, sym, ◌∙◌, refl, subst, append_assoc, arith, length, take, drop, get_or, Option, Some, None}
use Rattle.std.proofs.lemmas.List.{drop_more, drop-drop, length-drop, drop_all}
use Rattle.entry_model.specs.State.{State}
use Rattle.run_model.specs.StoreContexts.{StoreContext}
use Rattle.tlb_model.specs.Processor.{Processor}
use Rattle.trace_line.specs.declared.line.TraceLine.{TraceLine}
use Rattle.trace_line.specs.Lines.{is_quiet}
use Rattle.trace_reply.specs.declared.reply.Reply.{Reply}
use Rattle.trace_reply.specs.Replies.{RepliedLine, lines_with_replies}
use Rattle.reply_text.specs.Text.{reply_text}
use Rattle.run_model.specs.Processors.{processor_at, processor_after, processors_after}
use Rattle.run_model.specs.Histories.{Event, InOrder, lines_of_processor, events_in, events_by}
use Rattle.history_check.specs.FoundSection.{lines_text}
use Rattle.history_check.specs.FrontKeeping.{AllLeadTo}
use Rattle.history_check.specs.LineReply.{StandsOn, HasReply}
use Rattle.history_check.specs.JudgedLines.{Judged, judged, AreReplied, TellsLine, TellsLines}
use Rattle.history_check.proofs.SectionSteps.{IsLeft, more_on, more_back, first_order}

-- ---- the text after the replies
pub text_first : (given : List ℕ) → given ≡ drop (length given - length given) given
text_first given =
    ap (λ n. drop n given) (let e : 0 ≡ length given - length given = omega arith in e)

pub text_on :
    (given text behind : List ℕ) (b : ℕ)
    → text ≡ drop (length given - length text) given
    → length text ≤ length given
    → b ≤ length text
    → behind ≡ drop b text
    → (length behind ≤ length given) × (behind ≡ drop (length given - length behind) given)
text_on given text behind b is low few cut =
    let size : length behind ≡ length text - b = ap length cut ∙ length-drop b text in
    let at : length given - length text + b ≡ length given - length behind = omega arith in (
      omega arith,
      cut
          ∙ ap (drop b) is
          ∙ drop-drop b (length given - length text) given
          ∙ ap (λ n. drop n given) at,
    )

-- ---- one line more
left_more :
    (context : StoreContext) (closing : List State) (ls ms : List TraceLine) (ns ks : List ℕ)
    (found states : List State) (ps qs us : List Processor) (F G H : ℕ → ℕ → ℕ)
    (given text : List ℕ) (l : TraceLine) (k b : ℕ)
    (h : HasReply context closing (processor_at qs l.cpu) l (take k states) text b)
    → is_quiet l.act ≡ false
    → l.cpu < length qs
    → k ≤ length states
    → us ≡ processors_after qs (record { line = l; reply = h.reply })
    → AllLeadTo G l.cpu (events_in (processor_at qs l.cpu) (record { line = l; reply = h.reply })) H
    → IsLeft context closing ls (l ∷ ms) ns (k ∷ ks) found states ps qs F G given text
    → IsLeft context closing ls ms ns ks found (drop k states) ps us F H given (drop b text)
left_more context closing ls ms ns ks found states ps qs us F G H given text l k b h plain low few
    next leads left =
    record {
      on =
          λ rs rest later z.
          left.on (h.reply ∷ rs) rest later
          (more_on context closing l ms k ks states qs us G H text b h low few next leads rs rest
          later z);
      back = λ rs rest later z.
          let here = left.back rs rest later z in
          more_back context closing l ms k ks states qs us G H text b h plain low next leads here.0
          rest
          later here.1;
    }

-- a line with no reply that stands
none_more :
    (context : StoreContext) (closing : List State) (ms : List TraceLine) (ks : List ℕ)
    (states : List State) (qs : List Processor) (G : ℕ → ℕ → ℕ) (text : List ℕ) (l : TraceLine)
    (k : ℕ)
    →
    ((r : Reply) (rest : List ℕ) (later : List Event)
    → StandsOn context closing (processor_at qs l.cpu) l (take k states) r
    → text ≡ reply_text l r ++ rest
    →
    ((e : ℕ)
    → InOrder e (G l.cpu e)
    (events_in (processor_at qs l.cpu) (record { line = l; reply = r }) ++ later))
    → ⊥)
    → (rs : List Reply) (rest : List ℕ) (later : List Processor)
    → AreReplied (judged context closing (l ∷ ms) (k ∷ ks) states) qs G text rs rest later
    → ⊥
none_more context closing ms ks states qs G text l k none [] rest later z = absurd z.stand
none_more context closing ms ks states qs G text l k none (r ∷ rs) rest later z =
    let ts = lines_with_replies ms rs in
    let t : RepliedLine = record { line = l; reply = r } in
    none r (lines_text ts ++ rest)
    (events_by (processor_after (processor_at qs l.cpu) l.act r) (lines_of_processor l.cpu ts))
    z.stand.1 (z.text ∙ append_assoc (reply_text l r) (lines_text ts) rest)
    (first_order G qs t ts z.in_order)

-- a line that wants more states than were found
too_few :
    (context : StoreContext) (closing : List State) (ms : List TraceLine) (ks : List ℕ)
    (states : List State) (qs : List Processor) (G : ℕ → ℕ → ℕ) (text : List ℕ) (l : TraceLine)
    (k : ℕ)
    → length states < k
    → (rs : List Reply) (rest : List ℕ) (later : List Processor)
    → AreReplied (judged context closing (l ∷ ms) (k ∷ ks) states) qs G text rs rest later
    → ⊥
too_few context closing ms ks states qs G text l k more [] rest later z = absurd z.stand
too_few context closing ms ks states qs G text l k more (r ∷ rs) rest later z =
    omega (arith, more, z.stand.0)

-- no line is left
over :
    (context : StoreContext) (closing : List State) (states : List State) (qs : List Processor)
    (G : ℕ → ℕ → ℕ) (text : List ℕ) (rs : List Reply) (rest : List ℕ) (later : List Processor)
    → AreReplied (judged context closing [] [] states) qs G text rs rest later
    → states ≡ []
over context closing states qs G text [] rest later z = z.stand
over context closing states qs G text (r ∷ rs) rest later z = absurd z.stand

-- ---- as the loop has them
-- What is left to judge of a section, from the i-th line and count on, decides of it both ways.
abbrev pub Left :
    StoreContext
    → List State
    → List TraceLine
    → List ℕ
    → ℕ
    → List State
    → List State
    → List Processor
    → List Processor
    → (ℕ → ℕ → ℕ)
    → (ℕ → ℕ → ℕ)
    → List ℕ
    → List ℕ
    → Type 0
Left context closing ls ns i found states ps qs F G given text =
    IsLeft context closing ls (drop i ls) ns (drop i ns) found states ps qs F G given text

-- What is said of a line.
abbrev pub Told :
    StoreContext
    → List State
    → TraceLine
    → List State
    → List ℕ
    → List Processor
    → (ℕ → ℕ → ℕ)
    → Option ℕ
    → List Processor
    → (ℕ → ℕ → ℕ)
    → Type 0
Told context closing l mine text qs G o us H =
    TellsLine
    (record { context = context; closing = closing; line = l; found = mine; given = text }) qs G
    o us H

module _ (context : StoreContext) (closing : List State) (ls : List TraceLine) (ns : List ℕ) (i : ℕ)
    (found states : List State) (ps qs : List Processor) (F G : ℕ → ℕ → ℕ) (given text : List ℕ)
    (left : Left context closing ls ns i found states ps qs F G given text) where
  at_line :
      (l d : TraceLine) (k : ℕ)
      → i < length ls
      → i < length ns
      → l ≡ get_or ls i d
      → k ≡ get_or ns i 0
      → IsLeft context closing ls (l ∷ drop (i + 1) ls) ns (k ∷ drop (i + 1) ns) found states ps qs
      F G given text
  at_line l d k low low' at at' =
      let e : drop i ls ≡ l ∷ drop (i + 1) ls = drop_more ls i d low ∙ ap (λ z. z ∷ drop (i + 1) ls)
      (sym at) in
      let f : drop i ns ≡ k ∷ drop (i + 1) ns = drop_more ns i 0 low' ∙ ap
      (λ z. z ∷ drop (i + 1) ns) (sym at') in
      subst
      (λ (z : List TraceLine × List ℕ).
      IsLeft context closing ls z.0 ns z.1 found states ps qs F G given text) (λ j. (e j, f j))
      left

  pub step_left :
      (l d : TraceLine) (k b : ℕ) (mine others : List State) (us : List Processor) (H : ℕ → ℕ → ℕ)
      → i < length ls
      → i < length ns
      → l ≡ get_or ls i d
      → k ≡ get_or ns i 0
      → is_quiet l.act ≡ false
      → l.cpu < length qs
      → k ≤ length states
      → mine ≡ take k states
      → others ≡ drop k states
      → Told context closing l mine text qs G (Some b) us H
      → Left context closing ls ns (i + 1) found others ps us F H given (drop b text)
  step_left l d k b mine others us H low low' at at' plain cpu few cut behind told =
      let own : Told context closing l (take k states) text qs G (Some b) us H = subst
      (λ z. Told context closing l z text qs G (Some b) us H) cut told in
      subst
      (λ z.
      IsLeft context closing ls (drop (i + 1) ls) ns (drop (i + 1) ns) found z ps us F H given
      (drop b text)) (sym behind)
      (left_more context closing ls (drop (i + 1) ls) ns (drop (i + 1) ns) found states ps qs us F G
      H given text l k b own.0 plain cpu few own.1 own.2 (at_line l d k low low' at at'))

  pub none_left :
      (l d : TraceLine) (k : ℕ) (mine : List State) (us later : List Processor) (H : ℕ → ℕ → ℕ)
      → i < length ls
      → i < length ns
      → l ≡ get_or ls i d
      → k ≡ get_or ns i 0
      → mine ≡ take k states
      → Told context closing l mine text qs G None us H
      → TellsLines (judged context closing ls ns found) ps F given None later
  none_left l d k mine us later H low low' at at' cut told rs rest behind z =
      let own : Told context closing l (take k states) text qs G None us H = subst
      (λ z. Told context closing l z text qs G None us H) cut told in
      let k' = (at_line l d k low low' at at').back rs rest behind z in
      none_more context closing (drop (i + 1) ls) (drop (i + 1) ns) states qs G text l k own k'.0
      rest behind k'.1

  pub few_left :
      (l d : TraceLine) (k : ℕ) (later : List Processor)
      → i < length ls
      → i < length ns
      → l ≡ get_or ls i d
      → k ≡ get_or ns i 0
      → length states < k
      → TellsLines (judged context closing ls ns found) ps F given None later
  few_left l d k later low low' at at' more rs rest behind z =
      let k' = (at_line l d k low low' at at').back rs rest behind z in
      too_few context closing (drop (i + 1) ls) (drop (i + 1) ns) states qs G text l k more k'.0
      rest behind k'.1

  -- ---- the end
  pub end_left :
      length ls ≤ i
      → length ns ≤ i
      → states ≡ []
      → length text ≤ length given
      → text ≡ drop (length given - length text) given
      → TellsLines (judged context closing ls ns found) ps F given
      (Some (length given - length text)) qs
  end_left past past' none within cut =
      let e = drop_all i ls past in
      let f = drop_all i ns past' in
      let here : AreReplied (judged context closing [] [] states) qs G text [] text qs = record {
        stand = none;
        in_order = λ cpu e. tt;
        text = refl;
        behind = refl;
      } in
      let all = left.on [] text qs
      (subst
      (λ (z : List TraceLine × List ℕ).
      AreReplied (judged context closing z.0 z.1 states) qs G text [] text qs)
      (λ j. (sym e j, sym f j)) here) in (
        omega arith,
        (
          all.0,
          subst (λ z. AreReplied (judged context closing ls ns found) ps F given all.0 z qs) cut
              all.1,
        ),
      )

  pub over_left :
      (later : List Processor)
      → length ls ≤ i
      → length ns ≤ i
      → (states ≡ [] → ⊥)
      → TellsLines (judged context closing ls ns found) ps F given None later
  over_left later past past' some rs rest behind z =
      let e = drop_all i ls past in
      let f = drop_all i ns past' in
      let k = left.back rs rest behind z in
      some
      (over context closing states qs G text k.0 rest behind
      (subst
      (λ (z : List TraceLine × List ℕ).
      AreReplied (judged context closing z.0 z.1 states) qs G text k.0 rest behind)
      (λ j. (e j, f j)) k.1))

-- ---- fronts that are the same
pub same_fronts :
    (j : Judged) (ps later : List Processor) (F G : ℕ → ℕ → ℕ) (given : List ℕ) (o : Option ℕ)
    → ((cpu e : ℕ) → G cpu e ≡ F cpu e)
    → TellsLines j ps G given o later
    → TellsLines j ps F given o later
same_fronts j ps later F G given o same h =
    subst (λ z. TellsLines j ps z given o later) (λ i cpu e. same cpu e i) h
