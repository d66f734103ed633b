-- Reading the marks of one line more of a section.
use Rattle.std.proofs.Common.{◌*◌, ◌≡◌, ℕ, zero, suc, ◌+◌, ◌<◌, ◌≤◌, List, [], ◌∷◌, ◌++◌, true, false, ap, sym, ◌∙◌, refl, subst, map, length, take, drop, get_or, arith, append_assoc, append-nil, length-append, ◌⊎◌, inl, inr}
use Rattle.std.specs.List.{AllByRecursion}
use Rattle.std.proofs.lemmas.List.{take_more, drop_more, drop_all, take_all, length-map, map-append, length-take-le, get_or_default}
use Rattle.run_model.specs.StoreContexts.{StoreContext}
use Rattle.trace_line.specs.declared.line.TraceLine.{TraceLine}
use Rattle.trace_line.specs.Lines.{is_quiet, past_lines}
use Rattle.trace_reply.specs.declared.reply.Reply.{Reply}
use Rattle.trace_reply.specs.Replies.{lines_with_replies, receipts_in}
use Rattle.reply_text.specs.Text.{reply_text}
use Rattle.basics.proofs.Each.{each_append, each_back}
use Rattle.receipt_text.specs.declared.mark.Mark.{Mark}
use Rattle.receipt_text.specs.Receipts.{mark_of, receipts_text}
use Rattle.receipt_text.specs.Cuts.{lacks}
use Rattle.receipt_text.specs.Marks.{HasMarks}
use Rattle.receipt_text.proofs.Bytes.{lacks_append, lacks_back, lacks_head, cut_at}
use Rattle.receipt_text.proofs.MarkTexts.{marks_once}
use Rattle.receipt_text.proofs.ReadBack.{line_has_marks, receipts_lack}
use Rattle.history_check.specs.declared.mark_steps.LineStep.{LineStep}
use Rattle.run_model.specs.Quiet.{NoneQuiet}
use Rattle.history_check.specs.FoundSection.{lines_text}
use Rattle.history_check.specs.PlacedSteps.{named_ops}
use Rattle.history_check.specs.OrderedSteps.{IsStepOf, numbered_by}
use Rattle.history_check.specs.MarkSteps.{mark_steps, lines_steps}
use Rattle.history_check.specs.ReplyMarks.{marks_in}
use Rattle.history_check.specs.SectionMarks.{ShowMarks, MarkEntries, ReadMarks, NoMarks}
use Rattle.history_check.proofs.LineMarks.{IsLine, line_of}
use Rattle.history_check.proofs.MarkedSteps.{AreOf, steps_more, mark_count, lines_numbered, lines_within, section_within}

-- ---- what was read
-- What is left of replies to the lines, after those whose marks were read.
pub record AreLeft (context : StoreContext) (more : List TraceLine) (rest : List ℕ)
    (read : List (List Mark)) (rs : List Reply) (end : List ℕ) :
    Type 0 where
  pub front : List Reply
  pub back : List Reply
  pub all : rs ≡ front ++ back
  pub same : map marks_in front ≡ read
  pub show : ShowMarks context more rest back end

-- The steps and counts of the first i lines' marks were read, on entries of a table of this size.
-- Any replies with which the text begins have these marks first, and the rest has the others.
pub record AreReadTo (context : StoreContext) (size : ℕ) (ls : List TraceLine) (text : List ℕ)
    (i : ℕ) (rest : List ℕ) (read : List LineStep) (sizes : List ℕ) :
    Type 0 where
  pub marks : List (List Mark)
  pub each : length marks ≡ i
  pub steps : read ≡ lines_steps 0 0 (take i ls) marks
  pub counts : sizes ≡ map length marks
  pub in_table : AllByRecursion (AreOf size) marks
  pub few : length read ≤ 16 * i
  pub left :
      (rs : List Reply) (end : List ℕ)
      → ShowMarks context ls text rs end
      → AreLeft context (drop i ls) rest marks rs end

-- ---- the next line
-- The next line's reply: the text begins with its line, which has its marks.
pub record IsNext (context : StoreContext) (l : TraceLine) (more : List TraceLine) (rest : List ℕ)
    (back : List Reply) (end : List ℕ) :
    Type 0 where
  pub reply : Reply
  pub others : List Reply
  pub line : List ℕ
  pub behind : List ℕ
  pub all : back ≡ reply ∷ others
  pub no_end : lacks 10 line ≡ true
  pub cut : rest ≡ line ++ 10 ∷ behind
  pub marks : length (named_ops context l.act) ≤ 16 → HasMarks line (marks_in reply)
  pub show : ShowMarks context more behind others end

few_marks : (n m : ℕ) → (n ≤ 16) ⊎ (n ≤ m) → m ≤ 16 → n ≤ 16
few_marks n m (inl h) k = h
few_marks n m (inr h) k = omega (arith, h, k)

next_of :
    (context : StoreContext) (l : TraceLine) (more : List TraceLine) (rest : List ℕ)
    (back : List Reply) (end : List ℕ)
    → is_quiet l.act ≡ false
    → ShowMarks context (l ∷ more) rest back end
    → IsNext context l more rest back end
next_of context l more rest [] end plain h = absurd h.kinds
next_of context l more rest (r ∷ rs) end plain h =
    let is : IsLine l r = line_of l r plain h.kinds.0 in
    let line : List ℕ = is.front ++ receipts_text (receipts_in r) in
    let behind : List ℕ = lines_text (lines_with_replies more rs) ++ end in
    record {
      reply = r;
      others = rs;
      line = line;
      behind = behind;
      all = refl;
      no_end =
          lacks_append 10 is.front (receipts_text (receipts_in r)) is.is_front.no_end
          (receipts_lack (receipts_in r));
      cut =
          h.text
          ∙ append_assoc (reply_text l r) (lines_text (lines_with_replies more rs)) end
          ∙ ap (λ z. z ++ behind) is.text
          ∙ append_assoc line (10 ∷ []) behind;
      marks =
          λ short.
          line_has_marks is.front (receipts_in r) is.is_front.no_bar
          (omega (arith, few_marks _ _ h.marks.0.few short, length-map (receipts_in r) mark_of))
          h.marks.0.marks;
      show = record { kinds = h.kinds.1; marks = h.marks.1; text = refl };
    }

abbrev Next : StoreContext → List TraceLine → ℕ → TraceLine → List ℕ → List Reply → List ℕ → Type 0
Next context ls i l rest back end = IsNext context l (drop (i + 1) ls) rest back end

next_at :
    (context : StoreContext) (ls : List TraceLine) (i : ℕ) (l : TraceLine) (rest : List ℕ)
    (back : List Reply) (end : List ℕ)
    → i < length ls
    → get_or ls i l ≡ l
    → is_quiet l.act ≡ false
    → ShowMarks context (drop i ls) rest back end
    → Next context ls i l rest back end
next_at context ls i l rest back end within is plain h =
    let here : drop i ls ≡ l ∷ drop (i + 1) ls = drop_more ls i l within ∙ ap
    (λ m. m ∷ drop (i + 1) ls) is in
    next_of context l (drop (i + 1) ls) rest back end plain
    (subst (λ ms. ShowMarks context ms rest back end) here h)

-- ---- one line more
module _ (context : StoreContext) (size : ℕ) (ls : List TraceLine) (text : List ℕ) (i : ℕ)
    (l : TraceLine) (rest : List ℕ) (read : List LineStep) (sizes : List ℕ)
    (h : AreReadTo context size ls text i rest read sizes) (within : i < length ls)
    (is : get_or ls i l ≡ l) (plain : is_quiet l.act ≡ false) where
  next :
      (rs : List Reply) (end : List ℕ) (s : ShowMarks context ls text rs end)
      → Next context ls i l rest (h.left rs end s).back end
  next rs end s =
      next_at context ls i l rest (h.left rs end s).back end within is plain (h.left rs end s).show

  pub read_more :
      (ms : List Mark) (told others : List ℕ) (read' : List LineStep) (sizes' : List ℕ)
      → length (named_ops context l.act) ≤ 16
      → lacks 10 told ≡ true
      → rest ≡ told ++ 10 ∷ others
      → HasMarks told ms
      → AreOf size ms
      → length ms ≤ 16
      → read' ≡ read ++ mark_steps i (length read) l.act ms
      → sizes' ≡ sizes ++ length ms ∷ []
      → AreReadTo context size ls text (i + 1) others read' sizes'
  read_more ms told others read' sizes' short no_end cut has entries sixteen put counted = record {
    marks = h.marks ++ ms ∷ [];
    each = length-append h.marks (ms ∷ []) ∙ ap (λ n. n + 1) h.each;
    steps =
        put
        ∙ (λ j. h.steps j ++ mark_steps (lines_before j) (steps_before j) l.act ms)
        ∙ sym (steps_more 0 0 (take i ls) l h.marks ms (omega (arith, h.each, taken)))
        ∙ ap (λ z. lines_steps 0 0 z (h.marks ++ ms ∷ [])) (sym lines);
    counts =
        counted
        ∙ ap (λ z. z ++ length ms ∷ []) h.counts
        ∙ sym (map-append length h.marks (ms ∷ []));
    in_table = each_append (AreOf size) h.marks (ms ∷ []) h.in_table (entries, tt);
    few =
        omega (
          arith,
          sixteen,
          h.few,
          ap length put,
          length-append read (mark_steps i (length read) l.act ms),
          mark_count i (length read) l.act ms,
        );
    left = λ rs end s.
        let a = h.left rs end s in
        let n = next rs end s in
        let c = cut_at 10 told n.line others n.behind no_end n.no_end (sym cut ∙ n.cut) in
        let one : marks_in n.reply ≡ ms = marks_once told (marks_in n.reply) ms
        (subst (λ z. HasMarks z (marks_in n.reply)) (sym c.0) (n.marks short)) has in
        record {
          front = a.front ++ n.reply ∷ [];
          back = n.others;
          all =
              a.all
              ∙ ap (λ z. a.front ++ z) n.all
              ∙ sym (append_assoc a.front (n.reply ∷ []) n.others);
          same = map-append marks_in a.front (n.reply ∷ []) ∙ (λ j. a.same j ++ one j ∷ []);
          show = subst (λ z. ShowMarks context (drop (i + 1) ls) z n.others end) (sym c.1) n.show;
        };
  } where
    lines : take (i + 1) ls ≡ take i ls ++ l ∷ []
    lines = take_more ls i l within ∙ ap (λ m. take i ls ++ m ∷ []) is

    taken : length (take i ls) ≡ i
    taken = length-take-le i ls (omega (arith, within))

    lines_before : i ≡ 0 + length (take i ls)
    lines_before = omega (arith, taken)

    steps_before : length read ≡ 0 + length (lines_steps 0 0 (take i ls) h.marks)
    steps_before = omega (arith, ap length h.steps)

  entries_of :
      (rs : List Reply) (end : List ℕ) (s : ShowMarks context ls text rs end)
      → MarkEntries size rs
      → AreOf size (marks_in (next rs end s).reply)
  entries_of rs end s e =
      let a = h.left rs end s in
      let n = next rs end s in
      let whole : MarkEntries size (a.front ++ n.reply ∷ n.others) = subst (MarkEntries size)
      (a.all ∙ ap (λ z. a.front ++ z) n.all) e in
      (each_back (λ r. AllByRecursion (λ (m : Mark). m.entry < size) (marks_in r)) a.front
      (n.reply ∷ n.others) whole).0

  -- No line's end follows.
  pub no_line : lacks 10 rest ≡ true → NoMarks context size ls text
  no_line none rs end s e =
      let n = next rs end s in
      lacks_head 10 n.behind
      (lacks_back 10 n.line (10 ∷ n.behind) (subst (λ z. lacks 10 z ≡ true) n.cut none))

  -- The next line has no marks.
  pub no_marks_there :
      (told others : List ℕ)
      → length (named_ops context l.act) ≤ 16
      → lacks 10 told ≡ true
      → rest ≡ told ++ 10 ∷ others
      → ((ms : List Mark) → HasMarks told ms → ⊥)
      → NoMarks context size ls text
  no_marks_there told others short no_end cut none rs end s e =
      let n = next rs end s in
      let c = cut_at 10 told n.line others n.behind no_end n.no_end (sym cut ∙ n.cut) in
      none (marks_in n.reply) (subst (λ z. HasMarks z (marks_in n.reply)) (sym c.0) (n.marks short))

  -- One of its marks is of no entry of the table.
  pub not_in_table :
      (ms : List Mark) (told others : List ℕ)
      → length (named_ops context l.act) ≤ 16
      → lacks 10 told ≡ true
      → rest ≡ told ++ 10 ∷ others
      → HasMarks told ms
      → (AreOf size ms → ⊥)
      → NoMarks context size ls text
  not_in_table ms told others short no_end cut has none rs end s e =
      let n = next rs end s in
      let c = cut_at 10 told n.line others n.behind no_end n.no_end (sym cut ∙ n.cut) in
      let one : marks_in n.reply ≡ ms = marks_once told (marks_in n.reply) ms
      (subst (λ z. HasMarks z (marks_in n.reply)) (sym c.0) (n.marks short)) has in
      none (subst (AreOf size) one (entries_of rs end s e))

-- ---- as the loop has them
pub plain_at :
    (ls : List TraceLine) (i : ℕ) (d : TraceLine)
    → i < length ls
    → NoneQuiet ls
    → is_quiet (get_or ls i d).act ≡ false
plain_at [] i d within h = absurd (omega arith)
plain_at (l ∷ ls) zero d within h = h.0
plain_at (l ∷ ls) (suc i) d within h = plain_at ls i d (omega arith) h.1

module _ (context : StoreContext) (size : ℕ) (ls : List TraceLine) (text : List ℕ) (i : ℕ)
    (rest : List ℕ) (read : List LineStep) (sizes : List ℕ)
    (h : AreReadTo context size ls text i rest read sizes) (within : i < length ls)
    (plain : NoneQuiet ls) where
  abbrev line_here : TraceLine
  line_here = get_or ls i past_lines

  same_here : get_or ls i line_here ≡ line_here
  same_here = get_or_default ls i line_here past_lines within

  pub line_read :
      (ms : List Mark) (told others : List ℕ) (read' : List LineStep) (sizes' : List ℕ)
      → length (named_ops context (get_or ls i past_lines).act) ≤ 16
      → lacks 10 told ≡ true
      → rest ≡ told ++ 10 ∷ others
      → HasMarks told ms
      → AreOf size ms
      → length ms ≤ 16
      → read' ≡ read ++ mark_steps i (length read) (get_or ls i past_lines).act ms
      → sizes' ≡ sizes ++ length ms ∷ []
      → AreReadTo context size ls text (i + 1) others read' sizes'
  line_read =
      read_more context size ls text i line_here rest read sizes h within same_here
      (plain_at ls i past_lines within plain)

  pub no_line_here : lacks 10 rest ≡ true → NoMarks context size ls text
  no_line_here =
      no_line context size ls text i line_here rest read sizes h within same_here
      (plain_at ls i past_lines within plain)

  pub no_marks_here :
      (told others : List ℕ)
      → length (named_ops context (get_or ls i past_lines).act) ≤ 16
      → lacks 10 told ≡ true
      → rest ≡ told ++ 10 ∷ others
      → ((ms : List Mark) → HasMarks told ms → ⊥)
      → NoMarks context size ls text
  no_marks_here =
      no_marks_there context size ls text i line_here rest read sizes h within same_here
      (plain_at ls i past_lines within plain)

  pub not_in_table_here :
      (ms : List Mark) (told others : List ℕ)
      → length (named_ops context (get_or ls i past_lines).act) ≤ 16
      → lacks 10 told ≡ true
      → rest ≡ told ++ 10 ∷ others
      → HasMarks told ms
      → (AreOf size ms → ⊥)
      → NoMarks context size ls text
  not_in_table_here =
      not_in_table context size ls text i line_here rest read sizes h within same_here
      (plain_at ls i past_lines within plain)

-- ---- all lines
no_more :
    (context : StoreContext) (rest : List ℕ) (back : List Reply) (end : List ℕ)
    → ShowMarks context [] rest back end
    → back ≡ []
no_more context rest [] end h = refl
no_more context rest (r ∷ rs) end h = absurd h.kinds

pub all_read :
    (context : StoreContext) (size : ℕ) (ls : List TraceLine) (text : List ℕ) (i : ℕ)
    (rest : List ℕ) (read : List LineStep) (sizes : List ℕ)
    → AreReadTo context size ls text i rest read sizes
    → i ≡ length ls
    → ReadMarks context size ls text read sizes
all_read context size ls text i rest read sizes h end = record {
  marks = h.marks;
  each = h.each ∙ end;
  numbers = ap (map (numbered_by ls)) steps ∙ lines_numbered ls [] 0 ls h.marks refl;
  within =
      subst (AllByRecursion (IsStepOf size (length ls) (length read))) (sym steps)
      (lines_within size (length ls) (length read) 0 0 ls h.marks (omega arith)
      (omega (arith, ap length steps)) h.in_table);
  counts = h.counts;
  in_table = section_within size ls h.marks h.in_table;
  only = λ rs last s.
      let a = h.left rs last s in
      let none : a.back ≡ [] = no_more context rest a.back last
      (subst (λ ms. ShowMarks context ms rest a.back last) (drop_all i ls (omega (arith, end)))
      a.show) in
      ap (map marks_in) (a.all ∙ ap (λ z. a.front ++ z) none ∙ append-nil a.front) ∙ a.same;
} where
  steps : read ≡ lines_steps 0 0 ls h.marks
  steps = h.steps ∙ ap (λ z. lines_steps 0 0 z h.marks) (take_all i ls (omega (arith, end)))
