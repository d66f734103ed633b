-- Parts of a text, by the lines that they are of.
use Rattle.std.specs.Prelude.{None}
use Rattle.std.specs.Prelude.{◌==◌, filter}
use Rattle.std.specs.List.{AllByRecursion}
use Rattle.std.proofs.Common.{◌≡◌, ℕ, zero, suc, ◌+◌, ◌-◌, ◌≤◌, List, [], ◌∷◌, ◌++◌, Bool, true, false, ap, sym, ◌∙◌, refl, subst, ◌⊎◌, inl, inr, map, length, take, drop, arith, append_assoc, append-nil}
use Rattle.std.proofs.lemmas.Bool.{cases_Bool, eqb-true, false≢true}
use Rattle.std.proofs.lemmas.List.{length-append}
use Rattle.std.proofs.Math.Seq.{take-append_seam, drop-append_seam}
use Rattle.trace_line.specs.declared.act.Act.{Act}
use Rattle.trace_line.specs.declared.line.TraceLine.{TraceLine}
use Rattle.trace_line.specs.Lines.{is_quiet}
use Rattle.trace_reply.specs.Replies.{RepliedLine, IsOfKind, receipts_in}
use Rattle.reply_text.specs.Text.{reply_text}
use Rattle.receipt_text.specs.Cuts.{lacks}
use Rattle.receipt_text.specs.Receipts.{receipts_text}
use Rattle.receipt_text.proofs.Bytes.{lacks_append, lacks_back, cut_at}
use Rattle.receipt_text.proofs.ReadBack.{receipts_lack}
use Rattle.run_model.specs.AllStores.{AllStores}
use Rattle.run_model.specs.StoreNumbers.{store_at, store_of}
use Rattle.run_model.specs.Stores.{is_on, lines_on}
use Rattle.run_model.proofs.StoreNumbers.{store_inside, on_own}
use Rattle.history_check.specs.FoundSection.{lines_text}
use Rattle.history_check.specs.FoundStores.{windows_of}
use Rattle.history_check.specs.PartedText.{first_told, behind_told, behind_lines, part_text}
use Rattle.history_check.proofs.LineMarks.{line_of}

-- ---- up to the first end of a line
pub first_at :
    (a b : List ℕ)
    → lacks 10 a ≡ true
    → (first_told (a ++ 10 ∷ b) ≡ a ++ 10 ∷ []) × (behind_told (a ++ 10 ∷ b) ≡ b)
first_at [] b h = (refl, refl)
first_at (c ∷ a) b h = at (cases_Bool (c == 10)) (first_at a b) where
  at :
      (c == 10 ≡ true) ⊎ (c == 10 ≡ false)
      →
      (lacks 10 a ≡ true
      → (first_told (a ++ 10 ∷ b) ≡ a ++ 10 ∷ []) × (behind_told (a ++ 10 ∷ b) ≡ b))
      → (first_told (c ∷ a ++ 10 ∷ b) ≡ c ∷ a ++ 10 ∷ []) × (behind_told (c ∷ a ++ 10 ∷ b) ≡ b)
  at (inl q) rest = absurd (let k = rw q at h in false≢true k)
  at (inr q) rest = let k = rest (rw q at h) in (rw q (ap (λ z. c ∷ z) k.0), rw q k.1)

pub first_none :
    (text : List ℕ) → lacks 10 text ≡ true → (first_told text ≡ text) × (behind_told text ≡ [])
first_none [] h = (refl, refl)
first_none (c ∷ text) h = at (cases_Bool (c == 10)) (first_none text) where
  at :
      (c == 10 ≡ true) ⊎ (c == 10 ≡ false)
      → (lacks 10 text ≡ true → (first_told text ≡ text) × (behind_told text ≡ []))
      → (first_told (c ∷ text) ≡ c ∷ text) × (behind_told (c ∷ text) ≡ [])
  at (inl q) rest = absurd (let k = rw q at h in false≢true k)
  at (inr q) rest = let k = rest (rw q at h) in (rw q (ap (λ z. c ∷ z) k.0), rw q k.1)

pub told_parts : (text : List ℕ) → text ≡ first_told text ++ behind_told text
told_parts [] = refl
told_parts (c ∷ text) = at (cases_Bool (c == 10)) (told_parts text) where
  at :
      (c == 10 ≡ true) ⊎ (c == 10 ≡ false)
      → text ≡ first_told text ++ behind_told text
      → c ∷ text ≡ first_told (c ∷ text) ++ behind_told (c ∷ text)
  at (inl q) rest = rw q refl
  at (inr q) rest = rw q (ap (λ z. c ∷ z) rest)

-- A text with an end of a line, cut there.
record HasEnd (text : List ℕ) : Type 0 where
  pub before : List ℕ
  pub after : List ℕ
  pub none : lacks 10 before ≡ true
  pub cut : text ≡ before ++ 10 ∷ after

end_of : (text : List ℕ) → (lacks 10 text ≡ true) ⊎ HasEnd text
end_of [] = inl refl
end_of (c ∷ text) = at (cases_Bool (c == 10)) (end_of text) where
  at :
      (c == 10 ≡ true) ⊎ (c == 10 ≡ false)
      → (lacks 10 text ≡ true) ⊎ HasEnd text
      → (lacks 10 (c ∷ text) ≡ true) ⊎ HasEnd (c ∷ text)
  at (inl q) rest =
      inr
      (record {
        before = [];
        after = text;
        none = refl;
        cut = ap (λ z. z ∷ text) (eqb-true c 10 q);
      })
  at (inr q) (inl h) = inl (rw q h)
  at (inr q) (inr e) =
      inr
      (record {
        before = c ∷ e.before;
        after = e.after;
        none = rw q e.none;
        cut = ap (λ z. c ∷ z) e.cut;
      })

-- ---- after so many lines
pub one_behind :
    (n : ℕ) (text : List ℕ) → behind_lines (n + 1) text ≡ behind_told (behind_lines n text)
one_behind zero text = refl
one_behind (suc n) text =
    ap (λ k. behind_lines k text) (let e : suc n + 1 ≡ suc (n + 1) = omega arith in e)
    ∙ one_behind n (behind_told text)

dropped : (a b : List ℕ) → drop (length (a ++ b) - length b) (a ++ b) ≡ b
dropped [] b = ap (λ n. drop n b) (let e : length b - length b ≡ 0 = omega arith in e)
dropped (x ∷ a) b =
    let size : length (a ++ b) ≡ length a + length b = length-append a b in
    let e : suc (length (a ++ b)) - length b ≡ suc (length (a ++ b) - length b) = omega arith in
    ap (λ n. drop n (x ∷ a ++ b)) e ∙ dropped a b

record IsFrontOf (n : ℕ) (text : List ℕ) : Type 0 where
  pub front : List ℕ
  pub all : text ≡ front ++ behind_lines n text

front_of : (n : ℕ) (text : List ℕ) → IsFrontOf n text
front_of zero text = record { front = []; all = refl }
front_of (suc n) text =
    let rest = front_of n (behind_told text) in
    record {
      front = first_told text ++ rest.front;
      all =
          told_parts text
          ∙ ap (λ z. first_told text ++ z) rest.all
          ∙ sym (append_assoc (first_told text) rest.front (behind_lines n (behind_told text)));
    }

pub behind_drops :
    (n : ℕ) (text : List ℕ)
    → (length (behind_lines n text) ≤ length text)
    × (drop (length text - length (behind_lines n text)) text ≡ behind_lines n text)
behind_drops n text =
    let f = front_of n text in
    let size : length text ≡ length f.front + length (behind_lines n text) = ap length f.all ∙
    length-append f.front (behind_lines n text) in (
      omega arith,
      ap (λ (z : List ℕ). drop (length z - length (behind_lines n text)) z) f.all
          ∙ dropped f.front (behind_lines n text),
    )

-- The text is cut after its first line's end.
pub cut_here :
    (told others text : List ℕ)
    → lacks 10 told ≡ true
    → text ≡ told ++ 10 ∷ others
    → (take (length told + 1) text ≡ first_told text)
    × (drop (length told + 1) text ≡ behind_told text)
cut_here told others text none is =
    let k = first_at told others none in
    let size : length told + 1 ≡ length (told ++ 10 ∷ []) = sym (length-append told (10 ∷ [])) in
    let whole : text ≡ (told ++ 10 ∷ []) ++ others = is ∙ sym (append_assoc told (10 ∷ []) others)
    in (
      (λ i. take (size i) (whole i))
          ∙ take-append_seam (told ++ 10 ∷ []) others
          ∙ sym (ap first_told is ∙ k.0),
      (λ i. drop (size i) (whole i))
          ∙ drop-append_seam (told ++ 10 ∷ []) others
          ∙ sym (ap behind_told is ∙ k.1),
    )

-- ---- what lines show
-- Where the test passes a line, its reply is the next line of text.
abbrev pub Tell : (Act → Bool) → List RepliedLine → List ℕ → Type 0
Tell f [] text = Unit {0}
Tell f (t ∷ ts) text =
    (f t.line.act ≡ true → first_told text ≡ reply_text t.line t.reply)
    × Tell f ts (behind_told text)

-- The replies to all lines are lines of text.
abbrev pub AllTell : List RepliedLine → List ℕ → Type 0
AllTell [] text = Unit {0}
AllTell (t ∷ ts) text =
    (first_told text ≡ reply_text t.line t.reply) × AllTell ts (behind_told text)

-- The reply is of the kind of its line, which isn't quiet.
pub record IsPlainReply (t : RepliedLine) : Type 0 where
  pub plain : is_quiet t.line.act ≡ false
  pub kind : IsOfKind t.line.act t.reply

-- None of the lines is quiet, and each reply is of its line's kind.
abbrev pub ArePlainReplies : List RepliedLine → Type 0
ArePlainReplies ts = AllByRecursion IsPlainReply ts

-- A reply without the end of its line.
record IsToldBy (t : RepliedLine) : Type 0 where
  pub words : List ℕ
  pub none : lacks 10 words ≡ true
  pub text : reply_text t.line t.reply ≡ words ++ 10 ∷ []

told_by : (t : RepliedLine) → IsPlainReply t → IsToldBy t
told_by t h =
    let is = line_of t.line t.reply h.plain h.kind in
    record {
      words = is.front ++ receipts_text (receipts_in t.reply);
      none =
          lacks_append 10 is.front (receipts_text (receipts_in t.reply)) is.is_front.no_end
          (receipts_lack (receipts_in t.reply));
      text = is.text;
    }

one_told :
    (t : RepliedLine) (rest : List ℕ)
    → IsPlainReply t
    → (first_told (reply_text t.line t.reply ++ rest) ≡ reply_text t.line t.reply)
    × (behind_told (reply_text t.line t.reply ++ rest) ≡ rest)
one_told t rest h =
    let is = told_by t h in
    let whole : reply_text t.line t.reply ++ rest ≡ is.words ++ 10 ∷ rest = ap (λ z. z ++ rest)
    is.text ∙ append_assoc is.words (10 ∷ []) rest in
    let k = first_at is.words rest is.none in
    (ap first_told whole ∙ k.0 ∙ sym is.text, ap behind_told whole ∙ k.1)

pub text_tells :
    (ts : List RepliedLine) (text rest : List ℕ)
    → ArePlainReplies ts
    → text ≡ lines_text ts ++ rest
    → AllTell ts text
text_tells [] text rest h e = tt
text_tells (t ∷ ts) text rest h e =
    let here : text ≡ reply_text t.line t.reply ++ (lines_text ts ++ rest) = e ∙ append_assoc
    (reply_text t.line t.reply) (lines_text ts) rest in
    let k = one_told t (lines_text ts ++ rest) h.0 in (
      ap first_told here ∙ k.0,
      text_tells ts (behind_told text) rest h.1 (ap behind_told here ∙ k.1),
    )

pub tells_text :
    (ts : List RepliedLine) (text : List ℕ)
    → AllTell ts text
    → text ≡ lines_text ts ++ behind_lines (length ts) text
tells_text [] text h = refl
tells_text (t ∷ ts) text h =
    told_parts text
    ∙ (λ i. h.0 i ++ tells_text ts (behind_told text) h.1 i)
    ∙ sym
    (append_assoc (reply_text t.line t.reply) (lines_text ts)
    (behind_lines (length ts) (behind_told text)))

-- The lines without their replies.
abbrev pub lines_in : List RepliedLine → List TraceLine
lines_in ts = map (λ (t : RepliedLine). t.line) ts

pub tells_part :
    (f : Act → Bool) (ts : List RepliedLine) (text : List ℕ)
    → AllTell ts text
    → part_text f (lines_in ts) text ≡ lines_text (filter (λ (t : RepliedLine). f t.line.act) ts)
tells_part f [] text h = refl
tells_part f (t ∷ ts) text h =
    at (cases_Bool (f t.line.act)) (tells_part f ts (behind_told text) h.1) where
      at :
          (f t.line.act ≡ true) ⊎ (f t.line.act ≡ false)
          → part_text f (lines_in ts) (behind_told text) ≡ lines_text (lines_on f ts)
          → part_text f (lines_in (t ∷ ts)) text ≡ lines_text (lines_on f (t ∷ ts))
      at (inl q) rest = rw q (λ i. h.0 i ++ rest i)
      at (inr q) rest = rw q rest

none_told : (f : Act → Bool) (ls : List TraceLine) → part_text f ls [] ≡ []
none_told f [] = refl
none_told f (l ∷ ls) = at (cases_Bool (f l.act)) (none_told f ls) where
  at :
      (f l.act ≡ true) ⊎ (f l.act ≡ false)
      → part_text f ls [] ≡ []
      → part_text f (l ∷ ls) [] ≡ []
  at (inl q) rest = rw q rest
  at (inr q) rest = rw q rest

-- A part that begins with a reply is of a text that begins with it.
head_tells :
    (t : RepliedLine) (f : Act → Bool) (ls : List TraceLine) (text rest : List ℕ)
    → IsPlainReply t
    → first_told text ++ part_text f ls (behind_told text) ≡ reply_text t.line t.reply ++ rest
    → (first_told text ≡ reply_text t.line t.reply) × (part_text f ls (behind_told text) ≡ rest)
head_tells t f ls text rest h e = at (end_of text) where
  is : IsToldBy t
  is = told_by t h

  whole : reply_text t.line t.reply ++ rest ≡ is.words ++ 10 ∷ rest
  whole = ap (λ z. z ++ rest) is.text ∙ append_assoc is.words (10 ∷ []) rest

  at :
      (lacks 10 text ≡ true) ⊎ HasEnd text
      → (first_told text ≡ reply_text t.line t.reply) × (part_text f ls (behind_told text) ≡ rest)
  at (inl none) =
      let k = first_none text none in
      let all : text ≡ is.words ++ 10 ∷ rest = sym (append-nil text) ∙
      (λ i. sym k.0 i ++ sym (ap (part_text f ls) k.1 ∙ none_told f ls) i) ∙ e ∙ whole in
      absurd
      (let no : false ≡ true = lacks_back 10 is.words (10 ∷ rest)
      (subst (λ z. lacks 10 z ≡ true) all none) in
      false≢true no)
  at (inr end) =
      let k = first_at end.before end.after end.none in
      let first : first_told text ≡ end.before ++ 10 ∷ [] = ap first_told end.cut ∙ k.0 in
      let c = cut_at 10 end.before is.words (part_text f ls (behind_told text)) rest end.none
      is.none
      (sym (append_assoc end.before (10 ∷ []) (part_text f ls (behind_told text)))
      ∙ ap (λ z. z ++ part_text f ls (behind_told text)) (sym first)
      ∙ e
      ∙ whole) in
      (first ∙ ap (λ z. z ++ 10 ∷ []) c.0 ∙ sym is.text, c.1)

pub part_tells :
    (f : Act → Bool) (ts : List RepliedLine) (text rest : List ℕ)
    → ArePlainReplies ts
    → part_text f (lines_in ts) text
    ≡ lines_text (filter (λ (t : RepliedLine). f t.line.act) ts) ++ rest
    → Tell f ts text
part_tells f [] text rest h e = tt
part_tells f (t ∷ ts) text rest h e =
    at (cases_Bool (f t.line.act)) (λ z. part_tells f ts (behind_told text) rest h.1 z) where
      at :
          (f t.line.act ≡ true) ⊎ (f t.line.act ≡ false)
          →
          (part_text f (lines_in ts) (behind_told text) ≡ lines_text (lines_on f ts) ++ rest
          → Tell f ts (behind_told text))
          → Tell f (t ∷ ts) text
      at (inl q) go =
          let mine = rw q at e in
          let k = head_tells t f (lines_in ts) text
          (lines_text (lines_on f ts) ++ rest) h.0
          (mine ∙ append_assoc (reply_text t.line t.reply) (lines_text (lines_on f ts)) rest) in
          ((λ on. k.0), go k.1)
      at (inr q) go =
          ((λ on. absurd (let no : false ≡ true = sym q ∙ on in false≢true no)), go (rw q at e))

-- ---- each line is on a store
pub all_tell :
    (s : AllStores) (ts : List RepliedLine) (text : List ℕ)
    → s.table.window ≡ None
    →
    ((number : ℕ)
    → number ≤ length s.windows
    → Tell (is_on (windows_of s) (store_at s number).window) ts text)
    → AllTell ts text
all_tell s [] text named h = tt
all_tell s (t ∷ ts) text named h = (
  (h (store_of (windows_of s) t.line.act) (store_inside s.windows t.line.act)).0
      (on_own s t.line.act named),
  all_tell s ts (behind_told text) named (λ number low. (h number low).1),
)
