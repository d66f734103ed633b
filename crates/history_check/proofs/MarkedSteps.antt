-- The steps of lines by their marks, and the numbered steps that they are.
use Rattle.std.specs.List.{AllByRecursion}
use Rattle.std.proofs.Common.{◌≡◌, ℕ, suc, ◌+◌, ◌<◌, ◌≤◌, List, [], ◌∷◌, ◌++◌, ap, sym, ◌∙◌, refl, subst, length, map, arith, append_assoc, append-nil}
use Rattle.std.proofs.lemmas.List.{length-append, length-map, map-append}
use Rattle.trace_line.specs.declared.line.TraceLine.{TraceLine}
use Rattle.trace_line.specs.declared.act.Act.{Act}
use Rattle.basics.proofs.Each.{each_append}
use Rattle.receipt_text.specs.declared.mark.Mark.{Mark}
use Rattle.history_check.specs.PlacedSteps.{PlacedStep, AreInTable, line_op, placed_mark, placed_line}
use Rattle.history_check.specs.OrderedSteps.{IsStepOf, numbered, numbered_by, act_at}
use Rattle.history_check.specs.MarkSteps.{mark_steps, lines_steps}
use Rattle.history_check.specs.SectionMarks.{section_steps}

-- The marks are of entries of a table of this size.
abbrev pub AreOf : ℕ → List Mark → Type 0
AreOf size ms = AllByRecursion (λ (m : Mark). m.entry < size) ms

-- ---- how many
pub mark_count :
    (line index : ℕ) (act : Act) (ms : List Mark)
    → length (mark_steps line index act ms) ≡ length ms
mark_count line index act [] = refl
mark_count line index act (m ∷ ms) = ap suc (mark_count line (index + 1) act ms)

-- ---- one line more
pub steps_more :
    (line index : ℕ) (ls : List TraceLine) (l : TraceLine) (mss : List (List Mark)) (ms : List Mark)
    → length mss ≡ length ls
    → lines_steps line index (ls ++ l ∷ []) (mss ++ ms ∷ [])
    ≡ lines_steps line index ls mss
    ++ mark_steps (line + length ls) (index + length (lines_steps line index ls mss)) l.act ms
steps_more line index [] l [] ms e =
    append-nil (mark_steps line index l.act ms)
    ∙ (λ i. mark_steps (none line i) (none index i) l.act ms) where
      none : (n : ℕ) → n ≡ n + 0
      none n = omega arith
steps_more line index [] l (n ∷ mss) ms e = absurd (omega (arith, e))
steps_more line index (k ∷ ls) l [] ms e = absurd (omega (arith, e))
steps_more line index (k ∷ ls) l (n ∷ mss) ms e =
    let first = mark_steps line index k.act n in
    let later = lines_steps (line + 1) (index + length n) ls mss in
    ap (λ z. first ++ z)
    (steps_more (line + 1) (index + length n) ls l mss ms (omega (arith, e))
    ∙ (λ i. later ++ mark_steps (lines i) (steps i) l.act ms))
    ∙ sym
    (append_assoc first later
    (mark_steps (line + length (k ∷ ls)) (index + length (first ++ later)) l.act ms)) where
      lines : line + 1 + length ls ≡ line + length (k ∷ ls)
      lines = omega arith

      steps :
          index + length n + length (lines_steps (line + 1) (index + length n) ls mss)
          ≡ index
          + length
          (mark_steps line index k.act n ++ lines_steps (line + 1) (index + length n) ls mss)
      steps =
          omega (
            arith,
            length-append (mark_steps line index k.act n)
                (lines_steps (line + 1) (index + length n) ls mss),
            mark_count line index k.act n,
          )

-- ---- the numbered steps
numbered_append :
    (i j : ℕ) (xs ys : List PlacedStep)
    → j ≡ i + length xs
    → numbered i (xs ++ ys) ≡ numbered i xs ++ numbered j ys
numbered_append i j [] ys e = ap (λ z. numbered z ys) (let k : i ≡ j = omega (arith, e) in k)
numbered_append i j (x ∷ xs) ys e =
    ap (λ l. record { index = i; placed = x } ∷ l)
    (numbered_append (i + 1) j xs ys (omega (arith, e)))

marks_numbered :
    (ls : List TraceLine) (line index : ℕ) (act : Act) (ms : List Mark)
    → act_at ls line ≡ act
    → map (numbered_by ls) (mark_steps line index act ms) ≡ numbered index (placed_line act ms)
marks_numbered ls line index act [] e = refl
marks_numbered ls line index act (m ∷ ms) e =
    λ i.
    record {
      index = index;
      placed =
          record {
            place = (placed_mark act m).place;
            step = record { entry = m.entry; op = line_op (e i) m.answer; answer = m.answer };
          };
    }
    ∷ marks_numbered ls line (index + 1) act ms e i

act_behind :
    (front : List TraceLine) (l : TraceLine) (ls : List TraceLine)
    → act_at (front ++ l ∷ ls) (length front) ≡ l.act
act_behind [] l ls = refl
act_behind (f ∷ front) l ls = act_behind front l ls

-- `front` are the lines before
pub lines_numbered :
    (all front : List TraceLine) (index : ℕ) (ls : List TraceLine) (mss : List (List Mark))
    → all ≡ front ++ ls
    → map (numbered_by all) (lines_steps (length front) index ls mss)
    ≡ numbered index (section_steps ls mss)
lines_numbered all front index [] mss e = refl
lines_numbered all front index (l ∷ ls) [] e = refl
lines_numbered all front index (l ∷ ls) (ms ∷ mss) e =
    let first = mark_steps (length front) index l.act ms in
    let later = lines_steps (length front + 1) (index + length ms) ls mss in
    let here : act_at all (length front) ≡ l.act = ap (λ z. act_at z (length front)) e ∙ act_behind
    front l ls in
    let next : length (front ++ l ∷ []) ≡ length front + 1 = length-append front (l ∷ []) in
    let rest : map (numbered_by all) later ≡ numbered (index + length ms) (section_steps ls mss) =
    subst
    (λ n.
    map (numbered_by all) (lines_steps n (index + length ms) ls mss)
    ≡ numbered (index + length ms) (section_steps ls mss)) next
    (lines_numbered all (front ++ l ∷ []) (index + length ms) ls mss
    (e ∙ sym (append_assoc front (l ∷ []) ls))) in
    map-append (numbered_by all) first later
    ∙ (λ i. marks_numbered all (length front) index l.act ms here i ++ rest i)
    ∙ sym
    (numbered_append index (index + length ms) (placed_line l.act ms) (section_steps ls mss)
    (ap (λ n. index + n) (sym (length-map ms (placed_mark l.act)))))

-- ---- ranges
marks_within :
    (size lines steps line index : ℕ) (act : Act) (ms : List Mark)
    → line < lines
    → index + length ms ≤ steps
    → AreOf size ms
    → AllByRecursion (IsStepOf size lines steps) (mark_steps line index act ms)
marks_within size lines steps line index act [] low few h = tt
marks_within size lines steps line index act (m ∷ ms) low few h = (
  record { entry = h.0; line = low; index = omega arith },
  marks_within size lines steps line (index + 1) act ms low (omega arith) h.1,
)

pub lines_within :
    (size lines steps line index : ℕ) (ls : List TraceLine) (mss : List (List Mark))
    → line + length ls ≤ lines
    → index + length (lines_steps line index ls mss) ≤ steps
    → AllByRecursion (AreOf size) mss
    → AllByRecursion (IsStepOf size lines steps) (lines_steps line index ls mss)
lines_within size lines steps line index [] mss low few h = tt
lines_within size lines steps line index (l ∷ ls) [] low few h = tt
lines_within size lines steps line index (l ∷ ls) (ms ∷ mss) low few h =
    let first = mark_steps line index l.act ms in
    let later = lines_steps (line + 1) (index + length ms) ls mss in
    let all : length (first ++ later) ≡ length ms + length later = length-append first later ∙ ap
    (λ n. n + length later) (mark_count line index l.act ms) in
    each_append (IsStepOf size lines steps) first later
    (marks_within size lines steps line index l.act ms (omega arith) (omega (arith, all, few))
    h.0)
    (lines_within size lines steps (line + 1) (index + length ms) ls mss (omega arith)
    (omega (arith, all, few)) h.1)

marks_in_table :
    (size : ℕ) (act : Act) (ms : List Mark) → AreOf size ms → AreInTable size (placed_line act ms)
marks_in_table size act [] h = tt
marks_in_table size act (m ∷ ms) h = (h.0, marks_in_table size act ms h.1)

pub section_within :
    (size : ℕ) (ls : List TraceLine) (mss : List (List Mark))
    → AllByRecursion (AreOf size) mss
    → AreInTable size (section_steps ls mss)
section_within size [] mss h = tt
section_within size (l ∷ ls) [] h = tt
section_within size (l ∷ ls) (ms ∷ mss) h =
    each_append (λ (x : PlacedStep). x.step.entry < size) (placed_line l.act ms)
    (section_steps ls mss) (marks_in_table size l.act ms h.0) (section_within size ls mss h.1)
