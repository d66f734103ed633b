-- The line of an entry in an image opens the entry again.
use Rattle.std.specs.Prelude.{if◌then◌else◌, slice_index_or, codes}
use Rattle.std.proofs.Common.{◌≡◌, ℕ, zero, suc, ◌+◌, ◌^◌, ◌<◌, ◌≤◌, List, [], ◌∷◌, ◌++◌, length, Bool, true, false, Result, Ok, Err, refl, sym, ap, ◌∙◌, append_assoc, arith}
use Rattle.std.proofs.lemmas.Bool.{lt-ltb, le-leb, le-ltb}
use Rattle.number_text.specs.Numbers.{hex}
use Rattle.table_image.specs.declared.layout.Layout.{Layout}
use Rattle.table_image.specs.Image.{layout_word, digits_line}
use Rattle.trace_read.specs.declared.forms.Form.TheVariants as forms
use Rattle.trace_read.specs.declared.stage.Stage.TheVariants as stages
use Rattle.trace_read.specs.declared.why.Why.{Why}
use Rattle.trace_read.specs.Configuration.{Configuration}
use Rattle.trace_read.specs.Entries.{with_entry}
use Rattle.trace_read.specs.Forms.{form_of, form_named}
use Rattle.trace_read.specs.Grammar.{Reading, opening_reading, after_form, after_words, after_text, after_line, after_lines, most_bytes, trace_of}
use Rattle.trace_read.specs.Places.{comes_at}
use Rattle.trace_read.specs.Settings.{with_begin}
use Rattle.trace_read.specs.TextLines.{raw_lines}
use Rattle.trace_read.specs.Trace.{AcceptedTrace}
use Rattle.trace_read.specs.Whys.{◌>>=◌}
use Rattle.trace_read.proofs.TakenLines.{line_taken}
use Rattle.trace_reply.specs.ShownTable.{valid_from}
use Rattle.entry_model.specs.State.{State}
use Rattle.run_model.specs.OpeningAgain.{image_entry, entry_line_words, memory_after, with_image_entry}
use Rattle.run_model.specs.QuietLines.{shown_of}
use Rattle.run_model.specs.Laws.{ImagesOpenAgain}
use Rattle.run_model.proofs.TableSizes.{small_index, serial_sized}
use Rattle.papr_top.specs.ImageLines.{with_lfs, bytes_again, reading_after, ImageLinesOpenAgain}
use Rattle.papr_top.proofs.LineBytes.{IsLine, AreDigits, four_words, words_back, four_text, text_line, text_printable, text_whole, lines_again, lines_joined, digits_spelt, layout_spelt, entry_spelt, hex_spelt}
use Rattle.trace_line.specs.Lines.{most_lines}
use Rattle.basics.proofs.Each.{each_append}

-- ---- the index
-- What is shown has its index in the table.
module _ (x : ℕ × State) where
  shown_by :
      (first : ℕ) (s : State) (ss : List State) (valid : Bool)
      →
      ((k : ℕ)
      → k < length (valid_from (first + 1) ss)
      → slice_index_or (valid_from (first + 1) ss) k x ≡ x
      → x.0 < first + 1 + length ss)
      → (k : ℕ)
      → k
      < length (if valid then (first, s) ∷ valid_from (first + 1) ss else valid_from (first + 1) ss)
      → slice_index_or
      (if valid then (first, s) ∷ valid_from (first + 1) ss else valid_from (first + 1) ss) k x
      ≡ x
      → x.0 < first + length (s ∷ ss)
  shown_by first s ss true rest zero inside is =
      let same : first ≡ x.0 = ap (λ (y : ℕ × State). y.0) is in
      omega (arith, same)
  shown_by first s ss true rest (suc k) inside is =
      let low : x.0 < first + 1 + length ss = rest k (omega (arith, inside)) is in
      omega (arith, low)
  shown_by first s ss false rest k inside is =
      let low : x.0 < first + 1 + length ss = rest k inside is in
      omega (arith, low)

  shown_inside :
      (first : ℕ) (states : List State) (k : ℕ)
      → k < length (valid_from first states)
      → slice_index_or (valid_from first states) k x ≡ x
      → x.0 < first + length states
  shown_inside first [] k inside is = absurd (omega (arith, inside))
  shown_inside first (s ∷ ss) k inside is =
      shown_by first s ss s.valid (shown_inside (first + 1) ss) k inside is

-- ---- the bytes
abbrev entry_bytes : Layout → ℕ → List ℕ → List ℕ
entry_bytes layout index digits = four_words (codes "entry") (layout_word layout) (hex index) digits

abbrev all_lines : List (List ℕ) → Layout → ℕ → List ℕ → List (List ℕ)
all_lines head layout index digits = head ++ entry_bytes layout index digits ∷ codes "begin" ∷ []

-- Words apart by blanks, with LF and more after them.
parts_joined :
    (w h d rest : List ℕ)
    → w ++ 32 ∷ ((h ++ 32 ∷ (d ++ 10 ∷ [])) ++ rest) ≡ (w ++ 32 ∷ (h ++ 32 ∷ d)) ++ 10 ∷ rest
parts_joined w h d rest =
    ap (λ z. w ++ 32 ∷ z)
    (append_assoc h (32 ∷ (d ++ 10 ∷ [])) rest
    ∙ ap (λ z. h ++ 32 ∷ z) (append_assoc d (10 ∷ []) rest)
    ∙ sym (append_assoc h (32 ∷ d) (10 ∷ rest)))
    ∙ sym (append_assoc w (32 ∷ (h ++ 32 ∷ d)) (10 ∷ rest))

six_joined :
    (a b c d e f : List ℕ) → a ++ b ++ c ++ d ++ e ++ f ≡ a ++ (b ++ (c ++ (d ++ (e ++ f))))
six_joined a b c d e f =
    append_assoc (a ++ b ++ c ++ d) e f
    ∙ append_assoc (a ++ b ++ c) d (e ++ f)
    ∙ append_assoc (a ++ b) c (d ++ (e ++ f))
    ∙ append_assoc a b (c ++ (d ++ (e ++ f)))

four_joined : (a b c d : List ℕ) → a ++ b ++ c ++ d ≡ a ++ (b ++ (c ++ d))
four_joined a b c d = append_assoc (a ++ b) c d ∙ append_assoc a b (c ++ d)

bytes_are :
    (head : List (List ℕ)) (layout : Layout) (index : ℕ) (digits : List ℕ)
    → bytes_again head layout index digits ≡ with_lfs (all_lines head layout index digits)
bytes_are head layout index digits =
    let x = with_lfs head in
    let w = layout_word layout in
    let h = hex index in
    let begin = codes "begin\n" in
    six_joined x (codes "entry ") w (codes " ") (digits_line index digits) begin
    ∙ ap (λ l. x ++ (codes "entry " ++ (w ++ (32 ∷ (l ++ begin)))))
    (four_joined h (codes " ") digits (codes "\n"))
    ∙ ap (λ z. x ++ (codes "entry " ++ z)) (parts_joined w h digits begin)
    ∙ ap (λ z. x ++ z)
    (sym (append_assoc (codes "entry") (32 ∷ (w ++ 32 ∷ (h ++ 32 ∷ digits))) (10 ∷ begin)))
    ∙ sym (lines_joined head (entry_bytes layout index digits ∷ codes "begin" ∷ []))

begin_line : IsLine (codes "begin")
begin_line = (refl, (refl, (refl, (refl, (refl, tt)))))

-- ---- the lines before
carried_by :
    (r s : Reading) (l : List ℕ) (ls rest : List (List ℕ))
    →
    ((next : Reading)
    → reading_after next ls ≡ Ok s
    → after_lines next (ls ++ rest) ≡ after_lines s rest)
    → (x : Result Reading Why)
    → after_line r l ≡ x
    → (x >>= (λ (n : Reading). reading_after n ls)) ≡ Ok s
    → after_lines r (l ∷ (ls ++ rest)) ≡ after_lines s rest
unfolding after_lines
carried_by r s l ls rest others (Ok next) is told = rw is (others next told)
carried_by r s l ls rest others (Err why) is told = cc

carried :
    (r s : Reading) (head rest : List (List ℕ))
    → reading_after r head ≡ Ok s
    → after_lines r (head ++ rest) ≡ after_lines s rest
carried r s [] rest e =
    let same : r ≡ s = cc in
    ap (λ (x : Reading). after_lines x rest) same
carried r s (l ∷ ls) rest e =
    carried_by r s l ls rest (λ next. carried next s ls rest) (after_line r l) refl e

counted_by :
    (r s : Reading) (l : List ℕ) (ls : List (List ℕ))
    → ((next : Reading) → reading_after next ls ≡ Ok s → s.taken ≡ next.taken + length ls)
    → (x : Result Reading Why)
    → after_line r l ≡ x
    → (x >>= (λ (n : Reading). reading_after n ls)) ≡ Ok s
    → s.taken ≡ r.taken + length (l ∷ ls)
counted_by r s l ls others (Ok next) is told =
    let one : next.taken ≡ r.taken + 1 = line_taken r l next is in
    let rest : s.taken ≡ next.taken + length ls = others next told in
    omega (arith, one, rest)
counted_by r s l ls others (Err why) is told = cc

counted :
    (r s : Reading) (head : List (List ℕ))
    → reading_after r head ≡ Ok s
    → s.taken ≡ r.taken + length head
counted r s [] e =
    let same : r ≡ s = cc in
    let taken : r.taken ≡ s.taken = ap (λ (x : Reading). x.taken) same in
    omega (arith, taken)
counted r s (l ∷ ls) e = counted_by r s l ls (λ next. counted next s ls) (after_line r l) refl e

-- ---- the two lines
abbrev with_one : Reading → Configuration → Reading
with_one r c = record r { taken = r.taken + 1; stage = stages.Entries; config = c }

entry_read :
    (r : Reading) (c : Configuration) (layout : Layout) (index : ℕ) (digits : List ℕ)
    → comes_at forms.Entry r.stage ≡ true
    → with_entry r.config (entry_line_words layout index digits) ≡ Ok c
    → after_text r (entry_line_words layout index digits)
    ≡ Ok (record r { stage = stages.Entries; config = c })
unfolding after_text after_words after_form form_of form_named
entry_read r c layout index digits place accepted = rw (place, accepted) refl

entry_taken :
    (r : Reading) (c : Configuration) (layout : Layout) (index : ℕ) (digits : List ℕ)
    → r.taken < most_lines
    → index < 2 ^ 32
    → AreDigits digits
    → comes_at forms.Entry r.stage ≡ true
    → with_entry r.config (entry_line_words layout index digits) ≡ Ok c
    → after_line r (entry_bytes layout index digits) ≡ Ok (with_one r c)
unfolding after_line
entry_taken r c layout index digits few small spelt place accepted =
    let line = entry_bytes layout index digits in
    let number = hex_spelt index small in
    let word = layout_spelt layout in
    let text = four_text (codes "entry") (layout_word layout) (hex index) digits entry_spelt.word
    word.word number.word spelt.word in
    rw (
      lt-ltb r.taken most_lines few,
      text_whole line text,
      text_printable line text,
      words_back (codes "entry") (layout_word layout) (hex index) digits entry_spelt.some
          word.some number.some spelt.some entry_spelt.word word.word number.word spelt.word,
    )
    (entry_read (record r { taken = r.taken + 1 }) c layout index digits place accepted)

begin_taken :
    (r : Reading)
    → r.taken < most_lines
    → r.stage ≡ stages.Entries
    → r.config.order ≤ r.config.granted.pool_order
    → after_line r (codes "begin") ≡ Ok (record r { taken = r.taken + 1; stage = stages.Lines })
unfolding after_line after_text after_words after_form form_of form_named with_begin
begin_taken r few stage room =
    rw (
      lt-ltb r.taken most_lines few,
      stage,
      le-leb r.config.order r.config.granted.pool_order room,
    )
    refl

-- ---- the trace
abbrev trace_made : Reading → Configuration → AcceptedTrace
trace_made r c = record { config = c; lines = r.lines }

both_taken :
    (r : Reading) (c : Configuration) (layout : Layout) (index : ℕ) (digits : List ℕ)
    → r.taken + 1 < most_lines
    → index < 2 ^ 32
    → AreDigits digits
    → comes_at forms.Entry r.stage ≡ true
    → c.order ≤ c.granted.pool_order
    → with_entry r.config (entry_line_words layout index digits) ≡ Ok c
    → after_lines r (entry_bytes layout index digits ∷ codes "begin" ∷ []) ≡ Ok (trace_made r c)
unfolding after_lines
both_taken r c layout index digits few small spelt place room accepted =
    rw (
      entry_taken r c layout index digits (omega arith) small spelt place accepted,
      begin_taken (with_one r c) few refl room,
    ) refl

pub image_lines_open : ImagesOpenAgain → ImageLinesOpenAgain
unfolding trace_of shown_of
image_lines_open again t lines layout index s digits head r is shown held may order grants rises
    within =
    let opened = again t lines layout index s digits r.config is shown held order grants rises in
    let c = with_image_entry r.config (image_entry index s) in
    let memory = memory_after t lines in
    let below : index < 0 + length memory.table.states = shown_inside (index, s) 0
    memory.table.states shown.0 shown.1 shown.2 in
    let inside : index < length memory.table.states = omega (arith, below) in
    let small : index < 2 ^ 32 = small_index memory index (serial_sized t lines is) inside in
    let spelt = digits_spelt layout _ digits held in
    let from_none : r.taken ≡ 0 + length head = counted opening_reading r head may.read in
    let taken : r.taken ≡ length head = omega (arith, from_none) in
    let entry_line : IsLine (entry_bytes layout index digits) = text_line
    (entry_bytes layout index digits)
    (four_text (codes "entry") (layout_word layout) (hex index) digits entry_spelt.word
    (layout_spelt layout).word (hex_spelt index small).word spelt.word) in
    let cut : raw_lines (with_lfs (all_lines head layout index digits)) ≡ all_lines head layout
    index digits = lines_again (all_lines head layout index digits)
    (each_append IsLine head (entry_bytes layout index digits ∷ codes "begin" ∷ []) may.lines
    (entry_line, (begin_line, tt))) in
    record {
      trace = trace_made r c;
      accepted = rw (le-ltb most_bytes (length (bytes_again head layout index digits)) within) (
          ap (λ bytes. after_lines opening_reading (raw_lines bytes))
          (bytes_are head layout index digits)
          ∙ ap (after_lines opening_reading) cut
          ∙ carried opening_reading r head (entry_bytes layout index digits ∷ codes "begin" ∷ [])
          may.read
          ∙ both_taken r c layout index digits (omega (arith, taken, may.few)) small spelt may.place
          may.room opened.accepted);
      config = refl;
      state = opened.state;
      others = opened.others;
    }
