-- A partition's line without its first word: text of the words after it.
use Rattle.std.specs.List.{list_all, slice_split, onto_first}
use Rattle.std.proofs.Common.{◌≡◌, ◌∙◌, ℕ, ◌+◌, ◌-◌, ◌<◌, ◌≤◌, Bool, true, false, List, [], ◌∷◌, length, filter, get_or, Ok, refl, sym, ap, eqb, not, ◌&&◌, inl, inr, ◌⊎◌, arith}
use Rattle.std.specs.Prelude.{codes}
use Rattle.std.proofs.lemmas.Bool.{cases_Bool, cases_lt, eqb-true, false≢true, lt-ltb}
use Rattle.std.proofs.lemmas.List.{get_or_past}
use Rattle.std.proofs.lemmas.List.Folds.{list_all_at}
use Rattle.trace_read.specs.Grammar.{Reading, after_line, after_text}
use Rattle.trace_read.specs.TextLines.{is_blank, is_printable, without_cr, words_of}
use Rattle.lpar_set.specs.PartitionLines.{words_in, from_blank, behind_word, own_words}
use Rattle.trace_line.specs.Lines.{most_lines}

-- ---- words
-- A word has a byte.
abbrev has_bytes : List ℕ → Bool
has_bytes w = not (eqb (length w) 0)

behind_onto : (c : ℕ) (parts : List (List ℕ)) → own_words (onto_first c parts) ≡ own_words parts
behind_onto c [] = refl
behind_onto c (part ∷ parts) = refl

one_byte : (c : ℕ) (part : List ℕ) → has_bytes (c ∷ part) ≡ true
one_byte c part = by (cases_Bool (eqb (length (c ∷ part)) 0)) where
  by :
      (eqb (length (c ∷ part)) 0 ≡ true) ⊎ (eqb (length (c ∷ part)) 0 ≡ false)
      → has_bytes (c ∷ part) ≡ true
  by (inl q) =
      let none : length (c ∷ part) ≡ 0 = eqb-true (length (c ∷ part)) 0 q in
      absurd (omega (arith, none))
  by (inr q) = rw q refl

filter_onto :
    (c : ℕ) (parts : List (List ℕ))
    → own_words (filter has_bytes (onto_first c parts)) ≡ filter has_bytes (own_words parts)
filter_onto c [] = refl
filter_onto c (part ∷ parts) = rw (one_byte c part) refl

from_words :
    (cs : List ℕ)
    → words_of (from_blank cs) ≡ filter has_bytes (own_words (slice_split is_blank cs))
from_words [] = refl
from_words (c ∷ cs) = by (cases_Bool (is_blank c)) (from_words cs) where
  by :
      (is_blank c ≡ true) ⊎ (is_blank c ≡ false)
      → words_of (from_blank cs) ≡ filter has_bytes (own_words (slice_split is_blank cs))
      → words_of (from_blank (c ∷ cs))
      ≡ filter has_bytes (own_words (slice_split is_blank (c ∷ cs)))
  by (inl q) rest = rw q (rw q refl)
  by (inr q) rest =
      rw q (rest ∙ ap (filter has_bytes) (sym (behind_onto c (slice_split is_blank cs))))

behind_words : (line : List ℕ) → words_of (behind_word line) ≡ own_words (words_of line)
behind_words [] = refl
behind_words (c ∷ cs) = by (cases_Bool (is_blank c)) (behind_words cs) where
  by :
      (is_blank c ≡ true) ⊎ (is_blank c ≡ false)
      → words_of (behind_word cs) ≡ own_words (words_of cs)
      → words_of (behind_word (c ∷ cs)) ≡ own_words (words_of (c ∷ cs))
  by (inl q) rest = rw q rest
  by (inr q) rest = rw q (from_words cs ∙ sym (filter_onto c (slice_split is_blank cs)))

-- ---- bytes
and_right : (a b : Bool) → (a && b) ≡ true → b ≡ true
and_right true b e = e
and_right false b e = absurd (false≢true e)

from_text :
    (cs : List ℕ) → list_all is_printable cs ≡ true → list_all is_printable (from_blank cs) ≡ true
from_text [] all = refl
from_text (c ∷ cs) all =
    by (cases_Bool (is_blank c))
    (from_text cs (and_right (is_printable c) (list_all is_printable cs) all)) where
      by :
          (is_blank c ≡ true) ⊎ (is_blank c ≡ false)
          → list_all is_printable (from_blank cs) ≡ true
          → list_all is_printable (from_blank (c ∷ cs)) ≡ true
      by (inl q) rest = rw q all
      by (inr q) rest = rw q rest

behind_text :
    (line : List ℕ)
    → list_all is_printable line ≡ true
    → list_all is_printable (behind_word line) ≡ true
behind_text [] all = refl
behind_text (c ∷ cs) all =
    let rest = and_right (is_printable c) (list_all is_printable cs) all in
    by (cases_Bool (is_blank c)) (behind_text cs rest) (from_text cs rest) where
      by :
          (is_blank c ≡ true) ⊎ (is_blank c ≡ false)
          → list_all is_printable (behind_word cs) ≡ true
          → list_all is_printable (from_blank cs) ≡ true
          → list_all is_printable (behind_word (c ∷ cs)) ≡ true
      by (inl q) behind from = rw q behind
      by (inr q) behind from = rw q from

-- No byte of a text is a CR.
no_cr :
    (line : List ℕ) (i : ℕ) → list_all is_printable line ≡ true → eqb (get_or line i 0) 13 ≡ false
no_cr line i all = by (cases_Bool (eqb (get_or line i 0) 13)) (cases_lt i (length line)) where
  by :
      (eqb (get_or line i 0) 13 ≡ true) ⊎ (eqb (get_or line i 0) 13 ≡ false)
      → (i < length line) ⊎ (length line ≤ i)
      → eqb (get_or line i 0) 13 ≡ false
  by (inr other) place = other
  by (inl cr) (inl inside) =
      let unprintable : is_printable (get_or line i 0) ≡ false = ap is_printable
      (eqb-true (get_or line i 0) 13 cr) in
      absurd (false≢true (sym (list_all_at is_printable line i 0 inside unprintable) ∙ all))
  by (inl cr) (inr past) = ap (λ n. eqb n 13) (get_or_past line i 0 past)

text_stays : (line : List ℕ) → list_all is_printable line ≡ true → without_cr line ≡ line
text_stays line all = rw (no_cr line (length line - 1) all) refl

-- ---- lines
-- The partition's line is read as its words are.
pub own_line_read :
    (q : Reading) (line : List ℕ)
    → q.taken < most_lines
    → list_all is_printable (without_cr line) ≡ true
    → after_line q (behind_word (without_cr line))
    ≡ after_text (record q { taken = q.taken + 1 }) (own_words (words_in line))
unfolding after_line
own_line_read q line few text =
    let own : list_all is_printable (behind_word (without_cr line)) ≡ true = behind_text
    (without_cr line) text in
    let same : without_cr (behind_word (without_cr line)) ≡ behind_word (without_cr line) =
    text_stays (behind_word (without_cr line)) own in
    rw (lt-ltb q.taken most_lines few, same, own, behind_words (without_cr line)) refl

-- A remark adds nothing but its number.
pub remark_read :
    (q : Reading)
    → q.taken < most_lines
    → after_line q (codes "#") ≡ Ok (record q { taken = q.taken + 1 })
unfolding after_line after_text
remark_read q few = rw (lt-ltb q.taken most_lines few) refl
