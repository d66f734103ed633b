-- The words of a line from one place on, where a loop has come to a blank or to the line's end.
use Rattle.std.proofs.Common.{◌≡◌, ◌∙◌, ◌++◌, append_assoc, inl, inr, sym, ◌+◌, ◌-◌, ◌<◌, ◌≤◌, ℕ, false, true, List, [], ◌∷◌, length, get_or, take, drop, ap, refl, arith, length-drop, filter, eqb, not}
use Rattle.std.specs.List.{list_all, position_or_len, slice_split}
use Rattle.std.proofs.Math.Dec.{eqb-suc-zero}
use Rattle.std.proofs.lemmas.Bool.Decides.{nat_tests}
use Rattle.std.proofs.lemmas.Bool.{cases_eq}
use Rattle.std.proofs.lemmas.List.{get_or-drop, drop_more, drop-drop, get_or_default, length-take-le}
use Rattle.std.proofs.lemmas.List.Splits.{slice_split-cons_yes, slice_split_first, slice_split_none}
use Rattle.std.proofs.lemmas.List.Sums.{AllPass-from_list_all, position_or_len_is}
use Rattle.trace_read.specs.TextLines.{is_blank, is_printable, words_of}

-- No blank stands from the first place up to the second.
abbrev pub NoBlank : List ℕ → ℕ → ℕ → Type 0
NoBlank line low high = (k : ℕ) → low ≤ k → k < high → is_blank (get_or line k 0) ≡ false

-- The words that end before a place are read, and one may have begun there since.
pub record AreReadTo (line : List ℕ) (words : List (List ℕ)) (start i : ℕ) : Type 0 where
  pub ordered : start ≤ i
  pub clear : NoBlank line start i
  pub rest : words_of line ≡ words ++ words_of (drop start line)

low_blank : (c : ℕ) → is_printable c ≡ true → c ≤ 32 → is_blank c ≡ true
low_blank c printable low = grind (arith, nat_tests)

high_byte : (c : ℕ) → 32 < c → is_blank c ≡ false
high_byte c high = grind (arith, nat_tests)

-- A byte of a text is a blank if it is at most a space.
blank_at : (line : List ℕ) (i : ℕ) → i < length line → list_all is_printable line ≡ true
    → get_or line i 0 ≤ 32 → is_blank (get_or line i 0) ≡ true
blank_at line i within text low =
    low_blank (get_or line i 0) (AllPass-from_list_all is_printable line text i 0 within) low

-- A part that is not empty is a word.
words_of_part : (w : List ℕ) (ws : List (List ℕ)) → 0 < length w
    → filter (λ w. not (eqb (length w) 0)) (w ∷ ws) ≡ w ∷ filter (λ w. not (eqb (length w) 0)) ws
words_of_part [] ws some = absurd (omega arith)
words_of_part (c ∷ cs) ws some = rw (eqb-suc-zero (length cs)) refl

-- At a blank begins no word.
words_of_blank : (line : List ℕ) (i : ℕ) → i < length line → is_blank (get_or line i 0) ≡ true
    → words_of (drop i line) ≡ words_of (drop (i + 1) line)
words_of_blank line i within blank =
    ap words_of (drop_more line i 0 within)
    ∙ ap (filter (λ w. not (eqb (length w) 0)))
    (slice_split-cons_yes is_blank (get_or line i 0) (drop (i + 1) line) blank)

-- A word ends at the next blank.
words_of_word : (line : List ℕ) (low high : ℕ) → low < high → high < length line
    → NoBlank line low high → is_blank (get_or line high 0) ≡ true
    → words_of (drop low line) ≡ take (high - low) (drop low line) ∷ words_of (drop (high + 1) line)
words_of_word line low high some within clear blank =
    let seam : low + (high - low) ≡ high = omega arith in
    let past : low + (high - low + 1) ≡ high + 1 = omega arith in
    let place : position_or_len is_blank (drop low line) ≡ high - low =
    position_or_len_is is_blank (drop low line) (high - low) 0
    (omega (arith, length-drop low line))
    (λ k h. rw get_or-drop (clear (low + k) (omega arith) (omega arith)))
    (λ h. rw (get_or-drop, seam) blank) in
    let first = slice_split_first is_blank (drop low line) 0 (omega (arith, length-drop low line))
    in
    let parts : slice_split is_blank (drop low line)
    ≡ take (high - low) (drop low line) ∷ slice_split is_blank (drop (high + 1) line) =
    first ∙ rw (place, drop-drop, past) refl in
    ap (filter (λ w. not (eqb (length w) 0))) parts
    ∙ words_of_part _ (slice_split is_blank (drop (high + 1) line))
    (omega (arith, length-drop low line, length-take-le (high - low) (drop low line)))

-- The last word ends with the line.
words_of_last : (line : List ℕ) (low : ℕ) → low < length line → NoBlank line low (length line)
    → words_of (drop low line) ≡ drop low line ∷ []
words_of_last line low some clear =
    ap (filter (λ w. not (eqb (length w) 0)))
    (slice_split_none is_blank (drop low line) (λ k d h.
    let within : low + k < length line = omega (arith, length-drop low line) in
    rw (get_or-drop, get_or_default line (low + k) d 0 within)
    (clear (low + k) (omega arith) within)))
    ∙ words_of_part _ [] (omega (arith, length-drop low line))

-- ---- the steps of the loop
pub AreReadTo-other : (line : List ℕ) (words : List (List ℕ)) (start i : ℕ)
    → AreReadTo line words start i → 32 < get_or line i 0 → AreReadTo line words start (i + 1)
AreReadTo-other line words start i read high = record {
  ordered = omega arith;
  clear = λ k from to. elim (cases_eq k i) [
    | inl same ↦ rw same (high_byte _ high)
    | inr before ↦ read.clear k from (omega arith)
  ];
  rest = read.rest;
}

pub AreReadTo-blank : (line : List ℕ) (words : List (List ℕ)) (start i : ℕ)
    → AreReadTo line words start i → i ≤ start → i < length line
    → list_all is_printable line ≡ true
    → get_or line i 0 ≤ 32
    → AreReadTo line words (i + 1) (i + 1)
AreReadTo-blank line words start i read none within text low =
    let here : start ≡ i = omega arith in
    record {
      ordered = omega arith;
      clear = λ k from to. absurd (omega arith);
      rest = read.rest
          ∙ rw here
          (ap (λ ws. words ++ ws)
          (words_of_blank line i within (blank_at line i within text low)));
    }

pub AreReadTo-word : (line : List ℕ) (words : List (List ℕ)) (start i : ℕ)
    → AreReadTo line words start i → start < i → i < length line
    → list_all is_printable line ≡ true → get_or line i 0 ≤ 32
    → AreReadTo line (words ++ take (i - start) (drop start line) ∷ []) (i + 1) (i + 1)
AreReadTo-word line words start i read some within text low = record {
  ordered = omega arith;
  clear = λ k from to. absurd (omega arith);
  rest = read.rest
      ∙ ap (λ ws. words ++ ws)
      (words_of_word line start i some within read.clear (blank_at line i within text low))
      ∙ simp append_assoc;
}

pub AreReadTo-last : (line : List ℕ) (words : List (List ℕ)) (start i : ℕ)
    → AreReadTo line words start i
    → start < length line
    → length line ≤ i
    → words ++ drop start line ∷ [] ≡ words_of line
AreReadTo-last line words start i read some end =
    sym (read.rest
    ∙ ap (λ ws. words ++ ws)
    (words_of_last line start some (λ k from to. read.clear k from (omega arith))))
