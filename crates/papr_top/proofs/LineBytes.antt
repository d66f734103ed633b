-- The lines that bytes are cut into, and the words of a line, where both are known.
use Rattle.std.specs.Prelude.{slice_index, not, ◌-◌, ◌==◌, ◌&&◌, nat_le, codes}
use Rattle.std.proofs.Common.{◌≡◌, ℕ, zero, suc, ◌<◌, ◌≤◌, ◌%◌, ◌/◌, ◌^◌, List, [], ◌∷◌, ◌++◌, length, filter, Bool, true, false, Option, Some, None, refl, sym, ap, subst, ◌∙◌, append_assoc, arith}
use Rattle.std.specs.List.{AllByRecursion, list_all, slice_split, onto_first}
use Rattle.std.specs.Char.{digit_value}
use Rattle.std.specs.Fmt.{digits}
use Rattle.std.specs.Str.Parse.{AllDigits}
use Rattle.std.specs.Option.{option_map}
use Rattle.std.proofs.Math.Dec.{eqb-suc-zero}
use Rattle.std.proofs.lemmas.Bool.Decides.{nat_tests}
use Rattle.std.proofs.lemmas.Fmt.{digits_is_IsNumeral}
use Rattle.std.proofs.lemmas.List.Splits.{slice_split-cons_yes, slice_split-cons_no}
use Rattle.std.proofs.Math.Seq.{take-append_seam, get_or-append_seam}
use Rattle.std.proofs.lemmas.Bool.{and_parts}
use Rattle.std.proofs.lemmas.List.{length-append, append-nil}
use Rattle.std.specs.Int.{bytes_high_first}
use Rattle.hex.specs.Hex.{IsBytes, encode_with, lower_digits}
use Rattle.number_text.specs.Numbers.{hex}
use Rattle.table_image.specs.declared.layout.Layout.{Layout}
use Rattle.table_image.specs.declared.layout.Layout.TheVariants.{Old, New}
use Rattle.table_image.specs.Image.{layout_word}
use Rattle.table_image.specs.Layouts.{entry_digits, digits_of_words, laid_out}
use Rattle.trace_read.specs.TextLines.{is_lf, is_blank, is_printable, without_last, without_cr, raw_lines, words_of}
use Rattle.papr_top.specs.ImageLines.{with_lfs}
use Rattle.table_image.proofs.DigitTexts.{no_bytes, bytes_of_number}

-- ---- cutting
-- Up to the first separator.
cut_at :
    (p : ℕ → Bool) (end : ℕ) (xs rest : List ℕ)
    → p end ≡ true
    → AllByRecursion (λ c. p c ≡ false) xs
    → slice_split p (xs ++ end ∷ rest) ≡ xs ∷ slice_split p rest
cut_at p end [] rest is none = slice_split-cons_yes p end rest is
cut_at p end (x ∷ xs) rest is none =
    slice_split-cons_no p x (xs ++ end ∷ rest) none.0
    ∙ ap (onto_first x) (cut_at p end xs rest is none.1)

cut_none :
    (p : ℕ → Bool) (xs : List ℕ) → AllByRecursion (λ c. p c ≡ false) xs → slice_split p xs ≡ xs ∷ []
cut_none p [] none = refl
cut_none p (x ∷ xs) none =
    slice_split-cons_no p x xs none.0 ∙ ap (onto_first x) (cut_none p xs none.1)

-- ---- lines
-- The last LF is no line's begin.
last_dropped : (xs : List ℕ) → without_last 10 (xs ++ 10 ∷ []) ≡ xs
last_dropped xs =
    let size : length (xs ++ 10 ∷ []) - 1 ≡ length xs = omega (arith, length-append xs (10 ∷ [])) in
    rw (size, get_or-append_seam xs 10 [] 0, take-append_seam xs (10 ∷ [])) refl

-- The lines, with LF between them alone.
between : List ℕ → List (List ℕ) → List ℕ
between line [] = line
between line (next ∷ rest) = line ++ 10 ∷ between next rest

with_last :
    (line : List ℕ) (rest : List (List ℕ)) → with_lfs (line ∷ rest) ≡ between line rest ++ 10 ∷ []
unfolding between
with_last line [] = refl
with_last line (next ∷ rest) =
    ap (λ x. line ++ 10 ∷ x) (with_last next rest)
    ∙ sym (append_assoc line (10 ∷ between next rest) (10 ∷ []))

-- No byte of it ends a line.
abbrev pub IsLine : List ℕ → Type 0
IsLine line = AllByRecursion (λ c. is_lf c ≡ false) line

cut_between :
    (line : List ℕ) (rest : List (List ℕ))
    → IsLine line
    → AllByRecursion IsLine rest
    → slice_split is_lf (between line rest) ≡ line ∷ rest
unfolding between
cut_between line [] one others = cut_none is_lf line one
cut_between line (next ∷ rest) one others =
    cut_at is_lf 10 line (between next rest) refl one
    ∙ ap (λ x. line ∷ x) (cut_between next rest others.0 others.1)

some_lines : (xs : List ℕ) → 0 < length xs → raw_lines xs ≡ slice_split is_lf (without_last 10 xs)
some_lines [] some = absurd (omega (arith, some))
some_lines (x ∷ xs) some = refl

lines_back :
    (line : List ℕ) (rest : List (List ℕ))
    → IsLine line
    → AllByRecursion IsLine rest
    → raw_lines (with_lfs (line ∷ rest)) ≡ line ∷ rest
lines_back line rest one others =
    ap raw_lines (with_last line rest)
    ∙ some_lines (between line rest ++ 10 ∷ [])
    (omega (arith, length-append (between line rest) (10 ∷ [])))
    ∙ ap (slice_split is_lf) (last_dropped (between line rest))
    ∙ cut_between line rest one others

-- Lines are cut back into themselves.
pub lines_again : (ls : List (List ℕ)) → AllByRecursion IsLine ls → raw_lines (with_lfs ls) ≡ ls
lines_again [] all = refl
lines_again (l ∷ ls) all = lines_back l ls all.0 all.1

pub lines_joined : (xs ys : List (List ℕ)) → with_lfs (xs ++ ys) ≡ with_lfs xs ++ with_lfs ys
lines_joined [] ys = refl
lines_joined (x ∷ xs) ys =
    ap (λ z. x ++ 10 ∷ z) (lines_joined xs ys)
    ∙ sym (append_assoc x (10 ∷ with_lfs xs) (with_lfs ys))

-- ---- the bytes of words
-- A byte that a word may have.
pub record IsWordByte (c : ℕ) : Type 0 where
  pub low : 33 ≤ c
  pub high : c ≤ 126

-- Each byte of it is one that a word may have.
abbrev pub IsWord : List ℕ → Type 0
IsWord word = AllByRecursion IsWordByte word

pub joined_words : (xs ys : List ℕ) → IsWord xs → IsWord ys → IsWord (xs ++ ys)
joined_words [] ys first second = second
joined_words (x ∷ xs) ys first second = (first.0, joined_words xs ys first.1 second)

not_blank : (xs : List ℕ) → IsWord xs → AllByRecursion (λ c. is_blank c ≡ false) xs
not_blank [] word = tt
not_blank (x ∷ xs) word =
    let low : 33 ≤ x = word.0.low in
    ((grind (arith, nat_tests, low)), not_blank xs word.1)

-- One word and a blank, or a word at the end, in front of the others.
first_word :
    (word : List ℕ) (rest : List (List ℕ))
    → 0 < length word
    → filter (λ w. not (length w == 0)) (word ∷ rest)
    ≡ word ∷ filter (λ w. not (length w == 0)) rest
first_word [] rest some = absurd (omega (arith, some))
first_word (x ∷ xs) rest some = rw (eqb-suc-zero (length xs)) refl

word_cut :
    (word rest : List ℕ)
    → 0 < length word
    → IsWord word
    → words_of (word ++ 32 ∷ rest) ≡ word ∷ words_of rest
word_cut word rest some is =
    ap (filter (λ w. not (length w == 0))) (cut_at is_blank 32 word rest refl (not_blank word is))
    ∙ first_word word (slice_split is_blank rest) some

word_left : (word : List ℕ) → 0 < length word → IsWord word → words_of word ≡ word ∷ []
word_left word some is =
    ap (filter (λ w. not (length w == 0))) (cut_none is_blank word (not_blank word is))
    ∙ first_word word [] some

-- Four words with a blank between each two.
abbrev pub four_words : List ℕ → List ℕ → List ℕ → List ℕ → List ℕ
four_words a b c d = a ++ 32 ∷ (b ++ 32 ∷ (c ++ 32 ∷ d))

pub words_back :
    (a b c d : List ℕ)
    → 0 < length a
    → 0 < length b
    → 0 < length c
    → 0 < length d
    → IsWord a
    → IsWord b
    → IsWord c
    → IsWord d
    → words_of (four_words a b c d) ≡ a ∷ b ∷ c ∷ d ∷ []
words_back a b c d some_a some_b some_c some_d is_a is_b is_c is_d =
    word_cut a (b ++ 32 ∷ (c ++ 32 ∷ d)) some_a is_a
    ∙ ap (λ x. a ∷ x) (word_cut b (c ++ 32 ∷ d) some_b is_b
    ∙ ap (λ x. b ∷ x) (word_cut c d some_c is_c
    ∙ ap (λ x. c ∷ x) (word_left d some_d is_d)))

-- ---- bytes of a line
-- A blank or a byte of a word.
pub record IsTextByte (c : ℕ) : Type 0 where
  pub low : 32 ≤ c
  pub high : c ≤ 126

-- Each byte of it is a blank or one of a word.
abbrev pub IsText : List ℕ → Type 0
IsText xs = AllByRecursion IsTextByte xs

blank_byte : IsTextByte 32
blank_byte = record { low = omega arith; high = omega arith }

word_then : (word rest : List ℕ) → IsWord word → IsText rest → IsText (word ++ rest)
word_then [] rest is text = text
word_then (x ∷ xs) rest is text =
    let low : 33 ≤ x = is.0.low in
    (record { low = omega arith; high = is.0.high }, word_then xs rest is.1 text)

pub four_text :
    (a b c d : List ℕ) → IsWord a → IsWord b → IsWord c → IsWord d → IsText (four_words a b c d)
four_text a b c d is_a is_b is_c is_d =
    word_then a _ is_a (
      blank_byte,
      word_then b _ is_b (
        blank_byte,
        word_then c _ is_c
            (blank_byte, subst IsText (append_nil_of d) (word_then d [] is_d tt)),
      ),
    ) where
      append_nil_of : (xs : List ℕ) → xs ++ [] ≡ xs
      append_nil_of [] = refl
      append_nil_of (x ∷ xs) = ap (λ z. x ∷ z) (append_nil_of xs)

pub text_line : (xs : List ℕ) → IsText xs → IsLine xs
text_line [] text = tt
text_line (x ∷ xs) text =
    let low : 32 ≤ x = text.0.low in
    ((grind (arith, nat_tests, low)), text_line xs text.1)

pub text_printable : (xs : List ℕ) → IsText xs → list_all is_printable xs ≡ true
text_printable [] text = refl
text_printable (x ∷ xs) text =
    let low : 32 ≤ x = text.0.low in
    let high : x ≤ 126 = text.0.high in
    let here : is_printable x ≡ true = grind (arith, nat_tests, low, high) in
    rw (here, text_printable xs text.1) refl

no_return : (xs : List ℕ) (i : ℕ) → IsText xs → slice_index xs i ≡ 13 → ⊥
no_return [] i text is = absurd (omega (arith, is))
no_return (x ∷ xs) zero text is = let low : 32 ≤ x = text.0.low in absurd (omega (arith, is, low))
no_return (x ∷ xs) (suc i) text is = no_return xs i text.1 is

-- No CR ends it.
pub text_whole : (xs : List ℕ) → IsText xs → without_cr xs ≡ xs
text_whole xs text = by (slice_index xs (length xs - 1) == 13) refl where
  by : (b : Bool) → (slice_index xs (length xs - 1) == 13) ≡ b → without_cr xs ≡ xs
  by true is = absurd (no_return xs (length xs - 1) text (grind (arith, nat_tests, is)))
  by false is = rw is refl

-- ---- the words of an entry's line
-- A digit of either case is a byte of words.
digit_byte : (c : ℕ) → digit_value c < 16 → IsWordByte c
digit_byte c small =
    record { low = grind (arith, nat_tests, small); high = grind (arith, nat_tests, small) }

digits_word : (ds : List ℕ) → AllDigits 16 ds → IsWord ds
digits_word [] all = tt
digits_word (d ∷ ds) all = (digit_byte d all.0, digits_word ds all.1)

pub hex_word : (n : ℕ) → n < 2 ^ 32 → IsWord (hex n)
hex_word n small =
    let numeral = digits_is_IsNumeral 16 false (omega arith) (omega arith) n (omega arith) in
    joined_words (codes "0x") (digits 16 false n) (
      record { low = omega arith; high = omega arith },
      (record { low = omega arith; high = omega arith }, tt),
    )
    (digits_word (digits 16 false n) numeral.0.1)

-- One of the sixteen digits.
all_digits : IsWord lower_digits
all_digits = by lower_digits refl where
  checked : List ℕ → Bool
  checked [] = true
  checked (x ∷ xs) = nat_le 33 x && (nat_le x 126 && checked xs)

  each : (xs : List ℕ) → checked xs ≡ true → IsWord xs
  each [] is = tt
  each (x ∷ xs) is =
      let parts = and_parts (nat_le 33 x) (nat_le x 126 && checked xs) is in
      let others = and_parts (nat_le x 126) (checked xs) parts.1 in (
        record {
          low = grind (arith, nat_tests, parts.0);
          high = grind (arith, nat_tests, others.0);
        },
        each xs others.1,
      )

  by : (xs : List ℕ) → checked xs ≡ true → IsWord xs
  by = each

at_place : (xs : List ℕ) (i : ℕ) → i < length xs → IsWord xs → IsWordByte (slice_index xs i)
at_place [] i inside word = absurd (omega (arith, inside))
at_place (x ∷ xs) zero inside word = word.0
at_place (x ∷ xs) (suc i) inside word = at_place xs i (omega (arith, inside)) word.1

encoded_word : (bytes : List ℕ) → IsBytes bytes → IsWord (encode_with lower_digits bytes)
unfolding encode_with
encoded_word [] small = tt
encoded_word (b ∷ rest) small =
    let byte : b < 256 = small 0 in (
      at_place lower_digits (b / 16) (omega arith) all_digits,
      (
        at_place lower_digits (b % 16) (omega arith) all_digits,
        encoded_word rest (λ i. small (suc i)),
      ),
    )

-- The digits of an entry are a word.
pub record AreDigits (digits : List ℕ) : Type 0 where
  pub some : 0 < length digits
  pub word : IsWord digits

spelt : (w : ℕ × ℕ) → AreDigits (digits_of_words w)
unfolding encode_with
spelt w =
    let none = subst IsBytes (append-nil (bytes_high_first 8 w.1))
    (bytes_of_number 8 w.1 [] no_bytes) in
    record {
      some = omega arith;
      word =
          encoded_word (bytes_high_first 8 w.0 ++ bytes_high_first 8 w.1)
          (bytes_of_number 8 w.0 (bytes_high_first 8 w.1) none);
    }

laid_spelt :
    (o : Option (ℕ × ℕ)) (digits : List ℕ)
    → option_map digits_of_words o ≡ Some digits
    → AreDigits digits
laid_spelt (Some w) digits e =
    let same : digits_of_words w ≡ digits = cc in
    subst AreDigits same (spelt w)
laid_spelt None digits e = cc

pub digits_spelt :
    (layout : Layout) (w : ℕ × ℕ) (digits : List ℕ)
    → entry_digits layout w ≡ Some digits
    → AreDigits digits
unfolding entry_digits
digits_spelt layout w digits e = laid_spelt (laid_out layout w) digits e

pub layout_spelt : (layout : Layout) → AreDigits (layout_word layout)
layout_spelt Old =
    record {
      some = omega arith;
      word = (
        record { low = omega arith; high = omega arith },
        (
          record { low = omega arith; high = omega arith },
          (record { low = omega arith; high = omega arith }, tt),
        ),
      );
    }
layout_spelt New =
    record {
      some = omega arith;
      word = (
        record { low = omega arith; high = omega arith },
        (
          record { low = omega arith; high = omega arith },
          (record { low = omega arith; high = omega arith }, tt),
        ),
      );
    }

pub entry_spelt : AreDigits (codes "entry")
entry_spelt =
    record {
      some = omega arith;
      word = (
        record { low = omega arith; high = omega arith },
        (
          record { low = omega arith; high = omega arith },
          (
            record { low = omega arith; high = omega arith },
            (
              record { low = omega arith; high = omega arith },
              (record { low = omega arith; high = omega arith }, tt),
            ),
          ),
        ),
      );
    }

pub hex_spelt : (n : ℕ) → n < 2 ^ 32 → AreDigits (hex n)
hex_spelt n small = record { some = omega arith; word = hex_word n small }
