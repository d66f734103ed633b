-- The text of marks is cut in one way, so a line has one list of marks.
use Rattle.std.proofs.Common.{◌≡◌, ℕ, ◌<◌, ◌≤◌, ◌^◌, List, [], ◌∷◌, ◌++◌, true, false, ap, sym, ◌∙◌, refl, subst, inl, length, arith, Option, Some, None, append_assoc, append-nil, length-append, drop}
use Rattle.std.specs.Prelude.{◌==◌, codes, find, option_map, unwrap_or, IfNone, MatchOption}
use Rattle.std.specs.Str.{bytes_eq}
use Rattle.std.specs.List.{AllByRecursion, flat_map}
use Rattle.std.specs.Fmt.{digits, decimal}
use Rattle.std.specs.Str.Parse.{digits_value}
use Rattle.std.proofs.lemmas.Fmt.{decimal_injective, digits_is_IsNumeral}
use Rattle.std.proofs.lemmas.List.{append_cancel_right}
use Rattle.std.proofs.lemmas.Option.{none-some}
use Rattle.entry_model.specs.declared.operation.Answer.{Answer}
use Rattle.entry_model.specs.declared.operation.Answer.TheVariants as answers
use Rattle.receipt_text.specs.declared.mark.Mark.{Mark}
use Rattle.number_text.specs.Numbers.{hex}
use Rattle.receipt_text.specs.Receipts.{answer_word, mark_text, mark_word}
use Rattle.std.specs.Borrow.{Bor}
use Rattle.receipt_text.specs.Cuts.{lacks, words_left}
use Rattle.receipt_text.specs.Marks.{behind_bar, IsMark, AreSpelt, HasMarks}
use Rattle.receipt_text.proofs.Bytes.{lacks_append, lacks_back, lacks_head, cut_at, lacks_hex, lacks_decimal}

-- ---- numbers and words
pub hex_same : (m n : ℕ) → m < 2 ^ 64 → n < 2 ^ 64 → hex m ≡ hex n → m ≡ n
hex_same m n p q e =
    let d : digits 16 false m ≡ digits 16 false n = ap (drop 2) e in
    sym (digits_is_IsNumeral 16 false (omega arith) (omega arith) m (omega arith)).1
    ∙ ap (digits_value 16) d
    ∙ (digits_is_IsNumeral 16 false (omega arith) (omega arith) n (omega arith)).1

-- All answers.
abbrev pub all_answers : List Answer
all_answers =
    answers.Entered
    ∷ answers.Taken
    ∷ answers.Removed
    ∷ answers.Protected
    ∷ answers.Was
    ∷ answers.Words
    ∷ answers.NotFound
    ∷ answers.NoMatch
    ∷ answers.Denied
    ∷ answers.Masked
    ∷ answers.At
    ∷ answers.Worn
    ∷ []

-- The first of them whose word a word is.
abbrev pub answer_found : List ℕ → Option Answer
answer_found word = find (λ a. bytes_eq (answer_word a) word) all_answers

found_by_word : (a : Answer) → answer_found (answer_word a) ≡ Some a
found_by_word answers.Entered = refl
found_by_word answers.Taken = refl
found_by_word answers.Removed = refl
found_by_word answers.Protected = refl
found_by_word answers.Was = refl
found_by_word answers.Words = refl
found_by_word answers.NotFound = refl
found_by_word answers.NoMatch = refl
found_by_word answers.Denied = refl
found_by_word answers.Masked = refl
found_by_word answers.At = refl
found_by_word answers.Worn = refl

pub not_found :
    (w : List ℕ) (r : Option Answer)
    → option_map (λ a. a) r ≡ answer_found w
    → IfNone r ((a : Answer) → answer_word a ≡ w → ⊥)
not_found w (Some x) e = tt
not_found w None e = λ a is. none-some a (e ∙ ap answer_found (sym is) ∙ found_by_word a)

pub answer_same : (a b : Answer) → answer_word a ≡ answer_word b → a ≡ b
answer_same a b e =
    ap (λ o. unwrap_or o a) (sym (found_by_word a) ∙ ap answer_found e ∙ found_by_word b)

answer_lacks : (a : Answer) → (lacks 10 (answer_word a) ≡ true) × (lacks 32 (answer_word a) ≡ true)
answer_lacks answers.Entered = (refl, refl)
answer_lacks answers.Taken = (refl, refl)
answer_lacks answers.Removed = (refl, refl)
answer_lacks answers.Protected = (refl, refl)
answer_lacks answers.Was = (refl, refl)
answer_lacks answers.Words = (refl, refl)
answer_lacks answers.NotFound = (refl, refl)
answer_lacks answers.NoMatch = (refl, refl)
answer_lacks answers.Denied = (refl, refl)
answer_lacks answers.Masked = (refl, refl)
answer_lacks answers.At = (refl, refl)
answer_lacks answers.Worn = (refl, refl)

-- ---- one mark
-- Its parts, grouped to the right.
abbrev parts : Mark → List ℕ
parts m =
    hex m.entry ++ 46 ∷ (decimal m.stamp ++ 46 ∷ (decimal m.bits ++ 46 ∷ answer_word m.answer))

right_first :
    (d x y z w : List ℕ)
    → (((((x ++ d) ++ y) ++ d) ++ z) ++ d) ++ w ≡ x ++ (d ++ (y ++ (d ++ (z ++ (d ++ w)))))
right_first d x y z w =
    append_assoc ((((x ++ d) ++ y) ++ d) ++ z) d w
    ∙ append_assoc (((x ++ d) ++ y) ++ d) z (d ++ w)
    ∙ append_assoc ((x ++ d) ++ y) d (z ++ (d ++ w))
    ∙ append_assoc (x ++ d) y (d ++ (z ++ (d ++ w)))
    ∙ append_assoc x d (y ++ (d ++ (z ++ (d ++ w))))

word_is : (m : Mark) → mark_word m ≡ parts m
word_is m =
    right_first (codes ".") (hex m.entry) (decimal m.stamp) (decimal m.bits) (answer_word m.answer)

parts_lack :
    (c : ℕ) (m : Mark)
    → (c < 46)
    → lacks c (hex m.entry) ≡ true
    → lacks c (answer_word m.answer) ≡ true
    → (46 == c) ≡ false
    → lacks c (parts m) ≡ true
parts_lack c m low entry answer point =
    lacks_append c (hex m.entry) _ entry
    (rw point
    (lacks_append c (decimal m.stamp) _ (lacks_decimal c m.stamp (inl (omega arith)))
    (rw point
    (lacks_append c (decimal m.bits) _
    (lacks_decimal c m.bits (inl (omega arith))) (rw point answer)))))

-- The word of a mark has no space.
pub word_32 : (m : Mark) → lacks 32 (mark_word m) ≡ true
word_32 m =
    subst (λ w. lacks 32 w ≡ true) (sym (word_is m))
    (parts_lack 32 m (omega arith) (lacks_hex 32 m.entry (inl (omega arith)))
    (answer_lacks m.answer).1 refl)

-- The word of a mark has no line's end.
pub word_10 : (m : Mark) → lacks 10 (mark_word m) ≡ true
word_10 m =
    subst (λ w. lacks 10 w ≡ true) (sym (word_is m))
    (parts_lack 10 m (omega arith) (lacks_hex 10 m.entry (inl (omega arith)))
    (answer_lacks m.answer).0 refl)

-- ---- a mark at its points
abbrev behind_entry : Mark → List ℕ
behind_entry m = decimal m.stamp ++ 46 ∷ (decimal m.bits ++ 46 ∷ answer_word m.answer)

abbrev behind_stamp : Mark → List ℕ
behind_stamp m = decimal m.bits ++ 46 ∷ answer_word m.answer

pub at_entry :
    (m : Mark) (word a x : List ℕ)
    → lacks 46 a ≡ true
    → word ≡ a ++ 46 ∷ x
    → mark_word m ≡ word
    → (hex m.entry ≡ a) × (behind_entry m ≡ x)
at_entry m word a x h cut is =
    cut_at 46 (hex m.entry) a (behind_entry m) x (lacks_hex 46 m.entry (inl (omega arith))) h
    (sym (word_is m) ∙ is ∙ cut)

pub at_stamp :
    (m : Mark) (rest b y : List ℕ)
    → lacks 46 b ≡ true
    → rest ≡ b ++ 46 ∷ y
    → behind_entry m ≡ rest
    → (decimal m.stamp ≡ b) × (behind_stamp m ≡ y)
at_stamp m rest b y h cut is =
    cut_at 46 (decimal m.stamp) b (behind_stamp m) y (lacks_decimal 46 m.stamp (inl (omega arith)))
    h (is ∙ cut)

pub at_bits :
    (m : Mark) (rest b y : List ℕ)
    → lacks 46 b ≡ true
    → rest ≡ b ++ 46 ∷ y
    → behind_stamp m ≡ rest
    → (decimal m.bits ≡ b) × (answer_word m.answer ≡ y)
at_bits m rest b y h cut is =
    cut_at 46 (decimal m.bits) b (answer_word m.answer) y
    (lacks_decimal 46 m.bits (inl (omega arith))) h (is ∙ cut)

-- A text that has a point doesn't lack it.
pub has_point : (a x rest : List ℕ) → lacks 46 rest ≡ true → a ++ 46 ∷ x ≡ rest → ⊥
has_point a x rest h is =
    lacks_head 46 x (lacks_back 46 a (46 ∷ x) (subst (λ r. lacks 46 r ≡ true) (sym is) h))

pub word_has_point : (m : Mark) (rest : List ℕ) → lacks 46 rest ≡ true → mark_word m ≡ rest → ⊥
word_has_point m rest h is = has_point (hex m.entry) (behind_entry m) rest h (sym (word_is m) ∙ is)

-- A word is one mark.
pub one_mark : (m n : Mark) → IsMark m → IsMark n → mark_word m ≡ mark_word n → m ≡ n
one_mark m n s t e =
    let low : m.entry < 2 ^ 32 = s.entry in
    let low' : n.entry < 2 ^ 32 = t.entry in
    let few : m.stamp < 2 ^ 32 = s.stamp in
    let few' : n.stamp < 2 ^ 32 = t.stamp in
    let small : m.bits < 4 = s.bits in
    let small' : n.bits < 4 = t.bits in
    let a = at_entry m (mark_word n) (hex n.entry) (behind_entry n)
    (lacks_hex 46 n.entry (inl (omega arith))) (word_is n) e in
    let b = at_stamp m (behind_entry n) (decimal n.stamp) (behind_stamp n)
    (lacks_decimal 46 n.stamp (inl (omega arith))) refl a.1 in
    let c = at_bits m (behind_stamp n) (decimal n.bits) (answer_word n.answer)
    (lacks_decimal 46 n.bits (inl (omega arith))) refl b.1 in
    let entry : m.entry ≡ n.entry = hex_same m.entry n.entry (omega arith) (omega arith) a.0 in
    let stamp : m.stamp ≡ n.stamp = decimal_injective m.stamp n.stamp (omega arith) (omega arith)
    b.0 in
    let bits : m.bits ≡ n.bits = decimal_injective m.bits n.bits (omega arith) (omega arith) c.0 in
    let answer : m.answer ≡ n.answer = answer_same m.answer n.answer c.1 in
    λ i. record { entry = entry i; stamp = stamp i; bits = bits i; answer = answer i }

-- ---- marks after spaces
-- A text that is empty or begins with a space: with a space after it, it begins with one.
pub record IsBehindWord (x : List ℕ) : Type 0 where
  pub rest : List ℕ
  pub moved : x ++ 32 ∷ [] ≡ 32 ∷ rest

pub none_behind : IsBehindWord []
none_behind = record { rest = []; moved = refl }

pub some_behind : (w : List ℕ) → IsBehindWord (32 ∷ w)
some_behind w = record { rest = w ++ 32 ∷ []; moved = refl }

marks_behind :
    (ms : List Mark) (rest : List ℕ)
    → IsBehindWord rest
    → IsBehindWord (flat_map mark_text ms ++ rest)
marks_behind [] rest h = h
marks_behind (m ∷ ms) rest h = some_behind ((mark_word m ++ flat_map mark_text ms) ++ rest)

-- The word before it is cut in one way.
pub cut_word :
    (u v x y : List ℕ)
    → lacks 32 u ≡ true
    → lacks 32 v ≡ true
    → IsBehindWord x
    → IsBehindWord y
    → u ++ x ≡ v ++ y
    → (u ≡ v) × (x ≡ y)
cut_word u v x y h k s t e =
    let longer : u ++ 32 ∷ s.rest ≡ v ++ 32 ∷ t.rest = ap (λ z. u ++ z) (sym s.moved) ∙ sym
    (append_assoc u x (32 ∷ [])) ∙ ap (λ z. z ++ 32 ∷ []) e ∙ append_assoc v y (32 ∷ []) ∙ ap
    (λ z. v ++ z) t.moved in
    let c = cut_at 32 u v s.rest t.rest h k longer in
    (c.0, append_cancel_right x y (32 ∷ []) (s.moved ∙ ap (λ z. 32 ∷ z) c.1 ∙ sym t.moved))

-- What is left of a text's marks after the first of them.
pub record AreFurther (ms ns : List Mark) (rest : List ℕ) : Type 0 where
  pub others : List Mark
  pub all : ns ≡ ms ++ others
  pub marks : AllByRecursion IsMark others
  pub text : rest ≡ flat_map mark_text others

pub further :
    (ms ns : List Mark) (rest : List ℕ)
    → AllByRecursion IsMark ms
    → AllByRecursion IsMark ns
    → IsBehindWord rest
    → flat_map mark_text ms ++ rest ≡ flat_map mark_text ns
    → AreFurther ms ns rest
further [] ns rest h k behind e = record { others = ns; all = refl; marks = k; text = e }
further (m ∷ ms) [] rest h k behind e = cc
further (m ∷ ms) (n ∷ ns) rest h k behind e =
    let same : mark_word m ++ (flat_map mark_text ms ++ rest) ≡ mark_word n ++ flat_map mark_text ns
    = sym (append_assoc (mark_word m) (flat_map mark_text ms) rest) ∙ ap (drop 1) e in
    let tail : IsBehindWord (flat_map mark_text ns) = subst IsBehindWord
    (append-nil (flat_map mark_text ns)) (marks_behind ns [] none_behind) in
    let c = cut_word (mark_word m) (mark_word n) (flat_map mark_text ms ++ rest)
    (flat_map mark_text ns) (word_32 m) (word_32 n) (marks_behind ms rest behind) tail same in
    let first : n ≡ m = sym (one_mark m n h.0 k.0 c.0) in
    let f = further ms ns rest h.1 k.1 behind c.1 in
    record { others = f.others; all = λ i. first i ∷ f.all i; marks = f.marks; text = f.text }

-- ---- texts that spell no marks
pub no_space :
    (text : List ℕ) (ms : List Mark) → ((w : List ℕ) → text ≡ 32 ∷ w → ⊥) → AreSpelt text ms → ⊥
no_space text [] other k = let few : 1 ≤ 0 = k.some in omega arith
no_space text (m ∷ ms) other k = other (mark_word m ++ flat_map mark_text ms) k.text

pub seventeenth :
    (text w : List ℕ) (ms ns : List Mark)
    → AllByRecursion IsMark ms
    → length ms ≡ 16
    → text ≡ flat_map mark_text ms ++ 32 ∷ w
    → AreSpelt text ns
    → ⊥
seventeenth text w ms ns h full told k =
    at (further ms ns (32 ∷ w) h k.marks (some_behind w) (sym told ∙ k.text)) where
      at_others : (others : List Mark) → ns ≡ ms ++ others → 32 ∷ w ≡ flat_map mark_text others → ⊥
      at_others [] all e = cc
      at_others (o ∷ os) all e =
          let most : length ns ≤ 16 = k.most in
          omega (arith, most, ap length all, length-append ms (o ∷ os))

      at : AreFurther ms ns (32 ∷ w) → ⊥
      at f = at_others f.others f.all f.text

pub no_mark :
    (text words word left : List ℕ) (ms ns : List Mark)
    → AllByRecursion IsMark ms
    → text ≡ flat_map mark_text ms ++ 32 ∷ words
    → words ≡ word ++ left
    → lacks 32 word ≡ true
    → IsBehindWord left
    → ((m : Mark) → IsMark m → mark_word m ≡ word → ⊥)
    → AreSpelt text ns
    → ⊥
no_mark text words word left ms ns h told cut lacking behind none k =
    at (further ms ns (32 ∷ words) h k.marks (some_behind words) (sym told ∙ k.text)) where
      at_others :
          (others : List Mark)
          → AllByRecursion IsMark others
          → 32 ∷ words ≡ flat_map mark_text others
          → ⊥
      at_others [] marks e = cc
      at_others (o ∷ os) marks e =
          let tail : IsBehindWord (flat_map mark_text os) = subst IsBehindWord
          (append-nil (flat_map mark_text os)) (marks_behind os [] none_behind) in
          none o marks.0
          (cut_word (mark_word o) word (flat_map mark_text os) left (word_32 o) lacking tail behind
          (sym (ap (drop 1) e) ∙ cut)).0

      at : AreFurther ms ns (32 ∷ words) → ⊥
      at f = at_others f.others f.marks f.text

pub words_behind : (others : Option (Bor (List ℕ))) → IsBehindWord (words_left others)
words_behind None = none_behind
words_behind (Some words) = some_behind words.now

-- ---- a text spells one list of marks
no_marks : (ms : List Mark) → [] ≡ flat_map mark_text ms → ms ≡ []
no_marks [] e = refl
no_marks (m ∷ ms) e = cc

pub spelt_once :
    (ms ns : List Mark)
    → AllByRecursion IsMark ms
    → AllByRecursion IsMark ns
    → flat_map mark_text ms ≡ flat_map mark_text ns
    → ms ≡ ns
spelt_once ms ns h k e =
    at (further ms ns [] h k none_behind (append-nil (flat_map mark_text ms) ∙ e)) where
      at : AreFurther ms ns [] → ms ≡ ns
      at f = sym (f.all ∙ ap (λ os. ms ++ os) (no_marks f.others f.text) ∙ append-nil ms)

pub marks_once : (line : List ℕ) (ms ns : List Mark) → HasMarks line ms → HasMarks line ns → ms ≡ ns
marks_once line ms ns = at (behind_bar line) where
  at :
      (o : Option (List ℕ))
      → MatchOption o (ms ≡ []) (λ rest. AreSpelt rest ms)
      → MatchOption o (ns ≡ []) (λ rest. AreSpelt rest ns)
      → ms ≡ ns
  at None h k = h ∙ sym k
  at (Some rest) h k = spelt_once ms ns h.marks k.marks (sym h.text ∙ k.text)
