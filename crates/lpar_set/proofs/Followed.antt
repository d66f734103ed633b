-- The lines of a set, followed: what its reading has is what the lines before say by themselves.
use Rattle.std.specs.Prelude.{is_some, unwrap_or}
use Rattle.std.specs.List.{list_all, list_any}
use Rattle.std.proofs.Common.{◌≡◌, ◌≢◌, ◌∙◌, ℕ, ◌+◌, ◌<◌, Bool, true, false, List, [], ◌∷◌, ◌++◌, length, Option, Some, None, Ok, refl, sym, ap, subst, if◌then◌else◌, ltb, ◌&&◌, ◌||◌, inl, inr, ◌⊎◌, arith}
use Rattle.std.proofs.lemmas.Bool.{cases_eq, eq-eqb, ne_eqb, false≢true}
use Rattle.std.proofs.lemmas.List.{append_assoc, append-nil, length_push, map-append}
use Rattle.std.proofs.lemmas.List.Elements.{filter_map-append}
use Rattle.std.proofs.lemmas.List.Folds.{list_all-append, list_any-append}
use Rattle.trace_read.specs.Givens.{given_of}
use Rattle.trace_read.specs.declared.given.Given.{Given}
use Rattle.trace_read.specs.Grammar.{Reading, reading_beside, after_line}
use Rattle.trace_read.specs.Settings.{pool_named}
use Rattle.trace_read.specs.TextLines.{is_printable, without_cr}
use Rattle.lpar_set.specs.PartitionLines.{words_in, is_remark_line, is_shared, first_number, own_words, is_line_of, behind_word, own_line, own_lines, unnamed_pool, shared_pool, after_all, begun_by, begun_in, is_run_line, is_begin, is_run, own_form}
use Rattle.lpar_set.specs.SetGrammar.{SetReading, after_set_line, opening_set_reading, reading_of, set_beside}
use Rattle.lpar_set.specs.SetReadings.{IsSetReading, reading_at}
use Rattle.lpar_set.proofs.EmptySet.{none_there, opening_set_reading_is}
use Rattle.lpar_set.proofs.AddedReadings.{own_at, other_at, own_there, other_there, same_start}
use Rattle.lpar_set.proofs.LinesTaken.{Takes, takes_remark, takes_shared, takes_member, IsMemberLine, begun_if, begin_given, counted, gives_begin, member_added, run_given, set_line_taken, shared_so}
use Rattle.lpar_set.proofs.OwnLines.{own_moves, is_run as gives_run}
use Rattle.lpar_set.proofs.OwnReadings.{one_taken}
use Rattle.lpar_set.proofs.OwnText.{own_line_read, remark_read}
use Rattle.lpar_set.proofs.PlainLines.{none_begins, none_of_it, none_runs, remark_numberless, remarks_begin_none, remarks_name_none, remarks_read, remarks_run_none, shared_numberless, stays_remark}
use Rattle.lpar_set.proofs.SetLinesKept.{set_line_keeps}
use Rattle.lpar_set.proofs.SetReadingsKept.{retaken, inside_eight}
use Rattle.lpar_set.proofs.TurnOrder.{AreOrdered, counted_ordered, member_ordered, none_ordered}
use Rattle.trace_line.specs.Lines.{most_lines}

-- What has come of these lines.
pub record IsFollowed (before : List (List ℕ)) (r : SetReading) : Type 0 where
  pub sound : IsSetReading r
  pub taken : r.taken ≡ length before
  pub first : list_all is_remark_line before ≡ r.untouched
  pub unnamed : r.untouched ≡ true → (r.pool_base, r.pool_order) ≡ unnamed_pool
  pub pool :
      (rest : List (List ℕ))
      → shared_pool (before ++ rest)
      ≡ (if r.untouched then shared_pool rest else (r.pool_base, r.pool_order))
  pub own :
      (number : ℕ)
      → number < 8
      → after_all (reading_beside r.pool_base r.pool_order) (own_lines number before)
      ≡ Ok (retaken r number)
  pub occurs :
      (number : ℕ)
      → number < 8
      → is_some (reading_at r number) ≡ list_any (is_line_of number) before
  pub begun : r.begun ≡ begun_in before
  pub turned : ltb 0 (length r.turns) ≡ list_any is_run_line before
  pub ordered : AreOrdered r

-- ---- no partition
empty_there :
    (pool : ℕ × ℕ) (taken number : ℕ) (untouched : Bool)
    → reading_of (record (set_beside pool.0 pool.1) { taken = taken; untouched = untouched }) number
    ≡ reading_beside pool.0 pool.1
empty_there pool taken number untouched =
    ap (λ o. unwrap_or o (reading_beside pool.0 pool.1)) (none_there number)

-- Before the first line.
pub followed_first : IsFollowed [] opening_set_reading
followed_first = record {
  sound = opening_set_reading_is;
  taken = refl;
  first = refl;
  unnamed = λ none. refl;
  pool = λ rest. refl;
  own =
      λ number below.
      ap (λ (x : Reading). Ok (record x { taken = 0 }))
      (sym (empty_there unnamed_pool 0 number true));
  occurs = λ number below. ap is_some (none_there number);
  begun = refl;
  turned = refl;
  ordered = none_ordered opening_set_reading refl;
}

-- ---- one line more
all_push :
    (before : List (List ℕ)) (line : List ℕ)
    → list_all is_remark_line (before ++ line ∷ [])
    ≡ (list_all is_remark_line before && (is_remark_line line && true))
all_push before line = list_all-append is_remark_line before (line ∷ [])

and_no : (a : Bool) → (a && (false && true)) ≡ false
and_no true = refl
and_no false = refl

and_yes : (a : Bool) → (a && (true && true)) ≡ a
and_yes true = refl
and_yes false = refl

or_no : (a : Bool) → (a || (false || false)) ≡ a
or_no true = refl
or_no false = refl

or_yes : (a : Bool) → (a || (true || false)) ≡ true
or_yes true = refl
or_yes false = refl

or_last : (a b : Bool) → (a || (b || false)) ≡ (a || b)
or_last a true = refl
or_last a false = refl

own_push :
    (number : ℕ) (before : List (List ℕ)) (line : List ℕ)
    → own_lines number (before ++ line ∷ []) ≡ own_lines number before ++ own_line number line ∷ []
own_push number before line = map-append (own_line number) before (line ∷ [])

-- One more line of the partition's own form.
own_more :
    (q r s : Reading) (number : ℕ) (before : List (List ℕ)) (line : List ℕ)
    → after_all q (own_lines number before) ≡ Ok r
    → after_line r (own_line number line) ≡ Ok s
    → after_all q (own_lines number (before ++ line ∷ [])) ≡ Ok s
own_more q r s number before line so more =
    ap (after_all q) (own_push number before line)
    ∙ one_taken (own_lines number before) q r s (own_line number line) so more

-- A line of another is a remark.
other_more :
    (q r : Reading) (number : ℕ) (before : List (List ℕ)) (line : List ℕ)
    → r.taken < most_lines
    → is_line_of number line ≡ false
    → after_all q (own_lines number before) ≡ Ok r
    → after_all q (own_lines number (before ++ line ∷ [])) ≡ Ok (record r { taken = r.taken + 1 })
other_more q r number before line few other so =
    own_more q r (record r { taken = r.taken + 1 }) number before line so
    (ap (after_line r) (stays_remark number line other) ∙ remark_read r few)

named_push :
    (number : ℕ) (before : List (List ℕ)) (line : List ℕ)
    → list_any (is_line_of number) (before ++ line ∷ [])
    ≡ (list_any (is_line_of number) before || (is_line_of number line || false))
named_push number before line = list_any-append (is_line_of number) before (line ∷ [])

runs_push :
    (before : List (List ℕ)) (line : List ℕ)
    → list_any is_run_line (before ++ line ∷ [])
    ≡ (list_any is_run_line before || (is_run_line line || false))
runs_push before line = list_any-append is_run_line before (line ∷ [])

begun_push :
    (before : List (List ℕ)) (line : List ℕ)
    → begun_in (before ++ line ∷ []) ≡ begun_in before ++ begun_in (line ∷ [])
begun_push before line = filter_map-append begun_by before (line ∷ [])

counted_push :
    (before : List (List ℕ)) (line : List ℕ) (n m : ℕ)
    → n ≡ length before
    → m ≡ n + 1
    → m ≡ length (before ++ line ∷ [])
counted_push before line n m is next =
    let size : length (before ++ line ∷ []) ≡ length before + 1 = length_push before line in
    omega (arith, size, is, next)

pool_behind :
    (before rest : List (List ℕ)) (line : List ℕ)
    → shared_pool ((before ++ line ∷ []) ++ rest) ≡ shared_pool (before ++ line ∷ rest)
pool_behind before rest line = ap shared_pool (append_assoc before (line ∷ []) rest)

-- ---- a line that names no partition
quiet_named :
    (number : ℕ) (before : List (List ℕ)) (line : List ℕ)
    → first_number (words_in line) ≡ None
    → list_any (is_line_of number) (before ++ line ∷ []) ≡ list_any (is_line_of number) before
quiet_named number before line none =
    named_push number before line
    ∙ rw (none_of_it number line none) (or_no (list_any (is_line_of number) before))

quiet_runs :
    (before : List (List ℕ)) (line : List ℕ)
    → first_number (words_in line) ≡ None
    → list_any is_run_line (before ++ line ∷ []) ≡ list_any is_run_line before
quiet_runs before line none =
    runs_push before line ∙ rw (none_runs line none) (or_no (list_any is_run_line before))

quiet_begun :
    (before : List (List ℕ)) (line : List ℕ)
    → first_number (words_in line) ≡ None
    → begun_in (before ++ line ∷ []) ≡ begun_in before
quiet_begun before line none =
    begun_push before line ∙ rw (none_begins line none) (append-nil (begun_in before))

remark_pool :
    (before rest : List (List ℕ)) (line : List ℕ) (untouched : Bool) (pool : ℕ × ℕ)
    → is_remark_line line ≡ true
    → shared_pool (before ++ line ∷ rest) ≡ (if untouched then shared_pool (line ∷ rest) else pool)
    → shared_pool (before ++ line ∷ rest) ≡ (if untouched then shared_pool rest else pool)
remark_pool before rest line true pool remark is = is ∙ rw remark refl
remark_pool before rest line false pool remark is = is

remark_followed :
    (before : List (List ℕ)) (r s : SetReading) (line : List ℕ)
    → IsFollowed before r
    → IsSetReading s
    → r.taken < most_lines
    → is_remark_line line ≡ true
    → counted r ≡ s
    → IsFollowed (before ++ line ∷ []) s
remark_followed before r s line is sound few remark same =
    let none = remark_numberless (words_in line) remark in
    let here : IsSetReading (counted r) = subst IsSetReading (sym same) sound in
    subst (IsFollowed (before ++ line ∷ [])) same (record {
      sound = here;
      taken = counted_push before line r.taken (r.taken + 1) is.taken refl;
      first =
          all_push before line ∙ rw remark (and_yes (list_all is_remark_line before)) ∙ is.first;
      unnamed = is.unnamed;
      pool =
          λ rest.
          pool_behind before rest line
          ∙ remark_pool before rest line r.untouched (r.pool_base, r.pool_order) remark
          (is.pool (line ∷ rest));
      own =
          λ number below.
          other_more (reading_beside r.pool_base r.pool_order) (retaken r number) number before line
          few (none_of_it number line none) (is.own number below);
      occurs = λ number below. is.occurs number below ∙ sym (quiet_named number before line none);
      begun = is.begun ∙ sym (quiet_begun before line none);
      turned = is.turned ∙ sym (quiet_runs before line none);
      ordered = counted_ordered r is.ordered;
    })

-- `shared`, after remarks alone.
shared_followed :
    (before : List (List ℕ)) (r s : SetReading) (line : List ℕ) (pool : ℕ × ℕ)
    → IsFollowed before r
    → IsSetReading s
    → r.taken < most_lines
    → is_remark_line line ≡ false
    → is_shared (words_in line) ≡ true
    → r.untouched ≡ true
    → pool_named (words_in line) ≡ Ok pool
    → shared_so r pool ≡ s
    → IsFollowed (before ++ line ∷ []) s
shared_followed before r s line pool is sound few words shared first named same =
    let none = shared_numberless (words_in line) shared in
    let remarks : list_all is_remark_line before ≡ true = is.first ∙ first in
    let size : r.taken ≡ length before = is.taken in
    let here : IsSetReading (shared_so r pool) = subst IsSetReading (sym same) sound in
    subst (IsFollowed (before ++ line ∷ [])) same (record {
      sound = here;
      taken = counted_push before line r.taken (r.taken + 1) is.taken refl;
      first = all_push before line ∙ rw words (and_no (list_all is_remark_line before));
      unnamed = λ other. absurd (false≢true other);
      pool =
          λ rest.
          pool_behind before rest line
          ∙ is.pool (line ∷ rest)
          ∙ rw (first, words, shared, named) refl;
      own = λ number below.
          (let start : Reading = reading_beside pool.0 pool.1 in
          let read = remarks_read before start number remarks (omega (arith, few, size)) in
          other_more start (record start { taken = 0 + length before }) number before line
          (omega (arith, few, size)) (none_of_it number line none) read
          ∙ ap (λ n. Ok (record start { taken = n })) (omega (arith, size))
          ∙ ap (λ (x : Reading). Ok (record x { taken = r.taken + 1 }))
          (sym (empty_there pool (r.taken + 1) number false)));
      occurs =
          λ number below.
          ap is_some (none_there number)
          ∙ sym (quiet_named number before line none ∙ remarks_name_none before number remarks);
      begun = sym (quiet_begun before line none ∙ remarks_begin_none before remarks);
      turned = sym (quiet_runs before line none ∙ remarks_run_none before remarks);
      ordered = none_ordered (shared_so r pool) refl;
    })

-- ---- a line of a partition
-- A reading that has taken so many lines.
abbrev at_count : ℕ → Reading → Reading
at_count n x = record x { taken = n }

pub number_here :
    (number m : ℕ) (line : List ℕ)
    → first_number (words_in line) ≡ Some number
    → m ≡ number
    → is_line_of m line ≡ true
number_here number m line named same = rw named (eq-eqb number m (sym same))

pub number_not :
    (number m : ℕ) (line : List ℕ)
    → first_number (words_in line) ≡ Some number
    → m ≢ number
    → is_line_of m line ≡ false
number_not number m line named other = rw named (ne_eqb number m (λ same. other (sym same)))

own_read :
    (r s : SetReading) (line : List ℕ) (number : ℕ) (new : Reading) (given : Given)
    → number < length r.readings
    → IsMemberLine r s line number new given
    → after_line (retaken r number) (own_line number line) ≡ Ok (retaken s number)
own_read r s line number new given inside is =
    let mine : own_line number line ≡ behind_word (without_cr line) = rw
    (number_here number number line is.named refl) refl in
    let there = own_there r s number new given inside is.added in
    let taken : new.taken ≡ s.taken = is.moved.taken ∙ sym is.added.taken in
    let told : new ≡ retaken s number = ap (λ n. at_count n new) taken ∙ ap (at_count s.taken)
    (sym there) in
    ap (after_line (retaken r number)) mine
    ∙ own_line_read (retaken r number) line is.few is.text
    ∙ is.read
    ∙ ap Ok told

other_read :
    (r s : SetReading) (line : List ℕ) (number m : ℕ) (new : Reading) (given : Given)
    → m ≢ number
    → IsMemberLine r s line number new given
    → at_count (r.taken + 1) (reading_of r m) ≡ retaken s m
other_read r s line number m new given other is =
    ap (λ n. at_count n (reading_of r m)) (sym is.added.taken)
    ∙ ap (at_count s.taken) (sym (other_there r s number m new given other is.added))

member_own :
    (before : List (List ℕ)) (r s : SetReading) (line : List ℕ) (number m : ℕ) (new : Reading)
    (given : Given)
    → IsFollowed before r
    → IsMemberLine r s line number new given
    → m < 8
    → after_all (reading_beside s.pool_base s.pool_order) (own_lines m (before ++ line ∷ []))
    ≡ Ok (retaken s m)
member_own before r s line number m new given is member below =
    ap (λ q. after_all q (own_lines m (before ++ line ∷ [])))
    (same_start r s number new given member.added)
    ∙ by (cases_eq m number) where
      start : Reading
      start = reading_beside r.pool_base r.pool_order

      by :
          (m ≡ number) ⊎ (m ≡ number → ⊥)
          → after_all (reading_beside r.pool_base r.pool_order) (own_lines m (before ++ line ∷ []))
          ≡ Ok (retaken s m)
      by (inl same) =
          subst
          (λ n.
          after_all (reading_beside r.pool_base r.pool_order)
          (own_lines n (before ++ line ∷ []))
          ≡ Ok (retaken s n)) (sym same)
          (own_more (reading_beside r.pool_base r.pool_order) (retaken r number)
          (retaken s number) number before line (is.own number member.below)
          (own_read r s line number new given (inside_eight r number is.sound member.below)
          member))
      by (inr other) =
          other_more (reading_beside r.pool_base r.pool_order) (retaken r m) m before line
          member.few (number_not number m line member.named other) (is.own m below)
          ∙ ap Ok (other_read r s line number m new given other member)

member_occurs :
    (before : List (List ℕ)) (r s : SetReading) (line : List ℕ) (number m : ℕ) (new : Reading)
    (given : Given)
    → IsFollowed before r
    → IsMemberLine r s line number new given
    → m < 8
    → is_some (reading_at s m) ≡ list_any (is_line_of m) (before ++ line ∷ [])
member_occurs before r s line number m new given is member below = by (cases_eq m number) where
  by :
      (m ≡ number) ⊎ (m ≡ number → ⊥)
      → is_some (reading_at s m) ≡ list_any (is_line_of m) (before ++ line ∷ [])
  by (inl same) =
      ap (λ n. is_some (reading_at s n)) same
      ∙ ap is_some
      (own_at r s number new given (inside_eight r number is.sound member.below) member.added)
      ∙ sym
      (named_push m before line
      ∙ rw (number_here number m line member.named same)
      (or_yes (list_any (is_line_of m) before)))
  by (inr other) =
      ap is_some (other_at r s number m new given other member.added)
      ∙ is.occurs m below
      ∙ sym
      (named_push m before line
      ∙ rw (number_not number m line member.named other)
      (or_no (list_any (is_line_of m) before)))

begun_line :
    (test : Bool) (number : ℕ) (o : Option ℕ) (line : List ℕ)
    → o ≡ Some number
    → begun_by line ≡ (if test then o else None)
    → begun_in (line ∷ []) ≡ begun_if test number
begun_line true number o line some by = rw (by, some) refl
begun_line false number o line some by = rw by refl

member_begun :
    (before : List (List ℕ)) (r s : SetReading) (line : List ℕ) (number : ℕ) (new : Reading)
    (given : Given)
    → IsFollowed before r
    → IsMemberLine r s line number new given
    → s.begun ≡ begun_in (before ++ line ∷ [])
member_begun before r s line number new given is member =
    let one : begun_in (line ∷ []) ≡ begun_if (gives_begin given) number = begun_line
    (is_begin (own_form line)) number (first_number (words_in line)) line member.named refl ∙ ap
    (λ test. begun_if test number)
    (sym (begin_given (reading_of r number).config (own_words (words_in line)))
    ∙ ap gives_begin (sym member.given_is)) in
    member.added.begun
    ∙ ap (λ (ns : List ℕ). ns ++ begun_if (gives_begin given) number) is.begun
    ∙ ap (λ (ns : List ℕ). begun_in before ++ ns) (sym one)
    ∙ sym (begun_push before line)

member_turned :
    (before : List (List ℕ)) (r s : SetReading) (line : List ℕ) (number : ℕ) (new : Reading)
    (given : Given)
    → IsFollowed before r
    → IsMemberLine r s line number new given
    → ltb 0 (length s.turns) ≡ list_any is_run_line (before ++ line ∷ [])
member_turned before r s line number new given is member =
    let one : is_run_line line ≡ gives_run given = ap
    (λ (o : Option ℕ). is_some o && is_run (own_form line)) member.named ∙ sym
    (run_given (reading_of r number).config (own_words (words_in line))) ∙ ap gives_run
    (sym member.given_is) in
    member.added.turned
    ∙ ap (λ b. b || gives_run given) is.turned
    ∙ ap (λ b. list_any is_run_line before || b) (sym one)
    ∙ sym (runs_push before line ∙ or_last (list_any is_run_line before) (is_run_line line))

pub member_pool :
    (before rest : List (List ℕ)) (line : List ℕ) (untouched : Bool) (pool : ℕ × ℕ)
    → is_remark_line line ≡ false
    → is_shared (words_in line) ≡ false
    → (untouched ≡ true → pool ≡ unnamed_pool)
    → shared_pool (before ++ line ∷ rest) ≡ (if untouched then shared_pool (line ∷ rest) else pool)
    → shared_pool (before ++ line ∷ rest) ≡ pool
member_pool before rest line true pool words plain unnamed is =
    is ∙ rw (words, plain) (sym (unnamed refl))
member_pool before rest line false pool words plain unnamed is = is

-- A line of a partition.
pub member_followed :
    (before : List (List ℕ)) (r s : SetReading) (line : List ℕ) (number : ℕ) (new : Reading)
    (given : Given)
    → IsFollowed before r
    → IsSetReading s
    → IsMemberLine r s line number new given
    → IsFollowed (before ++ line ∷ []) s
member_followed before r s line number new given is sound member =
    let pools : (r.pool_base, r.pool_order) ≡ (s.pool_base, s.pool_order) = λ i.
    (sym member.added.base i, sym member.added.order i) in
    record {
      sound = sound;
      taken = counted_push before line r.taken s.taken is.taken member.added.taken;
      first =
          all_push before line
          ∙ rw member.words (and_no (list_all is_remark_line before))
          ∙ sym member.added.untouched;
      unnamed = λ first. absurd (false≢true (sym member.added.untouched ∙ first));
      pool = λ rest.
          (pool_behind before rest line
          ∙ member_pool before rest line r.untouched (r.pool_base, r.pool_order) member.words
          member.plain is.unnamed (is.pool (line ∷ rest))
          ∙ pools
          ∙ rw member.added.untouched refl);
      own = λ m below. member_own before r s line number m new given is member below;
      occurs = λ m below. member_occurs before r s line number m new given is member below;
      begun = member_begun before r s line number new given is member;
      turned = member_turned before r s line number new given is member;
      ordered = member_ordered r s line number new given is.ordered is.sound member;
    }

-- ---- each line
takes_followed :
    (before : List (List ℕ)) (r s : SetReading) (line : List ℕ)
    → IsFollowed before r
    → IsSetReading s
    → r.taken < most_lines
    → list_all is_printable (without_cr line) ≡ true
    → Takes r (words_in line) s
    → IsFollowed (before ++ line ∷ []) s
takes_followed before r s line is sound few text (takes_remark remark same) =
    remark_followed before r s line is sound few remark same
takes_followed before r s line is sound few text
    (takes_shared pool words shared own first named same) =
    shared_followed before r s line pool is sound few words shared first named same
takes_followed before r s line is sound few text
    (takes_member number new below words plain named own early read e) =
    member_followed before r s line number new
    (given_of (reading_of r number).config (own_words (words_in line))) is sound (record {
      few = few;
      text = text;
      below = below;
      words = words;
      plain = plain;
      named = named;
      read = read;
      given_is = refl;
      moved = own_moves (retaken (counted r) number) new (own_words (words_in line)) own read;
      added =
          member_added (counted r) s number new (reading_of r number).config
          (own_words (words_in line)) e;
    })

-- Each accepted line is followed.
pub line_followed :
    (before : List (List ℕ)) (r s : SetReading) (line : List ℕ)
    → IsFollowed before r
    → after_set_line r line ≡ Ok s
    → IsFollowed (before ++ line ∷ []) s
line_followed before r s line is e =
    let taken = set_line_taken r s line e in
    takes_followed before r s line is (set_line_keeps r s line is.sound e) taken.few taken.text
    taken.takes
