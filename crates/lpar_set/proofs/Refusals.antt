-- What an input is refused for may be said against it.
use Rattle.std.specs.Prelude.{is_some}
use Rattle.std.specs.List.{list_all, list_any}
use Rattle.std.proofs.Common.{◌≡◌, ◌∙◌, ℕ, suc, ◌+◌, ◌<◌, Bool, true, false, List, [], ◌∷◌, ◌++◌, length, get_or, Option, Some, None, Result, Ok, Err, refl, sym, ap, subst, if◌then◌else◌, ◌&&◌, ◌||◌, arith}
use Rattle.std.proofs.lemmas.Bool.{false≢true}
use Rattle.std.proofs.lemmas.List.{map-append}
use Rattle.std.proofs.lemmas.List.Elements.{All-get_or}
use Rattle.std.proofs.lemmas.List.Folds.{list_any-append}
use Rattle.basics.proofs.Lists.{list_any-false}
use Rattle.trace_read.specs.declared.why.Why.{Why}
use Rattle.trace_read.specs.declared.why.Why.TheVariants as whys
use Rattle.trace_read.specs.Grammar.{Reading, after_line, after_lines, reading_beside}
use Rattle.trace_read.specs.Places.{is_running}
use Rattle.trace_read.specs.TextLines.{is_remark, raw_lines}
use Rattle.lpar_set.specs.PartitionLaws.{IsAgainst, long, own, apart, none, RefusalsAreReasons}
use Rattle.lpar_set.specs.PartitionLines.{is_line_of, is_shared, own_line, own_lines, own_start, own_trace, words_in}
use Rattle.lpar_set.specs.SetGrammar.{SetReading, after_set_lines, has_begun, opening_set_reading, reading_of, set_at_end, set_of}
use Rattle.lpar_set.specs.SetReadings.{reading_at}
use Rattle.lpar_set.specs.SetTrace.{AcceptedSet}
use Rattle.lpar_set.proofs.Followed.{IsFollowed, member_pool, number_here}
use Rattle.lpar_set.proofs.LinesRefused.{IsFaulty, of_set, of_own, line_faulty}
use Rattle.lpar_set.proofs.OwnReadings.{lines_on}
use Rattle.lpar_set.proofs.Partitions.{own_ends}
use Rattle.lpar_set.proofs.SetEnds.{set_read}
use Rattle.lpar_set.proofs.SetReadingsKept.{retaken}
use Rattle.lpar_set.proofs.Walked.{Reads, too_long, by_lines, Walk, walked, stopped, reads, walk_lines}
use Rattle.trace_read.proofs.NextLine.{refused_next}

-- ---- the line that is refused
-- The shared pool of lines among which one names a partition, and those before it were followed.
pub own_start_is :
    (before rest : List (List ℕ)) (r : SetReading) (line : List ℕ)
    → IsFollowed before r
    → is_remark (words_in line) ≡ false
    → is_shared (words_in line) ≡ false
    → own_start (before ++ line ∷ rest) ≡ reading_beside r.pool_base r.pool_order
own_start_is before rest r line is words plain =
    ap (λ (pool : ℕ × ℕ). reading_beside pool.0 pool.1)
    (member_pool before rest line r.untouched (r.pool_base, r.pool_order) words plain is.unnamed
    (is.pool (line ∷ rest)))

own_at :
    (before rest : List (List ℕ)) (r : SetReading) (line : List ℕ) (number : ℕ) (why : Why)
    → IsFollowed before r
    → number < 8
    → is_remark (words_in line) ≡ false
    → is_shared (words_in line) ≡ false
    → after_line (retaken r number) (own_line number line) ≡ Err why
    → own_trace (before ++ line ∷ rest) number ≡ Err (r.taken + 1, why)
own_at before rest r line number why is below words plain refused =
    ap (λ q. after_lines q (own_lines number (before ++ line ∷ rest)))
    (own_start_is before rest r line is words plain)
    ∙ ap (after_lines (reading_beside r.pool_base r.pool_order))
    (map-append (own_line number) before (line ∷ rest))
    ∙ lines_on (own_lines number before) (own_lines number (line ∷ rest))
    (reading_beside r.pool_base r.pool_order) (retaken r number) (is.own number below)
    ∙ refused_next (retaken r number) (own_line number line) (own_lines number rest) why refused

or_here : (a b c : Bool) → b ≡ true → (a || (b || c)) ≡ true
or_here true b c e = refl
or_here false b c e = rw e refl

named_at :
    (before rest : List (List ℕ)) (line : List ℕ) (number : ℕ)
    → is_line_of number line ≡ true
    → list_any (is_line_of number) (before ++ line ∷ rest) ≡ true
named_at before rest line number is =
    list_any-append (is_line_of number) before (line ∷ rest)
    ∙ or_here (list_any (is_line_of number) before) (is_line_of number line)
    (list_any (is_line_of number) rest) is

line_against :
    (bytes : List ℕ) (before rest : List (List ℕ)) (r : SetReading) (line : List ℕ) (why : Why)
    → raw_lines bytes ≡ before ++ line ∷ rest
    → IsFollowed before r
    → IsFaulty before r line why
    → IsAgainst bytes (r.taken + 1) why
line_against bytes before rest r line why at is (of_set against) =
    let taken : length before + 1 ≡ r.taken + 1 = ap (λ n. n + 1) (sym is.taken) in
    subst (λ n. IsAgainst bytes n why) taken (apart before rest line why at against)
line_against bytes before rest r line why at is (of_own number below named words plain refused) =
    own number (r.taken + 1) why below
    (ap (list_any (is_line_of number)) at
    ∙ named_at before rest line number (number_here number number line named refl))
    (ap (λ lines. own_trace lines number) at
    ∙ own_at before rest r line number why is below words plain refused)

-- ---- the end
-- An element that fails the test.
pub record IsFailed {A : Type 0} (test : A → Bool) (xs : List A) (d : A) : Type 0 where
  pub index : ℕ
  pub inside : index < length xs
  pub fails : test (get_or xs index d) ≡ false

pub failed :
    {A : Type 0} (test : A → Bool) (xs : List A) (d : A)
    → list_all test xs ≡ false
    → IsFailed test xs d
failed test [] d e = absurd (false≢true (sym e))
failed test (x ∷ xs) d e = by (test x) refl e (failed test xs d) where
  by :
      (here : Bool)
      → test x ≡ here
      → (here && list_all test xs) ≡ false
      → (list_all test xs ≡ false → IsFailed test xs d)
      → IsFailed test (x ∷ xs) d
  by false here e rest = record { index = 0; inside = omega arith; fails = here }
  by true here e rest =
      let later = rest e in
      record { index = suc later.index; inside = omega (arith, later.inside); fails = later.fails }

not_begun : (base order : ℕ) (o : Option Reading) → has_begun o ≡ false → is_some o ≡ true
not_begun base order None e = absurd (false≢true (sym e))
not_begun base order (Some reading) e = refl

not_running :
    (r : SetReading) (number : ℕ) (o : Option Reading)
    → reading_at r number ≡ o
    → has_begun o ≡ false
    → is_running (reading_of r number).stage ≡ false
not_running r number None at e = absurd (false≢true (sym e))
not_running r number (Some reading) at e = rw at e

-- The trace of a partition that has not begun.
pub own_unbegun :
    (lines : List (List ℕ)) (r : SetReading) (number : ℕ)
    → IsFollowed lines r
    → number < 8
    → is_running (reading_of r number).stage ≡ false
    → own_trace lines number ≡ Err (r.taken + 1, whys.Begin)
own_unbegun lines r number is below waits = own_ends lines r number is below ∙ rw waits refl

unbegun_against :
    (bytes : List ℕ) (r : SetReading)
    → IsFollowed (raw_lines bytes) r
    → list_all has_begun r.readings ≡ false
    → IsAgainst bytes (r.taken + 1) whys.Begin
unbegun_against bytes r is waits =
    let found = failed has_begun r.readings None waits in
    let number : ℕ = found.index in
    let below : number < 8 = subst (λ n. number < n) is.sound.eight found.inside in
    let there : is_some (reading_at r number) ≡ true = not_begun r.pool_base r.pool_order
    (reading_at r number) found.fails in
    own number (r.taken + 1) whys.Begin below
    (sym (is.occurs number below) ∙ there)
    (own_unbegun (raw_lines bytes) r number is below
    (not_running r number (reading_at r number) refl found.fails))

empty_against :
    (bytes : List ℕ) (r : SetReading)
    → IsFollowed (raw_lines bytes) r
    → list_any is_some r.readings ≡ false
    → IsAgainst bytes (r.taken + 1) whys.Begin
empty_against bytes r is none_there =
    let taken : length (raw_lines bytes) + 1 ≡ r.taken + 1 = ap (λ n. n + 1) (sym is.taken) in
    subst (λ n. IsAgainst bytes n whys.Begin) taken (none (λ number below.
    (let inside : number < length r.readings = subst (λ n. number < n) (sym is.sound.eight) below in
    sym (is.occurs number below)
    ∙ All-get_or (λ (o : Option Reading). is_some o ≡ false) r.readings number None inside
    (list_any-false is_some r.readings none_there))))

told_so :
    (bytes : List ℕ) (first : ℕ × Why) (said : Result AcceptedSet (ℕ × Why)) (n : ℕ) (why : Why)
    → IsAgainst bytes first.0 first.1
    → said ≡ Err first
    → said ≡ Err (n, why)
    → IsAgainst bytes n why
told_so bytes first said n why is so e =
    let same : first ≡ (n, why) = cc in
    subst (λ (x : ℕ × Why). IsAgainst bytes x.0 x.1) same is

end_by :
    (occurs begun : Bool) (s : AcceptedSet) (bytes : List ℕ) (end : ℕ × Why) (n : ℕ) (why : Why)
    → (occurs ≡ false → IsAgainst bytes end.0 end.1)
    → (begun ≡ false → IsAgainst bytes end.0 end.1)
    → (if occurs && begun then Ok s else Err end) ≡ Err (n, why)
    → IsAgainst bytes n why
end_by true true s bytes end n why one other e = absurd (cc)
end_by true false s bytes end n why one other e =
    told_so bytes end (Err end) n why (other refl) refl e
end_by false begun s bytes end n why one other e =
    told_so bytes end (Err end) n why (one refl) refl e

end_against :
    (bytes : List ℕ) (r : SetReading) (n : ℕ) (why : Why)
    → IsFollowed (raw_lines bytes) r
    → set_at_end r ≡ Err (n, why)
    → IsAgainst bytes n why
end_against bytes r n why is e =
    end_by (list_any is_some r.readings) (list_all has_begun r.readings) (set_read r) bytes
    (r.taken + 1, whys.Begin) n why (empty_against bytes r is) (unbegun_against bytes r is) e

-- ---- the input
walk_against :
    (bytes : List ℕ) (n : ℕ) (why : Why) (said : Result AcceptedSet (ℕ × Why))
    → Walk (raw_lines bytes) said
    → said ≡ Err (n, why)
    → IsAgainst bytes n why
walk_against bytes n why said (walked r is end) e = end_against bytes r n why is (end ∙ e)
walk_against bytes n why said (stopped before rest line r first at is refused told) e =
    told_so bytes (r.taken + 1, first) said n why
    (line_against bytes before rest r line first at is
    (line_faulty before r line first is refused)) (sym told) e

input_against :
    (bytes : List ℕ) (n : ℕ) (why : Why)
    → Reads bytes
    → set_of bytes ≡ Err (n, why)
    → IsAgainst bytes n why
input_against bytes n why (too_long many is) e =
    told_so bytes (0, whys.Long) (set_of bytes) n why (long many) is e
input_against bytes n why (by_lines is) e =
    walk_against bytes n why (after_set_lines opening_set_reading (raw_lines bytes))
    (walk_lines (raw_lines bytes)) (sym is ∙ e)

pub refusals_are_reasons : RefusalsAreReasons
refusals_are_reasons bytes n why e = input_against bytes n why (reads bytes) e
