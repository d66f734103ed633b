-- An input against which anything may be said is refused, at the lowest line of which it may.
use Rattle.std.specs.Prelude.{is_some}
use Rattle.std.specs.List.{list_all, list_any}
use Rattle.std.proofs.Common.{◌≡◌, ◌∙◌, ℕ, ◌+◌, ◌<◌, ◌≤◌, Bool, true, false, List, [], ◌∷◌, ◌++◌, length, Option, Some, None, Result, Ok, Err, refl, sym, ap, subst, if◌then◌else◌, ◌&&◌, arith}
use Rattle.std.proofs.lemmas.Bool.{false≢true, lt-ltb, and_left, and_right}
use Rattle.std.proofs.lemmas.List.{append_assoc, append-nil, length-append, map-append}
use Rattle.std.proofs.lemmas.List.Elements.{All-from_get_or}
use Rattle.std.proofs.lemmas.List.Folds.{list_all_at, list_any_none}
use Rattle.trace_read.specs.declared.why.Why.{Why}
use Rattle.trace_read.specs.declared.why.Why.TheVariants as whys
use Rattle.trace_read.specs.Grammar.{Reading, after_lines, most_bytes, reading_beside}
use Rattle.trace_read.specs.Places.{is_running}
use Rattle.trace_read.specs.TextLines.{raw_lines}
use Rattle.trace_read.specs.Trace.{AcceptedTrace}
use Rattle.lpar_set.specs.PartitionLaws.{IsAgainst, long, own, apart, none, IsAgainstSet, LowestLinesComeFirst}
use Rattle.lpar_set.specs.PartitionLines.{after_all, is_line_of, own_line, own_lines, own_start, own_trace, shared_pool}
use Rattle.lpar_set.specs.SetGrammar.{SetReading, after_set_line, after_set_lines, has_begun, opening_set_reading, reading_of, set_at_end, set_go_on, set_of}
use Rattle.lpar_set.specs.SetReadings.{reading_at}
use Rattle.lpar_set.specs.SetTrace.{AcceptedSet}
use Rattle.lpar_set.proofs.Followed.{IsFollowed, followed_first, line_followed}
use Rattle.lpar_set.proofs.LinesStopped.{never_accepted}
use Rattle.lpar_set.proofs.OwnReadings.{lines_on, refused_behind}
use Rattle.lpar_set.proofs.Partitions.{own_ends}
use Rattle.lpar_set.proofs.PlainLines.{remarks_read}
use Rattle.lpar_set.proofs.SetEnds.{set_read}
use Rattle.lpar_set.proofs.SetReadingsKept.{retaken}
use Rattle.lpar_set.proofs.Walked.{Reads, too_long, by_lines, Walk, walked, stopped, reads, walk_lines}
use Rattle.trace_line.specs.Lines.{most_lines}

-- The input is refused at line n or before it.
abbrev IsToldBy : ℕ → Result AcceptedSet (ℕ × Why) → Type 0
IsToldBy n said = (m : ℕ) × (other : Why) × (m ≤ n) × (said ≡ Err (m, other))

told_as :
    (n : ℕ) (said other : Result AcceptedSet (ℕ × Why))
    → said ≡ other
    → IsToldBy n said
    → IsToldBy n other
told_as n said other same is = subst (IsToldBy n) same is

-- ---- up to a line
-- The first lines were accepted, or one of them is refused.
data Goes (lines rest : List (List ℕ)) (said : Result AcceptedSet (ℕ × Why)) : Type 0 where
  goes_on :
      (r : SetReading) → IsFollowed lines r → after_set_lines r rest ≡ said → Goes lines rest said
  ends_before : (m : ℕ) (why : Why) → m ≤ length lines → said ≡ Err (m, why) → Goes lines rest said

go_by :
    (before xs rest : List (List ℕ)) (x : List ℕ) (r : SetReading) (said : Result SetReading Why)
    → IsFollowed before r
    →
    ((s : SetReading)
    → said ≡ Ok s
    → Goes (before ++ x ∷ xs) rest (after_set_lines s (xs ++ rest)))
    → Goes (before ++ x ∷ xs) rest
    (set_go_on (r.taken + 1) said (λ s. after_set_lines s (xs ++ rest)))
go_by before xs rest x r (Ok s) is each = each s refl
go_by before xs rest x r (Err why) is each =
    let size : length (before ++ x ∷ xs) ≡ length before + length (x ∷ xs) = length-append before
    (x ∷ xs) in
    let taken : r.taken ≡ length before = is.taken in
    ends_before (r.taken + 1) why (omega (arith, size, taken)) refl

go :
    (xs before rest : List (List ℕ)) (r : SetReading)
    → IsFollowed before r
    → Goes (before ++ xs) rest (after_set_lines r (xs ++ rest))
unfolding after_set_lines
go [] before rest r is =
    goes_on r (subst (λ lines. IsFollowed lines r) (sym (append-nil before)) is) refl
go (x ∷ xs) before rest r is =
    go_by before xs rest x r (after_set_line r x) is
    (λ s e.
    subst (λ lines. Goes lines rest (after_set_lines s (xs ++ rest)))
    (append_assoc before (x ∷ []) xs)
    (go xs (before ++ x ∷ []) rest s (line_followed before r s x is e)))

-- ---- against the set
refused_next :
    (before rest : List (List ℕ)) (line : List ℕ) (r : SetReading) (why : Why)
    (said : Result SetReading Why)
    → IsFollowed before r
    → IsAgainstSet before line why
    → after_set_line r line ≡ said
    → IsToldBy (length before + 1) (set_go_on (r.taken + 1) said (λ s. after_set_lines s rest))
refused_next before rest line r why (Ok s) is against e =
    absurd (never_accepted before r s line why is against e)
refused_next before rest line r why (Err other) is against e =
    let taken : r.taken ≡ length before = is.taken in
    (r.taken + 1, other, omega (arith, taken), refl)

next_told :
    (before rest : List (List ℕ)) (line : List ℕ) (r : SetReading) (why : Why)
    → IsFollowed before r
    → IsAgainstSet before line why
    → IsToldBy (length before + 1) (after_set_lines r (line ∷ rest))
unfolding after_set_lines
next_told before rest line r why is against =
    refused_next before rest line r why (after_set_line r line) is against refl

apart_told :
    (before rest : List (List ℕ)) (line : List ℕ) (why : Why) (said : Result AcceptedSet (ℕ × Why))
    → IsAgainstSet before line why
    → Goes before (line ∷ rest) said
    → IsToldBy (length before + 1) said
apart_told before rest line why said against (goes_on r is same) =
    told_as (length before + 1) (after_set_lines r (line ∷ rest)) said same
    (next_told before rest line r why is against)
apart_told before rest line why said against (ends_before m other few e) =
    (m, other, omega (arith, few), e)

-- ---- the end
end_refused :
    (occurs begun : Bool) (s : AcceptedSet) (end : ℕ × Why)
    → (occurs && begun) ≡ false
    → (if occurs && begun then Ok s else Err end) ≡ Err end
end_refused occurs begun s end e = rw e refl

no_begin :
    (r : SetReading)
    → (list_any is_some r.readings && list_all has_begun r.readings) ≡ false
    → set_at_end r ≡ Err (r.taken + 1, whys.Begin)
no_begin r e =
    end_refused (list_any is_some r.readings) (list_all has_begun r.readings) (set_read r)
    (r.taken + 1, whys.Begin) e

none_told :
    (lines : List (List ℕ)) (r : SetReading)
    → IsFollowed lines r
    → ((number : ℕ) → number < 8 → list_any (is_line_of number) lines ≡ false)
    → set_at_end r ≡ Err (r.taken + 1, whys.Begin)
none_told lines r is all =
    let none_there :
    list_any is_some r.readings ≡ false =
    list_any_none is_some r.readings
    (All-from_get_or (λ (o : Option Reading). is_some o ≡ false) r.readings None
    (λ k inside.
    (let below : k < 8 = subst (λ n. k < n) is.sound.eight inside in
    is.occurs k below ∙ all k below))) in
    no_begin r (and_left (list_any is_some r.readings) (list_all has_begun r.readings) none_there)

waiting :
    (r : SetReading) (number : ℕ) (o : Option Reading)
    → reading_at r number ≡ o
    → is_some o ≡ true
    → is_running (reading_of r number).stage ≡ false
    → has_begun o ≡ false
waiting r number None at there waits = absurd (false≢true there)
waiting r number (Some reading) at there waits = rw at at waits

unbegun_told :
    (lines : List (List ℕ)) (r : SetReading) (number : ℕ)
    → IsFollowed lines r
    → number < 8
    → list_any (is_line_of number) lines ≡ true
    → is_running (reading_of r number).stage ≡ false
    → set_at_end r ≡ Err (r.taken + 1, whys.Begin)
unbegun_told lines r number is below named waits =
    let inside : number < length r.readings = subst (λ n. number < n) (sym is.sound.eight) below in
    let not_yet : has_begun (reading_at r number) ≡ false = waiting r number (reading_at r number)
    refl (is.occurs number below ∙ named) waits in
    no_begin r
    (and_right (list_any is_some r.readings) (list_all has_begun r.readings)
    (list_all_at has_begun r.readings number None inside not_yet))

-- ---- a partition's own lines
never_both :
    (said : Result AcceptedTrace (ℕ × Why)) (t : AcceptedTrace) (end : ℕ × Why)
    → said ≡ Ok t
    → said ≡ Err end
    → ⊥
never_both said t end one other = cc

-- Where its lines end they say what the set does.
end_told :
    (running : Bool) (lines : List (List ℕ)) (r : SetReading) (number n : ℕ) (why : Why)
    → IsFollowed lines r
    → number < 8
    → list_any (is_line_of number) lines ≡ true
    → is_running (reading_of r number).stage ≡ running
    → own_trace lines number ≡ Err (n, why)
    → IsToldBy n (set_at_end r)
end_told true lines r number n why is below named stage e =
    let trace : AcceptedTrace = record {
      config = (reading_of r number).config;
      lines = (reading_of r number).lines;
    } in
    let told : own_trace lines number ≡ Ok trace = own_ends lines r number is below ∙ rw stage refl
    in
    absurd (never_both (own_trace lines number) trace (n, why) told e)
end_told false lines r number n why is below named stage e =
    let end : ℕ × Why = (r.taken + 1, whys.Begin) in
    let told : own_trace lines number ≡ Err end = own_ends lines r number is below ∙ rw stage refl
    in
    let same : end ≡ (n, why) = cc in
    let here : r.taken + 1 ≡ n = ap (λ (x : ℕ × Why). x.0) same in
    (r.taken + 1, whys.Begin, omega (arith, here), unbegun_told lines r number is below named stage)

-- The partition's lines among those before are read, and the reading counts all of them.
record AreRead (lines before : List (List ℕ)) (number : ℕ) : Type 0 where
  reading : Reading
  read : after_all (own_start lines) (own_lines number before) ≡ Ok reading
  taken : reading.taken ≡ length before

read_by :
    (untouched : Bool) (before rest : List (List ℕ)) (r : SetReading) (number : ℕ)
    → IsFollowed before r
    → number < 8
    → r.untouched ≡ untouched
    → AreRead (before ++ rest) before number
read_by true before rest r number is below first =
    let start : Reading = own_start (before ++ rest) in
    let size : r.taken ≡ length before = is.taken in
    let few : r.taken ≤ most_lines = is.sound.few in
    record {
      reading = record start { taken = 0 + length before };
      read = remarks_read before start number (is.first ∙ first) (omega (arith, size, few));
      taken = omega arith;
    }
read_by false before rest r number is below touched =
    let pool : shared_pool (before ++ rest) ≡ (r.pool_base, r.pool_order) = is.pool rest ∙ rw
    touched refl in
    record {
      reading = retaken r number;
      read =
          ap (λ (pool : ℕ × ℕ). after_all (reading_beside pool.0 pool.1) (own_lines number before))
          pool
          ∙ is.own number below;
      taken = is.taken;
    }

stop_told :
    (before rest : List (List ℕ)) (r : SetReading) (number n : ℕ) (why : Why)
    → IsFollowed before r
    → number < 8
    → own_trace (before ++ rest) number ≡ Err (n, why)
    → r.taken + 1 ≤ n
stop_told before rest r number n why is below e =
    let are = read_by r.untouched before rest r number is below refl in
    let on : own_trace (before ++ rest) number ≡ after_lines are.reading (own_lines number rest) =
    ap (after_lines (own_start (before ++ rest))) (map-append (own_line number) before rest)
    ∙ lines_on (own_lines number before) (own_lines number rest) (own_start (before ++ rest))
    are.reading are.read in
    let behind : are.reading.taken < n = refused_behind (own_lines number rest) are.reading n why
    (sym on ∙ e) in
    let size : r.taken ≡ length before = is.taken in
    let taken : are.reading.taken ≡ length before = are.taken in
    omega (arith, behind, size, taken)

own_told :
    (lines : List (List ℕ)) (said : Result AcceptedSet (ℕ × Why)) (number n : ℕ) (why : Why)
    → Walk lines said
    → number < 8
    → list_any (is_line_of number) lines ≡ true
    → own_trace lines number ≡ Err (n, why)
    → IsToldBy n said
own_told lines said number n why (walked r is end) below named e =
    told_as n (set_at_end r) said end
    (end_told (is_running (reading_of r number).stage) lines r number n why is below named refl
    e)
own_told lines said number n why (stopped before rest line r first at is refused told) below named e
    = (
      r.taken + 1,
      first,
      stop_told before (line ∷ rest) r number n why is below
          (ap (λ ls. own_trace ls number) (sym at) ∙ e),
      sym told,
    )

empty_told :
    (lines : List (List ℕ)) (said : Result AcceptedSet (ℕ × Why))
    → Walk lines said
    → ((number : ℕ) → number < 8 → list_any (is_line_of number) lines ≡ false)
    → IsToldBy (length lines + 1) said
empty_told lines said (walked r is end) all =
    let taken : r.taken ≡ length lines = is.taken in
    (r.taken + 1, whys.Begin, omega (arith, taken), sym end ∙ none_told lines r is all)
empty_told lines said (stopped before rest line r first at is refused told) all =
    let taken : r.taken ≡ length before = is.taken in
    let size : length lines ≡ length before + length (line ∷ rest) = ap length at ∙ length-append
    before (line ∷ rest) in
    (r.taken + 1, first, omega (arith, taken, size), sym told)

-- ---- the input
long_told : (bytes : List ℕ) → most_bytes < length bytes → set_of bytes ≡ Err (0, whys.Long)
unfolding set_of
long_told bytes many = rw (lt-ltb most_bytes (length bytes) many) refl

lines_told :
    (bytes : List ℕ) (n : ℕ) (why : Why)
    → set_of bytes ≡ after_set_lines opening_set_reading (raw_lines bytes)
    → IsAgainst bytes n why
    → IsToldBy n (set_of bytes)
lines_told bytes n why is (long many) = (0, whys.Long, omega arith, long_told bytes many)
lines_told bytes n why is (own number line first below named refused) =
    told_as n _ (set_of bytes) (sym is)
    (own_told (raw_lines bytes) (after_set_lines opening_set_reading (raw_lines bytes)) number n
    why (walk_lines (raw_lines bytes)) below named refused)
lines_told bytes n why is (apart before rest line first at against) =
    told_as n _ (set_of bytes) (ap (after_set_lines opening_set_reading) (sym at) ∙ sym is)
    (apart_told before rest line why
    (after_set_lines opening_set_reading (before ++ line ∷ rest)) against
    (go before [] (line ∷ rest) opening_set_reading followed_first))
lines_told bytes n why is (none all) =
    told_as n _ (set_of bytes) (sym is)
    (empty_told (raw_lines bytes) (after_set_lines opening_set_reading (raw_lines bytes))
    (walk_lines (raw_lines bytes)) all)

input_told :
    (bytes : List ℕ) (n : ℕ) (why : Why)
    → Reads bytes
    → IsAgainst bytes n why
    → IsToldBy n (set_of bytes)
input_told bytes n why (too_long many is) against = (0, whys.Long, omega arith, is)
input_told bytes n why (by_lines is) against = lines_told bytes n why is against

pub lowest_lines_come_first : LowestLinesComeFirst
lowest_lines_come_first bytes n why against = input_told bytes n why (reads bytes) against
