-- Each accepted set is that of its lines.
use Rattle.std.specs.List.{AllPairs, list_any}
use Rattle.std.proofs.Common.{◌≡◌, ◌∙◌, ℕ, ◌+◌, ◌<◌, Bool, true, false, List, [], ◌∷◌, ◌++◌, length, map, get_or, Contains, Result, Ok, refl, sym, ap, subst, if◌then◌else◌, arith}
use Rattle.std.proofs.lemmas.List.{append-nil, get_or-map, length-map}
use Rattle.std.proofs.lemmas.List.Elements.{All-from_recursion, All-get_or}
use Rattle.trace_read.specs.declared.why.Why.{Why}
use Rattle.trace_read.specs.declared.why.Why.TheVariants as whys
use Rattle.trace_read.specs.Grammar.{after_lines, reading_beside, trace_at_end}
use Rattle.trace_read.specs.TextLines.{raw_lines}
use Rattle.lpar_set.specs.declared.turn.Turn.{Turn}
use Rattle.lpar_set.specs.PartitionLaws.{IsSetOf, SetsAreOfTheirLines}
use Rattle.lpar_set.specs.PartitionLines.{begun_in, is_line_of, own_lines, own_start, own_trace, shared_pool, unnamed_pool}
use Rattle.lpar_set.specs.SetGrammar.{SetReading, after_set_lines, opening_set_reading, partition_read, set_at_end, set_of}
use Rattle.lpar_set.specs.SetReadings.{HasBegun}
use Rattle.lpar_set.specs.SetTrace.{AcceptedSet, NumberedTrace, line_of, no_line, no_partition}
use Rattle.lpar_set.proofs.Followed.{IsFollowed}
use Rattle.lpar_set.proofs.OwnReadings.{lines_end, lines_on}
use Rattle.lpar_set.proofs.SetEnds.{HasEnded, has_ended, occurring_begun, set_read}
use Rattle.lpar_set.proofs.SetReadingsKept.{retaken}
use Rattle.lpar_set.proofs.TakenSteps.{never_ok}
use Rattle.lpar_set.proofs.TurnOrder.{turn_line}
use Rattle.lpar_set.proofs.Walked.{Reads, too_long, by_lines, Walk, walked, stopped, reads, walk_lines}

-- ---- the pool
pool_by :
    (untouched : Bool) (said pool : ℕ × ℕ)
    → (untouched ≡ true → pool ≡ unnamed_pool)
    → said ≡ (if untouched then unnamed_pool else pool)
    → said ≡ pool
pool_by true said pool unnamed is = is ∙ sym (unnamed refl)
pool_by false said pool unnamed is = is

-- The shared pool of lines that were followed.
pub pool_is :
    (lines : List (List ℕ)) (r : SetReading)
    → IsFollowed lines r
    → shared_pool lines ≡ (r.pool_base, r.pool_order)
pool_is lines r is =
    ap shared_pool (sym (append-nil lines))
    ∙ pool_by r.untouched (shared_pool (lines ++ [])) (r.pool_base, r.pool_order) is.unnamed
    (is.pool [])

pub start_is :
    (lines : List (List ℕ)) (r : SetReading)
    → IsFollowed lines r
    → own_start lines ≡ reading_beside r.pool_base r.pool_order
start_is lines r is = ap (λ (pool : ℕ × ℕ). reading_beside pool.0 pool.1) (pool_is lines r is)

-- ---- the traces
-- The trace of the partition's own lines ends as its reading does.
pub own_ends :
    (lines : List (List ℕ)) (r : SetReading) (number : ℕ)
    → IsFollowed lines r
    → number < 8
    → own_trace lines number ≡ trace_at_end (retaken r number)
own_ends lines r number is below =
    ap (λ q. after_lines q (own_lines number lines)) (start_is lines r is)
    ∙ ap (after_lines (reading_beside r.pool_base r.pool_order))
    (sym (append-nil (own_lines number lines)))
    ∙ lines_on (own_lines number lines) [] (reading_beside r.pool_base r.pool_order)
    (retaken r number) (is.own number below)
    ∙ lines_end (retaken r number)

own_ended :
    (lines : List (List ℕ)) (r : SetReading) (number : ℕ)
    → IsFollowed lines r
    → number < 8
    → HasBegun r number
    → own_trace lines number ≡ Ok (partition_read r number).trace
own_ended lines r number is below begun = own_ends lines r number is below ∙ rw begun refl

read_of :
    (lines : List (List ℕ)) (r : SetReading) (p : NumberedTrace)
    → IsFollowed lines r
    → Contains (map (partition_read r) r.begun) p
    → own_trace lines p.number ≡ Ok p.trace
read_of lines r p is there =
    let k : ℕ = there.0 in
    let n : ℕ = get_or r.begun k 8 in
    let inside : k < length r.begun = subst (λ size. k < size)
    (length-map r.begun (partition_read r)) there.1 in
    let below : n < 8 = All-get_or (λ m. m < 8) r.begun k 8 inside
    (All-from_recursion (λ m. m < 8) r.begun is.sound.begun.below) in
    let begun : HasBegun r n = All-get_or (HasBegun r) r.begun k 8 inside
    (All-from_recursion (HasBegun r) r.begun is.sound.begun.running) in
    let same : partition_read r n ≡ p = sym (get_or-map (partition_read r) r.begun k 8 p inside) ∙
    there.2 in
    subst (λ (q : NumberedTrace). own_trace lines q.number ≡ Ok q.trace) same
    (own_ended lines r n is below begun)

-- ---- the numbers
numbers_are :
    (r : SetReading) (ns : List ℕ)
    → map (λ (p : NumberedTrace). p.number) (map (partition_read r) ns) ≡ ns
numbers_are r [] = refl
numbers_are r (n ∷ ns) = ap (λ (ms : List ℕ). n ∷ ms) (numbers_are r ns)

-- ---- the turns
line_is :
    (r : SetReading) (t : Turn)
    → t.partition < length r.begun
    → line_of (set_read r) t ≡ turn_line r t
line_is r t inside =
    ap (λ (p : NumberedTrace). get_or p.trace.lines t.line no_line)
    (get_or-map (partition_read r) r.begun t.partition 8 no_partition inside)

turns_rise :
    (lines : List (List ℕ)) (r : SetReading)
    → IsFollowed lines r
    → AllPairs (λ (t u : Turn). (line_of (set_read r) t).number < (line_of (set_read r) u).number)
    r.turns
turns_rise lines r is i j d before inside =
    let Inside : Turn → Type 0 = λ t. t.partition < length r.begun in
    let all = All-from_recursion Inside r.turns is.sound.turns in
    let one : (turn_line r (get_or r.turns i d)).number < (turn_line r (get_or r.turns j d)).number
    = is.ordered.rising i j d before inside in
    let first = line_is r (get_or r.turns i d)
    (All-get_or Inside r.turns i d (omega (arith, before, inside)) all) in
    let second = line_is r (get_or r.turns j d) (All-get_or Inside r.turns j d inside all) in
    rw (first, second) one

-- ---- the set
named_begun :
    (lines : List (List ℕ)) (r : SetReading) (s : AcceptedSet) (number : ℕ)
    → IsFollowed lines r
    → HasEnded r s
    → number < 8
    → list_any (is_line_of number) lines ≡ true
    → Contains (begun_in lines) number
named_begun lines r s number is ended below named =
    let begun = occurring_begun r s number ended
    (subst (λ n. number < n) (sym is.sound.eight) below) (is.occurs number below ∙ named) in
    subst (λ ns. Contains ns number) is.begun (is.sound.begun.all number begun)

read_set :
    (lines : List (List ℕ)) (r : SetReading) (s : AcceptedSet)
    → IsFollowed lines r
    → HasEnded r s
    → IsSetOf lines (set_read r)
read_set lines r s is ended = record {
  base = ap (λ (pool : ℕ × ℕ). pool.0) (sym (pool_is lines r is));
  order = ap (λ (pool : ℕ × ℕ). pool.1) (sym (pool_is lines r is));
  numbers = numbers_are r r.begun ∙ is.begun;
  named = λ number below named. named_begun lines r s number is ended below named;
  traces = λ p there. read_of lines r p is there;
  turns = turns_rise lines r is;
}

end_set :
    (lines : List (List ℕ)) (r : SetReading) (s : AcceptedSet)
    → IsFollowed lines r
    → set_at_end r ≡ Ok s
    → IsSetOf lines s
end_set lines r s is e =
    let ended = has_ended r s e in
    subst (IsSetOf lines) (sym ended.same) (read_set lines r s is ended)

walk_set :
    (lines : List (List ℕ)) (s : AcceptedSet) (said : Result AcceptedSet (ℕ × Why))
    → Walk lines said
    → said ≡ Ok s
    → IsSetOf lines s
walk_set lines s said (walked r is end) e = end_set lines r s is (end ∙ e)
walk_set lines s said (stopped before rest line r why at is refused told) e =
    absurd (never_ok (r.taken + 1, why) s (told ∙ e))

input_set :
    (bytes : List ℕ) (s : AcceptedSet)
    → Reads bytes
    → set_of bytes ≡ Ok s
    → IsSetOf (raw_lines bytes) s
input_set bytes s (too_long long is) e = absurd (never_ok (0, whys.Long) s (sym is ∙ e))
input_set bytes s (by_lines is) e =
    walk_set (raw_lines bytes) s (after_set_lines opening_set_reading (raw_lines bytes))
    (walk_lines (raw_lines bytes)) (sym is ∙ e)

pub sets_are_of_their_lines : SetsAreOfTheirLines
sets_are_of_their_lines bytes s e = input_set bytes s (reads bytes) e
