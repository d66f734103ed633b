-- The reading of lines, and the trace that they and further ones give.
use Rattle.std.proofs.Common.{◌≡◌, ◌∙◌, ℕ, ◌+◌, ◌<◌, ◌≤◌, Bool, true, false, List, [], ◌∷◌, ◌++◌, Result, Ok, Err, refl, ap, if◌then◌else◌, arith}
use Rattle.trace_read.specs.declared.why.Why.{Why}
use Rattle.trace_read.specs.declared.why.Why.TheVariants as whys
use Rattle.trace_read.specs.Grammar.{Reading, after_line, after_lines, go_on, trace_at_end}
use Rattle.trace_read.specs.Places.{is_running}
use Rattle.trace_read.specs.Trace.{AcceptedTrace}
use Rattle.trace_read.specs.Whys.{◌>>=◌}
use Rattle.trace_read.proofs.TakenLines.{line_taken}
use Rattle.lpar_set.specs.PartitionLines.{after_all}
use Rattle.lpar_set.proofs.TakenSteps.{steps_taken}

-- One line more is read.
pub one_taken :
    (xs : List (List ℕ)) (q r s : Reading) (line : List ℕ)
    → after_all q xs ≡ Ok r
    → after_line r line ≡ Ok s
    → after_all q (xs ++ line ∷ []) ≡ Ok s
one_taken [] q r s line e more =
    let same : q ≡ r = cc in
    ap (λ (x : Reading). after_line x line >>= (λ t. Ok t)) same
    ∙ ap (λ said. said >>= (λ t. Ok t)) more
one_taken (x ∷ xs) q r s line e more =
    let first = steps_taken (after_line q x) (λ t. after_all t xs) r e in
    ap (λ said. said >>= (λ t. after_all t (xs ++ line ∷ []))) first.first
    ∙ one_taken xs first.value r s line first.rest more

-- The trace of lines after those that were read.
pub lines_on :
    (xs ys : List (List ℕ)) (q r : Reading)
    → after_all q xs ≡ Ok r
    → after_lines q (xs ++ ys) ≡ after_lines r ys
unfolding after_lines
lines_on [] ys q r e =
    let same : q ≡ r = cc in
    ap (λ (x : Reading). after_lines x ys) same
lines_on (x ∷ xs) ys q r e =
    let first = steps_taken (after_line q x) (λ t. after_all t xs) r e in
    ap (λ said. go_on (q.taken + 1) said (λ t. after_lines t (xs ++ ys))) first.first
    ∙ lines_on xs ys first.value r first.rest

-- The end of the lines.
pub lines_end : (r : Reading) → after_lines r [] ≡ trace_at_end r
unfolding after_lines
lines_end r = refl

-- ---- where lines are refused
-- The number of the line that is refused.
number_told : Result AcceptedTrace (ℕ × Why) → ℕ
number_told (Ok t) = 0
number_told (Err x) = x.0

end_refused :
    (running : Bool) (t : AcceptedTrace) (end : ℕ × Why) (n : ℕ) (why : Why)
    → (if running then Ok t else Err end) ≡ Err (n, why)
    → end.0 ≡ n
unfolding number_told
end_refused true t end n why e = cc
end_refused false t end n why e = ap number_told e

refused_by :
    (number n : ℕ) (why : Why) (said : Result Reading Why)
    (f : Reading → Result AcceptedTrace (ℕ × Why))
    → ((s : Reading) → said ≡ Ok s → f s ≡ Err (n, why) → number ≤ n)
    → go_on number said f ≡ Err (n, why)
    → number ≤ n
unfolding number_told
refused_by number n why (Ok s) f each e = each s refl e
refused_by number n why (Err other) f each e =
    let same : number ≡ n = ap number_told e in
    omega (arith, same)

-- A line that is refused stands after those that were read.
pub refused_behind :
    (ys : List (List ℕ)) (r : Reading) (n : ℕ) (why : Why)
    → after_lines r ys ≡ Err (n, why)
    → r.taken < n
unfolding after_lines
refused_behind [] r n why e =
    let same : r.taken + 1 ≡ n = end_refused (is_running r.stage)
    (record { config = r.config; lines = r.lines }) (r.taken + 1, whys.Begin) n why e in
    omega (arith, same)
refused_behind (y ∷ ys) r n why e =
    let most :
    r.taken + 1 ≤ n =
    refused_by (r.taken + 1) n why (after_line r y) (λ s. after_lines s ys) (λ s is later.
    let taken : s.taken ≡ r.taken + 1 = line_taken r y s is in
    let behind : s.taken < n = refused_behind ys s n why later in
    omega (arith, taken, behind)) e in
    omega (arith, most)
