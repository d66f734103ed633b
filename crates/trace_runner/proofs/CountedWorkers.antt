-- How many processors have lines.
use Rattle.std.specs.Prelude.{◌≢◌}
use Rattle.std.proofs.Common.{◌≡◌, ℕ, zero, suc, ◌+◌, ◌<◌, List, [], ◌∷◌, length, refl, subst, arith}
use Rattle.std.specs.List.{AllByRecursion}
use Rattle.std.proofs.lemmas.Bool.{eq-eqb}
use Rattle.trace_line.specs.declared.line.TraceLine.{TraceLine}
use Rattle.trace_runner.specs.Workers.{lines_of_cpu, count_with_lines}

-- ---- at least one
count_one :
    (n from k : ℕ) (lines : List TraceLine)
    → k < n
    → 0 < length (lines_of_cpu (from + k) lines)
    → 0 < count_with_lines n from lines
count_one zero from k lines low some = absurd (omega (arith, low))
count_one (suc n) from zero lines low some =
    let e : from + 0 ≡ from = omega arith in
    let here : 0 < length (lines_of_cpu from lines) = subst (λ c. 0 < length (lines_of_cpu c lines))
    e some in
    omega (arith, here)
count_one (suc n) from (suc k) lines low some =
    let e : from + suc k ≡ suc from + k = omega arith in
    let rest = count_one n (suc from) k lines (omega (arith, low))
    (subst (λ c. 0 < length (lines_of_cpu c lines)) e some) in
    omega (arith, rest)

own_first : (l : TraceLine) (ls : List TraceLine) → 0 < length (lines_of_cpu l.cpu (l ∷ ls))
own_first l ls = rw (eq-eqb l.cpu l.cpu refl) (omega arith)

-- Where there is a line, a processor has one.
pub some_worker :
    (cpus : ℕ) (lines : List TraceLine)
    → lines ≢ []
    → AllByRecursion (λ (l : TraceLine). l.cpu < cpus) lines
    → 0 < count_with_lines cpus 0 lines
some_worker cpus [] some on = absurd (some refl)
some_worker cpus (l ∷ ls) some on = let e :
    l.cpu ≡ 0 + l.cpu =
    omega arith in count_one cpus 0 l.cpu (l ∷ ls) on.0
    (subst (λ c. 0 < length (lines_of_cpu c (l ∷ ls))) e (own_first l ls))
