-- Lines that are given with their numbers, and the whole input that has each of them at its number.
use Rattle.std.specs.Prelude.{ℕ, ◌<◌, ◌≤◌, ◌-◌, ◌+◌, List, [], ◌∷◌, ◌++◌, replicate, Result, Ok}
use Rattle.trace_read.specs.declared.why.Why.{Why}
use Rattle.trace_read.specs.Grammar.{Reading, after_numbered, go_on, trace_at_end}
use Rattle.trace_read.specs.Trace.{AcceptedTrace}
use Rattle.trace_read.specs.Whys.{◌>>=◌}
use Rattle.trace_line.specs.Lines.{most_lines}

-- The numbers rise from above this one, and none is above 2 ^ 17.
abbrev pub AreNumbered : ℕ → List (ℕ × List ℕ) → Type 0
AreNumbered taken [] = Unit {0}
AreNumbered taken (x ∷ xs) = (taken < x.0) × (x.0 ≤ most_lines) × AreNumbered x.0 xs

-- As many remarks as this, each of the byte `#` alone.
abbrev pub remarks : ℕ → List (List ℕ)
remarks count = replicate count (35 ∷ [])

-- The lines after the first so many: each of these at its number, and a remark at each number
-- between.
abbrev pub numbered : ℕ → List (ℕ × List ℕ) → List (List ℕ)
numbered taken [] = []
numbered taken (x ∷ xs) = remarks (x.0 - (taken + 1)) ++ x.1 ∷ numbered x.0 xs

-- The reading after these lines, where each is accepted.
abbrev pub after_each : Reading → List (ℕ × List ℕ) → Result Reading Why
after_each r [] = Ok r
after_each r (x ∷ xs) = after_numbered x.0 r x.1 >>= (λ s. after_each s xs)

-- The trace that these lines give, or the first of them that is refused, with the reason.
abbrev pub trace_given : Reading → List (ℕ × List ℕ) → Result AcceptedTrace (ℕ × Why)
trace_given r [] = trace_at_end r
trace_given r (x ∷ xs) = go_on x.0 (after_numbered x.0 r x.1) (λ s. trace_given s xs)
