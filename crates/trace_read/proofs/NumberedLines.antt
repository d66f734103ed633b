-- Lines that are given with their numbers, against the whole input that has remarks between.
use Rattle.std.proofs.Common.{◌≡◌, ◌∙◌, ℕ, zero, suc, ◌+◌, ◌-◌, ◌<◌, ◌≤◌, List, [], ◌∷◌, ◌++◌, Result, Ok, Err, ap, sym, refl, arith}
use Rattle.std.proofs.lemmas.Bool.{lt-ltb}
use Rattle.trace_read.specs.declared.why.Why.{Why}
use Rattle.trace_read.specs.Grammar.{Reading, reading_beside, at_line, after_text, after_line, after_numbered, after_lines, go_on, trace_at_end}
use Rattle.trace_read.specs.Numbered.{AreNumbered, remarks, numbered, after_each, trace_given}
use Rattle.trace_read.specs.ReaderLaws.{ReadsAsTheInput, RefusesAsTheInput}
use Rattle.trace_read.specs.Trace.{AcceptedTrace}
use Rattle.trace_read.specs.Whys.{◌>>=◌}
use Rattle.trace_read.proofs.TakenLines.{line_taken}
use Rattle.trace_line.specs.Lines.{most_lines}

-- A remark adds nothing but its number.
remark_taken :
    (r : Reading)
    → r.taken < most_lines
    → after_line r (35 ∷ []) ≡ Ok (record r { taken = r.taken + 1 })
unfolding after_line after_text
remark_taken r few = rw (lt-ltb r.taken most_lines few) refl

-- Remarks add nothing but their count.
remarks_taken : (count : ℕ) (r : Reading) (rest : List (List ℕ)) → r.taken + count ≤ most_lines
    → after_lines r (remarks count ++ rest)
    ≡ after_lines (record r { taken = r.taken + count }) rest
unfolding after_lines
remarks_taken zero r rest few =
    let none : r.taken + zero ≡ r.taken = omega arith in
    rw none refl
remarks_taken (suc n) r rest few =
    let seam : r.taken + 1 + n ≡ r.taken + suc n = omega arith in
    ap (λ said. go_on (r.taken + 1) said (λ s. after_lines s (remarks n ++ rest)))
    (remark_taken r (omega arith))
    ∙ remarks_taken n (record r { taken = r.taken + 1 }) rest (omega arith)
    ∙ ap (λ t. after_lines (record r { taken = t }) rest) seam

-- A line at its number, after remarks.
line_reached :
    (r : Reading) (number : ℕ) (line : List ℕ) (rest : List (List ℕ))
    → r.taken < number
    → number ≤ most_lines
    → after_lines r (remarks (number - (r.taken + 1)) ++ line ∷ rest)
    ≡ go_on number (after_numbered number r line) (λ s. after_lines s rest)
unfolding after_lines
line_reached r number line rest next few =
    let seam : r.taken + (number - (r.taken + 1)) ≡ number - 1 = omega arith in
    let back : number - 1 + 1 ≡ number = omega arith in
    remarks_taken (number - (r.taken + 1)) r (line ∷ rest) (omega arith)
    ∙ ap (λ t. after_lines (record r { taken = t }) (line ∷ rest)) seam
    ∙ ap (λ n. go_on n (after_numbered number r line) (λ s. after_lines s rest)) back

-- The number of a line that was taken.
pub number_taken : (r : Reading) (number : ℕ) (line : List ℕ) (s : Reading) → r.taken < number
    → after_numbered number r line ≡ Ok s → s.taken ≡ number
number_taken r number line s next e =
    let one : s.taken ≡ number - 1 + 1 = line_taken (at_line number r) line s e in
    omega (arith, one)

-- What goes on alike is alike.
go_on_alike : (n : ℕ) (said : Result Reading Why) (f g : Reading → Result AcceptedTrace (ℕ × Why))
    → ((s : Reading) → said ≡ Ok s → f s ≡ g s) → go_on n said f ≡ go_on n said g
go_on_alike n (Ok s) f g alike = alike s refl
go_on_alike n (Err why) f g alike = refl

read_from : (xs : List (ℕ × List ℕ)) (r : Reading) → AreNumbered r.taken xs
    → after_lines r (numbered r.taken xs) ≡ trace_given r xs
unfolding after_lines
read_from [] r rise = refl
read_from (x ∷ xs) r rise =
    line_reached r x.0 x.1 (numbered x.0 xs) rise.0 rise.1
    ∙ go_on_alike x.0 (after_numbered x.0 r x.1)
    (λ s. after_lines s (numbered x.0 xs)) (λ s. trace_given s xs)
    (λ s is.
    let here : s.taken ≡ x.0 = number_taken r x.0 x.1 s rise.0 is in
    ap (λ n. after_lines s (numbered n xs)) (sym here) ∙ read_from xs s (rw here rise.2))

pub reads_as_the_input : ReadsAsTheInput
reads_as_the_input pool_base pool_order lines rise =
    read_from lines (reading_beside pool_base pool_order) rise

-- A further line after accepted ones.
behind :
    (n : ℕ) (said : Result Reading Why) (f : Reading → Result Reading Why)
    (g : Reading → Result AcceptedTrace (ℕ × Why))
    (end : Result AcceptedTrace (ℕ × Why)) (r : Reading) → ((s : Reading) → f s ≡ Ok r → g s ≡ end)
    → (said >>= f) ≡ Ok r → go_on n said g ≡ end
behind n (Ok s) f g end r each e = each s e
behind n (Err why) f g end r each e = cc

further :
    (xs : List (ℕ × List ℕ)) (number : ℕ) (line : List ℕ) (q r : Reading) → after_each q xs ≡ Ok r
    → trace_given q (xs ++ (number, line) ∷ [])
    ≡ go_on number (after_numbered number r line) trace_at_end
further [] number line q r e =
    let one : q ≡ r = cc in
    ap (λ (p : Reading). go_on number (after_numbered number p line) trace_at_end) one
further (x ∷ xs) number line q r e =
    behind x.0 (after_numbered x.0 q x.1)
    (λ s. after_each s xs) (λ s. trace_given s (xs ++ (number, line) ∷ []))
    (go_on number (after_numbered number r line) trace_at_end) r
    (λ s is. further xs number line s r is) e

pub refuses_as_the_input : RefusesAsTheInput
refuses_as_the_input pool_base pool_order accepted number line r rise e =
    reads_as_the_input pool_base pool_order (accepted ++ (number, line) ∷ []) rise
    ∙ further accepted number line (reading_beside pool_base pool_order) r e
