use Rattle.std.proofs.Common.{◌≡◌, ◌∙◌, ap, ◌+◌, ◌-◌, ◌<◌, ◌∷◌, ◌++◌, ℕ, List, take, drop, length, arith, length-drop, get_or}
use Rattle.std.proofs.lemmas.List.{take_all}
use Rattle.std.specs.List.{position_or_len}
use Rattle.std.proofs.lemmas.Bool.{eqb-true}
use Rattle.std.proofs.lemmas.List.Sums.{split_at_first, passes_at_first}
use Rattle.std.proofs.lemmas.List.Splits.{slice_split_first}
use Rattle.trace_read.specs.TextLines.{is_lf}
use Rattle.trace_read.proofs.Digits.{slice_split_whole}
use Rattle.trace_read.proofs.lines.split_line.Goals as goal

pub returns-then-end-text-clause-parts : goal.returns-then-end-text-clause-parts
returns-then-end-text-clause-parts c =
    let text : List ℕ = c.args.text.now in
    let rest : take (length text - (position_or_len is_lf text + 1))
    (drop (position_or_len is_lf text + 1) text) ≡ drop (position_or_len is_lf text + 1) text =
    take_all _ _ (omega (arith, length-drop (position_or_len is_lf text + 1) text)) in
    rw (c.line_end-end.ensures, rest)
    (slice_split_first is_lf text 0 (omega (arith, c.line_end-end.ensures)))

pub returns-else-end-text-clause-parts : goal.returns-else-end-text-clause-parts
returns-else-end-text-clause-parts c =
    slice_split_whole is_lf c.args.text.now (omega (arith, c.line_end-end.ensures))

-- The first part, the LF behind it, and the rest are the text.
pub returns-then-end-text-clause-whole : goal.returns-then-end-text-clause-whole
returns-then-end-text-clause-whole c =
    let text : List ℕ = c.args.text.now in
    let end : ℕ = position_or_len is_lf text in
    let within : end < length text = omega (arith, c.line_end-end.ensures) in
    let rest : take (length text - (end + 1)) (drop (end + 1) text) ≡ drop (end + 1) text = take_all
    _ _ (omega (arith, length-drop (end + 1) text)) in
    let lf : get_or text end 0 ≡ 10 = eqb-true _ _ (passes_at_first is_lf text 0 within) in
    let parts : text ≡ take end text ++ get_or text end 0 ∷ drop (end + 1) text = split_at_first
    is_lf text 0 within in
    rw (c.line_end-end.ensures, rest)
    (parts ∙ ap (λ x. take end text ++ x ∷ drop (end + 1) text) lf)
