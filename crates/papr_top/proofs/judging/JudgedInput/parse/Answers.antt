use Rattle.std.proofs.Common.{ℕ, ◌+◌, ◌≤◌, ◌∙◌, ap, List, length, Ok, Err, sym, arith}
use Rattle.std.proofs.lemmas.Result.{err_from_is_err_and}
use Rattle.papr_edge.specs.declared.reason.Reason.TheVariants.{NoReplies}
use Rattle.papr_edge.specs.InputLaws.{long_judged}
use Rattle.papr_edge.proofs.JudgedInputs.{without_replies, with_trace}
use Rattle.papr_top.proofs.Verdicts.{trace_refused}
use Rattle.papr_top.proofs.judging.JudgedInput.parse.Goals as goal
use Rattle.trace_read.specs.Grammar.{most_bytes}

pub overflow_add-result : goal.overflow_add-result
overflow_add-result c = omega (arith, c.line_count.ensures.few)

pub returns-then-bytes-gt-MOST_BYTES-clause-parsed :
    goal.returns-then-bytes-gt-MOST_BYTES-clause-parsed
returns-then-bytes-gt-MOST_BYTES-clause-parsed c = long_judged c.args.bytes.now (omega arith)

pub returns-in_default-clause-parsed : goal.returns-in_default-clause-parsed
returns-in_default-clause-parsed c =
    let within : length c.args.bytes.now ≤ most_bytes = omega arith in
    without_replies c.args.bytes.now within c.in_default.ensures.none
    ∙ (λ i. Err ((sym c.line_count.ensures.count) i + 1, NoReplies))

pub returns-in_err-trace-clause-parsed : goal.returns-in_err-trace-clause-parsed
returns-in_err-trace-clause-parsed c =
    let within : length c.args.bytes.now ≤ most_bytes = omega arith in
    let p = err_from_is_err_and c.from_residual.result c.from_residual.ensures.1 in
    rw (p.1, p.2)
    (trace_refused c.args.bytes.now c.in-Some.trace.now c.in-Some.text.now
    c.in_err-trace.field-0.0 within c.in-Some.ensures.some c.in_err-trace.ensures.parsed)

pub returns-in-Ok-clause-parsed : goal.returns-in-Ok-clause-parsed
returns-in-Ok-clause-parsed c =
    let within : length c.args.bytes.now ≤ most_bytes = omega arith in
    let said = with_trace c.args.bytes.now c.in-Some.trace.now c.in-Some.text.now
    c.in_ok-trace.trace within c.in-Some.ensures.some c.in_ok-trace.ensures.parsed in
    said
    ∙ ap (λ (x : List ℕ). Ok (record { trace = c.in_ok-trace.trace; text = x }))
    (sym (c.in-Ok.ensures.items_if_clones_equal (λ x y h. h)))
