use Rattle.std.proofs.Common.{◌∙◌, sym, arith}
use Rattle.std.proofs.lemmas.Bool.{false≢true}
use Rattle.history_check.proofs.ReadLines.{line_read, no_line_here, no_marks_here, not_in_table_here, all_read}
use Rattle.history_check.proofs.reading.read_section.Goals as goal

pub returns-in_default-clause-none : goal.returns-in_default-clause-none
returns-in_default-clause-none c =
    no_line_here _ _ _ _ _ _ _ _ c.loop-i.invariant c.loop-i-test.true c.requires.plain
    c.in_default.ensures.none

pub returns-in_default-shown-clause-none : goal.returns-in_default-shown-clause-none
returns-in_default-shown-clause-none c =
    no_marks_here _ _ _ _ _ _ _ _ c.loop-i.invariant c.loop-i-test.true c.requires.plain _ _
    c.names_few.ensures c.in-Some.ensures.lacks c.in-Some.ensures.parts
    (rw c.in_default-shown.is at c.marks_of-shown.ensures.none)

pub returns-then-not-are_in_table-clause-none : goal.returns-then-not-are_in_table-clause-none
returns-then-not-are_in_table-clause-none c =
    not_in_table_here _ _ _ _ _ _ _ _ c.loop-i.invariant c.loop-i-test.true c.requires.plain _ _ _
    c.names_few.ensures c.in-Some.ensures.lacks c.in-Some.ensures.parts
    (rw c.in-Some-shown.is at c.marks_of-shown.ensures.some)
    (λ all.
    false≢true
    (sym c.if-not-are_in_table.true
    ∙ c.are_in_table.ensures.1 (rw c.as_slice-marks.ensures.value all)))

pub loop-i-preserved : goal.loop-i-preserved
loop-i-preserved c =
    let entries = rw c.as_slice-marks.ensures.value at
    (c.are_in_table.ensures.0 c.if-not-are_in_table.false) in
    let put = rw c.as_slice-marks.ensures.value at c.in_ok-put_steps.ensures in
    let counted = rw c.as_slice-marks.ensures.value at c.in_ok-push.ensures.items in
    line_read _ _ _ _ _ _ _ _ c.loop-i.invariant c.loop-i-test.true c.requires.plain _ _ _ _ _
    c.names_few.ensures c.in-Some.ensures.lacks c.in-Some.ensures.parts
    (rw c.in-Some-shown.is at c.marks_of-shown.ensures.some) entries
    (rw c.as_slice-marks.ensures.value at c.as_slice-marks.ensures.short) put counted

pub returns-clause-some : goal.returns-clause-some
returns-clause-some c = all_read _ _ _ _ _ _ _ _ c.loop-i.invariant (omega arith)
