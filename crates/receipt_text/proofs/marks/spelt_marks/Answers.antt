use Rattle.std.proofs.Common.{sym}
use Rattle.std.proofs.lemmas.Bool.{false≢true}
use Rattle.receipt_text.proofs.MarkTexts.{no_space, seventeenth, no_mark, words_behind}
use Rattle.receipt_text.proofs.marks.spelt_marks.Goals as goal

pub returns-in_err-strip_prefix-clause-none : goal.returns-in_err-strip_prefix-clause-none
returns-in_err-strip_prefix-clause-none c =
    rw c.from_residual.ensures
    (λ ms k.
    no_space _ ms
    (λ w e.
    let other = c.in_err-strip_prefix.ensures.cases in false≢true (sym (rw e at other)))
    k)

pub returns-then-as_slice-eq16-clause-none : goal.returns-then-as_slice-eq16-clause-none
returns-then-as_slice-eq16-clause-none c = λ ns k.
    seventeenth _ c.in-Some.words.now _ ns c.loop-rest.invariant.marks
    (rw c.as_slice.ensures.value at c.if-as_slice-eq16.true)
    (rw c.in-Some.is at c.loop-rest.invariant.told) k

pub returns-in_err-mark_in-clause-none : goal.returns-in_err-mark_in-clause-none
returns-in_err-mark_in-clause-none c =
    rw c.from_residual-in_err-mark_in.ensures (λ ns k.
    no_mark _ _ _ _ _ ns c.loop-rest.invariant.marks (rw c.in-Some.is at c.loop-rest.invariant.told)
    c.first_word.ensures.parts c.first_word.ensures.word (words_behind _)
    c.in_err-mark_in.ensures.none k)
