use Rattle.receipt_text.proofs.MarkTexts.{at_entry, at_stamp, at_bits, has_point, word_has_point}
use Rattle.receipt_text.proofs.marks.mark_in.Goals as goal

pub returns-in_err-entry-clause-none : goal.returns-in_err-entry-clause-none
returns-in_err-entry-clause-none c =
    rw c.from_residual.ensures (λ m ok is. word_has_point m _ c.in_err-entry.ensures.none is)

pub returns-in_err-stamp-clause-none : goal.returns-in_err-stamp-clause-none
returns-in_err-stamp-clause-none c =
    rw c.from_residual-in_err-stamp.ensures (λ m ok is.
    let entry = at_entry m _ _ _ c.in_ok-entry.ensures.lacks c.in_ok-entry.ensures.parts is in
    has_point _ _ _ c.in_err-stamp.ensures.none entry.1)

pub returns-in_err-bits-clause-none : goal.returns-in_err-bits-clause-none
returns-in_err-bits-clause-none c =
    rw c.from_residual-in_err-bits.ensures (λ m ok is.
    let entry = at_entry m _ _ _ c.in_ok-entry.ensures.lacks c.in_ok-entry.ensures.parts is in
    let stamp = at_stamp m _ _ _ c.in_ok-stamp.ensures.lacks c.in_ok-stamp.ensures.parts entry.1 in
    has_point _ _ _ c.in_err-bits.ensures.none stamp.1)

pub returns-in_err-entry_of-clause-none : goal.returns-in_err-entry_of-clause-none
returns-in_err-entry_of-clause-none c =
    rw c.from_residual-in_err-entry_of.ensures (λ m ok is.
    let entry = at_entry m _ _ _ c.in_ok-entry.ensures.lacks c.in_ok-entry.ensures.parts is in
    c.in_err-entry_of.ensures.none m.entry ok.entry entry.0)

pub returns-in_err-number_of-clause-none : goal.returns-in_err-number_of-clause-none
returns-in_err-number_of-clause-none c =
    rw c.from_residual-in_err-number_of.ensures (λ m ok is.
    let entry = at_entry m _ _ _ c.in_ok-entry.ensures.lacks c.in_ok-entry.ensures.parts is in
    let stamp = at_stamp m _ _ _ c.in_ok-stamp.ensures.lacks c.in_ok-stamp.ensures.parts entry.1 in
    c.in_err-number_of.ensures.none m.stamp ok.stamp stamp.0)

pub returns-in_err-bits_of-clause-none : goal.returns-in_err-bits_of-clause-none
returns-in_err-bits_of-clause-none c =
    rw c.from_residual-in_err-bits_of.ensures (λ m ok is.
    let entry = at_entry m _ _ _ c.in_ok-entry.ensures.lacks c.in_ok-entry.ensures.parts is in
    let stamp = at_stamp m _ _ _ c.in_ok-stamp.ensures.lacks c.in_ok-stamp.ensures.parts entry.1 in
    let bits = at_bits m _ _ _ c.in_ok-bits.ensures.lacks c.in_ok-bits.ensures.parts stamp.1 in
    c.in_err-bits_of.ensures.none m.bits ok.bits bits.0)

pub returns-in_err-answer_of-clause-none : goal.returns-in_err-answer_of-clause-none
returns-in_err-answer_of-clause-none c =
    rw c.from_residual-in_err-answer_of.ensures (λ m ok is.
    let entry = at_entry m _ _ _ c.in_ok-entry.ensures.lacks c.in_ok-entry.ensures.parts is in
    let stamp = at_stamp m _ _ _ c.in_ok-stamp.ensures.lacks c.in_ok-stamp.ensures.parts entry.1 in
    let bits = at_bits m _ _ _ c.in_ok-bits.ensures.lacks c.in_ok-bits.ensures.parts stamp.1 in
    c.in_err-answer_of.ensures.none m.answer bits.1)
