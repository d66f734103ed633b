use Rattle.receipt_text.proofs.MarkTexts.{marks_once}
use Rattle.receipt_text.proofs.ReadBack.{line_has_marks}
use Rattle.receipt_text.proofs.laws.receipts_are_read_back.Goals as goal

pub returns-clause-marks : goal.returns-clause-marks
returns-clause-marks c = line_has_marks

pub returns-clause-once : goal.returns-clause-once
returns-clause-once c = marks_once
