use Rattle.std.proofs.Common.{rules, tests}
use Rattle.std.proofs.lemmas.Iterator.{YieldsList-from_slice}
use Rattle.std.proofs.lemmas.Iterator.Consumers.{YieldsList-from_copied}
use Rattle.std.proofs.lemmas.Iterator.Search.{find_from_yields_List}
use Rattle.std.specs.Str.{bytes_eq}
use Rattle.receipt_text.specs.Receipts.{answer_word}
use Rattle.receipt_text.proofs.MarkTexts.{all_answers, not_found}
use Rattle.receipt_text.proofs.marks.answer_of.Goals as goal

pub returns-clause-none : goal.returns-clause-none
returns-clause-none c =
    not_found c.args.word.now c.find.result
    (find_from_yields_List (λ a. bytes_eq (answer_word a) c.args.word.now) _ _ _
    c.find.ensures.ran (YieldsList-from_copied (YieldsList-from_slice all_answers cc))
    (λ x b q k. search (rules, tests)))
