-- Which doublewords a reply on one entry shows.
use Rattle.std.specs.Prelude.{ℕ, List, []}
use Rattle.entry_model.specs.declared.receipt.Receipt.{Receipt}
use Rattle.call_plan.specs.declared.shown.ShownWords.{ShownWords}
use Rattle.call_plan.specs.declared.shown.ShownWords.TheVariants.{Neither, Second, Both}
use Rattle.call_plan.specs.Single.{both_words, second_word}

-- None of them, doubleword 1, or both.
abbrev pub words_shown : ShownWords → Receipt → List ℕ
words_shown Neither = λ r. []
words_shown Second = second_word
words_shown Both = both_words
