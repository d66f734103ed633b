use Rattle.trace_read.proofs.NextLine.{text_is_read_by_words}
use Rattle.trace_read.proofs.laws.text_is_read_by_words.Goals as goal

pub returns : goal.returns
returns c = text_is_read_by_words
