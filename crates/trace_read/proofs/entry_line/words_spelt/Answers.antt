use Rattle.std.proofs.Common.{sym}
use Rattle.table_image.proofs.Lengths.{entry_words-other_length}
use Rattle.trace_read.proofs.entry_line.words_spelt.Goals as goal

pub returns-in-Err : goal.returns-in-Err
returns-in-Err c = sym (entry_words-other_length c.args.layout c.args.digits.now c.in-Err.ensures.1)
