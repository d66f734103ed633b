use Rattle.dma_window.proofs.KeptWords.{kept_words}
use Rattle.dma_window.proofs.laws.kept_words_are_read_back.Goals as goal

pub returns : goal.returns
returns c = kept_words
