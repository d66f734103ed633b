use Rattle.c_layout.proofs.Marks.{unmarked_same}
use Rattle.c_layout.proofs.entry.unmarked_are_unchanged.Goals as goal

pub returns : goal.returns
returns c = unmarked_same
