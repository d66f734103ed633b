use Rattle.c_layout.proofs.Marks.{change_marked}
use Rattle.c_layout.proofs.entry.changes_are_marked.Goals as goal

pub returns : goal.returns
returns c = change_marked
