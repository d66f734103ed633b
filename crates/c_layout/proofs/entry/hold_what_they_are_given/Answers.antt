use Rattle.c_layout.proofs.Marks.{given_states}
use Rattle.c_layout.proofs.entry.hold_what_they_are_given.Goals as goal

pub returns : goal.returns
returns c = given_states
