use Rattle.entry_model.proofs.Places.{from_the_left}
use Rattle.entry_model.proofs.laws.places_compare_from_the_left.Goals as goal

pub returns : goal.returns
returns c = from_the_left
