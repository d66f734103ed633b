use Rattle.run_model.proofs.StoreLaws.{places_rise}
use Rattle.run_model.proofs.store_laws.changes_have_places_of_their_own.Goals as goal

pub returns : goal.returns
returns c = places_rise
