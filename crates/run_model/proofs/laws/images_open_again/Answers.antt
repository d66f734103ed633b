use Rattle.run_model.proofs.OpeningAgain.{images_open_again}
use Rattle.run_model.proofs.laws.images_open_again.Goals as goal

pub returns : goal.returns
returns c = images_open_again
