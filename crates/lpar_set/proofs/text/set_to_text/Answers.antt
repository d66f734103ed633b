use Rattle.lpar_set.proofs.Together.{sets_are_assured}
use Rattle.lpar_set.proofs.text.set_to_text.Goals as goal

-- What is assured, however the call ends.
pub returns-in_err-members-clause-assured : goal.returns-in_err-members-clause-assured
returns-in_err-members-clause-assured c = sets_are_assured c.args.set.now c.keeps_limits.ensures

pub returns-clause-assured : goal.returns-clause-assured
returns-clause-assured c = sets_are_assured c.args.set.now c.keeps_limits.ensures
