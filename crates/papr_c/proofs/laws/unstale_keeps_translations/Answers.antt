use Rattle.papr_c.proofs.KeptTranslations.{unstale_kept}
use Rattle.papr_c.proofs.laws.unstale_keeps_translations.Goals as goal

pub returns : goal.returns
returns c = unstale_kept
