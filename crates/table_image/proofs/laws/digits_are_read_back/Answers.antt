use Rattle.table_image.proofs.DigitTexts.{is_read_back}
use Rattle.table_image.proofs.laws.digits_are_read_back.Goals as goal

pub returns : goal.returns
returns c = is_read_back
