use Rattle.papr_top.proofs.ImageLines.{image_lines_open}
use Rattle.papr_top.proofs.laws.image_lines_open_again.Goals as goal

pub returns : goal.returns
returns c = image_lines_open c.images_open_again.ensures
