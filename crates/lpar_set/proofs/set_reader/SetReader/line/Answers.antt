use Rattle.lpar_set.proofs.ReadyLines.{line_sound}
use Rattle.lpar_set.proofs.set_reader.SetReader.line.Goals as goal

pub returns-clause-sound : goal.returns-clause-sound
returns-clause-sound c =
    line_sound c.take_line.result c.args.self.now c.take_line.new.self c.args.line.now
    c.requires.sound c.take_line.ensures
