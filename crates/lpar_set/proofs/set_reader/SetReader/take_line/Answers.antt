use Rattle.std.proofs.Common.{sym, subst, arith}
use Rattle.lpar_set.specs.SetGrammar.{SetReading}
use Rattle.lpar_set.specs.SetReadings.{IsSetReading}
use Rattle.lpar_set.proofs.ReadyLines.{ready}
use Rattle.lpar_set.proofs.ReaderFields.{fields_read}
use Rattle.lpar_set.proofs.set_reader.SetReader.take_line.Goals as goal

pub take_words-requires : goal.take_words-requires
take_words-requires c =
    let v : SetReading = fields_read c.self.inside in
    ready v (subst IsSetReading (sym c.self.view_is) c.requires) (omega arith)
