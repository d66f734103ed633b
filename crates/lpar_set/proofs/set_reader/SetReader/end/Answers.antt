use Rattle.std.proofs.Common.{◌∙◌, sym, ap, subst, Ok}
use Rattle.lpar_set.specs.SetGrammar.{set_at_end}
use Rattle.lpar_set.specs.SetReadings.{IsSetReading}
use Rattle.lpar_set.proofs.ReaderFields.{fields_read}
use Rattle.lpar_set.proofs.ReadEnds.{set_ended}
use Rattle.lpar_set.proofs.SetEnds.{ends_accepted}
use Rattle.lpar_set.proofs.set_reader.SetReader.end.Goals as goal

pub of_parts-requires : goal.of_parts-requires
of_parts-requires c =
    ends_accepted (fields_read c.self.inside) _
    (subst IsSetReading (sym c.self.view_is) c.requires.sound)
    (set_ended (fields_read c.self.inside) c.as_slice.result.now c.as_slice-2.result.now
    c.in-Ok.partitions.items c.as_slice.ensures.value c.as_slice-2.ensures.value
    c.if-not-may_end.ensures c.in-Ok.ensures.read)
    c.in-Ok.ensures.accepted

pub returns-in-Ok-clause-parsed : goal.returns-in-Ok-clause-parsed
returns-in-Ok-clause-parsed c =
    ap set_at_end (sym c.self.view_is)
    ∙ set_ended (fields_read c.self.inside) c.as_slice.result.now c.as_slice-2.result.now
    c.in-Ok.partitions.items c.as_slice.ensures.value c.as_slice-2.ensures.value
    c.if-not-may_end.ensures c.in-Ok.ensures.read
    ∙ ap Ok (sym c.of_parts.ensures)
