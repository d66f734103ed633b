use Rattle.std.proofs.Common.{◌≡◌}
use Rattle.trace_read.specs.Rest.{parts_left, rest_size}
use Rattle.lpar_set.specs.SetGrammar.{after_set_lines, set_of}
use Rattle.lpar_set.specs.SetReadings.{IsSetReading}
use Rattle.lpar_set.proofs.parse.parse_set.Given as goal

abbrev pub invariant-loop-rest : goal.invariant-loop-rest
invariant-loop-rest l = record {
  told : set_of l.bytes ≡ after_set_lines l.reader (parts_left l.rest);
  sound : IsSetReading l.reader;
}

abbrev pub decreases-loop-rest : goal.decreases-loop-rest
decreases-loop-rest l = rest_size l.rest
