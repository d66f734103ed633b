-- Before each line the readings are ready for it, and after it all holds that held.
use Rattle.std.specs.Prelude.{OnOk}
use Rattle.std.proofs.Common.{ℕ, ◌+◌, ◌<◌, ◌≤◌, List, Result, Ok, Err, arith}
use Rattle.trace_read.specs.declared.stop.Stop.{Stop}
use Rattle.lpar_set.specs.SetGrammar.{SetReading, reading_of, after_set_line}
use Rattle.lpar_set.specs.SetReadings.{IsSetReading}
use Rattle.lpar_set.specs.SetRead.{TakesTo, IsReady}
use Rattle.lpar_set.proofs.BegunFew.{begun_place}
use Rattle.lpar_set.proofs.SetLinesKept.{set_line_keeps}
use Rattle.lpar_set.proofs.SetPlaces.{is_beside}
use Rattle.trace_line.specs.Lines.{most_lines}

-- ---- the next line
-- Once the line is counted, its partition may take it.
pub ready :
    (r : SetReading)
    → IsSetReading r
    → r.taken < most_lines
    → IsReady (record r { taken = r.taken + 1 })
ready r is few = record {
  few = omega arith;
  earlier =
      λ number.
      (let behind : (reading_of r number).taken ≤ r.taken = (is_beside r number is).behind in
      omega arith);
  place = λ number below stopped. begun_place r number is below stopped;
}

-- An accepted line keeps what held.
pub line_sound :
    (result : Result (Unit {0}) Stop) (r s : SetReading) (line : List ℕ)
    → IsSetReading r
    → TakesTo (after_set_line r line) result s
    → OnOk result (IsSetReading s)
line_sound (Ok done) r s line is taken = set_line_keeps r s line is taken
line_sound (Err stop) r s line is taken = tt
