-- Laws of inputs: one past the limit is refused as line 0, whatever reads it.
use Rattle.std.proofs.Common.{◌≡◌, Err, refl, ap, lt-ltb}
use Rattle.trace_read.specs.declared.why.Why.TheVariants.{Long}
use Rattle.trace_read.specs.Grammar.{trace_of}
use Rattle.papr_edge.specs.Inputs.{trace_input, judged_input, with_reason}
use Rattle.papr_edge.specs.Reading.{RefusesLong}

-- A trace past the limit is refused as line 0.
pub long_trace : RefusesLong trace_input
unfolding trace_of
long_trace bytes h =
    let long : trace_of bytes ≡ Err (0, Long) = rw (lt-ltb _ _ h) refl in
    ap with_reason long

-- A trace with replies past the limit is refused as line 0.
pub long_judged : RefusesLong judged_input
unfolding judged_input
long_judged bytes h = rw (lt-ltb _ _ h) refl
