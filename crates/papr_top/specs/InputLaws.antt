-- A law of the input of a set: one past the limit is refused as line 0.
use Rattle.std.proofs.Common.{◌≡◌, Err, refl, ap, lt-ltb}
use Rattle.trace_read.specs.declared.why.Why.TheVariants.{Long}
use Rattle.lpar_set.specs.SetGrammar.{set_of}
use Rattle.papr_edge.specs.Inputs.{with_reason}
use Rattle.papr_edge.specs.Reading.{RefusesLong}
use Rattle.papr_top.specs.Sets.{set_input}

-- A set past the limit is refused as line 0.
pub long_set : RefusesLong set_input
unfolding set_of
long_set bytes h =
    let long : set_of bytes ≡ Err (0, Long) = rw (lt-ltb _ _ h) refl in
    ap with_reason long
