use Rattle.bitflags.proofs.OnLiterals.{bitflags_on_literals}
use Rattle.papr_codes.specs.FlagBits.{known_flags}
use Rattle.papr_codes.proofs.FlagTests.{mask_keeps_test}
use Rattle.papr_codes.proofs.flag_bits.CallFlags.of.Goals as goal

pub returns-clause-kept : goal.returns-clause-kept
unfolding bitflags_on_literals
returns-clause-kept c = c.from_bits_truncate.ensures tt

pub returns-clause-same_tests : goal.returns-clause-same_tests
unfolding bitflags_on_literals
returns-clause-same_tests c =
    λ one inside.
    rw (c.from_bits_truncate.ensures tt) (mask_keeps_test c.args.word known_flags one inside)
