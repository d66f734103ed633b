use Rattle.std.specs.Prelude.{bit_xor}
use Rattle.std.proofs.Common.{ℕ, ◌/◌, ◌%◌, ◌<◌, arith}
use Rattle.std.proofs.lemmas.Nat.{xor_lt}
use Rattle.trace_gen.proofs.line.act.Goals as goal

-- The group is that of a page index of eight bits.
small : (page : ℕ) → page < 256 → bit_xor 1 page < 256
small page below = xor_lt 8 1 page (omega arith) below

pub overflow_mul-group : goal.overflow_mul-group
overflow_mul-group c = let below = small (c.args.word / 65536 % 256) (omega arith) in omega arith

pub overflow_add-entry : goal.overflow_add-entry
overflow_add-entry c = let below = small (c.args.word / 65536 % 256) (omega arith) in omega arith
