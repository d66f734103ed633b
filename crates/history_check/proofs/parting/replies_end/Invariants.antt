use Rattle.std.proofs.Common.{◌≡◌}
use Rattle.history_check.specs.PartedText.{behind_lines}
use Rattle.history_check.proofs.parting.replies_end.Given as goal

abbrev pub invariant-loop : goal.invariant-loop
invariant-loop l = l.rest ≡ behind_lines l.counter l.text
