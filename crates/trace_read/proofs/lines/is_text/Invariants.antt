use Rattle.std.proofs.Common.{◌≡◌, take}
use Rattle.std.specs.List.{list_all}
use Rattle.trace_read.specs.TextLines.{is_printable}
use Rattle.trace_read.proofs.lines.is_text.Given as goal

abbrev pub invariant-loop-c : goal.invariant-loop-c
invariant-loop-c l = l.text ≡ list_all is_printable (take l.c-index l.line)
