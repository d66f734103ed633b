-- The number of each exit status, 0 to 6.
use Rattle.std.specs.Prelude.{ℕ}
use Rattle.papr_edge.specs.declared.status.Status.{Status}
use Rattle.papr_edge.specs.declared.status.Status.TheVariants.{Done, Usage, Refused, ReadFault, WriteFault, Memory, CheckNo}

-- The exit status of the program.
abbrev pub status_number : Status → ℕ
status_number Done = 0
status_number Usage = 1
status_number Refused = 2
status_number ReadFault = 3
status_number WriteFault = 4
status_number Memory = 5
status_number CheckNo = 6
