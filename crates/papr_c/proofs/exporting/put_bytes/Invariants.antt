use Rattle.std.proofs.Common.{◌≡◌, ◌*◌, ◌++◌, drop}
use Rattle.papr_c.specs.Transfers.{bytes_of_entries}
use Rattle.c_layout.specs.Entries.{states_of}
use Rattle.papr_c.proofs.exporting.put_bytes.Given as goal

abbrev pub invariant-loop-i : goal.invariant-loop-i
invariant-loop-i l =
    l.out
    ≡ bytes_of_entries l.layout (states_of l.entries) l.first l.i ++ drop (16 * l.i) l.initial.out
