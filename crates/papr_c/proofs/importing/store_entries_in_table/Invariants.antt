use Rattle.std.proofs.Common.{◌≡◌, ◌+◌, drop}
use Rattle.c_layout.specs.Entries.{states_of, AreMarked}
use Rattle.c_layout.specs.Grants.{listed}
use Rattle.papr_c.specs.Transfers.{replaced, entries_of_bytes}
use Rattle.papr_c.proofs.importing.store_entries_in_table.Given as goal

abbrev pub invariant-loop-i : goal.invariant-loop-i
invariant-loop-i l =
    let grants = listed l.grants.grants l.grants.count in
    record {
      states :
          states_of l.entries
          ≡ replaced (states_of l.initial.entries) l.first
          (entries_of_bytes grants l.layout l.bytes l.i);
      marks : AreMarked l.initial.entries l.entries;
      rest : drop (l.first + l.i) l.entries ≡ drop (l.first + l.i) l.initial.entries;
    }
