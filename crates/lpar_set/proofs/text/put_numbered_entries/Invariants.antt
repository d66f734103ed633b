use Rattle.std.proofs.Common.{◌≡◌, ◌++◌, take, string_bytes}
use Rattle.std.specs.List.{flat_map}
use Rattle.lpar_set.specs.SetText.{numbered_entry}
use Rattle.lpar_set.proofs.text.put_numbered_entries.Given as goal

abbrev pub invariant-loop-entry : goal.invariant-loop-entry
invariant-loop-entry l =
    string_bytes l.out
    ≡ string_bytes l.initial.out
    ++ flat_map (numbered_entry l.number) (take l.entry-index l.entries)
