use Rattle.std.proofs.Common.{◌≡◌, ◌≤◌, ◌++◌, take, string_bytes, string_capacity}
use Rattle.std.specs.List.{flat_map}
use Rattle.reply_text.specs.Text.{entry_text}
use Rattle.reply_text.proofs.text.put_entry_lines.Given as goal

abbrev pub invariant-loop-entry : goal.invariant-loop-entry
invariant-loop-entry l = record {
  told :
      string_bytes l.out
      ≡ string_bytes l.initial.out ++ flat_map entry_text (take l.entry-index l.entries);
  capacity : string_capacity l.initial.out ≤ string_capacity l.out;
}
