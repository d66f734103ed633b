use Rattle.std.proofs.Common.{◌≡◌, ◌++◌, length, take, drop, find, string_bytes}
use Rattle.std.specs.List.{flat_map}
use Rattle.table_image.specs.Image.{image_head, entry_line, is_unheld}
use Rattle.table_image.proofs.image.image_text.Given as goal

-- The lines of the entries so far are written, and the layout can hold them.
abbrev pub invariant-loop-entry : goal.invariant-loop-entry
invariant-loop-entry l = record {
  told :
      string_bytes l.text
      ≡ image_head l.layout l.order (length l.table)
      ++ flat_map (entry_line l.layout) (take l.entry-index l.table);
  held : find (is_unheld l.layout) l.table ≡ find (is_unheld l.layout) (drop l.entry-index l.table);
}
