-- When a pass is one of a table, whose shares and opening states it then knows.
use Rattle.std.specs.Prelude.{◌≡◌}
use Rattle.entry_lock.specs.declared.rule.View.{View}
use Rattle.entry_lock.specs.declared.table.LockTable.{LockTable}
use Rattle.entry_lock.specs.declared.table.Pass.{Pass}

-- What the pass knows.
abbrev pub view_of : Pass → View
view_of pass = pass.seat.me.0

-- The pass is of this table, and knows what it opened on.
abbrev pub IsOf : LockTable → Pass → Type 0
IsOf table pass =
    (pass.seat.table_id ≡ table.table.shared.table_id)
    × ((view_of pass).passes ≡ table.passes)
    × ((view_of pass).opening ≡ table.opening.items)
