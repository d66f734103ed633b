-- When the entries that C lends are a whole table.
use Rattle.std.specs.Prelude.{◌==◌, ◌&&◌, ℕ, Bool, List, length}
use Rattle.hpte_fields.specs.TableSize.{entry_count, is_table_order}
use Rattle.entry_model.specs.State.{State}

-- The entries are all those of one table of 2 ^ order bytes.
abbrev pub is_table : ℕ → List State → Bool
is_table order entries =
    is_table_order order && (length entries == entry_count order)
