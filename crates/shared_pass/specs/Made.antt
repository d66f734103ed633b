-- What a pass made between two moments: its receipts, and the last step that it took.
use Rattle.std.specs.Prelude.{◌≡◌, ◌≤◌, ℕ, List}
use Rattle.std.specs.Arc.{arc_value}
use Rattle.std.specs.Global.{Global}
use Rattle.std_alloc.specs.declared.arc.Arc.{Arc}
use Rattle.entry_model.specs.declared.receipt.Receipt.{Receipt}
use Rattle.entry_lock.specs.declared.busy.Busy.{Busy}
use Rattle.entry_lock.specs.declared.table.LockTable.{LockTable}
use Rattle.entry_lock.specs.PassChanges.{TellsLastStep}
use Rattle.entry_lock.specs.PassOfTable.{view_of}
use Rattle.entry_lock.specs.WaitingStore.{MadeReceipts}
use Rattle.shared_pass.specs.declared.sharer.Sharer.{Sharer}

-- The order of a table that passes share.
abbrev pub order_of : Arc LockTable Global → ℕ
order_of table = (arc_value table).order

-- How many shares a table that passes share has.
abbrev pub passes_of : Arc LockTable Global → ℕ
passes_of table = (arc_value table).passes

-- The pass a is b after it made just these receipts in the table's one history, in this order. Its
-- table and its shares are the same, and it took no step back.
pub record MadeBy (a b : Sharer) (rs : List Receipt) : Type 0 where
  pub table : b.table ≡ a.table
  pub shares : b.pass.shares ≡ a.pass.shares
  pub made : MadeReceipts (view_of a.pass) (view_of b.pass) rs
  pub count : (view_of a.pass).count ≤ (view_of b.pass).count

-- The pass a is b after it took a step, and its last step was on this entry and found these words.
abbrev pub ToldBy : Sharer → Sharer → ℕ → Busy → Type 0
ToldBy a b entry busy = TellsLastStep (view_of a.pass) (view_of b.pass) entry busy
