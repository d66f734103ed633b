-- A pass that reads the states which its table closes to.
use Rattle.std.specs.Prelude.{◌≡◌, ℕ}
use Rattle.std.specs.Arc.{arc_value}
use Rattle.entry_model.specs.State.{State}
use Rattle.entry_lock.specs.PassOfTable.{view_of}
use Rattle.entry_lock.specs.Resting.{Rests}
use Rattle.shared_pass.specs.declared.sharer.Sharer.{Sharer}

-- The pass a is b after it read: its table, its shares and what it knows are the same.
pub record OnlyReads (a b : Sharer) : Type 0 where
  pub table : b.table ≡ a.table
  pub shares : b.pass.shares ≡ a.pass.shares
  pub view : view_of b.pass ≡ view_of a.pass

-- The pass closes its table to states of which this is the entry's.
abbrev pub RestsIn : Sharer → ℕ → State → Type 0
RestsIn s e state = Rests (arc_value s.table).opening.items (view_of s.pass) e state
