-- Passes with their shares in a table: at its opening, at a split and at a join.
use Rattle.std.specs.Prelude.{◌≡◌, ℕ, ◌+◌, ◌==◌, Bool, List, [], ◌++◌}
use Rattle.std.specs.Arc.{arc_value}
use Rattle.entry_model.specs.State.{State}
use Rattle.entry_model.specs.Fronts.{opening_fronts, larger}
use Rattle.entry_lock.specs.PassOfTable.{view_of}
use Rattle.shared_pass.specs.declared.sharer.Sharer.{Sharer}

-- The pass has all shares of its table.
abbrev pub has_all : Sharer → Bool
has_all s = s.pass.shares == (arc_value s.table).passes

-- The two passes are of one table.
abbrev pub AreOfOne : Sharer → Sharer → Type 0
AreOfOne a b = arc_value b.table ≡ arc_value a.table

-- A pass with all shares of a table that was opened with these entries, and which has made nothing.
pub record IsOpened (entries : List State) (size shares : ℕ) (s : Sharer) : Type 0 where
  pub opening : (arc_value s.table).opening.items ≡ entries
  pub order : (arc_value s.table).order ≡ size
  pub passes : (arc_value s.table).passes ≡ shares
  pub all : s.pass.shares ≡ shares
  pub receipts : (view_of s.pass).actor.receipts ≡ []
  pub lines : (view_of s.pass).actor.lines ≡ []
  pub fronts : (view_of s.pass).fronts ≡ opening_fronts entries

-- The pass a is b after a split, and c is the new one: it has one of the shares and has made
-- nothing, and it has seen what a has.
pub record IsSplit (a b c : Sharer) : Type 0 where
  pub table : b.table ≡ a.table
  pub other_table : AreOfOne a c
  pub shares : b.pass.shares + 1 ≡ a.pass.shares
  pub one : c.pass.shares ≡ 1
  pub actor : (view_of b.pass).actor ≡ (view_of a.pass).actor
  pub fronts : (view_of b.pass).fronts ≡ (view_of a.pass).fronts
  pub fresh : (view_of c.pass).actor.receipts ≡ []
  pub seen : (view_of c.pass).actor.lines ≡ (view_of a.pass).actor.lines
  pub same_fronts : (view_of c.pass).fronts ≡ (view_of a.pass).fronts

-- The pass a is c after it took in b: it has the shares of both and their receipts, those of b
-- last, and has seen what both have.
pub record IsJoined (a b c : Sharer) : Type 0 where
  pub table : c.table ≡ a.table
  pub shares : c.pass.shares ≡ a.pass.shares + b.pass.shares
  pub receipts :
      (view_of c.pass).actor.receipts
      ≡ (view_of a.pass).actor.receipts ++ (view_of b.pass).actor.receipts
  pub lines :
      (view_of c.pass).actor.lines ≡ (view_of a.pass).actor.lines ++ (view_of b.pass).actor.lines
  pub fronts : (view_of c.pass).fronts ≡ larger (view_of a.pass).fronts (view_of b.pass).fronts
