-- Lists of calls on entries: the next call after some were made, and which lists fit a table.
use Rattle.std.specs.Prelude.{ℕ, zero, suc, ◌<◌, ◌≤◌, List, [], ◌∷◌, Option, Some, None, length}
use Rattle.std.specs.List.{AllByRecursion}
use Rattle.hpte_fields.specs.TableSize.{entry_count}
use Rattle.entry_model.specs.declared.operation.Op.{Op}
use Rattle.entry_model.specs.Receipt.{IsNormal}
use Rattle.entry_model.specs.Trial.{Call}

-- The entry and the operation of the call after the first ones, if there is one.
abbrev pub call_at : List Call → ℕ → Option (ℕ × Op)
call_at [] i = None
call_at (c ∷ cs) zero = Some (c.entry, c.op)
call_at (c ∷ cs) (suc i) = call_at cs i

-- The calls are on entries of a table of 2 ^ order bytes, what they enter are stored words, and
-- their receipts go into one list.
pub record AreCallsIn (order : ℕ) (cs : List Call) : Type 0 where
  pub in_table : AllByRecursion (λ (c : Call). c.entry < entry_count order) cs
  pub normal : AllByRecursion (λ (c : Call). IsNormal c.op) cs
  pub few : length cs ≤ 16
