-- What a caller of a pass made between two moments, and what it has seen: the store of `Waiting`.
use Rattle.std.specs.Prelude.{◌≡◌, ℕ, ◌<◌, List, ◌++◌, flat_map, All}
use Rattle.hpte_fields.specs.TableSize.{entry_count}
use Rattle.entry_model.specs.State.{State}
use Rattle.entry_model.specs.declared.line.Line.{Line}
use Rattle.entry_model.specs.declared.receipt.Receipt.{Receipt}
use Rattle.entry_model.specs.Fronts.{KeepsFronts}
use Rattle.lock_core.specs.declared.sighting.Sighting.{Sighting}
use Rattle.lock_core.specs.Machine.{shown_sightings}
use Rattle.entry_lock.specs.declared.rule.View.{View}
use Rattle.entry_lock.specs.SeenLines.{IsSeen}

-- The receipt's entry is in a table of this order.
abbrev pub IsInTable : ℕ → Receipt → Type 0
IsInTable order r = r.entry < entry_count order

-- The pass made just these receipts, in this order, none of them before its front at that step.
pub record MadeReceipts (v w : View) (rs : List Receipt) : Type 0 where
  pub receipts : w.actor.receipts ≡ v.actor.receipts ++ rs
  pub lines : w.actor.lines ≡ v.actor.lines ++ flat_map shown_sightings rs
  pub fronts : KeepsFronts v.fronts rs w.fronts
  pub numbers : w.numbers ≡ v.numbers

-- The pass made just these receipts, each of an entry of a table of 2 ^ order bytes.
pub record MadeInTable (order : ℕ) (v w : View) (rs : List Receipt) : Type 0 where
  pub made : MadeReceipts v w rs
  pub inside : All (IsInTable order) rs

-- The cached translation is one of an entry of the table, and was seen.
pub record IsSeenInTable (order : ℕ) (lines : List Sighting) (opening : List State) (cached : Line)
    : Type 0 where
  pub inside : cached.entry < entry_count order
  pub seen : IsSeen lines opening cached
