-- Passes at work: at the opening of a table, at a split and at a join, and what one made.
use Rattle.std.specs.Prelude.{◌≡◌, ℕ, Bool, List, []}
use Rattle.entry_model.specs.State.{State}
use Rattle.entry_model.specs.declared.receipt.Receipt.{Receipt}
use Rattle.shared_pass.specs.declared.working.Working.{Working}
use Rattle.shared_pass.specs.declared.held.Pending.TheVariants.{Nothing}
use Rattle.shared_pass.specs.Held.{is_nothing}
use Rattle.shared_pass.specs.Made.{MadeBy}
use Rattle.shared_pass.specs.Shares.{has_all, IsOpened, IsSplit, IsJoined}

-- The pass has all shares of its table.
abbrev pub has_all_shares : Working → Bool
has_all_shares w = has_all w.sharer

-- The pass has nothing to go on with.
abbrev pub is_free : Working → Bool
is_free w = is_nothing w.pending

-- A pass with all shares of a table that was opened with these entries.
pub record IsNew (entries : List State) (size shares : ℕ) (w : Working) : Type 0 where
  pub opened : IsOpened entries size shares w.sharer
  pub nothing : w.pending ≡ Nothing
  pub receipts : w.receipts ≡ []

-- The pass x is y after a split, with what it had to go on with, and z is the new one.
pub record IsSplitOff (x y z : Working) : Type 0 where
  pub split : IsSplit x.sharer y.sharer z.sharer
  pub pending : y.pending ≡ x.pending
  pub receipts : y.receipts ≡ x.receipts
  pub busy : y.busy ≡ x.busy
  pub nothing : z.pending ≡ Nothing
  pub none : z.receipts ≡ []

-- The pass x is z after it took in y.
pub record IsTakenIn (x y z : Working) : Type 0 where
  pub joined : IsJoined x.sharer y.sharer z.sharer
  pub nothing : z.pending ≡ Nothing

-- The pass x is y after it made just these receipts.
abbrev pub IsMade : Working → Working → List Receipt → Type 0
IsMade x y rs = MadeBy x.sharer y.sharer rs
