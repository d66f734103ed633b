-- What C learns of a call or a walk that is held up, and what giving it up leaves.
use Rattle.std.specs.Prelude.{◌≡◌, ℕ, List, length, Option, Some, None}
use Rattle.entry_model.specs.declared.receipt.Receipt.{Receipt}
use Rattle.entry_lock.specs.declared.busy.Busy.{Busy}
use Rattle.shared_pass.specs.declared.working.Working.{Working}
use Rattle.shared_pass.specs.declared.held.Pending.{Pending}
use Rattle.shared_pass.specs.declared.held.Pending.TheVariants.{Nothing, Call, Walk}
use Rattle.papr_shared.specs.declared.held_up.PaprBusy.{PaprBusy}

-- What C learns where there is nothing to go on with: all zero.
abbrev pub not_held_up : PaprBusy
not_held_up = record { looked = 0; found = 0; entry = 0; done = 0; hold = 0 }

-- The entry of the next operation, the two words of the last try, and how many operations were
-- made.
abbrev pub busy_at : Busy → List Receipt → ℕ → PaprBusy
busy_at b rs hold = record {
  looked = b.looked;
  found = b.found;
  entry = b.entry;
  done = length rs;
  hold = hold;
}

-- A call waits for the lock of an entry, and a walk for a change of it.
abbrev pub busy_by : Pending → Busy → List Receipt → PaprBusy
busy_by Nothing b rs = not_held_up
busy_by (Call call) b rs = busy_at b rs 1
busy_by (Walk walk) b rs = busy_at b rs 2

-- What holds a pass up, as C has it; a closed pass isn't held up.
abbrev pub busy_of : Option Working → PaprBusy
busy_of None = not_held_up
busy_of (Some w) = busy_by w.pending w.busy w.receipts

-- The pass has nothing to go on with then, and is as it was otherwise.
pub record GivesUp (x y : Working) : Type 0 where
  pub sharer : y.sharer ≡ x.sharer
  pub receipts : y.receipts ≡ x.receipts
  pub nothing : y.pending ≡ Nothing

-- An open pass gives up what it had to go on with, and a closed one stays closed.
abbrev pub IsGivenUp : Option Working → Option Working → Type 0
IsGivenUp (Some x) (Some y) = GivesUp x y
IsGivenUp None None = Unit {0}
IsGivenUp before after = ⊥
