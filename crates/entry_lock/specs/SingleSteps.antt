-- Each atomic operation is one step of the machine: the views before and after it name the step.
use Rattle.std.specs.Prelude.{◌⊎◌, ℕ, Bool, [], ◌∷◌}
use Rattle.entry_model.specs.declared.line.Line.{Line}
use Rattle.entry_model.specs.declared.operation.Op.{Op}
use Rattle.lock_core.specs.declared.doing.Doing.{Doing}
use Rattle.lock_core.specs.declared.step.Step.{Step}
use Rattle.lock_core.specs.declared.step.Step.TheVariants.{Lock, Look, LoadData, Shut, StoreData, Settle, Release, Mark}
use Rattle.entry_lock.specs.declared.rule.View.{View}
use Rattle.entry_lock.specs.CallSteps.{Took}
use Rattle.entry_lock.specs.HolderSteps.{LockTells, LoadTells, ShutTells, StoreTells, SettleTells, ReleaseTells}
use Rattle.entry_lock.specs.AccessSteps.{LookTells, LookedLoadTells, SecondLookTells, MarkTells}
use Rattle.entry_lock.specs.LineSteps.{LineLookTells, LineSecondLookTells, LineMarkTells}

-- Whatever word an operation found, its view after has taken just this one step.
abbrev pub Names : (View → ℕ → View → Type 0) → Step → Type 0
Names tells step = (v w : View) (found : ℕ) → tells v found w → Took (step ∷ []) v w

-- Each operation of a hypervisor call.
pub record HolderOperationsAreSteps : Type 0 where
  pub lock : (op : Op) (e : ℕ) → Names (LockTells op e) (Lock e op)
  pub load : (second : Bool) (d : Doing) → Names (LoadTells second d) (LoadData second)
  pub shut : (d : Doing) → Names (ShutTells d) Shut
  pub store : (second : Bool) (d : Doing) → Names (StoreTells second d) (StoreData second)
  pub settle : (d : Doing) → Names (SettleTells d) Settle
  pub release : (d : Doing) → Names (ReleaseTells d) Release

-- Each operation of an access.
pub record AccessOperationsAreSteps : Type 0 where
  pub look : (op : Op) (e : ℕ) → Names (LookTells op e) (Look e op)
  pub load : (second : Bool) (d : Doing) → Names (LookedLoadTells second d) (LoadData second)
  pub again : (d : Doing) → Names (SecondLookTells d) (Look d.entry d.op)
  pub mark : (d : Doing) → Names (MarkTells d) Mark

-- Each operation of an access by a cached translation, except for a first look that finds the line
-- gone.
pub record LineOperationsAreSteps : Type 0 where
  pub look :
      (cached : Line) (op : Op) (v w : View) (found : ℕ) → LineLookTells cached op v found w
      → Took [] v w ⊎ Took (Look cached.entry op ∷ []) v w
  pub again :
      (cached : Line) (d : Doing) → Names (LineSecondLookTells cached d) (Look d.entry d.op)
  pub mark : (cached : Line) (d : Doing) → Names (LineMarkTells cached d) Mark

-- Each operation of a hypervisor call and of an access is a single step.
abbrev pub OperationsAreSingleSteps : Type 0
OperationsAreSingleSteps =
    HolderOperationsAreSteps × AccessOperationsAreSteps × LineOperationsAreSteps
