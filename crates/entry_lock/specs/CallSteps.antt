-- Which steps of the machine a call took: the pass's view v before it, and w after.
use Rattle.std.specs.Prelude.{◌≡◌, ◌⊎◌, ℕ, ◌==◌, if◌then◌else◌, Bool, true, false, List, [], ◌∷◌, ◌++◌, MatchBool}
use Rattle.entry_model.specs.declared.operation.Op.{Op}
use Rattle.entry_model.specs.declared.receipt.Receipt.{Receipt}
use Rattle.entry_model.specs.History.{state_eq}
use Rattle.entry_model.specs.Receipt.{after_of, is_access}
use Rattle.lock_core.specs.declared.step.Step.{Step}
use Rattle.lock_core.specs.declared.step.Step.TheVariants.{Lock, Look, LoadData, Shut, StoreData, Settle, Release, Mark}
use Rattle.entry_lock.specs.declared.busy.Busy.{Busy}
use Rattle.entry_lock.specs.declared.rule.View.{View}
use Rattle.entry_lock.specs.Layout.{valid_bit}

-- Steps that were taken, of which the newest stands first, after these more, in their order.
abbrev pub after_steps : List Step → List Step → List Step
after_steps taken [] = taken
after_steps taken (step ∷ rest) = after_steps (step ∷ taken) rest

-- The pass took just these steps, in this order.
abbrev pub Took : List Step → View → View → Type 0
Took steps v w = w.taken ≡ after_steps v.taken steps

-- The loads of both data words, of an entry that was found valid.
abbrev pub loads_if : Bool → List Step
loads_if valid = if valid then LoadData false ∷ LoadData true ∷ [] else []

-- The stores of both data words, of an entry that becomes or stays valid.
abbrev pub stores_if : Bool → List Step
stores_if valid = if valid then StoreData false ∷ StoreData true ∷ [] else []

-- The receipt leaves the entry's state.
abbrev pub leaves_state : Receipt → Bool
leaves_state r = state_eq (after_of r) r.before

-- ---- hypervisor calls
-- The steps that change an entry that is held.
abbrev pub changing_steps : Receipt → List Step
changing_steps r = Shut ∷ stores_if (after_of r).valid ++ Settle ∷ []

-- An operation of a hypervisor call that made this receipt.
abbrev pub call_steps : ℕ → Op → Receipt → List Step
call_steps e op r =
    Lock e op
    ∷ loads_if r.before.valid ++ (if leaves_state r then Release ∷ [] else changing_steps r)

-- ---- accesses
-- The step that decides an access with this receipt.
abbrev pub deciding_step : ℕ → Op → Receipt → Step
deciding_step e op r = if leaves_state r then Look e op else Mark

-- An access that made this receipt.
abbrev pub access_steps : ℕ → Op → Receipt → List Step
access_steps e op r = Look e op ∷ loads_if r.before.valid ++ deciding_step e op r ∷ []

-- An access by a cached translation that made this receipt. It loads no data word.
abbrev pub line_steps : ℕ → Op → Receipt → List Step
line_steps e op r = Look e op ∷ deciding_step e op r ∷ []

-- A second look or a mark.
abbrev pub IsDeciding : ℕ → Op → Step → Type 0
IsDeciding e op step = (step ≡ Look e op) ⊎ (step ≡ Mark)

-- An access that was busy. Its first look found the entry shut; or the step that was to decide it
-- found another word than the one that the first look noted.
abbrev pub TookBusyAccess : ℕ → Op → Busy → View → View → Type 0
TookBusyAccess e op b v w =
    MatchBool
    (b.looked == b.found)
    (Took (Look e op ∷ []) v w)
    ((last : Step) × IsDeciding e op last
    × Took (Look e op ∷ loads_if (valid_bit b.looked) ++ last ∷ []) v w)

-- An access by a line that is gone. The first look that finds the entry gone is no step; or the
-- step that was to decide it found another word than the one that the first look noted.
abbrev pub TookGone : ℕ → Op → View → View → Type 0
TookGone e op v w =
    MatchBool
    (w.looked == w.found)
    (Took [] v w)
    ((last : Step) × IsDeciding e op last × Took (Look e op ∷ last ∷ []) v w)

-- ---- tries
-- A try that made this receipt.
abbrev pub made_steps : ℕ → Op → Receipt → List Step
made_steps e op r = if is_access op then access_steps e op r else call_steps e op r

-- A try that was busy: a hypervisor call's operation took the lock step alone.
abbrev pub TookBusy : ℕ → Op → Busy → View → View → Type 0
TookBusy e op b v w =
    MatchBool (is_access op) (TookBusyAccess e op b v w) (Took (Lock e op ∷ []) v w)
