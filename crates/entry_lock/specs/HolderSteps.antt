-- What each step of a hypervisor call leaves of its pass's view, by the word that it found. The
-- view is v before the step and w after it. Each is one step of the machine.
use Rattle.std.specs.Prelude.{◌≡◌, ℕ, Bool, true, false, length, None}
use Rattle.entry_model.specs.declared.operation.Op.{Op}
use Rattle.entry_model.specs.Fronts.{IsAhead}
use Rattle.lock_core.specs.declared.control.Control.{Control}
use Rattle.lock_core.specs.declared.doing.Doing.{Doing}
use Rattle.lock_core.specs.declared.phase.Phase.TheVariants.{Held, HeldShut}
use Rattle.lock_core.specs.declared.step.Step.TheVariants.{Lock, LoadData, Shut, StoreData, Settle, Release}
use Rattle.lock_core.specs.Words.{receipt}
use Rattle.lock_core.specs.Steps.{new_doing, with_noted}
use Rattle.entry_lock.specs.declared.rule.View.{View}
use Rattle.entry_lock.specs.Layout.{Means}
use Rattle.entry_lock.specs.StepViews.{view_with_step, view_in_phase, view_with_receipt, view_with_store, view_with_count, doing_with_word}

-- The lock step found the entry locked, and changed nothing; or the pass holds it now, and has
-- noted the word. A pass with all shares finds it free.
abbrev pub LockTells : Op → ℕ → View → ℕ → View → Type 0
LockTells op e v found w = (noted : Control) × Means found noted
    × (length v.numbers ≡ v.passes → noted.locked ≡ false)
    × (noted.locked ≡ true → w ≡ view_with_count (view_with_step v (Lock e op)) e found found)
    × (noted.locked ≡ false
    → (let held : View = view_in_phase (view_with_step v (Lock e op))
    (Held (new_doing e op noted None)) in
    w ≡ view_with_count held e found found))

-- The holder has loaded a data word.
abbrev pub LoadTells : Bool → Doing → View → ℕ → View → Type 0
LoadTells second d v found w =
    w ≡ view_in_phase (view_with_step v (LoadData second)) (Held (doing_with_word second found d))

-- The entry is shut. The word found has valid and the stamp of the one noted, and the R and C that
-- count, which the holder notes now.
abbrev pub ShutTells : Doing → View → ℕ → View → Type 0
ShutTells d v found w = (noted : Control) × Means found noted
    × (noted.valid ≡ d.noted.valid) × (noted.stamp ≡ d.noted.stamp)
    × (w ≡ view_in_phase (view_with_step v Shut) (HeldShut (with_noted d noted)))

-- The holder has stored a data word.
abbrev pub StoreTells : Bool → Doing → View → ℕ → View → Type 0
StoreTells second d v found w = w ≡ view_with_store second (view_with_step v (StoreData second))

-- The entry has the state after, and the receipt is made, not before the pass's front.
abbrev pub SettleTells : Doing → View → ℕ → View → Type 0
SettleTells d v found w =
    (w ≡ view_with_receipt (view_with_step v Settle) (receipt d)) × IsAhead v.fronts (receipt d)

-- The entry is let go unchanged. The word found has the R and C before, and the receipt is made.
abbrev pub ReleaseTells : Doing → View → ℕ → View → Type 0
ReleaseTells d v found w = (noted : Control) × Means found noted
    × (noted.valid ≡ d.noted.valid) × (noted.stamp ≡ d.noted.stamp)
    × (w ≡ view_with_receipt (view_with_step v Release) (receipt (with_noted d noted)))
    × IsAhead v.fronts (receipt (with_noted d noted))
