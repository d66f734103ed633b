-- The steps of calls and accesses in the form of `atomic_table`: what each leaves of its seat's
-- view, by its word.
use Rattle.std.specs.Prelude.{◌≡◌, ℕ, ◌≤◌, Bool, length}
use Rattle.atomic_table.specs.Table.{Me, Step as TableStep}
use Rattle.entry_model.specs.declared.operation.Op.{Op}
use Rattle.lock_core.specs.declared.doing.Doing.{Doing}
use Rattle.lock_core.specs.declared.phase.Phase.TheVariants.{Held, HeldShut, Looked}
use Rattle.entry_lock.specs.declared.rule.View.{View}
use Rattle.entry_lock.specs.Layout.{control_place, data_place}
use Rattle.entry_lock.specs.HolderSteps.{LoadTells, StoreTells}
use Rattle.entry_lock.specs.AccessSteps.{LookedLoadTells}

-- What holds of a step of a table: the step, the seat before, the word found, the seat after.
abbrev pub Telling : Type 1
Telling = TableStep ℕ → Me ℕ View → ℕ → Me ℕ View → Type 0

-- A step that begins an operation, on the control word of the entry e.
abbrev pub BeginPlay : (Op → ℕ → View → ℕ → View → Type 0) → Op → Telling
BeginPlay tells op s m found w =
    ((e : ℕ) → s.word ≡ control_place e → tells op e m.0 found w.0) × (w.1 ≡ m.1)

-- A step of a holder on the control word.
abbrev pub HeldPlay : (Doing → View → ℕ → View → Type 0) → Telling
HeldPlay tells s m found w =
    ((d : Doing) → m.0.actor.phase ≡ Held d → tells d m.0 found w.0) × (w.1 ≡ m.1)

-- The load of a data word by a holder.
abbrev pub HeldDataPlay : Telling
HeldDataPlay s m found w =
    ((d : Doing) (second : Bool) → m.0.actor.phase ≡ Held d → s.word ≡ data_place d.entry second
    → LoadTells second d m.0 found w.0)
    × (w.1 ≡ m.1)

-- A step of a holder that has shut its entry, on the control word.
abbrev pub ShutPlay : (Doing → View → ℕ → View → Type 0) → Telling
ShutPlay tells s m found w =
    ((d : Doing) → m.0.actor.phase ≡ HeldShut d → tells d m.0 found w.0) × (w.1 ≡ m.1)

-- The store of a data word by a holder that has shut its entry.
abbrev pub ShutDataPlay : Telling
ShutDataPlay s m found w =
    ((d : Doing) (second : Bool) → m.0.actor.phase ≡ HeldShut d
    → s.word ≡ data_place d.entry second → StoreTells second d m.0 found w.0)
    × (w.1 ≡ m.1)

-- The load of a data word by an access.
abbrev pub LookedDataPlay : Telling
LookedDataPlay s m found w =
    ((d : Doing) (second : Bool) → m.0.actor.phase ≡ Looked d → s.word ≡ data_place d.entry second
    → LookedLoadTells second d m.0 found w.0)
    × (w.1 ≡ m.1)

-- The second look or the mark of an access, for the operation as the code has it.
abbrev pub DecidingPlay : (Doing → View → ℕ → View → Type 0) → Doing → Telling
DecidingPlay tells a s m found w = tells a m.0 found w.0 × (w.1 ≡ m.1)

-- A step of an access by a cached translation.
abbrev pub LinePlay : (View → ℕ → View → Type 0) → Telling
LinePlay tells s m found w = tells m.0 found w.0 × (w.1 ≡ m.1)

-- A look at word 0, which belongs to no entry: the pass stays as it is, and has no more shares than
-- there are.
abbrev pub SharesPlay : Telling
SharesPlay s m found w = (w ≡ m) × (length m.0.numbers ≤ m.0.passes)
