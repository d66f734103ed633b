-- The table of steps: in which phase each is allowed, and what it does.
use Rattle.std.specs.Prelude.{ℕ, ◌==◌, ◌&&◌, Bool, true, false, not, if◌then◌else◌, nat_lt, List, [], ◌∷◌, ◌++◌, length, slice_set, Option, Some, None, is_none, is_some}
use Rattle.basics.specs.Words.{first_refusal}
use Rattle.entry_model.specs.State.{State}
use Rattle.entry_model.specs.declared.operation.Op.{Op}
use Rattle.entry_model.specs.declared.receipt.Receipt.{Receipt}
use Rattle.entry_model.specs.Receipt.{is_access}
use Rattle.lock_core.specs.declared.control.Control.{Control}
use Rattle.lock_core.specs.declared.doing.Doing.{Doing}
use Rattle.lock_core.specs.declared.entry.Entry.{Entry}
use Rattle.lock_core.specs.declared.error.CoreError.{CoreError}
use Rattle.lock_core.specs.declared.error.CoreError.TheVariants.{Actor as ActorFault, Entry as EntryFault, Phase as PhaseFault}
use Rattle.lock_core.specs.declared.phase.Phase.{Phase}
use Rattle.lock_core.specs.declared.phase.Phase.TheVariants.{Idle, Held, HeldShut, Looked}
use Rattle.lock_core.specs.declared.step.Step.{Step}
use Rattle.lock_core.specs.declared.step.Step.TheVariants.{Lock, Look, LoadData, Shut, StoreData, Settle, Release, Mark, Split, Join}
use Rattle.lock_core.specs.declared.step_result.StepResult.{StepResult}
use Rattle.lock_core.specs.Words.{next_state, is_read, changes, receipt, is_noted, is_still, same_access, is_stored, settled_word}
use Rattle.lock_core.specs.Machine.{Actor, Machine, nobody, newcomer, actor_at, entry_at, in_table, words_seen, shown_sightings}

-- ---- in which phase a step is allowed
-- The entry that a step is on.
abbrev pub entry_of : Phase → Step → ℕ
entry_of Idle (Lock e op) = e
entry_of Idle (Look e op) = e
entry_of Idle step = 0
entry_of (Held d) step = d.entry
entry_of (HeldShut d) step = d.entry
entry_of (Looked d) step = d.entry

-- The step is one of this phase, on an entry with these words.
unfoldable pub fits : Entry → Phase → Step → Bool
fits x Idle (Lock e op) = not (is_access op)
fits x Idle (Look e op) = is_access op
fits x (Held d) (LoadData second) = d.noted.valid
fits x (Held d) Shut = is_read d && changes d
fits x (Held d) Release = is_read d && not (changes d)
fits x (HeldShut d) (StoreData second) = true
fits x (HeldShut d) Settle = is_stored x (next_state d)
fits x (Looked d) (LoadData second) = d.noted.valid
fits x (Looked d) (Look e op) =
    ((e == d.entry) && same_access op d.op) && (is_read d && not (changes d))
fits x (Looked d) Mark = is_read d && changes d
fits x phase step = false

-- ---- what a step does
-- On, without a receipt.
abbrev pub result_without_receipt : Entry → Phase → StepResult
result_without_receipt x phase = record { entry = x; phase = phase; made = None }

-- Idle, with a receipt.
abbrev pub result_with_receipt : Entry → Receipt → StepResult
result_with_receipt x r = record { entry = x; phase = Idle; made = Some r }

-- An operation that an actor begins.
abbrev pub new_doing : ℕ → Op → Control → Option (ℕ × ℕ) → Doing
new_doing e op k seen = record {
  entry = e;
  op = op;
  noted = k;
  first = None;
  second = None;
  seen = seen;
}

-- The operation that an actor is at, when it has found another control word.
abbrev pub with_noted : Doing → Control → Doing
with_noted d k = record d { noted = k }

-- The operation with a data word of the entry loaded, the second or the first.
abbrev pub with_loaded : Bool → Entry → Doing → Doing
with_loaded second x d =
    if second then record d { second = Some x.dword1 } else record d { first = Some x.dword0 }

-- The entry with a data word of this state stored, the second or the first.
abbrev pub with_stored : Bool → State → Entry → Entry
with_stored second s x =
    if second then record x { dword1 = s.dword1 } else record x { dword0 = s.dword0 }

-- The entry with its lock bit set so.
abbrev pub locked_entry : Entry → Bool → Entry
locked_entry x locked = record x { control = record x.control { locked = locked } }

-- The entry with its shut bit set.
abbrev pub shut_entry : Entry → Entry
shut_entry x = record x { control = record x.control { shut = true } }

-- The entry settled on this state: nobody holds it, and it counts with the state.
abbrev pub settled_entry : Entry → State → Entry
settled_entry x s = record x { control = settled_word s; published = s }

-- The entry with R and C as in this state, with which it counts.
abbrev pub marked_entry : Entry → State → Entry
marked_entry x s = record x {
  control = record x.control { referenced = s.referenced; changed = s.changed };
  published = s;
}

-- A second look decides where it finds the very word that was noted, and where the data words were
-- seen and the entry is still at the noted stamp: the bits found are then those before.
unfoldable pub second_look : Entry → Doing → StepResult
second_look x d =
    if is_noted x.control d.noted
    then result_with_receipt x (receipt d)
    else
    (if is_still x.control d
    then result_with_receipt x (receipt (with_noted d x.control))
    else result_without_receipt x Idle)

-- A step on an entry, of an actor that has seen these doublewords of it. A lock that is taken and
-- an entry that is shut leave the actor idle.
unfoldable pub step_result : Option (ℕ × ℕ) → Entry → Phase → Step → StepResult
step_result seen x Idle (Lock e op) =
    if x.control.locked
    then result_without_receipt x Idle
    else result_without_receipt (locked_entry x true) (Held (new_doing e op x.control None))
step_result seen x Idle (Look e op) =
    if x.control.shut
    then result_without_receipt x Idle
    else result_without_receipt x (Looked (new_doing e op x.control seen))
step_result seen x (Held d) (LoadData second) =
    result_without_receipt x (Held (with_loaded second x d))
step_result seen x (Held d) Shut =
    result_without_receipt (shut_entry x) (HeldShut (with_noted d x.control))
step_result seen x (Held d) Release =
    result_with_receipt (locked_entry x false) (receipt (with_noted d x.control))
step_result seen x (HeldShut d) (StoreData second) =
    result_without_receipt (with_stored second (next_state d) x) (HeldShut d)
step_result seen x (HeldShut d) Settle =
    result_with_receipt (settled_entry x (next_state d)) (receipt d)
step_result seen x (Looked d) (LoadData second) =
    result_without_receipt x (Looked (with_loaded second x d))
step_result seen x (Looked d) (Look e op) = second_look x d
step_result seen x (Looked d) Mark =
    if is_noted x.control d.noted
    then result_with_receipt (marked_entry x (next_state d)) (receipt d)
    else result_without_receipt x Idle
step_result seen x phase step = result_without_receipt x phase

-- The actor after a step that leaves this phase and makes this receipt.
abbrev pub actor_after : Actor → Phase → Option Receipt → Actor
actor_after a phase None = record a { phase = phase }
actor_after a phase (Some r) = record {
  live = a.live;
  phase = phase;
  receipts = a.receipts ++ r ∷ [];
  lines = a.lines ++ shown_sightings r;
}

-- ---- on the machine
-- What a step on an entry leaves.
abbrev pub step_result_of : Machine → ℕ → Step → StepResult
step_result_of m i step =
    let a : Actor = actor_at m i in
    let e : ℕ = entry_of a.phase step in
    step_result (words_seen m a e (entry_at m e).control) (entry_at m e) a.phase step

-- The machine in which an actor's step on an entry left this.
abbrev pub with_result : Machine → ℕ → ℕ → StepResult → Machine
with_result m e i t = record {
  opening = m.opening;
  entries = slice_set m.entries e t.entry;
  actors = slice_set m.actors i (actor_after (actor_at m i) t.phase t.made);
}

-- A split makes a live actor that has seen what its parent has.
abbrev pub split_off : Machine → ℕ → ℕ → Machine
split_off m i to = record m { actors = slice_set m.actors to (newcomer (actor_at m i).lines) }

-- A join brings the other's receipts and lines.
abbrev pub joined_actor : Actor → Actor → Actor
joined_actor a b = record {
  live = a.live;
  phase = a.phase;
  receipts = a.receipts ++ b.receipts;
  lines = a.lines ++ b.lines;
}

-- The machine after a join: the other actor is nobody.
abbrev pub join_in : Machine → ℕ → ℕ → Machine
join_in m i from = record m {
  actors =
      slice_set (slice_set m.actors i (joined_actor (actor_at m i) (actor_at m from))) from nobody;
}

-- ---- which steps are taken
-- The actor has no operation under way.
abbrev pub is_idle : Phase → Bool
is_idle Idle = true
is_idle phase = false

-- The actor is live. The other one of a split is there and isn't live; that of a join is another
-- one, and live.
unfoldable pub may_act : Machine → ℕ → Step → Bool
may_act m i (Split to) =
    (actor_at m i).live && (nat_lt to (length m.actors) && not (actor_at m to).live)
may_act m i (Join from) = (actor_at m i).live && ((actor_at m from).live && not (from == i))
may_act m i step = (actor_at m i).live

-- The entry that the step names, if it names one, is in the table.
unfoldable pub names_entry : Machine → Step → Bool
names_entry m (Lock e op) = in_table m e
names_entry m (Look e op) = in_table m e
names_entry m step = true

-- The phase of the actor allows a step on an entry.
abbrev pub fits_entry : Machine → ℕ → Step → Bool
fits_entry m i step =
    in_table m (entry_of (actor_at m i).phase step)
    && fits (entry_at m (entry_of (actor_at m i).phase step)) (actor_at m i).phase step

-- The phase allows the step. Actors that split or join are idle.
unfoldable pub fits_phase : Machine → ℕ → Step → Bool
fits_phase m i (Split to) = is_idle (actor_at m i).phase
fits_phase m i (Join from) = is_idle (actor_at m i).phase && is_idle (actor_at m from).phase
fits_phase m i step = fits_entry m i step

-- What may be wrong with a step, in the order in which it is tried.
unfoldable pub refusals : Machine → ℕ → Step → List (Bool × CoreError)
refusals m i step =
    (not (may_act m i step), ActorFault)
    ∷ (not (names_entry m step), EntryFault)
    ∷ (not (fits_phase m i step), PhaseFault)
    ∷ []

-- The first that is wrong, or none.
unfoldable pub refusal : Machine → ℕ → Step → Option CoreError
refusal m i step = first_refusal (refusals m i step)

-- Nothing is wrong with the step.
unfoldable pub is_allowed : Machine → ℕ → Step → Bool
is_allowed m i step = is_none (refusal m i step)

-- The receipt that a step makes, if it makes one.
unfoldable pub made_by : Machine → ℕ → Step → Option Receipt
made_by m i (Split to) = None
made_by m i (Join from) = None
made_by m i step = if is_allowed m i step then (step_result_of m i step).made else None

-- The step takes memory: it splits or joins, or makes a receipt.
unfoldable pub takes_memory : Machine → ℕ → Step → Bool
takes_memory m i (Split to) = true
takes_memory m i (Join from) = true
takes_memory m i step = is_some (made_by m i step)

-- The machine after an allowed step.
unfoldable pub after_allowed_step : Machine → ℕ → Step → Machine
after_allowed_step m i (Split to) = split_off m i to
after_allowed_step m i (Join from) = join_in m i from
after_allowed_step m i step =
    with_result m (entry_of (actor_at m i).phase step) i (step_result_of m i step)

-- The machine after a step: a step that isn't allowed changes nothing.
unfoldable pub after_step : Machine → ℕ → Step → Machine
after_step m i step = if is_allowed m i step then after_allowed_step m i step else m
