-- The table of steps on an entry that hardware walks, and the orders that may be left out. A step
-- that doesn't fit changes nothing.
use Rattle.std.specs.Prelude.{ℕ, ◌&&◌, ◌||◌, Bool, true, false, not, if◌then◌else◌, List, [], ◌∷◌, ◌++◌, map, Option, Some, None, slice_get, slice_set}
use Rattle.entry_model.specs.State.{State}
use Rattle.entry_model.specs.History.{state_eq}
use Rattle.entry_model.specs.Reply.{reply_of}
use Rattle.entry_model.specs.Receipt.{receipt_of, is_access}
use Rattle.entry_model.specs.declared.operation.Op.{Op}
use Rattle.entry_model.specs.declared.operation.Op.TheVariants.{Read}
use Rattle.entry_model.specs.declared.receipt.Receipt.{Receipt}
use Rattle.hardware_walk.specs.Words.{Entry, Pair, seen_state, stores, allows, has_bits, touched_pair, touched_entry}
use Rattle.hardware_walk.specs.Machine.{Phase, Idle, Held, Leaving, Ready, Invalidated, Flushing, Flushed, Known, Place, Empty, HalfWalked, Translated, made_old, HardwareAccess, Machine}

-- The orders of the protocol, and of the hardware. Each may be left out, to see what then happens.
pub record Orders : Type 0 where
  -- V is clear and a tlbie has ended before a valid entry is changed: std of doubleword 0, ptesync,
  -- tlbie, eieio, tlbsync, ptesync
  pub invalid_before_change : Bool
  -- V is clear before the tlbie begins: ptesync between the std of doubleword 0 and the tlbie
  pub invalid_before_tlbie : Bool
  -- there is a tlbie
  pub tlbie_is_made : Bool
  -- the tlbie has ended before the caller goes on: eieio, tlbsync, ptesync
  pub tlbie_is_awaited : Bool
  -- R and C are read again after that: ld of doubleword 1 after the ptesync
  pub bits_are_read_again : Bool
  -- doubleword 1 is stored before doubleword 0 with V: eieio between the two std
  pub doubleword1_first : Bool
  -- the hypervisor's own walk sets R and C by one atomic step: ldarx and stdcx. of doubleword 1
  pub own_walk_is_atomic : Bool
  -- a read of the entry takes the lock: ldarx and stdcx. of doubleword 0
  pub reads_take_the_lock : Bool
  -- a tlbie waits for walks that have read doubleword 0 alone, too: the processor's part of tlbsync
  pub tlbie_awaits_walks : Bool
  -- hardware records R and C before it drops a translation: the processor's part of tlbie
  pub records_before_drop : Bool

-- Nothing is left out.
abbrev pub protocol : Orders
protocol = record {
  invalid_before_change = true;
  invalid_before_tlbie = true;
  tlbie_is_made = true;
  tlbie_is_awaited = true;
  bits_are_read_again = true;
  doubleword1_first = true;
  own_walk_is_atomic = true;
  reads_take_the_lock = true;
  tlbie_awaits_walks = true;
  records_before_drop = true;
}

-- ---- callers
-- One atomic step of a caller: on doubleword 0, on doubleword 1, on the stamp, or a tlbie's begin
-- or its end.
pub data CallStep : Type 0 where
  -- compare and swap of doubleword 0: sets the lock bit, and reads V and the rest
  LockEntry : Op → CallStep
  -- reads the entry with no lock, all words at once
  ReadUnlocked : CallStep
  -- reads doubleword 1 (the stamp stays while the lock is held)
  LoadDoubleword1 : CallStep
  -- stores doubleword 0 without the lock bit
  UnlockEntry : CallStep
  -- sets the bits of an access in doubleword 1 by one atomic step, for the hypervisor's own walk
  SetBitsAtomically : CallStep
  -- stores doubleword 0 with the lock bit, and without V
  ClearValid : CallStep
  -- `tlbie`: what places have of the entry is old then
  BeginTlbie : CallStep
  -- `ptesync`: goes on if no place keeps anything old
  EndTlbie : CallStep
  -- reads doubleword 1 again
  ReloadDoubleword1 : CallStep
  -- stores doubleword 1 of the next state
  StoreDoubleword1 : CallStep
  -- stores the stamp in the array beside the table
  StoreStamp : CallStep
  -- stores doubleword 0 without the lock bit, and with V if the entry is to be valid
  StoreDoubleword0 : CallStep

-- What a caller's step leaves: the entry, the caller's phase, and a receipt if one was made.
pub record CallResult : Type 0 where
  pub entry : Entry
  pub phase : Phase
  pub made : Option Receipt
  -- a tlbie begins
  pub begins : Bool

-- No receipt is made, and no tlbie begins.
abbrev pub goes_to : Entry → Phase → CallResult
goes_to x p = record { entry = x; phase = p; made = None; begins = false }

-- A tlbie begins.
abbrev pub begins_at : Entry → Phase → CallResult
begins_at x p = record { entry = x; phase = p; made = None; begins = true }

-- A receipt is made.
abbrev pub answers_at : Entry → Phase → Receipt → CallResult
answers_at x p r = record { entry = x; phase = p; made = Some r; begins = false }

-- The state after the operation on the state that the caller read, and its receipt.
abbrev pub next_of : Op → State → State
next_of op s = (reply_of s op).1

-- The receipt of the operation on the state that the caller read.
abbrev pub receipt_by : Entry → Op → State → Receipt
receipt_by x op s = receipt_of x.index s op

-- The operation changes an entry in this state.
abbrev pub changes : Op → State → Bool
changes op s = not (state_eq (next_of op s) s)

-- The state with the R and C that memory has.
abbrev pub with_seen_bits : State → Entry → State
with_seen_bits s x = record s { referenced = x.referenced; changed = x.changed }

-- The translation by the words in memory.
abbrev pub pair_here : Entry → Pair
pair_here x = record {
  dword0 = x.dword0;
  dword1 = x.dword1;
  referenced = x.referenced;
  changed = x.changed;
}

-- Doubleword 1 as the caller read it before, with the bits of its access.
abbrev pub overwritten : Entry → Op → State → Entry
overwritten x op s = record x {
  dword1 = s.dword1;
  referenced = true;
  changed = s.changed || stores op;
  published = next_of op (with_seen_bits s x);
}

-- A caller that has read the words.
unfoldable pub loaded : Orders → Entry → Op → State → CallResult
loaded orders x op s =
    if changes op s
    then goes_to x (if s.valid && orders.invalid_before_change then Ready op s
    else Known op s false false)
    else answers_at x Leaving (receipt_by x op s)

-- The words may be unlocked as they stand.
abbrev pub may_settle : Orders → State → Bool → Bool → Bool
may_settle orders next stored stamped = (stored || not
    (next.valid && orders.doubleword1_first)) && stamped

-- The entry with doubleword 1 of the next state.
abbrev pub word_stored : Entry → State → Entry
word_stored x s =
    record x { dword1 = s.dword1; referenced = s.referenced; changed = s.changed }

-- The entry unlocked, with doubleword 0 of the next state, with which it counts from then on.
abbrev pub settled : Entry → State → Entry
settled x s =
    record x { locked = false; valid = s.valid; dword0 = s.dword0; published = s }

-- The table of a caller's steps, by its phase. `quiet` says that no place keeps something old.
unfoldable pub call_result : Orders → Bool → Entry → Phase → CallStep → CallResult
call_result orders quiet x Idle (LockEntry op) =
    if x.locked
    then goes_to x Idle
    else goes_to (record x { locked = true }) (Held op)
call_result orders quiet x Idle ReadUnlocked =
    if orders.reads_take_the_lock then goes_to x Idle else answers_at x Idle (receipt_by x Read
    (seen_state x))
call_result orders quiet x (Held op) LoadDoubleword1 = loaded orders x op (seen_state x)
call_result orders quiet x Leaving UnlockEntry = goes_to (record x { locked = false }) Idle
call_result orders quiet x (Ready op s) SetBitsAtomically =
    if is_access op
    then
    answers_at
    (if orders.own_walk_is_atomic then touched_entry x (pair_here x) op else overwritten x op s)
    Leaving (receipt_by x op (with_seen_bits s x))
    else goes_to x (Ready op s)
call_result orders quiet x (Ready op s) ClearValid = goes_to (record x { valid = false })
    (Invalidated op s)
call_result orders quiet x (Ready op s) BeginTlbie =
    if orders.invalid_before_tlbie then goes_to x (Ready op s) else begins_at x (Flushing op s)
call_result orders quiet x (Invalidated op s) BeginTlbie = begins_at x (Flushing op s)
call_result orders quiet x (Invalidated op s) ReloadDoubleword1 =
    goes_to x (if orders.tlbie_is_made then Invalidated op s else Known op
    (with_seen_bits s x) false false)
call_result orders quiet x (Flushing op s) EndTlbie =
    goes_to x (if quiet || not orders.tlbie_is_awaited then Flushed op s else Flushing op s)
call_result orders quiet x (Flushed op s) ReloadDoubleword1 =
    goes_to x (Known op (if orders.bits_are_read_again then with_seen_bits s x else s) false false)
call_result orders quiet x (Known op s stored stamped) StoreDoubleword1 =
    goes_to (word_stored x (next_of op s)) (Known op s true stamped)
call_result orders quiet x (Known op s stored stamped) StoreStamp =
    goes_to (record x { stamp = (next_of op s).stamp }) (Known op s stored true)
call_result orders quiet x (Known op s stored stamped) StoreDoubleword0 =
    if may_settle orders (next_of op s) stored stamped
    then answers_at (settled x (next_of op s)) Idle (receipt_by x op s)
    else goes_to x (Known op s stored stamped)
call_result orders quiet x phase step = goes_to x phase

-- ---- hardware
-- One atomic step of a processor's walk, or of the translation that it keeps.
pub data WalkStep : Type 0 where
  -- a walk reads doubleword 0: it goes on if V is set
  WalkDoubleword0 : WalkStep
  -- reads doubleword 1, and has the translation
  WalkDoubleword1 : WalkStep
  -- an access by the translation
  MakeAccess : Op → WalkStep
  -- R is to be recorded for a load that isn't made: the ISA lets it be set for such, and C not
  Speculate : Op → WalkStep
  -- R and C of the oldest access that isn't recorded
  RecordBits : WalkStep
  -- the translation is dropped, or the walk given up
  DropTranslation : WalkStep

-- What a step of a place leaves: the entry, the place, a receipt, and an access that was made.
pub record WalkResult : Type 0 where
  pub entry : Entry
  pub place : Place
  pub made : Option Receipt
  pub access : Option HardwareAccess

-- No receipt is made, and no access.
abbrev pub walks_to : Entry → Place → WalkResult
walks_to x w = record { entry = x; place = w; made = None; access = None }

-- The receipt of the access on the state that the entry counts with.
abbrev pub receipt_here : Entry → Op → Receipt
receipt_here x op = receipt_of x.index x.published op

-- The access at the stamp that the entry counts with.
abbrev pub use_here : Entry → Op → HardwareAccess
use_here x op = record { stamp = x.published.stamp; op = op }

-- An access that the translation allows.
abbrev pub accessed : Entry → Bool → Pair → List Op → Op → WalkResult
accessed x old p owed op =
    if has_bits p op
    then record {
      entry = x;
      place = Translated old p owed;
      made = Some (receipt_here x op);
      access = Some (use_here x op);
    }
    else record {
      entry = x;
      place = Translated old p (owed ++ op ∷ []);
      made = None;
      access = Some (use_here x op);
    }

-- The table of the steps of a place, by what it keeps.
unfoldable pub walk_result : Orders → Entry → Place → WalkStep → WalkResult
walk_result orders x Empty WalkDoubleword0 = walks_to x (if x.valid then HalfWalked false x.dword0
    else Empty)
walk_result orders x (HalfWalked old word) WalkDoubleword1 =
    walks_to x
    (Translated old
    (record {
      dword0 = word;
      dword1 = x.dword1;
      referenced = x.referenced;
      changed = x.changed;
    }) [])
walk_result orders x (Translated old p owed) (MakeAccess op) =
    if allows p op then accessed x old p owed op else walks_to x (Translated old p owed)
walk_result orders x (Translated old p owed) (Speculate op) =
    walks_to x (Translated old p (if allows p op && not (stores op) then owed ++ op ∷ [] else owed))
walk_result orders x (Translated old p (op ∷ owed)) RecordBits = record {
  entry = touched_entry x p op;
  place = Translated old (touched_pair p op) owed;
  made = Some (receipt_here x op);
  access = None;
}
walk_result orders x (HalfWalked old word) DropTranslation = walks_to x Empty
walk_result orders x (Translated old p []) DropTranslation = walks_to x Empty
walk_result orders x (Translated old p (op ∷ owed)) DropTranslation =
    walks_to x (if orders.records_before_drop then Translated old p (op ∷ owed) else Empty)
walk_result orders x place step = walks_to x place

-- ---- the machine
-- The tlbie waits for what the place has.
abbrev pub holds_up : Orders → Place → Bool
holds_up orders Empty = false
holds_up orders (HalfWalked old word) = old && orders.tlbie_awaits_walks
holds_up orders (Translated old p owed) = old

-- It waits for none.
abbrev pub is_quiet : Orders → List Place → Bool
is_quiet orders [] = true
is_quiet orders (w ∷ ws) = not (holds_up orders w) && is_quiet orders ws

-- A tlbie's begin: what each place has is old then.
abbrev pub places_after : Bool → List Place → List Place
places_after true places = map made_old places
places_after false places = places

-- The log with a receipt that may have been made.
abbrev pub logged : List Receipt → Option Receipt → List Receipt
logged log None = log
logged log (Some r) = log ++ r ∷ []

-- The accesses with one that may have been made.
abbrev pub noted : List HardwareAccess → Option HardwareAccess → List HardwareAccess
noted used None = used
noted used (Some u) = used ++ u ∷ []

-- A step of a caller, or of a place.
pub data Move : Type 0 where
  calls : ℕ → CallStep → Move
  walks : ℕ → WalkStep → Move

-- The machine after a step of a caller. A number that is no caller's changes nothing.
abbrev pub after_call : Orders → Machine → ℕ → CallStep → Option Phase → Machine
after_call orders m i step None = m
after_call orders m i step (Some p) =
    let t : CallResult = call_result orders (is_quiet orders m.places) m.entry p step in
    record {
      entry = t.entry;
      callers = slice_set m.callers i t.phase;
      places = places_after t.begins m.places;
      log = logged m.log t.made;
      used = m.used;
    }

-- The machine after a step of a place. A number that is no place's changes nothing.
abbrev pub after_walk : Orders → Machine → ℕ → WalkStep → Option Place → Machine
after_walk orders m k step None = m
after_walk orders m k step (Some w) =
    let t : WalkResult = walk_result orders m.entry w step in
    record {
      entry = t.entry;
      callers = m.callers;
      places = slice_set m.places k t.place;
      log = logged m.log t.made;
      used = noted m.used t.access;
    }

-- The machine after a step of a caller or of a place.
unfoldable pub after_move : Orders → Machine → Move → Machine
after_move orders m (calls i step) = after_call orders m i step (slice_get m.callers i)
after_move orders m (walks k step) = after_walk orders m k step (slice_get m.places k)

-- After moves, of which the newest is first.
unfoldable pub run : Orders → Machine → List Move → Machine
run orders m [] = m
run orders m (move ∷ older) = after_move orders (run orders m older) move
