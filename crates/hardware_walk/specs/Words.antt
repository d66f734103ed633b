-- The words of an entry that hardware walks, and what a walk and a caller read of them.
use Rattle.std.specs.Prelude.{ℕ, ◌&&◌, ◌||◌, Bool, true, false, not, if◌then◌else◌}
use Rattle.entry_model.specs.State.{State}
use Rattle.entry_model.specs.Reply.{reply_of, is_store}
use Rattle.entry_model.specs.Receipt.{is_access, is_at}
use Rattle.entry_model.specs.declared.operation.Op.{Op}
use Rattle.entry_model.specs.declared.operation.Op.TheVariants.{Access}

-- An entry: doubleword 0 (V, the software's lock bit, and the rest), doubleword 1 (R and C, which
-- hardware sets by stores of one byte each, and the rest), the stamp in the array beside the table;
-- and the state that it counts with.
pub record Entry : Type 0 where
  pub index : ℕ
  -- doubleword 0
  pub locked : Bool
  pub valid : Bool
  pub dword0 : ℕ
  -- doubleword 1
  pub dword1 : ℕ
  pub referenced : Bool
  pub changed : Bool
  -- beside the table
  pub stamp : ℕ
  -- in no memory
  pub published : State

-- An entry in a state, which nobody holds.
abbrev pub unheld_entry : ℕ → State → Entry
unheld_entry e s = record {
  index = e;
  locked = false;
  valid = s.valid;
  dword0 = s.dword0;
  dword1 = s.dword1;
  referenced = s.referenced;
  changed = s.changed;
  stamp = s.stamp;
  published = s;
}

-- The state that the words stand for: where V is clear there is nothing, whatever they are.
abbrev pub seen_state : Entry → State
seen_state x = record {
  valid = x.valid;
  dword0 = if x.valid then x.dword0 else 0;
  dword1 = if x.valid then x.dword1 else 0;
  referenced = if x.valid then x.referenced else false;
  changed = if x.valid then x.changed else false;
  stamp = x.stamp;
}

-- ---- what hardware has of an entry
-- A translation: doubleword 0 and doubleword 1 as a walk read them.
pub record Pair : Type 0 where
  pub dword0 : ℕ
  pub dword1 : ℕ
  pub referenced : Bool
  pub changed : Bool

-- The state by which hardware judges an access: it knows no stamp.
abbrev pub pair_state : Pair → State
pair_state p = record {
  valid = true;
  dword0 = p.dword0;
  dword1 = p.dword1;
  referenced = p.referenced;
  changed = p.changed;
  stamp = 0;
}

-- The access is a store.
abbrev pub stores : Op → Bool
stores (Access tag base key no_execute want masks) = is_store want
stores other = false

-- The translation allows the access.
unfoldable pub allows : Pair → Op → Bool
allows p op = is_access op && is_at (reply_of (pair_state p) op).0

-- It has the bits that the access sets: hardware records nothing.
unfoldable pub has_bits : Pair → Op → Bool
has_bits p op = p.referenced && (p.changed || not (stores op))

-- The translation with the bits that the access sets.
abbrev pub touched_pair : Pair → Op → Pair
touched_pair p op = record p { referenced = true; changed = p.changed || stores op }

-- The entry with them: a store of byte 6, and where the access is a store one of byte 7. Hardware
-- stores whole bytes, with the other bits as its walk read them.
abbrev pub touched_entry : Entry → Pair → Op → Entry
touched_entry x p op = record x {
  dword1 = p.dword1;
  referenced = true;
  changed = x.changed || stores op;
  published = (reply_of x.published op).1;
}
