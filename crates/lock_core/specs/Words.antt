-- The words of an entry, the state that they stand for, and what an actor knows of them.
use Rattle.std.specs.Prelude.{ℕ, ◌==◌, ◌&&◌, ◌||◌, not, Bool, true, false, if◌then◌else◌, bit_and, bit_xor, Option, Some, None, is_some, unwrap_or}
use Rattle.entry_model.specs.State.{State}
use Rattle.entry_model.specs.declared.operation.Op.{Op}
use Rattle.entry_model.specs.declared.operation.Op.TheVariants.{Access}
use Rattle.entry_model.specs.declared.receipt.Receipt.{Receipt}
use Rattle.entry_model.specs.Reply.{reply_of}
use Rattle.entry_model.specs.Receipt.{receipt_of}
use Rattle.basics.specs.Words.{bool_eq}
use Rattle.hpte_fields.specs.Fields.{rc_bits}
use Rattle.entry_model.specs.History.{state_eq}
use Rattle.storage_prot.specs.declared.want.Want.{Want}
use Rattle.authority_mask.specs.declared.masks.Masks.{Masks}
use Rattle.storage_prot.specs.declared.want.Want.TheVariants.{Load, Store, Fetch}
use Rattle.lock_core.specs.declared.control.Control.{Control}
use Rattle.lock_core.specs.declared.doing.Doing.{Doing}
use Rattle.lock_core.specs.declared.entry.Entry.{Entry}

-- ---- the state of words
-- A second data word without R and C, which are bits of the control word.
abbrev pub without_bits : ℕ → ℕ
without_bits dword1 = bit_xor dword1 (bit_and dword1 rc_bits)

-- The state that a control word and two data words stand for. Where valid is clear it has nothing,
-- whatever the data words are.
abbrev pub state_of : Control → ℕ → ℕ → State
state_of k dword0 dword1 = record {
  valid = k.valid;
  dword0 = if k.valid then dword0 else 0;
  dword1 = if k.valid then without_bits dword1 else 0;
  referenced = if k.valid then k.referenced else false;
  changed = if k.valid then k.changed else false;
  stamp = k.stamp;
}

-- The control word of a state, while nobody holds the entry.
abbrev pub settled_word : State → Control
settled_word s = record {
  locked = false;
  shut = false;
  valid = s.valid;
  referenced = s.referenced;
  changed = s.changed;
  stamp = s.stamp;
}

-- An entry in a state, which nobody holds.
abbrev pub unheld_entry : State → Entry
unheld_entry s = record {
  control = settled_word s;
  dword0 = s.dword0;
  dword1 = s.dword1;
  published = s;
}

-- ---- what an actor knows
-- The data words that it loaded, or where it loaded none those that it has seen.
abbrev pub known_of : Option ℕ → Option ℕ → Option (ℕ × ℕ) → Option (ℕ × ℕ)
known_of None None seen = seen
known_of None (Some second) seen = None
known_of (Some first) None seen = None
known_of (Some first) (Some second) seen = Some (first, second)

-- The data words that an operation knows.
abbrev pub known_words : Doing → Option (ℕ × ℕ)
known_words d = known_of d.first d.second d.seen

-- The operation has loaded neither data word.
abbrev pub has_loaded_none : Doing → Bool
has_loaded_none d = not (is_some d.first) && not (is_some d.second)

-- What it must know of the words, it knows.
abbrev pub is_read : Doing → Bool
is_read d = not d.noted.valid || is_some (known_words d)

-- The state before, by what it knows.
unfoldable pub noted_state : Doing → State
noted_state d =
    state_of d.noted (unwrap_or (known_words d) (0, 0)).0 (unwrap_or (known_words d) (0, 0)).1

-- The state after, by what it knows.
unfoldable pub next_state : Doing → State
next_state d = (reply_of (noted_state d) d.op).1

-- The reply changes the entry.
unfoldable pub changes : Doing → Bool
changes d = not (state_eq (next_state d) (noted_state d))

-- The receipt of an operation on the state that it noted.
unfoldable pub receipt : Doing → Receipt
receipt d = receipt_of d.entry (noted_state d) d.op

-- ---- comparisons
-- The two control words are the same.
unfoldable pub is_noted : Control → Control → Bool
is_noted k l =
    (bool_eq k.locked l.locked && bool_eq k.shut l.shut && bool_eq k.valid l.valid)
    && (bool_eq k.referenced l.referenced && bool_eq k.changed l.changed && (k.stamp == l.stamp))

-- The data words were seen and not loaded, and the entry is still at the noted stamp.
unfoldable pub is_still : Control → Doing → Bool
is_still k d = has_loaded_none d && k.valid && not k.shut && (k.stamp == d.noted.stamp)

-- The two are the same kind of access.
abbrev pub want_eq : Want → Want → Bool
want_eq Load Load = true
want_eq Store Store = true
want_eq Fetch Fetch = true
want_eq a b = false

-- The two processors have the same masks.
abbrev pub masks_eq : Masks → Masks → Bool
masks_eq m n = (m.amr == n.amr) && (m.iamr == n.iamr)

-- The two are the same access.
unfoldable pub same_access : Op → Op → Bool
same_access (Access tag base key no_execute want masks)
    (Access tag' base' key' no_execute' want' masks') =
    (tag == tag')
    && (base == base')
    && bool_eq key key'
    && bool_eq no_execute no_execute'
    && want_eq want want'
    && masks_eq masks masks'
same_access a b = false

-- The data words are those of the state, or the state is empty.
unfoldable pub is_stored : Entry → State → Bool
is_stored x s = not s.valid || ((x.dword0 == s.dword0) && (x.dword1 == s.dword1))
