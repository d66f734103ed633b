-- How entries lie in the words of the table: a control word as a number, and the places of words.
use Rattle.std.specs.Prelude.{◌≡◌, ℕ, zero, suc, ◌+◌, ◌-◌, ◌*◌, ◌<◌, ◌^◌, ◌==◌, bit_and, Bool, true, false, List, [], ◌∷◌, ◌++◌, slice_index}
use Rattle.entry_model.specs.State.{State}
use Rattle.lock_core.specs.declared.control.Control.{Control}
use Rattle.lock_core.specs.Words.{state_of, settled_word}

-- ---- control words
-- A bit as a number.
abbrev pub bit : Bool → ℕ
bit true = 1
bit false = 0

-- The number of a control word: lock, shut, valid, R and C from bit 63 down, and the stamp in the
-- low 32 bits.
abbrev pub word_of : Control → ℕ
word_of k =
    bit k.locked * 2 ^ 63
    + (bit k.shut * 2 ^ 62
    + (bit k.valid * 2 ^ 61 + (bit k.referenced * 2 ^ 60 + (bit k.changed * 2 ^ 59 + k.stamp))))

-- The number is that of this control word, whose stamp fits.
abbrev pub Means : ℕ → Control → Type 0
Means word k = (word ≡ word_of k) × (k.stamp < 2 ^ 32)

-- The lock bit of a number.
abbrev pub lock_bit : ℕ → Bool
lock_bit word = bit_and word (2 ^ 63) == 2 ^ 63

-- The shut bit of a number.
abbrev pub shut_bit : ℕ → Bool
shut_bit word = bit_and word (2 ^ 62) == 2 ^ 62

-- The valid bit of a number.
abbrev pub valid_bit : ℕ → Bool
valid_bit word = bit_and word (2 ^ 61) == 2 ^ 61

-- The stamp in a number.
abbrev pub stamp_of_word : ℕ → ℕ
stamp_of_word word = bit_and word (2 ^ 32 - 1)

-- The control word of a number, bit by bit.
abbrev pub control_of_word : ℕ → Control
control_of_word word = record {
  locked = lock_bit word;
  shut = shut_bit word;
  valid = valid_bit word;
  referenced = bit_and word (2 ^ 60) == 2 ^ 60;
  changed = bit_and word (2 ^ 59) == 2 ^ 59;
  stamp = stamp_of_word word;
}

-- ---- places
-- Word 0 belongs to no entry, and then each entry has three. The place of its control word.
abbrev pub control_place : ℕ → ℕ
control_place e = 3 * e + 1

-- The place of its first or its second data word.
abbrev pub data_place : ℕ → Bool → ℕ
data_place e false = 3 * e + 2
data_place e true = 3 * e + 3

-- The first or the second doubleword of a state.
abbrev pub doubleword : Bool → State → ℕ
doubleword false s = s.dword0
doubleword true s = s.dword1

-- ---- states in words
-- The words of entries in these states that nobody holds, one entry after the other.
abbrev pub entry_words : List State → List ℕ
entry_words [] = []
entry_words (s ∷ rest) = word_of (settled_word s) ∷ s.dword0 ∷ s.dword1 ∷ entry_words rest

-- The state that the three words of an entry stand for.
abbrev pub entry_state : List ℕ → ℕ → State
entry_state words e =
    state_of (control_of_word (slice_index words (control_place e)))
    (slice_index words (data_place e false)) (slice_index words (data_place e true))

-- The states of the first n entries.
abbrev pub entry_states : List ℕ → ℕ → List State
entry_states words zero = []
entry_states words (suc n) = entry_states words n ++ entry_state words n ∷ []
