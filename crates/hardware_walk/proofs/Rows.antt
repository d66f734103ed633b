-- Worked runs: what the protocol does, and which law fails where one of its orders is left out.
use Rattle.std.specs.Prelude.{reverse}
use Rattle.std.proofs.Common.{◌≡◌, ℕ, zero, suc, inl, inr, List, [], ◌∷◌, ◌++◌, Bool, true, false, map, refl, sym, arith}
use Rattle.std.proofs.lemmas.Bool.{false≢true}
use Rattle.entry_model.specs.State.{State, empty_state, IsCanonicalState}
use Rattle.entry_model.specs.Reply.{has_base, no_test}
use Rattle.entry_model.specs.declared.operation.Op.{Op}
use Rattle.entry_model.specs.declared.operation.Op.TheVariants.{Enter, Remove, Read, ClearMod, Access}
use Rattle.entry_model.specs.declared.operation.Answer.{Answer}
use Rattle.entry_model.specs.declared.operation.Answer.TheVariants.{Removed, Words, At}
use Rattle.entry_model.specs.declared.receipt.Receipt.{Receipt}
use Rattle.entry_model.specs.History.{bits, state_eq}
use Rattle.storage_prot.specs.Protection.{permission, rows}
use Rattle.storage_prot.specs.declared.want.Want.{Want}
use Rattle.storage_prot.specs.declared.want.Want.TheVariants.{Load as WantLoad, Store as WantStore}
use Rattle.authority_mask.specs.Authority.{no_masks, row_says, key_rows}
use Rattle.lock_core.proofs.Lists.{none_some, some_same}
use Rattle.hardware_walk.specs.Words.{Pair, allows, has_bits}
use Rattle.hardware_walk.specs.Machine.{Place, Empty, HalfWalked, Translated, HardwareAccess, Machine, opening_machine}
use Rattle.hardware_walk.specs.Steps.{Orders, protocol, CallStep, LockEntry, ReadUnlocked, LoadDoubleword1, UnlockEntry, SetBitsAtomically, ClearValid, BeginTlbie, EndTlbie, ReloadDoubleword1, StoreDoubleword1, StoreStamp, StoreDoubleword0, loaded, call_result, WalkStep, WalkDoubleword0, WalkDoubleword1, MakeAccess, RecordBits, DropTranslation, walk_result, Move, calls, walks, after_move, run}
use Rattle.hardware_walk.specs.UnlockedRead.{unlocked_reply}
use Rattle.hardware_walk.specs.Laws.{HistoryIsLegal, WordsAreTheState, TranslationsAreCurrent, UsesAreListed, Owes, IsListed}

-- A page at 0x3000, M set, protection bits 2, at stamp 1.
abbrev entry : Bool → Bool → State
entry referenced changed = record {
  valid = true;
  dword0 = 0x1001;
  dword1 = 0x3012;
  referenced = referenced;
  changed = changed;
  stamp = 1;
}

is_canonical : (r c : Bool) → IsCanonicalState (entry r c)
is_canonical r c = record {
  apart = refl;
  no_first = λ e. absurd (false≢true (sym e));
  no_second = λ e. absurd (false≢true (sym e));
  no_reference = λ e. absurd (false≢true (sym e));
  no_change = λ e. absurd (false≢true (sym e));
}

is_canonical_empty : IsCanonicalState (empty_state 1)
is_canonical_empty = record {
  apart = refl;
  no_first = λ e. refl;
  no_second = λ e. refl;
  no_reference = λ e. refl;
  no_change = λ e. refl;
}

abbrev access : Want → Op
access want = Access 0x1001 12 false false want no_masks

abbrev removal : Op
removal = Remove no_test

-- Steps of caller 0, and of place 0.
abbrev by_caller : List CallStep → List Move
by_caller steps = map (λ s. calls 0 s) steps

abbrev by_place : List WalkStep → List Move
by_place steps = map (λ s. walks 0 s) steps

abbrev after : Orders → State → List Move → Machine
after orders s moves = run orders (opening_machine 5 s 1 1) (reverse moves)

abbrev in_short : Receipt → ℕ × ℕ × Answer
in_short r = (r.before.stamp, bits r.before, r.answer)

-- The receipts, and what is left.
abbrev told : Machine → List (ℕ × ℕ × Answer) × State × Bool × List Place
told m = (map in_short m.log, m.entry.published, m.entry.locked, m.places)

-- ---- what the protocol does
-- A store whose C is recorded after V is clear, before the tlbie ends: the removal shows it.
change_bit_is_shown_by_removal :
    told
    (after protocol (entry false false)
    (by_place (WalkDoubleword0 ∷ WalkDoubleword1 ∷ [])
    ++ by_caller (LockEntry removal ∷ LoadDoubleword1 ∷ ClearValid ∷ BeginTlbie ∷ [])
    ++ by_place (MakeAccess (access WantStore) ∷ DropTranslation ∷ RecordBits ∷ [])
    ++ by_caller (EndTlbie ∷ [])
    ++ by_place (DropTranslation ∷ [])
    ++ by_caller (EndTlbie ∷ ReloadDoubleword1 ∷ StoreStamp ∷ StoreDoubleword0 ∷ [])))
    ≡ ((1, 0, At) ∷ (1, 2, Removed) ∷ [], empty_state 2, false, Empty ∷ [])
unfolding run after_move call_result walk_result loaded allows has_bits state_eq has_base permission
    rows row_says key_rows
change_bit_is_shown_by_removal = refl

-- A read at the same time shows what is recorded so far, and is in the history at that place.
read_shows_recorded_bits :
    told
    (after protocol (entry false false)
    (by_place (WalkDoubleword0 ∷ WalkDoubleword1 ∷ MakeAccess (access WantLoad) ∷ RecordBits
    ∷ MakeAccess (access WantStore) ∷ [])
    ++ by_caller (LockEntry Read ∷ LoadDoubleword1 ∷ [])
    ++ by_place (RecordBits ∷ [])
    ++ by_place (DropTranslation ∷ [])
    ++ by_caller (UnlockEntry ∷ [])))
    ≡ ((1, 0, At) ∷ (1, 1, Words) ∷ (1, 1, At) ∷ [], entry true true, false, Empty ∷ [])
unfolding run after_move call_result walk_result loaded allows has_bits state_eq has_base permission
    rows row_says key_rows
read_shows_recorded_bits = refl

-- The hypervisor's own walk beside hardware's: both bits stay.
own_walk_and_hardware_keep_both_bits :
    told
    (after protocol (entry false false)
    (by_place (WalkDoubleword0 ∷ WalkDoubleword1 ∷ MakeAccess (access WantStore) ∷ [])
    ++ by_caller (LockEntry (access WantLoad) ∷ LoadDoubleword1 ∷ [])
    ++ by_place (RecordBits ∷ DropTranslation ∷ [])
    ++ by_caller (SetBitsAtomically ∷ UnlockEntry ∷ [])))
    ≡ ((1, 0, At) ∷ (1, 2, At) ∷ [], entry true true, false, Empty ∷ [])
unfolding run after_move call_result walk_result loaded allows has_bits state_eq has_base permission
    rows row_says key_rows
own_walk_and_hardware_keep_both_bits = refl

-- ---- what is left out
-- Doubleword 0 with V before doubleword 1: a walk reads a pair half old and half new.
abbrev entering : List Move
entering =
    by_caller (LockEntry (Enter 0x1001 0x3012) ∷ LoadDoubleword1 ∷ StoreStamp ∷ StoreDoubleword0
    ∷ [])
    ++ by_place (WalkDoubleword0 ∷ WalkDoubleword1 ∷ [])

differ : (a : ℕ) → a ≡ 0 → a ≡ 0x3012 → ⊥
differ a e f = omega arith

without_doubleword1_first : ¬ TranslationsAreCurrent (record protocol { doubleword1_first = false })
unfolding run after_move call_result walk_result loaded allows has_bits state_eq has_base permission
    rows row_says key_rows
without_doubleword1_first law =
    let t = law 5 (empty_state 1) 1 1 (reverse entering) is_canonical_empty 0 false
    (record { dword0 = 0x1001; dword1 = 0; referenced = false; changed = false }) [] refl in
    differ 0 refl t.0.dword1

-- A translation of an entry that is gone.
abbrev old_pair : Pair
old_pair = record { dword0 = 0x1001; dword1 = 0x3012; referenced = false; changed = false }

-- The tlbie before V is clear: a walk that comes after its begin isn't waited for.
without_invalid_before_tlbie : ¬ TranslationsAreCurrent
    (record protocol { invalid_before_tlbie = false })
unfolding run after_move call_result walk_result loaded allows has_bits state_eq has_base permission
    rows row_says key_rows
without_invalid_before_tlbie law =
    let moves : List Move = by_caller (LockEntry removal ∷ LoadDoubleword1 ∷ BeginTlbie ∷ [])
    ++ by_place (WalkDoubleword0 ∷ WalkDoubleword1 ∷ [])
    ++ by_caller (EndTlbie ∷ ReloadDoubleword1 ∷ StoreStamp ∷ StoreDoubleword0 ∷ []) in
    let t = law 5 (entry false false) 1 1 (reverse moves)
    (is_canonical false false) 0 false old_pair
    [] refl in
    false≢true t.0.valid

-- No tlbie.
without_tlbie_is_made : ¬ TranslationsAreCurrent (record protocol { tlbie_is_made = false })
unfolding run after_move call_result walk_result loaded allows has_bits state_eq has_base permission
    rows row_says key_rows
without_tlbie_is_made law =
    let moves : List Move = by_place (WalkDoubleword0 ∷ WalkDoubleword1 ∷ [])
    ++ by_caller (LockEntry removal ∷ LoadDoubleword1 ∷ ClearValid ∷ ReloadDoubleword1 ∷ StoreStamp
    ∷ StoreDoubleword0 ∷ []) in
    let t = law 5 (entry false false) 1 1 (reverse moves)
    (is_canonical false false) 0 false old_pair
    [] refl in
    false≢true t.0.valid

-- A tlbie that isn't waited for.
without_tlbie_is_awaited : ¬ TranslationsAreCurrent (record protocol { tlbie_is_awaited = false })
unfolding run after_move call_result walk_result loaded allows has_bits state_eq has_base permission
    rows row_says key_rows
without_tlbie_is_awaited law =
    let moves : List Move = by_place (WalkDoubleword0 ∷ WalkDoubleword1 ∷ [])
    ++ by_caller (LockEntry removal ∷ LoadDoubleword1 ∷ ClearValid ∷ BeginTlbie ∷ EndTlbie
    ∷ ReloadDoubleword1 ∷ StoreStamp ∷ StoreDoubleword0 ∷ []) in
    let t = law 5 (entry false false) 1 1 (reverse moves) (is_canonical false false) 0 true old_pair
    [] refl in
    false≢true t.0.valid

-- R and C as they were read before the tlbie ended: a store is lost.
without_bits_are_read_again : ¬ HistoryIsLegal (record protocol { bits_are_read_again = false })
unfolding run after_move call_result walk_result loaded allows has_bits state_eq has_base permission
    rows row_says key_rows
without_bits_are_read_again law =
    let moves : List Move = by_place (WalkDoubleword0 ∷ WalkDoubleword1 ∷ [])
    ++ by_caller (LockEntry removal ∷ LoadDoubleword1 ∷ ClearValid ∷ BeginTlbie ∷ [])
    ++ by_place (MakeAccess (access WantStore) ∷ RecordBits ∷ DropTranslation ∷ [])
    ++ by_caller (EndTlbie ∷ ReloadDoubleword1 ∷ StoreStamp ∷ StoreDoubleword0 ∷ []) in
    let t = law 5 (entry false false) 1 1 (reverse moves) (is_canonical false false) in
    false≢true (λ i. (t.1.0 i).changed)

-- C cleared in place: a store by a translation that has C isn't recorded.
without_invalid_before_change : ¬ HistoryIsLegal (record protocol { invalid_before_change = false })
unfolding run after_move call_result walk_result loaded allows has_bits state_eq has_base permission
    rows row_says key_rows
without_invalid_before_change law =
    let moves : List Move = by_place (WalkDoubleword0 ∷ WalkDoubleword1 ∷ [])
    ++ by_caller (LockEntry ClearMod ∷ LoadDoubleword1 ∷ StoreDoubleword1 ∷ StoreStamp
    ∷ StoreDoubleword0 ∷ [])
    ++ by_place (MakeAccess (access WantStore) ∷ []) in
    let t = law 5 (entry true true) 1 1 (reverse moves) (is_canonical true true) in
    false≢true (λ i. (t.1.1 i).changed)

-- A tlbie that leaves a walk between its two reads alone: it then has half of each entry.
differ' : (a : ℕ) → a ≡ 0x1001 → a ≡ 0x2001 → ⊥
differ' a e f = omega arith

without_tlbie_awaits_walks : ¬ TranslationsAreCurrent
    (record protocol { tlbie_awaits_walks = false })
unfolding run after_move call_result walk_result loaded allows has_bits state_eq has_base permission
    rows row_says key_rows
without_tlbie_awaits_walks law =
    let moves : List Move = by_place (WalkDoubleword0 ∷ [])
    ++ by_caller (LockEntry removal ∷ LoadDoubleword1 ∷ ClearValid ∷ BeginTlbie ∷ EndTlbie
    ∷ ReloadDoubleword1 ∷ StoreStamp ∷ StoreDoubleword0 ∷ [])
    ++ by_caller (LockEntry (Enter 0x2001 0x5012) ∷ LoadDoubleword1 ∷ StoreDoubleword1 ∷ StoreStamp
    ∷ StoreDoubleword0 ∷ [])
    ++ by_place (WalkDoubleword1 ∷ []) in
    let t = law 5 (entry false false) 1 1 (reverse moves) (is_canonical false false) 0 true
    (record { dword0 = 0x1001; dword1 = 0x5012; referenced = false; changed = false }) [] refl in
    differ' 0x1001 refl t.0.dword0

-- A translation dropped with its C not recorded: the store is in no history.
none_listed : (n : ℕ) (u : HardwareAccess) → IsListed (Empty ∷ []) [] n u → ⊥
none_listed n u (inl (zero, w, at, owes, stamp)) = lost w (some_same Empty w at) owes where
  lost : (w : Place) → Empty ≡ w → Owes u.op w → ⊥
  lost Empty e h = h
  lost (HalfWalked old word) e h = h
  lost (Translated old p owed) e h = absurd (cc)
none_listed n u (inl (suc k, w, at, owes, stamp)) = none_some w at
none_listed n u (inr (j, r, at, is)) = none_some r at

without_records_before_drop : ¬ UsesAreListed (record protocol { records_before_drop = false })
unfolding run after_move call_result walk_result loaded allows has_bits state_eq has_base permission
    rows row_says key_rows
without_records_before_drop law =
    let moves : List Move = by_place (WalkDoubleword0 ∷ WalkDoubleword1 ∷ MakeAccess
    (access WantStore) ∷ DropTranslation ∷ []) in
    let u : HardwareAccess = record { stamp = 1; op = access WantStore } in
    none_listed 1 u
    (law 5 (entry false false) 1 1 (reverse moves) (is_canonical false false) 0 u refl)

-- A hypervisor's walk that stores doubleword 1 as it read it, with its bits: C is overwritten.
without_own_walk_is_atomic : ¬ WordsAreTheState (record protocol { own_walk_is_atomic = false })
unfolding run after_move call_result walk_result loaded allows has_bits state_eq has_base permission
    rows row_says key_rows
without_own_walk_is_atomic law =
    let moves : List Move = by_place (WalkDoubleword0 ∷ WalkDoubleword1 ∷ MakeAccess
    (access WantStore) ∷ [])
    ++ by_caller (LockEntry (access WantLoad) ∷ LoadDoubleword1 ∷ [])
    ++ by_place (RecordBits ∷ [])
    ++ by_caller (SetBitsAtomically ∷ UnlockEntry ∷ []) in
    let t = law 5 (entry false false) 1 1 (reverse moves) (is_canonical false false) refl in
    false≢true (sym (λ i. (t i).changed))

-- A read with no lock, even one of all words at once: it finds V clear while translations are used.
without_reads_take_the_lock : ¬ HistoryIsLegal (record protocol { reads_take_the_lock = false })
unfolding run after_move call_result walk_result loaded allows has_bits state_eq has_base permission
    rows row_says key_rows
without_reads_take_the_lock law =
    let moves : List Move = by_place (WalkDoubleword0 ∷ WalkDoubleword1 ∷ [])
    ++ by_caller (LockEntry removal ∷ LoadDoubleword1 ∷ ClearValid ∷ [])
    ++ calls 1 ReadUnlocked
    ∷ by_place (MakeAccess (access WantStore) ∷ RecordBits ∷ []) in
    let t = law 5 (entry false false) 2 1 (reverse moves) (is_canonical false false) in
    false≢true (λ i. (t.0 i).valid)

-- A read with no lock, one doubleword at a time: doubleword 0 of the page that was there and
-- doubleword 1 of the next one. No state of the entry has both.
unlocked_reply_is_half_of_two_states :
    unlocked_reply protocol (opening_machine 5 (entry false false) 1 1)
    (reverse
    (by_caller
    (LockEntry removal ∷ LoadDoubleword1 ∷ ClearValid ∷ BeginTlbie ∷ EndTlbie ∷ ReloadDoubleword1
    ∷ StoreStamp ∷ StoreDoubleword0 ∷ [])
    ++ by_caller
    (LockEntry (Enter 0x2001 0x5012) ∷ LoadDoubleword1 ∷ StoreDoubleword1 ∷ StoreStamp
    ∷ StoreDoubleword0 ∷ [])))
    []
    ≡ (0x1001, 0x5012)
unfolding run after_move call_result walk_result loaded allows has_bits state_eq has_base permission
    rows row_says key_rows
unlocked_reply_is_half_of_two_states = refl
