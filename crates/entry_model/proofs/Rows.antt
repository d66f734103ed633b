-- Worked values of the definitions, which the checker computes.
use Rattle.std.proofs.Common.{◌≡◌, ℕ, List, [], ◌∷◌, Bool, true, false, Some, None, map, refl}
use Rattle.entry_model.specs.State.{State, empty_state}
use Rattle.entry_model.specs.declared.operation.Op.TheVariants.{Enter, Remove, Protect, Read, ClearRef, ClearMod, Access}
use Rattle.entry_model.specs.declared.operation.Answer.{Answer}
use Rattle.entry_model.specs.declared.operation.Answer.TheVariants.{Entered, Taken, Removed, Protected, Was, Words, NotFound, NoMatch, Denied, Masked, At, Worn}
use Rattle.entry_model.specs.declared.receipt.Receipt.{Receipt}
use Rattle.entry_model.specs.Reply.{reply_of, words_of, has_base}
use Rattle.storage_prot.specs.declared.want.Want.TheVariants.{Load, Store, Fetch}
use Rattle.storage_prot.specs.Protection.{permission, rows}
use Rattle.entry_model.specs.Receipt.{receipt_of, is_taken}
use Rattle.entry_model.specs.Trial.{Call, call, trial_run}
use Rattle.entry_model.specs.History.{pair_of, place, state_eq, history}
use Rattle.authority_mask.specs.declared.masks.MaskName.TheVariants.{Amr, Iamr}
use Rattle.authority_mask.specs.Authority.{no_masks, with_mask, row_says, key_rows}

-- A valid entry: bolted, its page at 0x3000, M and N set, protection bits 2.
entry : Bool → Bool → ℕ → State
entry referenced changed stamp =
    record {
      valid = true;
      dword0 = 0x1011;
      dword1 = 0x3016;
      referenced = referenced;
      changed = changed;
      stamp = stamp;
    }

-- ---- each operation
enters : reply_of (empty_state 6) (Enter 0x1011 0x3196) ≡ (Entered, entry true true 7)
unfolding entry
enters = refl

is_taken_already : reply_of (entry false true 7) (Enter 0x1011 0x3196) ≡ (Taken, entry false true 7)
unfolding entry
is_taken_already = refl

is_worn : reply_of (empty_state 0xFFFFFFFF) (Enter 0x1011 0x3196) ≡ (Worn, empty_state 0xFFFFFFFF)
is_worn = refl

removes :
    reply_of (entry true true 4) (Remove (record { avpn = Some 0x1000; andcond = Some 0x68 }))
    ≡ (Removed, empty_state 5)
unfolding entry
removes = refl

fails_the_avpn :
    reply_of (entry true true 4) (Remove (record { avpn = Some 0x1080; andcond = None }))
    ≡ (NotFound, entry true true 4)
unfolding entry
fails_the_avpn = refl

fails_the_andcond :
    reply_of (entry true true 4) (Remove (record { avpn = Some 0x1000; andcond = Some 0x10 }))
    ≡ (NotFound, entry true true 4)
unfolding entry
fails_the_andcond = refl

protects :
    reply_of (entry true true 4) (Protect (record { avpn = None; andcond = None }) 0x3B05)
    ≡ (
      Protected,
      record {
        valid = true;
        dword0 = 0x1011;
        dword1 = 0xB000000000003A15;
        referenced = true;
        changed = true;
        stamp = 5;
      },
    )
unfolding entry
protects = refl

reads : reply_of (empty_state 9) Read ≡ (Words, empty_state 9)
reads = refl

clears_r : reply_of (entry true true 4) ClearRef ≡ (Was, entry false true 5)
unfolding entry
clears_r = refl

clears_c : reply_of (entry true true 4) ClearMod ≡ (Was, entry true false 5)
unfolding entry
clears_c = refl

clears_nothing : reply_of (empty_state 9) ClearMod ≡ (NotFound, empty_state 9)
clears_nothing = refl

has_words : words_of (entry true true 4) ≡ (0x1011, 0x3196)
unfolding entry
has_words = refl

-- ---- accesses
loads :
    reply_of (entry false false 4) (Access 0x1001 12 false false Load no_masks)
    ≡ (At, entry true false 4)
unfolding entry has_base permission rows row_says key_rows
loads = refl

stores :
    reply_of (entry false false 4) (Access 0x1001 12 true false Store no_masks)
    ≡ (At, entry true true 4)
unfolding entry has_base permission rows row_says key_rows
stores = refl

keeps_c :
    reply_of (entry false true 4) (Access 0x1001 12 true false Load no_masks)
    ≡ (At, entry true true 4)
unfolding entry has_base permission rows row_says key_rows
keeps_c = refl

fetches_nothing :
    reply_of (entry false false 4) (Access 0x1001 12 false false Fetch no_masks)
    ≡ (Denied, entry false false 4)
unfolding entry has_base permission rows row_says key_rows
fetches_nothing = refl

has_another_tag :
    reply_of (entry false false 4) (Access 0x1081 12 false false Load no_masks)
    ≡ (NoMatch, entry false false 4)
unfolding entry has_base permission rows row_says key_rows
has_another_tag = refl

is_primary :
    reply_of (entry false false 4) (Access 0x1003 12 false false Load no_masks)
    ≡ (NoMatch, entry false false 4)
unfolding entry has_base permission rows row_says key_rows
is_primary = refl

has_another_size :
    reply_of (entry false false 4) (Access 0x1001 16 false false Load no_masks)
    ≡ (NoMatch, entry false false 4)
unfolding entry has_base permission rows row_says key_rows
has_another_size = refl

is_empty :
    reply_of (empty_state 4) (Access 0 12 false false Load no_masks) ≡ (NoMatch, empty_state 4)
unfolding has_base
is_empty = refl

-- A page of 64 KB that key 1 can read.
large : Bool → State
large referenced =
    record {
      valid = true;
      dword0 = 0x1005;
      dword1 = 0x51011;
      referenced = referenced;
      changed = false;
      stamp = 4;
    }

loads_from_64_kb :
    reply_of (large false) (Access 0x1001 16 true false Load no_masks) ≡ (At, large true)
unfolding large has_base permission rows row_says key_rows
loads_from_64_kb = refl

stores_nothing :
    reply_of (large false) (Access 0x1001 16 true false Store no_masks) ≡ (Denied, large false)
unfolding large has_base permission rows row_says key_rows
stores_nothing = refl

-- ---- masks: an entry with key 1, which has the second two bits of each
with_key : Bool → Bool → State
with_key referenced changed =
    record {
      valid = true;
      dword0 = 0x1001;
      dword1 = 0x3212;
      referenced = referenced;
      changed = changed;
      stamp = 1;
    }

no_stores :
    reply_of (with_key true false)
    (Access 0x1001 12 false false Store (with_mask no_masks Amr 0x2000000000000000))
    ≡ (Masked, with_key true false)
unfolding with_key has_base permission rows row_says key_rows
no_stores = refl

loads_still :
    reply_of (with_key false false)
    (Access 0x1001 12 false false Load (with_mask no_masks Amr 0x2000000000000000))
    ≡ (At, with_key true false)
unfolding with_key has_base permission rows row_says key_rows
loads_still = refl

no_fetches :
    reply_of (with_key true false)
    (Access 0x1001 12 false false Fetch (with_mask no_masks Iamr 0x1000000000000000))
    ≡ (Masked, with_key true false)
unfolding with_key has_base permission rows row_says key_rows
no_fetches = refl

-- The entry's own protection refuses first.
denied_first :
    reply_of (large false)
    (Access 0x1001 16 true false Store (with_mask no_masks Amr 0xFFFFFFFFFFFFFFFF))
    ≡ (Denied, large false)
unfolding large has_base permission rows row_says key_rows
denied_first = refl

-- A mask doesn't refuse an access of another page: its answer is NoMatch.
of_another_page :
    reply_of (with_key false false)
    (Access 0x1081 12 false false Store (with_mask no_masks Amr 0xFFFFFFFFFFFFFFFF))
    ≡ (NoMatch, with_key false false)
unfolding with_key has_base permission rows row_says key_rows
of_another_page = refl

-- ---- places: stamp 4 with two bits before; 1 where something changed
place_of_a_change : place (receipt_of 0x20 (entry true true 4) ClearMod) ≡ 37
unfolding entry place pair_of state_eq
place_of_a_change = refl

place_of_a_look : place (receipt_of 0x20 (entry true true 4) Read) ≡ 36
unfolding entry place pair_of state_eq
place_of_a_look = refl

place_of_a_store :
    place (receipt_of 0x20 (entry true false 4) (Access 0x1001 12 false false Store no_masks)) ≡ 35
unfolding entry place pair_of state_eq has_base permission rows row_says key_rows
place_of_a_store = refl

-- ---- a history: three receipts of entry 0x20, listed from the last to the first, and one of its
-- neighbor
first : Receipt
first = receipt_of 0x20 (empty_state 3) (Enter 0x1011 0x3196)

second : Receipt
unfolding entry
second = receipt_of 0x20 (entry true true 4) Read

third : Receipt
unfolding entry
third = receipt_of 0x20 (entry true true 4) ClearMod

neighbor : Receipt
neighbor = receipt_of 0x21 (empty_state 0) Read

sorted : history 0x20 (third ∷ neighbor ∷ second ∷ first ∷ []) ≡ first ∷ second ∷ third ∷ []
unfolding entry place pair_of state_eq first second third neighbor
sorted = refl

-- ---- a trial on two states: the first is taken, the second is entered
answers : List Receipt → List Answer
answers rs = map (λ (r : Receipt). r.answer) rs

enter_both : List Call
enter_both = call (Enter 0x1011 0x3096) 0 ∷ call (Enter 0x1011 0x3096) 1 ∷ []

goes_past_the_taken :
    answers (trial_run is_taken (entry true true 4 ∷ empty_state 6 ∷ []) enter_both).0
    ≡ Taken ∷ Entered ∷ []
unfolding entry trial_run answers enter_both
goes_past_the_taken = refl

leaves_the_taken :
    (trial_run is_taken (entry true true 4 ∷ empty_state 6 ∷ []) enter_both).1
    ≡ entry true true 4 ∷ entry false true 7 ∷ []
unfolding entry trial_run enter_both
leaves_the_taken = refl

ends_at_the_entered :
    answers (trial_run is_taken (empty_state 6 ∷ empty_state 6 ∷ []) enter_both).0 ≡ Entered ∷ []
unfolding trial_run answers enter_both
ends_at_the_entered = refl
