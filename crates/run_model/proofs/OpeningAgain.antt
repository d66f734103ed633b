-- What an image holds of a table that a serial run reaches opens again.
use Rattle.std.specs.Prelude.{if◌then◌else◌, slice_index_or}
use Rattle.std.proofs.Common.{◌≡◌, ◌≢◌, ℕ, zero, suc, ◌+◌, ◌^◌, ◌<◌, List, [], ◌∷◌, true, false, Bool, length, Some, refl, ap, sym, subst, ◌∙◌, bit_and, arith}
use Rattle.std.specs.Int.Bits.{and_zero_r}
use Rattle.std.specs.List.{AllByRecursion}
use Rattle.std.proofs.lemmas.List.{get_or-set_other, get_or-set_same}
use Rattle.std.proofs.lemmas.Nat.{and_le_r, and_assoc}
use Rattle.hpte_fields.specs.TableSize.{entry_count}
use Rattle.frame_grants.specs.declared.grant.Grant.{Grant}
use Rattle.page_grants.specs.Suited.{entered_words}
use Rattle.call_plan.proofs.Suited.{entered_suited}
use Rattle.table_image.specs.declared.entry.ImageEntry.{ImageEntry}
use Rattle.table_image.specs.declared.layout.Layout.{Layout}
use Rattle.table_image.specs.Layouts.{cleared_bit, entry_digits, entry_words}
use Rattle.table_image.proofs.DigitTexts.{is_read_back}
use Rattle.trace_read.specs.Configuration.{Configuration}
use Rattle.trace_read.proofs.StoredWords.{put_stored, stored_parts, stored_whole}
use Rattle.entry_model.specs.State.{State, empty_state}
use Rattle.entry_model.specs.Reply.{entered_state, words_of}
use Rattle.entry_model.specs.Run.{state_at}
use Rattle.hpt_resize.specs.TableMemory.{empty_states, with_entries, opening_memory}
use Rattle.hpt_resize.proofs.OpeningStates.{opening-length, entries-more}
use Rattle.hpt_resize.proofs.StateBack.{state_back}
use Rattle.run_model.specs.EnteredEntries.{CanBeEntered}
use Rattle.run_model.specs.Laws.{ImagesOpenAgain}
use Rattle.run_model.specs.OpeningAgain.{image_entry, memory_after, opening_states, with_image_entry}
use Rattle.trace_reply.specs.ShownTable.{valid_from}
use Rattle.run_model.specs.Stores.{page_table}
use Rattle.run_model.specs.QuietLines.{shown_of}
use Rattle.run_model.proofs.EnteredEntries.{entries_can_be_entered}
use Rattle.run_model.proofs.ReadAgain.{line_read}
use Rattle.run_model.proofs.TableSizes.{small_index, serial_sized}

-- ---- the entry
-- It is one of the table's, it is valid, and what holds of each entry holds of it.
record IsFound (P : State → Type 0) (first : ℕ) (states : List State) (x : ℕ × State) : Type 0 where
  place : ℕ
  behind : x.0 ≡ first + place
  inside : place < length states
  there : state_at states place ≡ x.1
  valid : x.1.valid ≡ true
  holds : P x.1

abbrev IsShownAt : List (ℕ × State) → ℕ → ℕ × State → Type 0
IsShownAt shown k x = (k < length shown) × (slice_index_or shown k x ≡ x)

module _ (P : State → Type 0) (x : ℕ × State) where
  found_behind :
      (first : ℕ) (s : State) (ss : List State)
      → IsFound P (first + 1) ss x
      → IsFound P first (s ∷ ss) x
  found_behind first s ss f = record {
    place = suc f.place;
    behind = let behind : x.0 ≡ first + 1 + f.place = f.behind in omega arith;
    inside = let inside : f.place < length ss = f.inside in omega arith;
    there = f.there;
    valid = f.valid;
    holds = f.holds;
  }

  found_here :
      (first : ℕ) (s : State) (ss : List State)
      → s.valid ≡ true
      → P s
      → (first, s) ≡ x
      → IsFound P first (s ∷ ss) x
  found_here first s ss valid holds same = record {
    place = 0;
    behind = let index : x.0 ≡ first = sym (ap (λ (y : ℕ × State). y.0) same) in omega arith;
    inside = omega arith;
    there = ap (λ (y : ℕ × State). y.1) same;
    valid = ap (λ (y : ℕ × State). y.1.valid) (sym same) ∙ valid;
    holds = subst (λ (y : ℕ × State). P y.1) same holds;
  }

  found_by :
      (first : ℕ) (s : State) (ss : List State) (valid : Bool)
      → s.valid ≡ valid
      → P s
      → ((k : ℕ) → IsShownAt (valid_from (first + 1) ss) k x → IsFound P (first + 1) ss x)
      → (k : ℕ)
      → IsShownAt
      (if valid then (first, s) ∷ valid_from (first + 1) ss else valid_from (first + 1) ss) k x
      → IsFound P first (s ∷ ss) x
  found_by first s ss true valid holds rest zero shown = found_here first s ss valid holds shown.1
  found_by first s ss true valid holds rest (suc k) shown =
      found_behind first s ss (rest k (omega (arith, shown.0), shown.1))
  found_by first s ss false valid holds rest k shown = found_behind first s ss (rest k shown)

  found :
      (first : ℕ) (states : List State)
      → AllByRecursion P states
      → (k : ℕ)
      → IsShownAt (valid_from first states) k x
      → IsFound P first states x
  found first [] holds k shown = absurd (omega (arith, shown.0))
  found first (s ∷ ss) holds k shown =
      found_by first s ss s.valid refl holds.0 (found (first + 1) ss holds.1) k shown

-- ---- its digits
-- Words that H_ENTER would store are read back from their digits.
digits_back :
    (grants : List Grant) (layout : Layout) (w : ℕ × ℕ) (digits : List ℕ)
    → entered_words grants w.0 w.1 ≡ Some w
    → entry_digits layout w ≡ Some digits
    → entry_words layout digits ≡ Some w
digits_back grants layout w digits stored held =
    let kept = (stored_parts grants w.0 w.1 stored).second in
    let low : w.1 < 2 ^ 64 = omega (arith, kept, and_le_r w.1 0xBFFFFFFFFFFFFFFF) in
    let clear : bit_and w.1 cleared_bit ≡ 0 = ap (λ n. bit_and n cleared_bit) (sym kept) ∙
    and_assoc cleared_bit w.1 0xBFFFFFFFFFFFFFFF ∙ and_zero_r w.1 in
    is_read_back.words layout w.0 w.1 digits (entered_suited grants w.0 w.1 w stored).fits low clear
    held

-- ---- the table
-- One more entry takes its place, and leaves the others.
module _ (c : Configuration) (e : ImageEntry) where
  now_there :
      e.index < entry_count c.order
      → state_at (opening_states (with_image_entry c e)) e.index ≡ entered_state e.dword0 e.dword1
  unfolding page_table opening_memory
  now_there inside =
      let states = with_entries (empty_states c.order) c.entries in
      ap (λ (ss : List State). state_at ss e.index)
      (entries-more (empty_states c.order) c.entries e)
      ∙ get_or-set_same states e.index (entered_state e.dword0 e.dword1) (empty_state 0)
      (subst (λ n. e.index < n) (sym (opening-length c.order c.entries)) inside)

  as_before :
      (other : ℕ)
      → other ≢ e.index
      → state_at (opening_states (with_image_entry c e)) other ≡ state_at (opening_states c) other
  unfolding page_table opening_memory
  as_before other apart =
      let states = with_entries (empty_states c.order) c.entries in
      ap (λ (ss : List State). state_at ss other) (entries-more (empty_states c.order) c.entries e)
      ∙ get_or-set_other states e.index other (entered_state e.dword0 e.dword1) (empty_state 0)
      apart

pub images_open_again : ImagesOpenAgain
unfolding shown_of
images_open_again t lines layout index s digits c is shown held order grants rises =
    let memory = memory_after t lines in
    let allowed = t.config.granted.grants in
    let sized = serial_sized t lines is in
    let at = found (CanBeEntered allowed) (index, s) 0 memory.table.states
    (entries_can_be_entered t lines is) shown.0 (shown.1, shown.2) in
    let within : index < length memory.table.states = omega (arith, at.behind, at.inside) in
    let inside : index < entry_count c.order = subst (λ n. index < entry_count n) (sym order)
    (subst (λ n. index < n) sized.stands.size within) in
    let parts = stored_parts allowed s.dword0 s.dword1 (at.holds.stored at.valid) in
    let stored : entered_words allowed (words_of s).0 (words_of s).1 ≡ Some (words_of s) =
    stored_whole allowed (words_of s).0 (words_of s).1
    (put_stored allowed s.dword0 s.dword1 s.referenced s.changed parts) in
    let again : entered_words c.granted.grants (words_of s).0 (words_of s).1 ≡ Some (words_of s) =
    subst
    (λ (gs : List Grant). entered_words gs (words_of s).0 (words_of s).1 ≡ Some (words_of s))
    (sym grants) stored in
    record {
      accepted =
          line_read c layout index digits (words_of s) (small_index memory index sized within)
          inside rises (digits_back allowed layout (words_of s) digits stored held) again;
      state =
          now_there c (image_entry index s) inside
          ∙ state_back s at.holds.canonical at.valid parts.second;
      others = as_before c (image_entry index s);
    }
