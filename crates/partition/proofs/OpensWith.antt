-- A partition opens with the entries of its configuration and no other.
use Rattle.std.proofs.Common.{◌≡◌, ℕ, ◌<◌, ◌^◌, List, [], ◌∷◌, length, subst, ap, sym, refl, ◌∙◌, bit_and, arith}
use Rattle.std.specs.List.{AllByRecursion}
use Rattle.std.proofs.lemmas.Nat.{and_le_r, and_assoc}
use Rattle.hpte_fields.specs.TableSize.{entry_count}
use Rattle.frame_grants.specs.declared.grant.Grant.{Grant}
use Rattle.table_image.specs.declared.entry.ImageEntry.{ImageEntry}
use Rattle.trace_read.specs.Configuration.{IsOpeningEntry}
use Rattle.trace_read.proofs.StoredWords.{stored_parts}
use Rattle.entry_model.specs.State.{State, IsCanonicalState}
use Rattle.entry_model.specs.Reply.{entered_state, words_of}
use Rattle.entry_model.specs.Run.{state_at}
use Rattle.hpt_resize.specs.TableMemory.{empty_states, with_entries, opening_memory}
use Rattle.hpt_resize.proofs.OpeningStates.{entries-other, opening-length}
use Rattle.partition.specs.Laws.{IsOpenedAt, OpensWithEntries}
use Rattle.partition.specs.PartitionState.{opening_partition}
use Rattle.partition.proofs.Bits.{put_back}
use Rattle.partition.proofs.Entries.{AreInTable, each_entered, empty_at}
use Rattle.std.specs.Int.Bits.{and_zero_r}
use Rattle.basics.proofs.Each.{each_map}

-- Words that H_ENTER would store are doublewords.
second_low : (dword1 : ℕ) → bit_and dword1 0xBFFFFFFFFFFFFFFF ≡ dword1 → dword1 < 2 ^ 64
second_low dword1 kept = omega (arith, kept, and_le_r dword1 0xBFFFFFFFFFFFFFFF)

entered_canonical : (dword0 dword1 : ℕ) → IsCanonicalState (entered_state dword0 dword1)
entered_canonical dword0 dword1 = record {
  apart = and_assoc 0x180 dword1 0xFFFFFFFFFFFFFE7F ∙ and_zero_r dword1;
  no_first = λ e. cc;
  no_second = λ e. cc;
  no_reference = λ e. cc;
  no_change = λ e. cc;
}

-- The states where each entry is in its place.
opened_at :
    (order : ℕ) (grants : List Grant) (states : List State) (e : ImageEntry)
    → length states ≡ entry_count order
    → IsOpeningEntry order grants e
    → state_at states e.index ≡ entered_state e.dword0 e.dword1
    → IsOpenedAt states e
opened_at order grants states e size is there =
    let low = second_low e.dword1 (stored_parts grants e.dword0 e.dword1 is.stored).second in
    record {
      in_table = subst (λ n. e.index < n) (sym size) is.in_table;
      valid = ap (λ (s : State). s.valid) there;
      words = ap words_of there ∙ ap (λ n. (e.dword0, n)) (put_back e.dword1 low);
      canonical = subst IsCanonicalState (sym there) (entered_canonical e.dword0 e.dword1);
      stamp = ap (λ (s : State). s.stamp) there;
    }

opened_all :
    (order : ℕ) (grants : List Grant) (states : List State) (es : List ImageEntry)
    → length states ≡ entry_count order
    → AllByRecursion (IsOpeningEntry order grants) es
    → AllByRecursion (λ (e : ImageEntry). state_at states e.index ≡ entered_state e.dword0 e.dword1)
    es
    → AllByRecursion (IsOpenedAt states) es
opened_all order grants states [] size is there = tt
opened_all order grants states (e ∷ es) size is there = (
  opened_at order grants states e size is.0 there.0,
  opened_all order grants states es size is.1 there.1,
)

pub opens_with_entries : OpensWithEntries
unfolding opening_partition opening_memory
opens_with_entries config is =
    let order = config.order in
    let grants = config.granted.grants in
    let size = opening-length order config.entries in
    let empty_size : entry_count order ≡ length (empty_states order) = sym (opening-length order [])
    in
    let within : AreInTable (entry_count order) config.entries = each_map
    (IsOpeningEntry order grants) (λ (e : ImageEntry). e.index < entry_count order)
    config.entries (λ e h. h.in_table) is.each in
    let there = each_entered (empty_states order) config.entries
    (subst (λ n. AreInTable n config.entries) empty_size within) is.rising in
    record {
      order_is = refl;
      number = refl;
      whole = size;
      opened =
          opened_all order grants (with_entries (empty_states order) config.entries) config.entries
          size is.each there;
      others =
          λ index apart.
          entries-other (empty_states order) config.entries index apart ∙ empty_at order index;
    }
