-- Marks that are taken one after the other.
use Rattle.std.specs.Prelude.{nat_lt}
use Rattle.std.proofs.Common.{◌≡◌, ℕ, ◌+◌, ◌<◌, ◌≤◌, List, [], ◌∷◌, ◌++◌, length, take, drop, set, get_or, true, false, refl, sym, ap, ◌∙◌, ◌⊎◌, inl, inr, arith, append-nil, append_assoc}
use Rattle.std.proofs.lemmas.Bool.{cases_lt, lt-ltb, le-ltb}
use Rattle.std.proofs.lemmas.List.{set-get_or, drop_more, drop_all, take_all, length_push, take_at}
use Rattle.c_layout.specs.Entries.{Entry}
use Rattle.c_layout.specs.Slots.{placed}
use Rattle.papr_c.specs.Taking.{marked_from, behind, Found, found, without_mark, entries_without, slots_after}
use Rattle.c_layout.proofs.Filling.{placed_filled}
use Rattle.papr_c.proofs.Ranges.{between, between_none, between_read, between_next, between_parts}
use Rattle.papr_c.proofs.Removing.{put_more}

-- ---- so far
-- The entries from the first index up to this one were asked: those that were marked are marked no
-- more, and their indexes, no more than there is room for, were written from the front on.
pub record IsTaking (first index room : ℕ) (old now : List Entry) (slots new : List ℕ)
    (count : ℕ) (told : List ℕ) :
    Type 0 where
  pub low : first ≤ index
  pub high : index ≤ length old
  pub whole :
      marked_from first (drop first old) ≡ told ++ marked_from index (drop index old)
  pub entries : now ≡ between without_mark first index old
  pub put : new ≡ placed slots 0 told
  pub counted : length told ≡ count
  pub few : count ≤ room
  pub less : count + first ≤ index
  pub full : count ≡ room → behind first told ≡ index

pub taking_starts :
    (first room : ℕ) (old : List Entry) (slots : List ℕ)
    → first ≤ length old
    → IsTaking first first room old old slots slots 0 []
taking_starts first room old slots inside = record {
  low = omega arith;
  high = inside;
  whole = refl;
  entries = between_none without_mark first old;
  put = refl;
  counted = refl;
  few = omega arith;
  less = omega arith;
  full = λ e. refl;
}

-- What is read of the next entry is what was there.
pub taking_reads :
    (first index room : ℕ) (old now : List Entry) (slots new : List ℕ) (count : ℕ)
    (told : List ℕ) (d : Entry)
    → index < length old
    → IsTaking first index room old now slots new count told
    → get_or now index d ≡ get_or old index d
taking_reads first index room old now slots new count told d below h =
    ap (λ es. get_or es index d) h.entries
    ∙ between_read without_mark first index old d h.low below

unmarked_is : (e : Entry) → e.marked ≡ false → without_mark e ≡ e
unmarked_is e none = λ k. record { state = e.state; marked = sym none k }

rest_from :
    (old : List Entry) (index : ℕ) (d : Entry)
    → index < length old
    → marked_from index (drop index old)
    ≡ marked_from index (get_or old index d ∷ drop (index + 1) old)
rest_from old index d below = ap (marked_from index) (drop_more old index d below)

pub from_marked :
    (index : ℕ) (e : Entry) (es : List Entry)
    → e.marked ≡ true
    → marked_from index (e ∷ es) ≡ index ∷ marked_from (index + 1) es
from_marked index e es is = rw is refl

pub from_other :
    (index : ℕ) (e : Entry) (es : List Entry)
    → e.marked ≡ false
    → marked_from index (e ∷ es) ≡ marked_from (index + 1) es
from_other index e es is = rw is refl

pub taking_passes :
    (first index room : ℕ) (old now next : List Entry) (slots new filled_on : List ℕ)
    (count count_on : ℕ) (told : List ℕ) (d : Entry)
    → index < length old
    → (get_or old index d).marked ≡ false
    → (count ≡ room → ⊥)
    → next ≡ now
    → filled_on ≡ new
    → count_on ≡ count
    → IsTaking first index room old now slots new count told
    → IsTaking first (index + 1) room old next slots filled_on count_on told
taking_passes first index room old now next slots new filled_on count count_on told d below none
    room_left same same_places same_count h =
    let e = get_or old index d in
    let kept : between without_mark first index old ≡ between without_mark first (index + 1) old =
    sym
    (ap (set (between without_mark first index old) index)
    (unmarked_is e none
    ∙ sym (taking_reads first index room old now slots new count told d below h)
    ∙ ap (λ es. get_or es index d) h.entries)
    ∙ set-get_or (between without_mark first index old) index d)
    ∙ between_next without_mark first index old d h.low below in
    record {
      low = omega (arith, h.low);
      high = omega (arith, below);
      whole =
          h.whole
          ∙ ap (λ is. told ++ is)
          (rest_from old index d below ∙ from_other index e (drop (index + 1) old) none);
      entries = same ∙ h.entries ∙ kept;
      put = same_places ∙ h.put;
      counted = h.counted ∙ sym same_count;
      few = omega (arith, h.few, same_count);
      less = omega (arith, h.less, same_count);
      full = λ is. absurd (room_left (sym same_count ∙ is));
    }

behind-more : (first i : ℕ) (is : List ℕ) → behind first (is ++ i ∷ []) ≡ i + 1
behind-more first i [] = refl
behind-more first i (j ∷ is) = behind-more (j + 1) i is

pub taking_takes :
    (first index room : ℕ) (old now next : List Entry) (slots new filled_on : List ℕ)
    (count count_on : ℕ) (told : List ℕ) (d e : Entry)
    → index < length old
    → (get_or old index d).marked ≡ true
    → count < room
    → e ≡ without_mark (get_or old index d)
    → next ≡ set now index e
    → filled_on ≡ set new count index
    → count_on ≡ count + 1
    → IsTaking first index room old now slots new count told
    → IsTaking first (index + 1) room old next slots filled_on count_on
    (told ++ index ∷ [])
taking_takes first index room old now next slots new filled_on count count_on told d e below is
    room_left without after put counted h =
    let at = get_or old index d in
    record {
      low = omega (arith, h.low);
      high = omega (arith, below);
      whole =
          h.whole
          ∙ ap (λ xs. told ++ xs)
          (rest_from old index d below ∙ from_marked index at (drop (index + 1) old) is)
          ∙ sym
          (append_assoc told (index ∷ []) (marked_from (index + 1) (drop (index + 1) old)));
      entries =
          after
          ∙ (λ k. set (h.entries k) index (without k))
          ∙ between_next without_mark first index old d h.low below;
      put = put ∙ put_more slots new told count index h.put h.counted;
      counted = omega (arith, length_push told index, h.counted, counted);
      few = omega (arith, room_left, counted);
      less = omega (arith, h.less, counted);
      full = λ all. behind-more first index told;
    }

-- ---- the end
-- The slots are filled with the indexes that were found, as both clauses that name them say.
pub places_are :
    (old : List Entry) (first room : ℕ) (slots new : List ℕ) (f : Found)
    → found old first room ≡ f
    → new ≡ placed slots 0 f.indexes
    → new ≡ slots_after (found old first room) slots
places_are old first room slots new f is put =
    put
    ∙ placed_filled f.indexes slots
    ∙ ap (λ (g : Found). slots_after g slots) (sym is)

-- What was found, where it ended here.
pub found_is :
    (first index room : ℕ) (old now : List Entry) (slots new : List ℕ) (count : ℕ)
    (told : List ℕ)
    → (count ≡ room) ⊎ (length old ≤ index)
    → IsTaking first index room old now slots new count told
    → found old first room ≡ record { indexes = told; next = index }
found_is first index room old now slots new count told (inl all) h =
    let indexes : take room (marked_from first (drop first old)) ≡ told =
    ap (take room) h.whole
    ∙ take_at told (marked_from index (drop index old)) room (omega (arith, h.counted, all)) in
    let not_less : nat_lt (length told) room ≡ false =
    le-ltb (length told) room (omega (arith, h.counted, all)) in
    rw (indexes, not_less) (λ k. record { indexes = told; next = h.full all k })
found_is first index room old now slots new count told (inr end) h =
    let none : drop index old ≡ [] = drop_all index old end in
    let all_told : marked_from first (drop first old) ≡ told =
    h.whole ∙ ap (λ es. told ++ marked_from index es) none ∙ append-nil told in
    let indexes : take room (marked_from first (drop first old)) ≡ told =
    ap (take room) all_told ∙ take_all room told (omega (arith, h.counted, h.few)) in
    at (cases_lt (length told) room) indexes where
      at :
          (length told < room) ⊎ (room ≤ length told)
          → take room (marked_from first (drop first old)) ≡ told
          → found old first room ≡ record { indexes = told; next = index }
      at (inl less) indexes =
          let is_less : nat_lt (length told) room ≡ true = lt-ltb (length told) room less in
          let same : length old ≡ index = omega (arith, end, h.high) in
          rw (indexes, is_less) (λ k. record { indexes = told; next = same k })
      at (inr full) indexes =
          let not_less : nat_lt (length told) room ≡ false = le-ltb (length told) room full in
          let same : behind first told ≡ index =
          h.full (omega (arith, full, h.counted, h.few)) in
          rw (indexes, not_less) (λ k. record { indexes = told; next = same k })

pub entries_are :
    (first index room : ℕ) (old now : List Entry) (slots new : List ℕ) (count : ℕ)
    (told : List ℕ)
    → IsTaking first index room old now slots new count told
    → now ≡ entries_without first (record { indexes = told; next = index }) old
entries_are first index room old now slots new count told h =
    h.entries ∙ between_parts without_mark first index old
