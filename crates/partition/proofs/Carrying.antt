-- Where a rehash without a collision takes the translations of bolted entries.
use Rattle.std.specs.Prelude.{option_map, is_some}
use Rattle.std.proofs.Common.{◌≡◌, ◌≢◌, ℕ, ◌+◌, ◌-◌, ◌*◌, ◌/◌, ◌%◌, ◌^◌, ◌<◌, ◌≤◌, ◌&&◌, Bool, true, false, if◌then◌else◌, List, length, find, Option, Some, None, refl, sym, ap, ◌∙◌, subst, inl, inr, ◌⊎◌, arith}
use Rattle.std.specs.Option.{option_and_then, option_map_or}
use Rattle.std.specs.List.{range_with_len, AllByRecursion}
use Rattle.std.proofs.lemmas.Bool.{cases_Bool}
use Rattle.std.proofs.lemmas.Nat.{pow-add}
use Rattle.basics.proofs.Each.{each_within}
use Rattle.power_addr.specs.Pages.{VirtualPage}
use Rattle.hpte_fields.specs.Fields.{is_bolted, is_secondary}
use Rattle.hpt_hash.specs.Hash.{group_of}
use Rattle.hpt_hash.specs.Entries.{page_at}
use Rattle.hpt_hash.proofs.GroupBits.{group_of-lt}
use Rattle.hpt_hash.proofs.PageLemmas.{page_at-sound, page_at-complete}
use Rattle.entry_model.specs.State.{State, empty_state}
use Rattle.entry_model.specs.Run.{state_at}
use Rattle.power_addr.proofs.SamePages.{page_self}
use Rattle.hpt_walk.specs.Laws.{IsEntryState}
use Rattle.hpt_walk.specs.Translations.{page_in}
use Rattle.hpt_walk.proofs.Finding.{is_this, paired-in, this_is}
use Rattle.hpt_resize.specs.Rehash.{carried_page, target_of, target_at, first_with, collision_at, collision_of, entry_at, rehashed_states, at_stamp_0}
use Rattle.hpte_fields.specs.TableSize.{entry_count, least_order}
use Rattle.hpt_resize.specs.Resize.{Table}
use Rattle.hpt_resize.proofs.Finds.{found_is, none_found}
use Rattle.hpt_resize.proofs.Placed.{target_true, target_is, first_is, some_at}
use Rattle.hpt_resize.proofs.Groups.{carried_is}
use Rattle.partition.specs.Laws.{Translates, IsSource, PairsCarriedPages}
use Rattle.hpt_resize.proofs.Rehashed.{rehashed_at, rehashed-length}
use Rattle.basics.specs.Words.{is_number}

-- ---- the page of a state
-- The state is valid, and its doublewords are those of an entry of the page at this index in a
-- table of this order.
pub record IsOfPage (order entry : ℕ) (s : State) (page : VirtualPage) : Type 0 where
  pub valid : s.valid ≡ true
  pub found : page_at order entry s.dword0 s.dword1 ≡ Some page

pub of_page :
    (order entry : ℕ) (s : State) (page : VirtualPage)
    → page_in order entry s ≡ Some page
    → IsOfPage order entry s page
of_page order entry s page is = at (cases_Bool s.valid) where
  at : (s.valid ≡ true) ⊎ (s.valid ≡ false) → IsOfPage order entry s page
  at (inl there) = record { valid = there; found = rw there at is }
  at (inr empty) = let none : None ≡ Some page = rw empty at is in cc

pub page_of :
    (order entry : ℕ) (s : State) (page : VirtualPage)
    → s.valid ≡ true
    → page_at order entry s.dword0 s.dword1 ≡ Some page
    → page_in order entry s ≡ Some page
page_of order entry s page there found = rw there found

pub translates_in :
    (table : Table) (page : VirtualPage) (entry : ℕ)
    → entry < length table.states
    → Translates table page entry
    → page_in table.order entry (state_at table.states entry) ≡ Some page
translates_in table page entry inside is =
    this_is page (page_in table.order entry (state_at table.states entry))
    (sym (paired-in table.order page table.states entry inside) ∙ is)

pub in_translates :
    (table : Table) (page : VirtualPage) (entry : ℕ)
    → entry < length table.states
    → page_in table.order entry (state_at table.states entry) ≡ Some page
    → Translates table page entry
in_translates table page entry inside is =
    paired-in table.order page table.states entry inside ∙ ap (is_this page) is ∙ page_self page

-- An entry in the page's group of another table is one of the page there.
moved_page :
    (from to entry target dword0 dword1 : ℕ) (page : VirtualPage)
    → least_order ≤ to
    → dword0 < 2 ^ 64
    → page_at from entry dword0 dword1 ≡ Some page
    → group_of page to (is_secondary dword0) ≡ target / 8
    → page_at to target dword0 dword1 ≡ Some page
moved_page from to entry target dword0 dword1 page low fits found group =
    let old = page_at-sound from entry dword0 dword1 page fits found in
    page_at-complete to target dword0 dword1 page low old.0
    (record {
      valid = old.1.valid;
      tag = old.1.tag;
      size = old.1.size;
      segment = old.1.segment;
      group = group;
    })

-- ---- targets
pub in_new_table :
    (page : VirtualPage) (to target : ℕ) (secondary : Bool)
    → least_order ≤ to
    → group_of page to secondary ≡ target / 8
    → target < entry_count to
in_new_table page to target secondary low group =
    let below = group_of-lt page to secondary in
    let split : 2 ^ (to - 4) ≡ 2 ^ (to - 7) * 2 ^ 3 = ap (λ n. 2 ^ n)
    (let e : to - 4 ≡ to - 7 + 3 = omega arith in e) ∙ pow-add 2 (to - 7) 3 in
    omega arith

source_target :
    (from to entry target : ℕ) (s : State) (page : VirtualPage)
    → IsOfPage from entry s page
    → is_bolted s.dword0 ≡ true
    → group_of page to (is_secondary s.dword0) ≡ target / 8
    → entry % 8 ≡ target % 8
    → target_of from to s entry ≡ Some target
unfolding target_of carried_page
source_target from to entry target s page of bolted group slot =
    let carried :
    (if s.valid && is_bolted s.dword0 then page_at from entry s.dword0 s.dword1 else None) ≡
    Some page = rw (of.valid, bolted) of.found in
    let whole : group_of page to (is_secondary s.dword0) * 8 + entry % 8 ≡ target = omega arith in
    ap (option_map (λ (p : VirtualPage). group_of p to (is_secondary s.dword0) * 8 + entry % 8))
    carried
    ∙ ap Some whole

-- ---- no collision
no_two :
    (from to : ℕ) (states : List State)
    → collision_of from to states ≡ None
    → (j k target : ℕ)
    → j < k
    → k < length states
    → target_at from to states j ≡ Some target
    → target_at from to states k ≢ Some target
unfolding collision_of first_with
no_two from to states none j k target before inside one two =
    at (find (λ m. is_some (collision_at from to states m)) (range_with_len 0 (length states))) refl
  where
    some_fails :
        (m : ℕ)
        → is_some (collision_at from to states m) ≡ true
        → collision_at from to states m ≡ None
        → ⊥
    some_fails m there gone = let fails :
        is_some (collision_at from to states m) ≡ false = ap is_some gone in cc

    meets :
        (o : Option ℕ)
        → first_with from to states k target ≡ o
        → is_some (collision_at from to states k) ≡ false
        → ⊥
    meets None found fails =
        let same : 0 + j ≡ j = omega arith in
        let miss =
        none_found (λ m. is_number target (target_at from to states m)) 0 k j found before
        in
        let hit = target_is target (target_at from to states (0 + j))
        (ap (target_at from to states) same ∙ one) in
        cc
    meets (Some first) found fails = let there :
        is_some (collision_at from to states k) ≡ true =
        ap is_some (some_at from to states first k target two found) in cc

    at :
        (o : Option ℕ)
        → find (λ m. is_some (collision_at from to states m)) (range_with_len 0 (length states)) ≡ o
        → ⊥
    at None searched =
        let same : 0 + k ≡ k = omega arith in
        meets (first_with from to states k target) refl
        (ap (λ m. is_some (collision_at from to states m)) (sym same)
        ∙ none_found (λ m. is_some (collision_at from to states m)) 0 (length states) k searched
        inside)
    at (Some m) searched =
        some_fails m
        (found_is (λ n. is_some (collision_at from to states n)) 0 (length states) m
        searched).passes
        (sym (ap (option_and_then (collision_at from to states)) searched) ∙ none)

-- What an entry of the new table was.
record CameFrom (from to : ℕ) (states : List State) (target : ℕ) (s : State) : Type 0 where
  entry : ℕ
  inside : entry < length states
  goes : target_at from to states entry ≡ Some target
  is : s ≡ at_stamp_0 (state_at states entry)

came_from :
    (from to : ℕ) (states : List State) (target : ℕ)
    → (entry_at from to states target).valid ≡ true
    → CameFrom from to states target (entry_at from to states target)
unfolding entry_at first_with
came_from from to states target valid =
    at (first_with from to states (length states) target) refl where
      at :
          (o : Option ℕ)
          → first_with from to states (length states) target ≡ o
          → CameFrom from to states target (entry_at from to states target)
      at None none =
          let empty : entry_at from to states target ≡ empty_state 0 = ap
          (λ (o : Option ℕ).
          option_map_or (λ (m : ℕ). at_stamp_0 (state_at states m)) o (empty_state 0)) none in
          let fails :
          (entry_at from to states target).valid ≡ false = ap (λ (s : State). s.valid) empty
          in
          absurd (cc)
      at (Some k) found =
          let here =
          found_is (λ m. is_number target (target_at from to states m)) 0 (length states) k
          found in
          let below : k < 0 + length states = here.below in
          record {
            entry = k;
            inside = omega arith;
            goes = target_true target (target_at from to states k) here.passes;
            is =
                ap
                (λ (o : Option ℕ).
                option_map_or (λ (m : ℕ). at_stamp_0 (state_at states m)) o (empty_state 0)) found;
          }

goes_there :
    (from to : ℕ) (states : List State) (entry target : ℕ)
    → collision_of from to states ≡ None
    → entry < length states
    → target_at from to states entry ≡ Some target
    → entry_at from to states target ≡ at_stamp_0 (state_at states entry)
unfolding entry_at
goes_there from to states entry target none inside goes =
    let first = first_is from to states (length states) target entry inside
    (λ j before other. no_two from to states none j entry target before inside other goes) goes
    in
    ap
    (λ (o : Option ℕ).
    option_map_or (λ (m : ℕ). at_stamp_0 (state_at states m)) o (empty_state 0)) first

-- ---- the law for a rehash
-- The table of this order, at this place, of this number and with these states.
abbrev pub table_with : ℕ → ℕ → ℕ → List State → Table
table_with order place number states =
    record { order = order; place = place; number = number; states = states }

-- The page of a source is carried.
pub source_carried :
    (old : Table) (to : ℕ) (page : VirtualPage) (target : ℕ) (source : IsSource old to page target)
    → carried_page old.order (state_at old.states source.entry) source.entry ≡ Some page
unfolding carried_page
source_carried old to page target source =
    let of = of_page old.order source.entry (state_at old.states source.entry) page
    (translates_in old page source.entry source.in_table source.translates) in
    rw (of.valid, source.bolted) of.found

pub source_at :
    (old : Table) (to : ℕ) (page : VirtualPage) (target : ℕ)
    → (source : IsSource old to page target)
    → target_at old.order to old.states source.entry ≡ Some target
source_at old to page target source =
    source_target old.order to source.entry target (state_at old.states source.entry) page
    (of_page old.order source.entry (state_at old.states source.entry) page
    (translates_in old page source.entry source.in_table source.translates)) source.bolted
    source.group source.slot

pub rehash_keeps :
    (old : Table) (to place number : ℕ)
    → least_order ≤ to
    → AllByRecursion IsEntryState old.states
    → collision_of old.order to old.states ≡ None
    → PairsCarriedPages old (table_with to place number (rehashed_states old.order to old.states))
rehash_keeps old to place number low states none = record {
  pairs =
      λ page target inside. (came page target inside, λ source. arrives page target inside source);
  kept = λ page target source. stands page target source;
  in_table =
      λ page target source.
      let long = rehashed-length old.order to old.states in
      let below = in_new_table page to target _ low source.group in
      omega arith;
} where
  stands :
      (page : VirtualPage) (target : ℕ) (source : IsSource old to page target)
      → state_at (rehashed_states old.order to old.states) target
      ≡ at_stamp_0 (state_at old.states source.entry)
  stands page target source =
      rehashed_at old.order to old.states target (in_new_table page to target _ low source.group)
      ∙ goes_there old.order to old.states source.entry target none source.in_table
      (source_at old to page target source)

  arrives :
      (page : VirtualPage) (target : ℕ)
      → target < length (rehashed_states old.order to old.states)
      → IsSource old to page target
      → Translates (table_with to place number (rehashed_states old.order to old.states)) page
      target
  arrives page target inside source =
      let s = state_at old.states source.entry in
      let of = of_page old.order source.entry s page
      (translates_in old page source.entry source.in_table source.translates) in
      let moved = moved_page old.order to source.entry target s.dword0 s.dword1 page low
      (each_within IsEntryState old.states source.entry (empty_state 0) states source.in_table).fits
      of.found source.group in
      in_translates (table_with to place number (rehashed_states old.order to old.states)) page
      target inside
      (ap (page_in to target) (stands page target source)
      ∙ page_of to target (at_stamp_0 s) page of.valid moved)

  came :
      (page : VirtualPage) (target : ℕ)
      → target < length (rehashed_states old.order to old.states)
      → Translates (table_with to place number (rehashed_states old.order to old.states)) page
      target
      → IsSource old to page target
  came page target inside is =
      let long = rehashed-length old.order to old.states in
      let read = rehashed_at old.order to old.states target (omega arith) in
      let here = translates_in
      (table_with to place number (rehashed_states old.order to old.states)) page target inside
      is in
      let there = of_page to target (entry_at old.order to old.states target) page
      (ap (page_in to target) (sym read) ∙ here) in
      let from = came_from old.order to old.states target there.valid in
      let s = state_at old.states from.entry in
      let carried = carried_is old.order to s from.entry target from.goes in
      let group : group_of carried.page to (is_secondary s.dword0) ≡ target / 8 = let e =
      carried.there in
      omega arith in
      let slot : from.entry % 8 ≡ target % 8 = let e = carried.there in omega arith in
      let moved = moved_page old.order to from.entry target s.dword0 s.dword1 carried.page low
      (each_within IsEntryState old.states from.entry (empty_state 0) states from.inside).fits
      carried.found group in
      let found : page_at to target s.dword0 s.dword1 ≡ Some page = ap
      (λ (x : State). page_at to target x.dword0 x.dword1) (sym from.is) ∙ there.found in
      let same : carried.page ≡ page = cc in
      record {
        entry = from.entry;
        in_table = from.inside;
        translates =
            in_translates old page from.entry from.inside
            (page_of old.order from.entry s page carried.valid (carried.found ∙ ap Some same));
        bolted = carried.bolted;
        group =
            subst (λ (p : VirtualPage). group_of p to (is_secondary s.dword0) ≡ target / 8) same
            group;
        slot = slot;
      }
