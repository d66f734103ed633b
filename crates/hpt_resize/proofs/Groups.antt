-- To a table that isn't smaller no two entries go to one index.
use Rattle.std.proofs.Common.{◌≡◌, ℕ, ◌+◌, ◌-◌, ◌*◌, ◌/◌, ◌%◌, ◌^◌, ◌<◌, ◌≤◌, ◌&&◌, Bool, true, false, Option, Some, None, List, refl, sym, ap, ◌∙◌, subst, arith}
use Rattle.std.specs.Prelude.{option_map}
use Rattle.std.proofs.lemmas.Bool.{and_parts}
use Rattle.std.proofs.Math.Pow.{mod-mod-pow}
use Rattle.std.proofs.Math.Nat.{mod-lt}
use Rattle.std.proofs.lemmas.Nat.{pow_pos, pow-add}
use Rattle.power_addr.specs.Pages.{VirtualPage}
use Rattle.hpte_fields.specs.Fields.{is_bolted, is_secondary}
use Rattle.hpt_hash.specs.Hash.{hash_of, group_of}
use Rattle.hpte_fields.specs.TableSize.{group_count, least_order}
use Rattle.hpt_hash.specs.Entries.{page_at}
use Rattle.hpt_hash.proofs.GroupBits.{group_of-lt, complement-mod}
use Rattle.hpt_hash.proofs.PageLemmas.{page_at-moved, page_at-group, if_some}
use Rattle.entry_model.specs.State.{State}
use Rattle.entry_model.specs.Run.{state_at}
use Rattle.hpt_resize.specs.Rehash.{carried_page, target_of, target_at}
use Rattle.hpte_fields.specs.TableSize.{entry_count}

map_some :
    {T U : Type 0} (f : T → U) (o : Option T) (y : U)
    → option_map f o ≡ Some y
    → (x : T) × (o ≡ Some x) × (f x ≡ y)
map_some f None y e = cc
map_some f (Some x) y e = (x, refl, cc)

-- ---- an entry that is carried
-- The entry at this index is carried to the target: it is a valid and bolted one of a page, in the
-- page's group of the old table, and the target has its slot in the page's group of the new one.
pub record IsCarried (from to : ℕ) (state : State) (index target : ℕ) : Type 0 where
  pub page : VirtualPage
  pub carried : carried_page from state index ≡ Some page
  pub found : page_at from index state.dword0 state.dword1 ≡ Some page
  pub valid : state.valid ≡ true
  pub bolted : is_bolted state.dword0 ≡ true
  pub here : group_of page from (is_secondary state.dword0) ≡ index / 8
  pub there : group_of page to (is_secondary state.dword0) * 8 + index % 8 ≡ target

pub carried_is :
    (from to : ℕ) (state : State) (index target : ℕ)
    → target_of from to state index ≡ Some target
    → IsCarried from to state index target
unfolding target_of carried_page
carried_is from to state index target e =
    let made = map_some
    (λ (page : VirtualPage). group_of page to (is_secondary state.dword0) * 8 + index % 8)
    (carried_page from state index) target e in
    let flags = if_some (state.valid && is_bolted state.dword0)
    (page_at from index state.dword0 state.dword1) made.0 made.1 in
    let both = and_parts state.valid (is_bolted state.dword0) flags.0 in
    record {
      page = made.0;
      carried = made.1;
      found = flags.1;
      valid = both.0;
      bolted = both.1;
      here = page_at-group from index state.dword0 state.dword1 made.0 flags.1;
      there = made.2;
    }

-- An entry with a page that is carried has a target.
pub page_goes :
    (from to : ℕ) (state : State) (index : ℕ) (page : VirtualPage)
    → carried_page from state index ≡ Some page
    → target_of from to state index
    ≡ Some (group_of page to (is_secondary state.dword0) * 8 + index % 8)
unfolding target_of
page_goes from to state index page e =
    ap
    (option_map
    (λ (page : VirtualPage). group_of page to (is_secondary state.dword0) * 8 + index % 8))
    e

-- The index of an entry of a group is one of the table's.
pub slot_in_table :
    (order group index : ℕ)
    → least_order ≤ order
    → group < group_count order
    → group * 8 + index % 8 < 2 ^ (order - 4)
slot_in_table order group index large below =
    let split : 2 ^ (order - 4) ≡ 2 ^ (order - 7) * 2 ^ 3 = ap (λ n. 2 ^ n)
    (let e : order - 4 ≡ order - 7 + 3 = omega arith in e) ∙ pow-add 2 (order - 7) 3 in
    omega arith

pub target_in_table :
    (from to : ℕ) (state : State) (index target : ℕ)
    → least_order ≤ to
    → target_of from to state index ≡ Some target
    → target < entry_count to
target_in_table from to state index target large e =
    let is = carried_is from to state index target e in
    subst (λ n. n < entry_count to) is.there
    (slot_in_table to (group_of is.page to (is_secondary state.dword0)) index large
    (group_of-lt is.page to (is_secondary state.dword0)))

-- At its index of the new table the entry is one of the same page.
pub target_page :
    (from to : ℕ) (state : State) (index target : ℕ)
    → least_order ≤ from
    → least_order ≤ to
    → (e : target_of from to state index ≡ Some target)
    → page_at to target state.dword0 state.dword1
    ≡ Some (carried_is from to state index target e).page
target_page from to state index target large large' e =
    let is = carried_is from to state index target e in
    let group : ℕ = group_of is.page to (is_secondary state.dword0) in
    let there : group * 8 + index % 8 ≡ target = is.there in
    let stands : group ≡ target / 8 = omega arith in
    page_at-moved from to index target state.dword0 state.dword1 is.page large large' is.found
    stands

pub larger_group :
    (page : VirtualPage) (from to : ℕ) (secondary : Bool)
    → least_order ≤ from
    → from ≤ to
    → group_of page to secondary % group_count from ≡ group_of page from secondary
unfolding group_of
larger_group page from to false large below =
    let e : to - 7 ≡ (to - from) + (from - 7) = omega arith in
    ap (λ n. hash_of page % 2 ^ n % 2 ^ (from - 7)) e
    ∙ mod-mod-pow (hash_of page) (to - from) (from - 7)
larger_group page from to true large below =
    let e : to - 7 ≡ (to - from) + (from - 7) = omega arith in
    let low : hash_of page % 2 ^ (to - 7) < 2 ^ (to - 7) = mod-lt (hash_of page) (pow_pos (to - 7))
    in
    subst
    (λ n.
    hash_of page % 2 ^ (to - 7) < 2 ^ n
    → (2 ^ n - 1 - hash_of page % 2 ^ (to - 7)) % 2 ^ (from - 7)
    ≡ 2 ^ (from - 7) - 1 - hash_of page % 2 ^ (to - 7) % 2 ^ (from - 7)) (sym e)
    (complement-mod (to - from) (from - 7) (hash_of page % 2 ^ (to - 7))) low
    ∙ ap (λ n. 2 ^ (from - 7) - 1 - n)
    (ap (λ n. hash_of page % 2 ^ n % 2 ^ (from - 7)) e
    ∙ mod-mod-pow (hash_of page) (to - from) (from - 7))

-- Two entries of one target are one.
pub one_source :
    (from to : ℕ) (states : List State) (i j target : ℕ)
    → least_order ≤ from
    → from ≤ to
    → target_at from to states i ≡ Some target
    → target_at from to states j ≡ Some target
    → i ≡ j
one_source from to states i j target large below first second =
    let one = carried_is from to (state_at states i) i target first in
    let two = carried_is from to (state_at states j) j target second in
    let one_group = group_of one.page to (is_secondary (state_at states i).dword0) in
    let two_group = group_of two.page to (is_secondary (state_at states j).dword0) in
    joined one_group two_group one.there two.there
    ((larger_group one.page from to (is_secondary (state_at states i).dword0) large below)
    ∙ one.here)
    ((larger_group two.page from to (is_secondary (state_at states j).dword0) large below)
    ∙ two.here) where
      joined :
          (g h : ℕ)
          → g * 8 + i % 8 ≡ target
          → h * 8 + j % 8 ≡ target
          → g % group_count from ≡ i / 8
          → h % group_count from ≡ j / 8
          → i ≡ j
      joined g h there there' here here' =
          let same : g ≡ h = omega arith in
          let groups : i / 8 ≡ j / 8 = sym here ∙ ap (λ n. n % group_count from) same ∙ here' in
          omega arith
