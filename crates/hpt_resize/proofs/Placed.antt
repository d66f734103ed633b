-- A table into which the entries below an index were carried.
use Rattle.std.proofs.Common.{◌≡◌, ◌≢◌, ℕ, ◌+◌, ◌<◌, ◌≤◌, true, false, List, length, get_or, set, replicate, find, Option, Some, None, refl, sym, ap, ◌∙◌, inl, inr, ◌⊎◌, arith}
use Rattle.std.specs.Prelude.{option_map, is_some}
use Rattle.std.specs.Option.{option_and_then, option_map_or}
use Rattle.std.specs.List.{range_with_len}
use Rattle.std.proofs.lemmas.Bool.{eqb-true, eq-eqb, false_from_ne_true, cases_lt, cases_eq}
use Rattle.std.proofs.lemmas.List.{get_or-set_same, get_or-set_other, get_or-replicate, get_or_past, length-set, length-replicate}
use Rattle.std.proofs.lemmas.List.FromFn.{fill_by_all}
use Rattle.entry_model.specs.State.{State, empty_state}
use Rattle.entry_model.specs.Run.{state_at}
use Rattle.hpt_resize.specs.declared.carry.Collision.{Collision}
use Rattle.hpt_resize.specs.Rehash.{target_at, first_with, collision_at, collision_of, entry_at, rehashed_states, IsPlacedBelow, at_stamp_0}
use Rattle.hpte_fields.specs.TableSize.{entry_count, least_order}
use Rattle.hpt_resize.proofs.Finds.{find_none, find_first, found_is, none_found}
use Rattle.hpt_resize.proofs.Groups.{carried_is, one_source}
use Rattle.basics.specs.Words.{is_number}

-- ---- the test of a target
pub target_true : (target : ℕ) (o : Option ℕ) → is_number target o ≡ true → o ≡ Some target
target_true target None e = absurd (cc)
target_true target (Some other) e = ap Some (eqb-true other target e)

pub target_is : (target : ℕ) (o : Option ℕ) → o ≡ Some target → is_number target o ≡ true
target_is target None e = absurd (cc)
target_is target (Some other) e = eq-eqb other target (cc)

target_not : (target : ℕ) (o : Option ℕ) → o ≢ Some target → is_number target o ≡ false
target_not target o other =
    false_from_ne_true (is_number target o) (λ e. other (target_true target o e))

-- ---- the loop
pub placed_none :
    (from to : ℕ) (states into : List State)
    → into ≡ replicate (entry_count to) (empty_state 0)
    → IsPlacedBelow from to states into 0
placed_none from to states into all_empty = record {
  long = ap length all_empty ∙ length-replicate (entry_count to) (empty_state 0);
  carried = λ k target below is. absurd (omega arith);
  others =
      λ target none.
      ap (λ (xs : List State). state_at xs target) all_empty
      ∙ at target (cases_lt target (entry_count to));
  differ = λ j k target low below one two. absurd (omega arith);
} where
  at :
      (target : ℕ)
      → (target < entry_count to) ⊎ (entry_count to ≤ target)
      → state_at (replicate (entry_count to) (empty_state 0)) target ≡ empty_state 0
  at target (inl inside) =
      get_or-replicate (entry_count to) target (empty_state 0) (empty_state 0) inside
  at target (inr past) =
      let long = length-replicate (entry_count to) (empty_state 0) in
      get_or_past (replicate (entry_count to) (empty_state 0)) target (empty_state 0) (omega arith)

pub placed_skip :
    (from to : ℕ) (states into : List State) (index : ℕ)
    → IsPlacedBelow from to states into index
    → target_at from to states index ≡ None
    → IsPlacedBelow from to states into (index + 1)
placed_skip from to states into index placed none = record {
  long = placed.long;
  carried = λ k target below is. carry k target below is (cases_eq k index);
  others = λ target clear. placed.others target (λ k below. clear k (omega arith));
  differ = λ j k target low below one two. apart j k target low below one two (cases_eq k index);
} where
  never : (k target : ℕ) → k ≡ index → target_at from to states k ≡ Some target → ⊥
  never k target same is = let gone :
      target_at from to states k ≡ None = ap (target_at from to states) same ∙ none in absurd (cc)

  carry :
      (k target : ℕ)
      → k < index + 1
      → target_at from to states k ≡ Some target
      → (k ≡ index) ⊎ (k ≡ index → ⊥)
      → state_at into target ≡ at_stamp_0 (state_at states k)
  carry k target below is (inl same) = absurd (never k target same is)
  carry k target below is (inr other) = placed.carried k target (omega arith) is

  apart :
      (j k target : ℕ)
      → j < k
      → k < index + 1
      → target_at from to states j ≡ Some target
      → target_at from to states k ≡ Some target
      → (k ≡ index) ⊎ (k ≡ index → ⊥)
      → ⊥
  apart j k target low below one two (inl same) = never k target same two
  apart j k target low below one two (inr other) =
      placed.differ j k target low (omega arith) one two

pub carried_valid :
    (from to : ℕ) (states : List State) (k target : ℕ)
    → target_at from to states k ≡ Some target
    → (state_at states k).valid ≡ true
carried_valid from to states k target is =
    (carried_is from to (state_at states k) k target is).valid

-- An entry that is at an index was carried there, so no other goes there as long as the index
-- is empty.
free_target :
    (from to : ℕ) (states into : List State) (index k target : ℕ)
    → IsPlacedBelow from to states into index
    → (state_at into target).valid ≡ false
    → k < index
    → target_at from to states k ≡ Some target
    → ⊥
free_target from to states into index k target placed free below is =
    let here : (state_at into target).valid ≡ true = ap (λ (s : State). s.valid)
    (placed.carried k target below is) ∙ carried_valid from to states k target is in
    absurd (cc)

pub placed_more :
    (from to : ℕ) (states into : List State) (index target : ℕ)
    → IsPlacedBelow from to states into index
    → target_at from to states index ≡ Some target
    → target < length into
    → (state_at into target).valid ≡ false
    → IsPlacedBelow from to states (set into target (at_stamp_0 (state_at states index)))
    (index + 1)
placed_more from to states into index target placed is inside free = record {
  long = length-set into target (at_stamp_0 (state_at states index)) ∙ placed.long;
  carried = λ k other below goes. carry k other below goes (cases_eq k index);
  others = λ other clear. empty other clear (cases_eq other target);
  differ = λ j k other low below one two. apart j k other low below one two (cases_eq k index);
} where
  carry :
      (k other : ℕ)
      → k < index + 1
      → target_at from to states k ≡ Some other
      → (k ≡ index) ⊎ (k ≡ index → ⊥)
      → state_at (set into target (at_stamp_0 (state_at states index))) other
      ≡ at_stamp_0 (state_at states k)
  carry k other below goes (inl same) =
      let there : target_at from to states k ≡ Some target = ap (target_at from to states) same ∙ is
      in
      let one : other ≡ target = cc in
      ap (λ m. state_at (set into target (at_stamp_0 (state_at states index))) m) one
      ∙ get_or-set_same into target (at_stamp_0 (state_at states index)) (empty_state 0) inside
      ∙ ap (λ m. at_stamp_0 (state_at states m)) (sym same)
  carry k other below goes (inr lower) =
      let apart : other ≢ target = λ one. free_target from to states into index k target placed free
      (omega arith) (goes ∙ ap Some one) in
      get_or-set_other into target other (at_stamp_0 (state_at states index)) (empty_state 0) apart
      ∙ placed.carried k other (omega arith) goes

  empty :
      (other : ℕ)
      → ((k : ℕ) → k < index + 1 → target_at from to states k ≢ Some other)
      → (other ≡ target) ⊎ (other ≡ target → ⊥)
      → state_at (set into target (at_stamp_0 (state_at states index))) other ≡ empty_state 0
  empty other clear (inl one) = absurd (clear index (omega arith) (is ∙ ap Some (sym one)))
  empty other clear (inr apart) =
      get_or-set_other into target other (at_stamp_0 (state_at states index)) (empty_state 0) apart
      ∙ placed.others other (λ k below. clear k (omega arith))

  apart :
      (j k other : ℕ)
      → j < k
      → k < index + 1
      → target_at from to states j ≡ Some other
      → target_at from to states k ≡ Some other
      → (k ≡ index) ⊎ (k ≡ index → ⊥)
      → ⊥
  apart j k other low below one two (inr lower) = placed.differ j k other low (omega arith) one two
  apart j k other low below one two (inl same) =
      let there : target_at from to states k ≡ Some target = ap (target_at from to states) same ∙ is
      in
      let here : other ≡ target = cc in
      free_target from to states into index j target placed free (omega arith) (one ∙ ap Some here)

-- ---- a target that is taken
pub taken_target :
    (from to : ℕ) (states into : List State) (index target : ℕ)
    → IsPlacedBelow from to states into index
    → (state_at into target).valid ≡ true
    → ((k : ℕ) → k < index → target_at from to states k ≢ Some target)
    → ⊥
taken_target from to states into index target placed taken clear =
    let empty : (state_at into target).valid ≡ false = ap (λ (s : State). s.valid)
    (placed.others target clear) in
    absurd (cc)

-- The lowest index that goes there.
pub first_is :
    (from to : ℕ) (states : List State) (second target first : ℕ)
    → first < second
    → ((k : ℕ) → k < first → target_at from to states k ≢ Some target)
    → target_at from to states first ≡ Some target
    → first_with from to states second target ≡ Some first
unfolding first_with
first_is from to states second target first below lower is =
    let e : 0 + first ≡ first = omega arith in
    find_first (λ index. is_number target (target_at from to states index)) 0 second first below
    (λ k before.
    target_not target (target_at from to states (0 + k))
    (let same : 0 + k ≡ k = omega arith in
    λ goes. lower k before (ap (target_at from to states) (sym same) ∙ goes)))
    (target_is target (target_at from to states (0 + first)) (ap (target_at from to states) e ∙ is))
    ∙ ap Some e

pub first_none :
    (from to : ℕ) (states : List State) (second target : ℕ)
    → ((k : ℕ) → k < second → target_at from to states k ≢ Some target)
    → first_with from to states second target ≡ None
unfolding first_with
first_none from to states second target clear =
    find_none (λ index. is_number target (target_at from to states index)) 0 second
    (λ k below.
    target_not target (target_at from to states (0 + k))
    (let same : 0 + k ≡ k = omega arith in
    λ goes. clear k below (ap (target_at from to states) (sym same) ∙ goes)))

-- ---- collisions
none_at :
    (from to : ℕ) (states : List State) (k : ℕ)
    →
    ((j target : ℕ)
    → j < k
    → target_at from to states k ≡ Some target
    → target_at from to states j ≢ Some target)
    → collision_at from to states k ≡ None
unfolding collision_at
none_at from to states k clear = at (target_at from to states k) refl where
  at :
      (o : Option ℕ)
      → target_at from to states k ≡ o
      → option_and_then
      (λ target.
      option_map
      (λ (first : ℕ).
      let c : Collision = record { first = first; second = k; target = target } in c)
      (first_with from to states k target)) o
      ≡ None
  at None is = refl
  at (Some target) is =
      ap
      (option_map
      (λ (first : ℕ).
      let c : Collision = record { first = first; second = k; target = target } in c))
      (first_none from to states k target (λ j below. clear j target below is))

pub some_at :
    (from to : ℕ) (states : List State) (first second target : ℕ)
    → target_at from to states second ≡ Some target
    → first_with from to states second target ≡ Some first
    → collision_at from to states second
    ≡ Some (record { first = first; second = second; target = target })
unfolding collision_at
some_at from to states first second target is found = rw (is, found) refl

pub collision_is :
    (from to : ℕ) (states into : List State) (first second target : ℕ)
    → IsPlacedBelow from to states into second
    → second < length states
    → target_at from to states second ≡ Some target
    → first_with from to states second target ≡ Some first
    → collision_of from to states
    ≡ Some (record { first = first; second = second; target = target })
unfolding collision_of
collision_is from to states into first second target placed below is found =
    let here = some_at from to states first second target is found in
    let e : 0 + second ≡ second = omega arith in
    let search :
    find (λ k. is_some (collision_at from to states k)) (range_with_len 0 (length states))
    ≡ Some second =
    find_first (λ k. is_some (collision_at from to states k)) 0 (length states) second below
    (λ k before.
    let same : 0 + k ≡ k = omega arith in
    ap (λ m. is_some (collision_at from to states m)) same
    ∙ ap is_some
    (none_at from to states k
    (λ j other low goes back. placed.differ j k other low before back goes)))
    (ap (λ m. is_some (collision_at from to states m)) e ∙ ap is_some here)
    ∙ ap Some e in
    ap (option_and_then (collision_at from to states)) search ∙ here

pub no_collision :
    (from to : ℕ) (states into : List State) (index : ℕ)
    → IsPlacedBelow from to states into index
    → length states ≤ index
    → collision_of from to states ≡ None
unfolding collision_of
no_collision from to states into index placed all =
    ap (option_and_then (collision_at from to states))
    (find_none (λ k. is_some (collision_at from to states k)) 0 (length states)
    (λ k before.
    let same : 0 + k ≡ k = omega arith in
    ap (λ m. is_some (collision_at from to states m)) same
    ∙ ap is_some
    (none_at from to states k
    (λ j other low goes back. placed.differ j k other low (omega arith) back goes))))

-- ---- the whole table
pub all_placed :
    (from to : ℕ) (states into : List State) (index : ℕ)
    → IsPlacedBelow from to states into index
    → index ≡ length states
    → into ≡ rehashed_states from to states
unfolding rehashed_states entry_at first_with
all_placed from to states into index placed all =
    fill_by_all (entry_at from to states) into (entry_count to) (empty_state 0) placed.long
    (λ target below. each target (first_with from to states (length states) target) refl) where
      each :
          (target : ℕ) (o : Option ℕ)
          → first_with from to states (length states) target ≡ o
          → get_or into target (empty_state 0) ≡ entry_at from to states target
      each target None none =
          placed.others target (λ k below goes.
          let fails = none_found (λ m. is_number target (target_at from to states m)) 0
          (length states) k none (omega arith) in
          let same : 0 + k ≡ k = omega arith in
          let passes = target_is target (target_at from to states (0 + k))
          (ap (target_at from to states) same ∙ goes) in
          absurd (cc))
          ∙ sym
          (ap
          (λ (o : Option ℕ).
          option_map_or (λ (m : ℕ). at_stamp_0 (state_at states m)) o (empty_state 0))
          none)
      each target (Some k) found =
          let is = found_is (λ m. is_number target (target_at from to states m)) 0 (length states) k
          found in
          let below : k < 0 + length states = is.below in
          placed.carried k target (omega arith)
          (target_true target (target_at from to states k) is.passes)
          ∙ sym
          (ap
          (λ (o : Option ℕ).
          option_map_or (λ (m : ℕ). at_stamp_0 (state_at states m)) o (empty_state 0))
          found)

-- ---- to an order that isn't lower
pub never_collides :
    (from to : ℕ) (states : List State) (first second target : ℕ)
    → least_order ≤ from
    → from ≤ to
    → target_at from to states second ≡ Some target
    → first_with from to states second target ≡ Some first
    → ⊥
unfolding first_with
never_collides from to states first second target large below goes found =
    let is = found_is (λ m. is_number target (target_at from to states m)) 0 second first found in
    let lower : first < 0 + second = is.below in
    let same : first ≡ second = one_source from to states first second target large below
    (target_true target (target_at from to states first) is.passes) goes in
    absurd (omega arith)
