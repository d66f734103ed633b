-- The new table where no two entries meet: each entry that is carried at its target, and empty ones
-- elsewhere.
use Rattle.std.proofs.Common.{◌≡◌, ◌≢◌, ℕ, ◌+◌, ◌<◌, ◌≤◌, true, false, List, length, find, Option, Some, None, refl, sym, ap, ◌∙◌, inl, inr, ◌⊎◌, arith}
use Rattle.std.specs.Prelude.{option_map, is_some}
use Rattle.std.specs.Option.{option_and_then}
use Rattle.std.specs.List.{range_with_len}
use Rattle.std.proofs.lemmas.Bool.{cases_lt}
use Rattle.std.proofs.lemmas.List.{get_or_past}
use Rattle.std.proofs.lemmas.List.FromFn.{length-map-range_with_len, get_or-map-range_with_len}
use Rattle.entry_model.specs.State.{State, empty_state}
use Rattle.entry_model.specs.Run.{state_at}
use Rattle.hpt_resize.specs.Rehash.{target_at, first_with, collision_at, collision_of, entry_at, rehashed_states, at_stamp_0, AreApartBelow, IsPlacedBelow}
use Rattle.hpte_fields.specs.TableSize.{entry_count, least_order}
use Rattle.hpt_resize.proofs.Finds.{found_is, none_found}
use Rattle.hpt_resize.proofs.Groups.{carried_is, target_in_table}
use Rattle.hpt_resize.proofs.Placed.{target_is, target_true, first_is, first_none}
use Rattle.basics.specs.Words.{is_number}

-- ---- no collision
-- Where the search finds nothing no lower index goes there.
none_before :
    (from to : ℕ) (states : List State) (second target j : ℕ)
    → first_with from to states second target ≡ None
    → j < second
    → target_at from to states j ≢ Some target
unfolding first_with
none_before from to states second target j none below goes =
    let same : 0 + j ≡ j = omega arith in
    let fails = none_found (λ m. is_number target (target_at from to states m)) 0 second j none
    below in
    let passes = target_is target (target_at from to states (0 + j))
    (ap (target_at from to states) same ∙ goes) in
    absurd (cc)

map_none : {T U : Type 0} (f : T → U) (o : Option T) → option_map f o ≡ None → o ≡ None
map_none f None e = refl
map_none f (Some x) e = cc

-- An entry that meets no lower one.
meets_none :
    (from to : ℕ) (states : List State) (k j target : ℕ)
    → collision_at from to states k ≡ None
    → j < k
    → target_at from to states k ≡ Some target
    → target_at from to states j ≢ Some target
unfolding collision_at
meets_none from to states k j target none below goes =
    let here = rw goes at none in
    none_before from to states k target j (map_none _ (first_with from to states k target) here)
    below

no_some : {T : Type 0} (o : Option T) → is_some o ≡ false → o ≡ None
no_some None e = refl
no_some (Some x) e = cc

-- Without a collision no two entries go to one target.
pub apart_where_none :
    (from to : ℕ) (states : List State)
    → collision_of from to states ≡ None
    → AreApartBelow from to states (length states)
unfolding collision_of
apart_where_none from to states none j k target low below one two =
    at (find (λ m. is_some (collision_at from to states m)) (range_with_len 0 (length states))) refl
  where
    at :
        (o : Option ℕ)
        → find (λ m. is_some (collision_at from to states m)) (range_with_len 0 (length states)) ≡ o
        → ⊥
    at None search =
        let same : 0 + k ≡ k = omega arith in
        let quiet = none_found (λ m. is_some (collision_at from to states m)) 0 (length states) k
        search below in
        meets_none from to states k j target
        (no_some (collision_at from to states k)
        (ap (λ m. is_some (collision_at from to states m)) (sym same) ∙ quiet)) low two one
    at (Some found) search =
        let passes =
        (found_is (λ m. is_some (collision_at from to states m)) 0 (length states) found
        search).passes in
        let here : collision_at from to states found ≡ None = sym
        (ap (option_and_then (collision_at from to states)) search) ∙ none in
        let fails : is_some (collision_at from to states found) ≡ false = ap is_some here in
        absurd (cc)

-- ---- the whole table
pub rehashed_at :
    (from to : ℕ) (states : List State) (target : ℕ)
    → target < entry_count to
    → state_at (rehashed_states from to states) target ≡ entry_at from to states target
unfolding rehashed_states
rehashed_at from to states target below =
    get_or-map-range_with_len (entry_at from to states) 0 (entry_count to) target target
    (empty_state 0) below (omega arith)

pub rehashed-length :
    (from to : ℕ) (states : List State) → length (rehashed_states from to states) ≡ entry_count to
unfolding rehashed_states
rehashed-length from to states =
    length-map-range_with_len (entry_at from to states) 0 (entry_count to)

entry_found :
    (from to : ℕ) (states : List State) (target index : ℕ)
    → first_with from to states (length states) target ≡ Some index
    → entry_at from to states target ≡ at_stamp_0 (state_at states index)
unfolding entry_at
entry_found from to states target index found = rw found refl

entry_none :
    (from to : ℕ) (states : List State) (target : ℕ)
    → first_with from to states (length states) target ≡ None
    → entry_at from to states target ≡ empty_state 0
unfolding entry_at
entry_none from to states target none = rw none refl

-- Without a collision all entries of the old table are carried.
pub rehashed_placed :
    (from to : ℕ) (states : List State)
    → least_order ≤ to
    → collision_of from to states ≡ None
    → IsPlacedBelow from to states (rehashed_states from to states) (length states)
rehashed_placed from to states large none = record {
  long = rehashed-length from to states;
  carried = λ k target below goes.
      let inside = target_in_table from to (state_at states k) k target large goes in
      rehashed_at from to states target inside
      ∙ entry_found from to states target k
      (first_is from to states (length states) target k below
      (λ j low other. apart_where_none from to states none j k target low below other goes)
      goes);
  others = λ target clear. at target clear (cases_lt target (entry_count to));
  differ = apart_where_none from to states none;
} where
  at :
      (target : ℕ)
      → ((k : ℕ) → k < length states → target_at from to states k ≢ Some target)
      → (target < entry_count to) ⊎ (entry_count to ≤ target)
      → state_at (rehashed_states from to states) target ≡ empty_state 0
  at target clear (inl inside) =
      rehashed_at from to states target inside
      ∙ entry_none from to states target (first_none from to states (length states) target clear)
  at target clear (inr past) =
      let long = rehashed-length from to states in
      get_or_past (rehashed_states from to states) target (empty_state 0) (omega arith)

-- An entry that is carried is one of the old table.
pub source_in_table :
    (from to : ℕ) (states : List State) (index target : ℕ)
    → target_at from to states index ≡ Some target
    → index < length states
source_in_table from to states index target goes = at (cases_lt index (length states)) where
  at : (index < length states) ⊎ (length states ≤ index) → index < length states
  at (inl inside) = inside
  at (inr past) =
      let valid : (state_at states index).valid ≡ true =
      (carried_is from to (state_at states index) index target goes).valid in
      let gone : (state_at states index).valid ≡ false = ap (λ (s : State). s.valid)
      (get_or_past states index (empty_state 0) past) in
      absurd (cc)

-- A valid entry of the new table came from an entry of the old one.
pub record HasSource (from to : ℕ) (states : List State) (target : ℕ) : Type 0 where
  pub index : ℕ
  pub goes : target_at from to states index ≡ Some target

pub source_of :
    (from to : ℕ) (states new : List State) (target : ℕ)
    → IsPlacedBelow from to states new (length states)
    → (state_at new target).valid ≡ true
    → HasSource from to states target
unfolding first_with
source_of from to states new target placed valid =
    at (first_with from to states (length states) target) refl where
      at :
          (o : Option ℕ)
          → first_with from to states (length states) target ≡ o
          → HasSource from to states target
      at (Some index) found =
          record {
            index = index;
            goes =
                target_true target (target_at from to states index)
                (found_is (λ m. is_number target (target_at from to states m)) 0 (length states)
                index found).passes;
          }
      at None none =
          let gone : (state_at new target).valid ≡ false = ap (λ (s : State). s.valid)
          (placed.others target
          (λ k below. none_before from to states (length states) target k none below)) in
          absurd (cc)
