use Rattle.std.proofs.Common.{◌≡◌, ℕ, ◌+◌, ◌<◌, length, map, get_or, set, Bool, true, false, List, Option, Some, None, sym, ap, ◌∙◌, subst, arith}
use Rattle.std.proofs.lemmas.List.{length-map, map-set}
use Rattle.entry_model.specs.State.{State}
use Rattle.entry_model.specs.Run.{state_at}
use Rattle.hpt_resize.specs.Rehash.{IsPlacedBelow, target_of, target_at, at_stamp_0}
use Rattle.hpt_resize.proofs.Holders.{held_at, AreHolders, holders_start, holders_more, holders_all}
use Rattle.hpt_resize.proofs.Placed.{placed_none, placed_skip, placed_more, taken_target, collision_is, no_collision, all_placed, never_collides, carried_valid}
use Rattle.hpt_resize.proofs.carry.rehash_into.Goals as goal
use Rattle.hpt_resize.proofs.carry.rehash_into.Goals.{in-Some+else-state, in_default}
use Rattle.hpte_fields.specs.TableSize.{IsTableOrder, entry_count}
use Rattle.hpte_fields.proofs.TableSizes.{entries_few}

-- ---- what the code reads
read_target :
    {X : Type 0} (held : X → State) (from to index : ℕ) (xs : List X) (read : X) (state : State)
    (o answer : Option ℕ)
    → index < length xs
    → read ≡ get_or xs index read
    → state ≡ held read
    → answer ≡ target_of from to state index
    → answer ≡ o
    → target_at from to (map held xs) index ≡ o
read_target held from to index xs read state o answer inside is shown said answered =
    ap (λ (s : State). target_of from to s index) (held_at held xs index read inside is ∙ sym shown)
    ∙ sym said
    ∙ answered

-- The entry that is at a target.
read_valid :
    {X : Type 0} (held : X → State) (xs : List X) (target : ℕ) (read : X) (state : State)
    (valid : Bool)
    → target < length xs
    → read ≡ get_or xs target read
    → state ≡ held read
    → state.valid ≡ valid
    → (state_at (map held xs) target).valid ≡ valid
read_valid held xs target read state valid inside is shown said =
    ap (λ (s : State). s.valid) (held_at held xs target read inside is ∙ sym shown) ∙ said

pub loop-index-init : goal.loop-index-init
loop-index-init g c = record {
  placed =
      placed_none c.args.order_from c.args.order_to (map g.H.StateHolder.held c.args.states.now)
      (map g.H.StateHolder.held c.args.into.now) c.requires.empty;
  holders =
      holders_start g.H.StateHolder.held g.H.StateHolder.holding g.met.H.StateHolder.stays
      c.args.into.now;
}

pub first-requires-clause-taken : goal.first-requires-clause-taken
first-requires-clause-taken g c =
    let held = g.H.StateHolder.held in
    let below : c.in-Some.target < length c.loop-index.into = omega (
      arith,
      c.in-Some.ensures.in_new_table,
      c.loop-index.invariant.placed.long,
      length-map c.loop-index.into held,
    ) in
    taken_target c.args.order_from c.args.order_to (map held c.args.states.now)
    (map held c.loop-index.into) c.loop-index.index c.in-Some.target c.loop-index.invariant.placed
    (read_valid held c.loop-index.into c.in-Some.target c.index-into-target.result c.state.result
    true below c.index-into-target.is
    (c.state.ensures ∙ ap held (sym c.index-into-target.is))
    (ap (λ (s : State). s.valid) (sym c.state-in-Some.view_is) ∙ c.if-state.true))

-- Indices of a table fit the type of an index.
small :
    (order count i : ℕ)
    → IsTableOrder order
    → count ≡ entry_count order
    → i < count
    → i < 4294967296
small order count i fits whole below = omega (arith, entries_few count order whole fits, below)

pub overflow_cast-result : goal.overflow_cast-result
overflow_cast-result g c =
    let same = length-map c.args.states.now g.H.StateHolder.held in
    let fits = small c.args.order_from (length (map g.H.StateHolder.held c.args.states.now))
    c.first.result c.requires.from c.requires.whole
    (omega (arith, same, c.first.ensures.below, c.loop-index-test.true)) in
    omega (arith, fits)

pub overflow_cast-result-then-state : goal.overflow_cast-result-then-state
overflow_cast-result-then-state g c =
    let same = length-map c.args.states.now g.H.StateHolder.held in
    let fits = small c.args.order_from (length (map g.H.StateHolder.held c.args.states.now))
    c.loop-index.index c.requires.from c.requires.whole
    (omega (arith, same, c.loop-index-test.true)) in
    omega (arith, fits)

pub returns-then-state-clause-told : goal.returns-then-state-clause-told
returns-then-state-clause-told g c =
    let held = g.H.StateHolder.held in
    collision_is c.args.order_from c.args.order_to (map held c.args.states.now)
    (map held c.loop-index.into) c.first.result c.loop-index.index c.in-Some.target
    c.loop-index.invariant.placed
    (omega (arith, c.loop-index-test.true, length-map c.args.states.now held))
    (read_target held c.args.order_from c.args.order_to c.loop-index.index c.args.states.now
    c.index-states-index.result c.state-state.result (Some c.in-Some.target) c.target_index.result
    c.loop-index-test.true c.index-states-index.is c.state-state.ensures
    c.target_index.ensures.value c.in-Some.is)
    c.first.ensures.found

pub returns-then-state-clause-never : goal.returns-then-state-clause-never
returns-then-state-clause-never g c =
    let held = g.H.StateHolder.held in
    λ larger.
    absurd
    (never_collides c.args.order_from c.args.order_to (map held c.args.states.now) c.first.result
    c.loop-index.index c.in-Some.target c.requires.from.0 larger
    (read_target held c.args.order_from c.args.order_to c.loop-index.index c.args.states.now
    c.index-states-index.result c.state-state.result (Some c.in-Some.target)
    c.target_index.result c.loop-index-test.true c.index-states-index.is c.state-state.ensures
    c.target_index.ensures.value c.in-Some.is)
    c.first.ensures.found)

pub returns-then-state-clause-holders : goal.returns-then-state-clause-holders
returns-then-state-clause-holders g c =
    holders_all g.H.StateHolder.held g.H.StateHolder.holding c.args.into.now c.loop-index.into
    c.loop-index.invariant.holders

pub loop-index-preserved : goal.loop-index-preserved
loop-index-preserved g c =
    elim c.match-target_index.branch [
      | in-Some+else-state w ↦
          let held = g.H.StateHolder.held in
          let holding = g.H.StateHolder.holding in
          let from = c.args.order_from in
          let to = c.args.order_to in
          let states = map held c.args.states.now in
          let into = c.loop-index.into in
          let target = w.in-Some.target in
          let below : target < length into = omega (
            arith,
            w.in-Some.ensures.in_new_table,
            c.loop-index.invariant.placed.long,
            length-map into held,
          ) in
          let goes = read_target held from to c.loop-index.index c.args.states.now
          c.index-states-index.result c.state-state.result (Some target) c.target_index.result
          c.loop-index-test.true c.index-states-index.is c.state-state.ensures
          c.target_index.ensures.value w.in-Some.is in
          let none : w.state.result.valid ≡ false =
          ap (λ (s : State). s.valid) (sym w.state-in-Some.view_is) ∙ w.if-state.false in
          let free = read_valid held into target w.index-into-target.result w.state.result false
          below w.index-into-target.is
          (w.state.ensures ∙ ap held (sym w.index-into-target.is)) none in
          let new : w.fresh.result ≡ at_stamp_0 (state_at states c.loop-index.index) =
          w.fresh.ensures
          ∙ ap at_stamp_0
          (c.state-state.ensures
          ∙ sym
          (held_at held c.args.states.now c.loop-index.index c.index-states-index.result
          c.loop-index-test.true c.index-states-index.is)) in
          let valid : w.fresh.result.valid ≡ true =
          ap (λ (s : State). s.valid) new
          ∙ carried_valid from to states c.loop-index.index target goes in
          let after : c.match-target_index.into
          ≡ set into target (holding w.index-into-target-in-Some.result w.fresh.result) =
          w.into-is
          ∙ ap (set into target) w.hold.ensures
          ∙ ap (λ x. set into target (holding x w.fresh.result))
          (sym w.index-into-target-in-Some.is) in
          let held_after : map held c.match-target_index.into
          ≡ set (map held into) target (at_stamp_0 (state_at states c.loop-index.index)) =
          ap (map held) after
          ∙ map-set held into target
          (holding w.index-into-target-in-Some.result w.fresh.result)
          ∙ ap (set (map held into) target)
          (g.met.H.StateHolder.given w.index-into-target-in-Some.result w.fresh.result ∙ new) in
          let free_again : (held w.index-into-target-in-Some.result).valid ≡ false =
          ap (λ (s : State). s.valid)
          (sym
          (held_at held into target w.index-into-target-in-Some.result below
          w.index-into-target-in-Some.is))
          ∙ free in
          record {
            placed =
                subst (λ (items : List State). IsPlacedBelow from to states items
                (c.loop-index.index + 1))
                (sym held_after)
                (placed_more from to states (map held into) c.loop-index.index target
                c.loop-index.invariant.placed goes
                (omega (arith, below, length-map into held)) free);
            holders =
                subst (AreHolders held holding c.args.into.now) (sym after)
                (holders_more held holding g.met.H.StateHolder.given c.args.into.now into target
                w.index-into-target-in-Some.result w.fresh.result below
                w.index-into-target-in-Some.is free_again valid c.loop-index.invariant.holders);
          }
      | in_default w ↦
          let held = g.H.StateHolder.held in
          let goes = read_target held c.args.order_from c.args.order_to c.loop-index.index
          c.args.states.now c.index-states-index.result c.state-state.result None
          c.target_index.result c.loop-index-test.true c.index-states-index.is
          c.state-state.ensures c.target_index.ensures.value w.in_default.is in
          record {
            placed =
                subst
                (λ items.
                IsPlacedBelow c.args.order_from c.args.order_to (map held c.args.states.now)
                (map held items) (c.loop-index.index + 1))
                (sym w.into-is)
                (placed_skip c.args.order_from c.args.order_to (map held c.args.states.now)
                (map held c.loop-index.into) c.loop-index.index c.loop-index.invariant.placed
                goes);
            holders =
                subst (AreHolders held g.H.StateHolder.holding c.args.into.now) (sym w.into-is)
                c.loop-index.invariant.holders;
          }
    ]

pub returns-clause-told : goal.returns-clause-told
returns-clause-told g c =
    let held = g.H.StateHolder.held in
    no_collision c.args.order_from c.args.order_to (map held c.args.states.now)
    (map held c.loop-index.into) c.loop-index.index c.loop-index.invariant.placed
    (omega (arith, c.loop-index-test.false, length-map c.args.states.now held))

pub returns-clause-placed : goal.returns-clause-placed
returns-clause-placed g c =
    let held = g.H.StateHolder.held in
    let end : c.loop-index.index ≡ length (map held c.args.states.now) = omega (
      arith,
      c.loop-index-test.false,
      c.loop-index.auto.index-end,
      length-map c.args.states.now held,
    ) in
    subst
    (IsPlacedBelow c.args.order_from c.args.order_to (map held c.args.states.now)
    (map held c.loop-index.into)) end
    c.loop-index.invariant.placed

pub returns-clause-carried : goal.returns-clause-carried
returns-clause-carried g c =
    let held = g.H.StateHolder.held in
    all_placed c.args.order_from c.args.order_to (map held c.args.states.now)
    (map held c.loop-index.into) c.loop-index.index c.loop-index.invariant.placed
    (omega (
      arith,
      c.loop-index-test.false,
      c.loop-index.auto.index-end,
      length-map c.args.states.now held,
    ))

pub returns-clause-holders : goal.returns-clause-holders
returns-clause-holders g c =
    holders_all g.H.StateHolder.held g.H.StateHolder.holding c.args.into.now c.loop-index.into
    c.loop-index.invariant.holders
