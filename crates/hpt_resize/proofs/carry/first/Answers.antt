use Rattle.std.proofs.Common.{◌≡◌, ◌≢◌, ℕ, ◌+◌, ◌<◌, true, false, eqb, map, List, Option, Some, None, sym, ap, refl, ◌∙◌, arith, ◌⊎◌, inl, inr}
use Rattle.std.specs.Option.{option_eq}
use Rattle.std.proofs.lemmas.Bool.{eqb-true, eq-eqb, cases_eq}
use Rattle.std.proofs.lemmas.List.{length-map}
use Rattle.entry_model.specs.State.{State}
use Rattle.hpt_resize.specs.Rehash.{target_of, target_at}
use Rattle.hpt_resize.proofs.Holders.{held_at}
use Rattle.hpt_resize.proofs.Placed.{first_is}
use Rattle.hpt_resize.proofs.carry.first.Goals as goal

option_is : (o : Option ℕ) (target : ℕ) → option_eq eqb o (Some target) ≡ true → o ≡ Some target
option_is None target e = absurd (cc)
option_is (Some other) target e = ap Some (eqb-true other target e)

option_not : (o : Option ℕ) (target : ℕ) → option_eq eqb o (Some target) ≡ false → o ≢ Some target
option_not o target e is =
    let same : option_eq eqb o (Some target) ≡ true =
    ap (λ p. option_eq eqb p (Some target)) is ∙ eq-eqb target target refl in
    absurd (cc)

one_more :
    (from to : ℕ) (states : List State) (index target : ℕ)
    → ((k : ℕ) → k < index → target_at from to states k ≢ Some target)
    → target_at from to states index ≢ Some target
    → (k : ℕ)
    → k < index + 1
    → target_at from to states k ≢ Some target
one_more from to states index target none here k below = at (cases_eq k index) where
  at : (k ≡ index) ⊎ (k ≡ index → ⊥) → target_at from to states k ≢ Some target
  at (inl same) is = here (ap (target_at from to states) (sym same) ∙ is)
  at (inr other) is = none k (omega (arith, below, other)) is

pub loop-index-init : goal.loop-index-init
loop-index-init g c = λ k below. absurd (omega (arith, below))

pub returns-then-eq-clause-found : goal.returns-then-eq-clause-found
returns-then-eq-clause-found g c =
    let held = g.H.StateHolder.held in
    let found : c.target_index.result ≡ Some c.args.target = option_is c.target_index.result
    c.args.target (sym c.eq.ensures ∙ c.if-eq.true) in
    let read = held_at held c.args.states.now c.loop-index.index c.index-states-index.result
    (omega (arith, c.loop-index-test.true, c.requires.in_table, length-map c.args.states.now held))
    c.index-states-index.is in
    first_is c.args.order_from c.args.order_to (map held c.args.states.now) c.args.second
    c.args.target c.loop-index.index c.loop-index-test.true c.loop-index.invariant
    (ap (λ (s : State). target_of c.args.order_from c.args.order_to s c.loop-index.index)
    (read ∙ sym c.state.ensures)
    ∙ sym c.target_index.ensures.value
    ∙ found)

pub loop-index-preserved : goal.loop-index-preserved
loop-index-preserved g c =
    let held = g.H.StateHolder.held in
    let read = held_at held c.args.states.now c.loop-index.index c.index-states-index.result
    (omega (arith, c.loop-index-test.true, c.requires.in_table, length-map c.args.states.now held))
    c.index-states-index.is in
    let other = option_not c.target_index.result c.args.target (sym c.eq.ensures ∙ c.if-eq.false) in
    let here : target_at c.args.order_from c.args.order_to (map held c.args.states.now)
    c.loop-index.index ≡ c.target_index.result =
    ap (λ (s : State). target_of c.args.order_from c.args.order_to s c.loop-index.index)
    (read ∙ sym c.state.ensures)
    ∙ sym c.target_index.ensures.value in
    one_more c.args.order_from c.args.order_to (map held c.args.states.now) c.loop-index.index
    c.args.target c.loop-index.invariant (λ is. other (sym here ∙ is))
