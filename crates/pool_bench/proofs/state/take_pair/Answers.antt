use Rattle.std.proofs.Common.{◌≢◌, ℕ, List, AllPairs, Contains, sym, subst}
use Rattle.std.proofs.lemmas.List.Elements.{All-push}
use Rattle.std.proofs.lemmas.List.Quantifiers.{all_pairs_push}
use Rattle.hpt_pool.specs.Pool.{block_at}
use Rattle.hpt_pool.proofs.Kept.{take_holds}
use Rattle.pool_bench.proofs.Leaves.{AreHeld, other_place, held_still}
use Rattle.pool_bench.proofs.state.take_pair.Goals as goal

pub returns-in_ok-push-clause-held : goal.returns-in_ok-push-clause-held
returns-in_ok-push-clause-held c =
    let Holds : ℕ → Type 0 = λ place. Contains c.take-2.new.self.taken (block_at place 18) in
    let first = held_still c.args.pool.now c.take.new.self c.take.result c.args.seconds.now.items
    c.take.ensures.taken c.take.ensures.none c.requires.held in
    let second = held_still c.take.new.self c.take-2.new.self c.take-2.result
    c.args.seconds.now.items c.take-2.ensures.taken c.take-2.ensures.none first in
    subst (λ (places : List ℕ). AreHeld c.take-2.new.self places) (sym c.in_ok-push.ensures.items)
    (All-push Holds c.args.seconds.now.items c.in-Some.place second
    (take_holds c.take.new.self c.take-2.new.self 18 c.in-Some.place c.in-Some.ensures.taken))

pub returns-in_ok-push-clause-apart : goal.returns-in_ok-push-clause-apart
returns-in_ok-push-clause-apart c =
    let first = held_still c.args.pool.now c.take.new.self c.take.result c.args.seconds.now.items
    c.take.ensures.taken c.take.ensures.none c.requires.held in
    subst (λ (places : List ℕ). AllPairs (λ (one other : ℕ). one ≢ other) places)
    (sym c.in_ok-push.ensures.items)
    (all_pairs_push (λ (one other : ℕ). one ≢ other) c.args.seconds.now.items c.in-Some.place
    c.requires.apart
    (λ k d inside.
    other_place c.take.new.self c.in-Some.place _ c.in-Some.ensures.lowest
    (first k d inside)))

pub returns-in_default-clause-held : goal.returns-in_default-clause-held
returns-in_default-clause-held c =
    held_still c.take.new.self c.take-2.new.self c.take-2.result c.args.seconds.now.items
    c.take-2.ensures.taken c.take-2.ensures.none
    (held_still c.args.pool.now c.take.new.self c.take.result c.args.seconds.now.items
    c.take.ensures.taken c.take.ensures.none c.requires.held)
