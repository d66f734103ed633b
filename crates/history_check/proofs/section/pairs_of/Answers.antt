use Rattle.std.proofs.Common.{◌∙◌, ◌++◌, [], ◌∷◌, ap, subst}
use Rattle.std.proofs.lemmas.List.{take_all}
use Rattle.entry_model.specs.Fronts.{opening_fronts}
use Rattle.history_check.proofs.Short.{LowStates}
use Rattle.history_check.proofs.SectionTold.{pairs_more, low_more}
use Rattle.history_check.proofs.section.pairs_of.Goals as goal

pub loop-state-preserved : goal.loop-state-preserved
loop-state-preserved c = record {
  pairs =
      pairs_more c.loop-state.pairs.items c.push.new.self.items c.args.states.now
      c.loop-state.state-index c.state-item.result c.loop-state-test.true c.state-item.is
      c.loop-state.invariant.pairs
      (c.in_ok-push.ensures.items
      ∙ ap (λ n. c.loop-state.pairs.items ++ n ∷ []) c.pair_of.ensures.pair);
  low =
      low_more c.args.states.now c.loop-state.state-index c.state-item.result c.loop-state-test.true
      c.state-item.is c.loop-state.invariant.low c.pair_of.ensures.low;
}

pub returns-clause-pairs : goal.returns-clause-pairs
returns-clause-pairs c =
    c.loop-state.invariant.pairs
    ∙ ap opening_fronts
    (take_all c.loop-state.state-index c.args.states.now c.loop-state-test.false)

pub returns-clause-low : goal.returns-clause-low
returns-clause-low c =
    subst LowStates (take_all c.loop-state.state-index c.args.states.now c.loop-state-test.false)
    c.loop-state.invariant.low
