use Rattle.std.proofs.Common.{rules, tests, ◌∙◌}
use Rattle.std.proofs.lemmas.Iterator.{YieldsList-from_slice}
use Rattle.std.proofs.lemmas.Iterator.Search.{find_from_yields_List}
use Rattle.frame_grants.specs.Grants.{holds}
use Rattle.frame_grants.proofs.Holding.{found_placed, found_holds}
use Rattle.frame_grants.proofs.grants.Grants.grant_that_holds.Goals as goal

-- the chain's result is that of `find` on the list
pub returns-clause-value : goal.returns-clause-value
returns-clause-value c =
    c.copied.ensures
    ∙ find_from_yields_List (holds c.args.logical c.args.length) _ _ _ c.find.ensures.ran
    (YieldsList-from_slice c.args.self.now.grants cc) (λ x b q k. search (rules, tests))

pub returns-clause-placed : goal.returns-clause-placed
returns-clause-placed c =
    rw (returns-clause-value c)
    (found_placed c.args.self.now c.args.logical c.args.length c.list.ensures.apart)

pub returns-clause-holding : goal.returns-clause-holding
returns-clause-holding c =
    rw (returns-clause-value c) (found_holds c.args.self.now c.args.logical c.args.length)
