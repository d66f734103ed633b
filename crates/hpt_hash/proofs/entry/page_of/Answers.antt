use Rattle.std.proofs.Common.{arith}
use Rattle.std.proofs.lemmas.Grind.{common_steps}
use Rattle.hpt_hash.specs.Entries.{page_at}
use Rattle.hpt_hash.proofs.PageLemmas.{page_at-found, page_at-exact}
use Rattle.hpt_hash.proofs.entry.page_of.Goals as goal

pub returns-clause-value : goal.returns-clause-value
unfolding page_at
returns-clause-value c = grind (arith, common_steps)

pub returns-clause-found : goal.returns-clause-found
returns-clause-found c =
    let a = c.args in
    page_at-found a.order a.index a.dword0 a.dword1 c.confirmed.result c.ranges.dword0.fits
    (returns-clause-value c)

pub returns-clause-exact : goal.returns-clause-exact
returns-clause-exact c =
    let a = c.args in
    page_at-exact a.order a.index a.dword0 a.dword1 c.confirmed.result c.requires.order.0
    c.ranges.dword0.fits (returns-clause-value c)

pub returns-in_err-page-clause-value : goal.returns-in_err-page-clause-value
unfolding page_at
returns-in_err-page-clause-value c = grind (arith, common_steps)

pub returns-in_err-page-clause-exact : goal.returns-in_err-page-clause-exact
returns-in_err-page-clause-exact c =
    let a = c.args in
    page_at-exact a.order a.index a.dword0 a.dword1 c.from_residual-in_err-page.result
    c.requires.order.0 c.ranges.dword0.fits (returns-in_err-page-clause-value c)
