use Rattle.std.proofs.Common.{None, sym, subst}
use Rattle.hpt_pool.specs.Pool.{PoolState}
use Rattle.papr_codes.specs.declared.codes.Rc.TheVariants.{Success}
use Rattle.hpt_resize.specs.Resize.{PrepareOutcome, prepare_outcome, KeepsBlocks}
use Rattle.hpt_resize.proofs.Holding.{IsSafe, dropped_safe, started_safe, advanced_safe}
use Rattle.hpt_resize.proofs.prepared.Resize.prepare.Goals as goal

safe :
    (c : goal.After-advance)
    → IsSafe c.args.self.now c.args.pool.now
    (prepare_outcome c.advance.result c.advance.new.self c.start.new.pool)
safe c =
    advanced_safe c.in_ok-rc.rc c.advance.result c.args.self.now c.start.new.self c.advance.new.self
    c.args.pool.now c.start.new.pool
    (subst (λ (after : PrepareOutcome). IsSafe c.args.self.now c.args.pool.now after)
    (sym c.in_ok-rc.ensures.ok)
    (started_safe _ c.args.self.now c.args.pool.now c.requires.held))
    c.advance.ensures

pub returns-then-shift-eq0-clause-kept : goal.returns-then-shift-eq0-clause-kept
returns-then-shift-eq0-clause-kept c =
    let after = dropped_safe Success c.args.self.now c.args.pool.now in
    subst (λ o. KeepsBlocks c.args.self.now c.args.pool.now o c.drop_pending.new.pool)
    (sym c.drop_pending.ensures.pending)
    (subst (λ (pool : PoolState). KeepsBlocks c.args.self.now c.args.pool.now None pool)
    (sym c.drop_pending.ensures.pool) after.kept)

pub returns-clause-held : goal.returns-clause-held
returns-clause-held c = (safe c).held

pub returns-clause-kept : goal.returns-clause-kept
returns-clause-kept c = (safe c).kept
