use Rattle.run_model.proofs.HeldLines.{cache_on}
use Rattle.lpar_set.proofs.act.apply_act.Goals as goal

pub returns-in-Call-clause-seen : goal.returns-in-Call-clause-seen
returns-in-Call-clause-seen c =
    cache_on c.args.table.now.states c.make_call-registers.new.store.states _ c.args.cpu.now
    c.make_call-registers.ensures.made.run c.requires.seen
