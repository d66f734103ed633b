use Rattle.std.proofs.Common.{[], ◌∷◌}
use Rattle.tlb_model.proofs.CachedPages.{all_cached_weaker}
use Rattle.vcpu_tests.proofs.tests.apply_beside.Goals as goal

pub returns : goal.returns
returns g c =
    all_cached_weaker (g.T.EntryStore.seen c.args.store.now)
    (g.T.EntryStore.seen c.apply-receipt.new.self)
    (λ line seen.
    g.met.T.EntryStore.seen_stays c.args.store.now c.apply-receipt.new.self
    (c.apply-receipt.result ∷ []) line c.apply-receipt.ensures.made seen)
    c.args.cpu.now.cache c.requires.seen
