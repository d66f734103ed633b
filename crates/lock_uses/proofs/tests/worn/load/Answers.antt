use Rattle.tlb_model.proofs.CachedPages.{all_empty}
use Rattle.lock_uses.proofs.tests.worn.load.Goals as goal

pub access-requires : goal.access-requires
access-requires g c =
    record { seen = rw (c.requires) (all_empty (g.T.EntryStore.seen c.args.store.now)) }
