use Rattle.tlb_model.proofs.CachedPages.{all_empty}
use Rattle.vcpu_tests.proofs.tests.store_then_user_load.Goals as goal

pub access-stored-requires : goal.access-stored-requires
access-stored-requires g c =
    record { seen = rw (c.requires) (all_empty (g.T.EntryStore.seen c.args.store.now)) }
