use Rattle.tlb_model.proofs.CachedPages.{all_empty}
use Rattle.vcpu_tests.proofs.tests.three_accesses.Goals as goal

pub access-first-requires : goal.access-first-requires
access-first-requires g c =
    record { seen = rw (c.requires.empty) (all_empty (g.T.EntryStore.seen c.args.store.now)) }
