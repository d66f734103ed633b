use Rattle.hpt_walk.specs.Translations.{TranslatesItsPage}
use Rattle.tlb_model.proofs.CachedPages.{all_empty}
use Rattle.vcpu.proofs.cpu.Cpu.clear_cache.Goals as goal

pub invariant_of-self : goal.invariant_of-self
invariant_of-self c = rw (c.clear.ensures) (all_empty TranslatesItsPage)
