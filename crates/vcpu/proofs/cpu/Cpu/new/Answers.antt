use Rattle.hpt_walk.specs.Translations.{TranslatesItsPage}
use Rattle.tlb_model.proofs.CachedPages.{all_empty}
use Rattle.vcpu.proofs.cpu.Cpu.new.Goals as goal

pub invariant_of-result : goal.invariant_of-result
invariant_of-result c = rw (c.new-2.ensures) (all_empty TranslatesItsPage)
