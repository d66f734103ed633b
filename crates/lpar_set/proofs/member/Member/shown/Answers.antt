use Rattle.std.proofs.Common.{ap, ◌∙◌, length}
use Rattle.hpte_fields.proofs.TableSizes.{entries_few}
use Rattle.lpar_set.proofs.member.Member.shown.Goals as goal

pub of_table-requires : goal.of_table-requires
of_table-requires c =
    entries_few _ _ (ap length c.as_slice.ensures.value ∙ c.self.invariant.member.whole)
    c.self.invariant.member.order_fits
