use Rattle.std.proofs.Common.{◌≡◌, ◌∙◌, ap, subst, sym}
use Rattle.tlb_model.specs.Cache.{set_of, set_number, without_page}
use Rattle.tlb_model.specs.Sets.{IsForSet}
use Rattle.tlb_model.proofs.Placed.{written_sound, without_for, read_set}
use Rattle.tlb_model.proofs.tlb.Tlb.drop_line.Goals as goal

pub invariant_of-self : goal.invariant_of-self
invariant_of-self c =
    let is : c.drop_line.new.self ≡ without_page c.args.page.now
    (set_of c.self.inside.sets c.args.page.now) = c.drop_line.ensures ∙ ap
    (without_page c.args.page.now)
    (read_set c.self.inside.sets c.args.page.now c.set_number.result
    c.index-self-set_number.result c.self.invariant c.set_number.ensures) in
    rw (c.set_number.ensures)
    (written_sound c.self.inside.sets c.args.page.now c.drop_line.new.self
    (subst (IsForSet (set_number c.args.page.now)) (sym is)
    (without_for c.self.inside.sets c.args.page.now c.self.invariant))
    c.self.invariant)
