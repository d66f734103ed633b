use Rattle.std.proofs.Common.{◌≡◌, ◌∙◌, ap, subst, sym}
use Rattle.tlb_model.specs.Cache.{cached_line, set_of, set_number, put_last}
use Rattle.tlb_model.specs.Sets.{IsForSet}
use Rattle.tlb_model.proofs.Placed.{written_sound, filled_for, read_set}
use Rattle.tlb_model.proofs.tlb.Tlb.fill.Goals as goal

pub fill-requires : goal.fill-requires
unfolding cached_line
fill-requires c =
    rw (
      read_set c.self.inside.sets c.args.line.page c.set_number-number.result
          c.index-self-number.result c.self.invariant c.set_number-number.ensures,
      c.self.view_is,
    ) c.requires

pub invariant_of-self : goal.invariant_of-self
invariant_of-self c =
    let is : c.fill.new.self ≡ put_last c.args.line (set_of c.self.inside.sets c.args.line.page) =
    c.fill.ensures ∙ ap (put_last c.args.line)
    (read_set c.self.inside.sets c.args.line.page c.set_number-number.result
    c.index-self-number.result c.self.invariant c.set_number-number.ensures) in
    rw (c.set_number-number.ensures)
    (written_sound c.self.inside.sets c.args.line.page c.fill.new.self
    (subst (IsForSet (set_number c.args.line.page)) (sym is)
    (filled_for c.self.inside.sets c.args.line c.self.invariant)) c.self.invariant)
