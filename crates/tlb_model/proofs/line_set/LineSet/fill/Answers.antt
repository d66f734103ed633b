use Rattle.std.proofs.Common.{◌≡◌, None, arith}
use Rattle.std.proofs.lemmas.Bool.Decides.{nat_tests}
use Rattle.tlb_model.specs.Cache.{line_of_page}
use Rattle.tlb_model.proofs.Apart.{more_sound, pushed_sound}
use Rattle.tlb_model.proofs.line_set.LineSet.fill.Goals.{then-is_full, else-is_full}
use Rattle.tlb_model.proofs.line_set.LineSet.fill.Goals as goal

pub invariant_of-self : goal.invariant_of-self
invariant_of-self c =
    let none : line_of_page c.args.line.page c.self.inside.lines.items ≡ None = rw (c.self.view_is)
    c.requires in
    elim c.if-is_full.branch [
      | then-is_full w ↦ rw (c.push.ensures.items, w.self-inside-is, w.remove.ensures.items)
          (pushed_sound c.self.inside.lines.items c.args.line c.self.invariant none
          (grind (arith, nat_tests, w.if-is_full.true, c.is_full.ensures.value)))
      | else-is_full w ↦ rw (c.push.ensures.items, w.self-inside-is)
          (more_sound c.self.inside.lines.items c.args.line
          (grind (arith, nat_tests, w.if-is_full.false, c.is_full.ensures.value))
          c.self.invariant none)
    ]
