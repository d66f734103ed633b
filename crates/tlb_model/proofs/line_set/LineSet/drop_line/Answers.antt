use Rattle.std.proofs.Common.{◌≡◌, rules, not}
use Rattle.tlb_model.specs.Cache.{is_of, without_page}
use Rattle.tlb_model.proofs.Apart.{without_sound, filter_from_turns}
use Rattle.power_addr.specs.Pages as pages
use Rattle.tlb_model.proofs.line_set.LineSet.drop_line.Goals as goal

kept :
    (c : goal.After-retain)
    → c.retain.new.self.items ≡ without_page c.args.page.now c.self.inside.lines.items
unfolding pages.same_page
kept c =
    filter_from_turns _ (λ line. not (is_of c.args.page.now line)) _ (λ x b t y turn. search rules)
    _ _ c.retain.ensures.filtered

pub invariant_of-self : goal.invariant_of-self
invariant_of-self c =
    rw (kept c) (without_sound c.args.page.now c.self.inside.lines.items c.self.invariant)

pub returns : goal.returns
returns c = rw (← c.self.view_is) (kept c)
