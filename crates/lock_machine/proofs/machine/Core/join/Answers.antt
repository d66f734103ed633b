use Rattle.std.proofs.Common.{◌≡◌, ◌∙◌, true, sym, ap, subst}
use Rattle.lock_core.specs.Machine.{Machine, actor_at}
use Rattle.lock_core.specs.Steps.{join_in}
use Rattle.lock_machine.proofs.Joining.{join_lists, join_undone}
use Rattle.lock_machine.proofs.machine.Core.join.Goals as goal

pub returns-in-Ok-clause-ok : goal.returns-in-Ok-clause-ok
returns-in-Ok-clause-ok c =
    let live = subst (λ (m : Machine). (actor_at m c.args.actor).live ≡ true) (sym c.self.view_is)
    c.requires.live in
    let other = subst (λ (m : Machine). (actor_at m c.args.from).live ≡ true) (sym c.self.view_is)
    c.requires.other in
    let list = join_lists c.self.inside.actors.items c.args.actor c.args.from c.index_mut.result.now
    c.index_mut-2.result.now c.replace-other.new.dest live other c.requires.apart
    c.index_mut.ensures.value c.index_mut-2.ensures.value c.replace-other.result
    c.join.new.actor (c.replace-other.ensures.after ∙ c.nobody.ensures)
    c.replace-other.ensures.value c.in-Ok.ensures.ok in
    (λ k.
    record {
      opening = c.self.inside.opening.items;
      entries = c.self.inside.entries.items;
      actors = list k;
    })
    ∙ ap (λ (m : Machine). join_in m c.args.actor c.args.from) c.self.view_is

pub returns-in-Err-clause-err : goal.returns-in-Err-clause-err
returns-in-Err-clause-err c =
    let live = subst (λ (m : Machine). (actor_at m c.args.actor).live ≡ true) (sym c.self.view_is)
    c.requires.live in
    let other = subst (λ (m : Machine). (actor_at m c.args.from).live ≡ true) (sym c.self.view_is)
    c.requires.other in
    let list = join_undone c.self.inside.actors.items c.args.actor c.args.from
    c.index_mut.result.now c.index_mut-2.result.now c.replace-other.new.dest live other
    c.requires.apart c.index_mut.ensures.value c.index_mut-2.ensures.value
    c.replace-other.result c.join.new.actor c.replace-other.ensures.value c.in-Err.ensures.err
    in
    (λ k.
    record {
      opening = c.self.inside.opening.items;
      entries = c.self.inside.entries.items;
      actors = list k;
    })
    ∙ c.self.view_is
