use Rattle.std.proofs.Common.{refl, sym, ap, ◌∙◌, subst, take, arith}
use Rattle.trace_read.specs.Configuration.{Configuration, AreOpeningEntries}
use Rattle.hpt_resize.specs.TableMemory.{empty_states, with_entries}
use Rattle.partition.proofs.Entries.{all_empty, next_inside, next_placed}
use Rattle.partition.proofs.states.opening_states.Goals as goal

pub loop-entry-init : goal.loop-entry-init
loop-entry-init c =
    all_empty c.in_ok-states.states.items c.config.inside.order _ c.empty.result
    (omega (arith, c.config.invariant.0.settings.within, c.config.invariant.0.settings.at_most))
    (c.in_ok-states.ensures.items_if_clones_equal (λ y h. h)) refl c.empty.ensures
    ∙ ap (λ (x : Configuration). empty_states x.order) c.config.view_is

pub index_mut-requires : goal.index_mut-requires
index_mut-requires c =
    let es = c.as_slice-entries.result.now in
    let i = c.loop-entry.entry-index in
    let opening : AreOpeningEntries c.config.inside.order c.config.inside.grants.grants es = subst
    (AreOpeningEntries c.config.inside.order c.config.inside.grants.grants)
    (sym c.as_slice-entries.ensures) c.config.invariant.1 in
    let so_far = c.loop-entry.invariant ∙ ap
    (λ (x : Configuration). with_entries (empty_states x.order) (take i es))
    (sym c.config.view_is) in
    omega (
      arith,
      c.loop-entry.states.ok.0,
      next_inside c.config.inside.order c.config.inside.grants.grants c.loop-entry.states.items
          es (take i es) i (record { index = 0; dword0 = 0; dword1 = 0 }) opening
          c.loop-entry-test.true so_far,
    )

pub loop-entry-preserved : goal.loop-entry-preserved
loop-entry-preserved c =
    next_placed c.args.config.now.order c.loop-entry.states.items _ c.loop-entry.entry-index _
    c.entered.result c.loop-entry-test.true c.loop-entry.invariant c.entered.ensures
