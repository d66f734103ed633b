use Rattle.std.proofs.Common.{ap, sym, ◌∙◌, length, arith}
use Rattle.frame_grants.specs.Grants.{GrantedMemory}
use Rattle.trace_read.specs.Configuration.{Configuration}
use Rattle.hpt_resize.specs.TableMemory.{empty_states, with_entries}
use Rattle.hpt_resize.proofs.OpeningStates.{opening-length}
use Rattle.lpar_set.specs.SetRun.{opening_member}
use Rattle.run_model.proofs.HeldLines.{empty_hold}
use Rattle.lpar_set.proofs.OpenedMember.{opened_place, opened_is}
use Rattle.lpar_set.proofs.member.Member.open.Goals as goal

pub invariant_of-result : goal.invariant_of-result
invariant_of-result c =
    let settings = c.config.invariant.0.settings in
    let states = c.in_ok-states.ensures ∙ ap
    (λ (x : Configuration). with_entries (empty_states x.order) x.entries)
    (sym c.config.view_is) in
    record {
      member = record {
        limit_fits = (
          omega (arith, settings.at_least, settings.within),
          omega (arith, settings.at_most),
        );
        order_fits = (settings.at_least, omega (arith, settings.within, settings.at_most));
        whole = ap length states ∙ opening-length c.config.inside.order c.config.inside.entries;
      };
      hold = rw c.in_ok-cpus.ensures (empty_hold _ _);
    }

pub returns-clause-ok : goal.returns-clause-ok
returns-clause-ok c =
    let config : Configuration = record {
      order = c.config.inside.order;
      limit = c.config.inside.limit;
      cpus = c.config.inside.cpus;
      granted = c.config.inside.grants;
      entries = c.config.inside.entries;
      windows = c.config.inside.windows;
    } in
    let states = c.in_ok-states.ensures ∙ ap
    (λ (x : Configuration). with_entries (empty_states x.order) x.entries)
    (sym c.config.view_is) in
    opened_is c.args.pool.now config c.copy.result.grants c.none.result c.unwrap-place.result
    c.in_ok-states.states.items c.in_ok-cpus.cpus.items
    (ap (λ (g : GrantedMemory). g.grants) c.copy.ensures.value) c.none.ensures
    (opened_place c.args.pool.now c.config.inside.order c.unwrap-place.result c.take.result
    c.take.ensures.place c.unwrap-place.ensures) states c.in_ok-cpus.ensures
    ∙ ap (opening_member c.args.pool.now) c.config.view_is
