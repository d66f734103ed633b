use Rattle.std.proofs.Common.{◌≡◌, ◌∙◌, ap, length, arith}
use Rattle.trace_read.specs.Trace.{AcceptedTrace}
use Rattle.run_model.specs.AllStores.{AllStores}
use Rattle.run_model.proofs.SerialGood.{opening_processors}
use Rattle.trace_runner.proofs.ParallelAssured.{ok_output}
use Rattle.trace_runner.proofs.parallel.run_logged.Goals as goal

pub run_sections-requires-clause-few_cpus : goal.run_sections-requires-clause-few_cpus
run_sections-requires-clause-few_cpus g c κs within =
    let size : length c.in_ok-machine.machine.table.processors ≡ c.args.trace.now.config.cpus = ap
    (λ (w : AllStores). length w.table.processors) c.in_ok-machine.ensures.run_state ∙
    opening_processors c.args.trace.now in
    omega (arith, size, c.keeps_limits.ensures.configured.settings.few)

pub returns : goal.returns
returns g c =
    ok_output g.L.RunLog.has c.args.trace.now c.in_ok-machine.machine c.as_slice.result.now
    c.run_sections.result c.keeps_limits.ensures c.in_ok-machine.ensures.run_state
    (c.as_slice.ensures ∙ ap (λ (t : AcceptedTrace). t.lines) c.trace.view_is)
    c.run_sections.ensures
