use Rattle.std.proofs.Common.{◌≡◌, ◌∙◌, sym, subst, length, List, []}
use Rattle.std.proofs.lemmas.Bool.{eqb-true}
use Rattle.trace_line.specs.declared.line.TraceLine.{TraceLine}
use Rattle.trace_runner.specs.StoreRuns.{RanOn}
use Rattle.trace_runner.proofs.NewWorkers.{nil_of}
use Rattle.trace_runner.proofs.StoresRan.{none_ran}
use Rattle.trace_runner.proofs.section_stores.run_on_store.Goals as goal

pub returns-then-is_empty : goal.returns-then-is_empty
returns-then-is_empty g c =
    let none : c.args.lines.now ≡ [] = nil_of c.args.lines.now
    (eqb-true (length c.args.lines.now) 0 (sym c.is_empty.ensures ∙ c.if-is_empty.true)) in
    let keeps = g.L.ReplyLog.keeps in
    let machine = c.args.machine in
    subst
    (λ (ls : List TraceLine). RanOn keeps machine c.args.number ls machine c.new.result.items)
    (sym none)
    (subst (λ (logs : List g.row.L.Denot). RanOn keeps machine c.args.number [] machine logs)
    (sym c.new.ensures.items) (none_ran keeps machine c.args.number))
