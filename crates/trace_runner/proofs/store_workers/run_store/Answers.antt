use Rattle.std.proofs.Common.{◌≡◌, ◌∙◌, sym, ap, subst, length, List, []}
use Rattle.std.proofs.lemmas.Bool.{eqb-true}
use Rattle.run_model.specs.StoreContexts.{context_on}
use Rattle.trace_line.specs.declared.line.TraceLine.{TraceLine}
use Rattle.trace_runner.specs.StoreRuns.{RanStore}
use Rattle.trace_runner.proofs.NewWorkers.{nil_of}
use Rattle.trace_runner.proofs.SectionPromises.{Promised, not_empty, together_anew, store_ran, store_cpus, store_holds, store_idle}
use Rattle.trace_runner.proofs.store_workers.run_store.Given.{Over}
use Rattle.trace_runner.proofs.store_workers.run_store.Goals as goal

pub returns-then-is_empty-clause-ran : goal.returns-then-is_empty-clause-ran
returns-then-is_empty-clause-ran g c =
    let none : c.args.lines.now ≡ [] = nil_of c.args.lines.now
    (eqb-true (length c.args.lines.now) 0 (sym c.is_empty.ensures ∙ c.if-is_empty.true)) in
    let set = context_on c.args.order c.args.around.now in
    let opening = c.args.states.items in
    let processors = c.args.cpus.items in
    let keeps = g.L.ReplyLog.keeps in
    subst
    (λ (ls : List TraceLine).
    RanStore keeps set opening processors ls opening processors c.new.result.items) (sym none)
    (subst
    (λ (logs : List g.row.L.Denot).
    RanStore keeps set opening processors [] opening processors logs)
    (sym c.new.ensures.items) (store_idle keeps set opening processors))

-- What the section promises, by the order of its table.
promised :
    (g : Over) (c : goal.After-run_together-closing g)
    → Promised g.L.ReplyLog.keeps (context_on c.in_ok-table.table.order c.args.around.now)
    c.args.states.items c.args.cpus.items c.in_ok-table.table c.args.lines.now
    c.in_ok-table.workers.items c.run_together-closing.new.cpus.items
    c.run_together-closing.new.logs.items c.run_together-closing.result.items
promised g c =
    let ran = c.run_together-closing in
    let table = c.in_ok-table.table in
    record {
      is = c.in_ok-table.ensures.opening;
      before = c.in_ok-table.ensures.before;
      some = not_empty c.args.lines.now (sym c.is_empty.ensures ∙ c.if-is_empty.false);
      on_cpus = c.requires.runnable.1;
      together =
          together_anew g.L.ReplyLog.keeps (context_on table.order c.args.around.now) table
          c.args.lines.now c.in_ok-table.workers.items c.open_section.new.cpus.items
          ran.new.cpus.items c.in_ok-logs.logs.items ran.new.logs.items ran.result.items
          c.in_ok-table.ensures.none c.in_ok-logs.ensures.items ran.ensures;
    }

pub returns-clause-ran : goal.returns-clause-ran
returns-clause-ran g c =
    let ran = c.run_together-closing in
    let table = c.in_ok-table.table in
    let keeps = g.L.ReplyLog.keeps in
    let opening = c.args.states.items in
    let processors = c.args.cpus.items in
    let lines = c.args.lines.now in
    let same = ap (λ n. context_on n c.args.around.now) c.in_ok-table.ensures.order in
    subst
    (λ set.
    RanStore keeps set opening processors lines ran.result.items ran.new.cpus.items
    ran.new.logs.items) same
    (store_ran keeps (context_on table.order c.args.around.now) opening processors table lines
    c.in_ok-table.workers.items ran.new.cpus.items ran.new.logs.items ran.result.items
    (promised g c))

pub returns-clause-size : goal.returns-clause-size
returns-clause-size g c =
    c.run_together-closing.ensures.closes.size ∙ ap length c.in_ok-table.ensures.opening

pub returns-clause-cpus : goal.returns-clause-cpus
returns-clause-cpus g c =
    let ran = c.run_together-closing in
    let table = c.in_ok-table.table in
    store_cpus g.L.ReplyLog.keeps (context_on table.order c.args.around.now) c.args.states.items
    c.args.cpus.items table c.args.lines.now c.in_ok-table.workers.items ran.new.cpus.items
    ran.new.logs.items ran.result.items (promised g c)

pub returns-clause-hold : goal.returns-clause-hold
returns-clause-hold g c =
    let ran = c.run_together-closing in
    let table = c.in_ok-table.table in
    store_holds g.L.ReplyLog.keeps (context_on table.order c.args.around.now) c.args.states.items
    c.args.cpus.items table c.args.lines.now c.in_ok-table.workers.items ran.new.cpus.items
    ran.new.logs.items ran.result.items (promised g c)
    (ap length table.lists.opening_is ∙ table.sized.size)
