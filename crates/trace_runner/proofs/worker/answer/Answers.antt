use Rattle.std.proofs.Common.{◌≡◌, ◌-◌, ◌^◌, ◌∙◌, sym, subst, length}
use Rattle.tlb_model.specs.Cache.{AllCached}
use Rattle.entry_lock.specs.declared.table.LockTable.{LockTable}
use Rattle.entry_lock.specs.declared.table.Pass.{Pass}
use Rattle.entry_lock.specs.PassOfTable.{view_of}
use Rattle.trace_reply.specs.Replies.{receipts_in}
use Rattle.trace_reply.specs.Slots.{reply_in}
use Rattle.run_model.specs.ParallelRun.{WorksLine}
use Rattle.run_model.specs.StoreContexts.{context_on}
use Rattle.trace_runner.specs.Workers.{replied_line, IsSeenBy}
use Rattle.trace_runner.proofs.WorkSteps.{line_works, kept_size}
use Rattle.trace_runner.proofs.worker.answer.Goals as goal

pub run_act-requires-clause-seen : goal.run_act-requires-clause-seen
run_act-requires-clause-seen g c =
    subst (λ (z : LockTable × Pass). AllCached (IsSeenBy z.0 z.1) c.args.cpu.now.cache)
    (λ j. (sym c.new.ensures.1 j, sym c.new.ensures.0 j)) c.requires.seen

pub returns-clause-line : goal.returns-clause-line
returns-clause-line g c =
    let e = c.new.ensures in
    let a = c.new.result in
    let b = c.run_act.new.store.store in
    let size : length (view_of a.pass).fronts ≡ 2 ^ (a.table.now.order - 4) = subst
    (λ (z : LockTable × Pass). length (view_of z.1).fronts ≡ 2 ^ (z.0.order - 4))
    (λ j. (sym e.1 j, sym e.0 j)) c.requires.size in
    let k = c.run_act.ensures in
    (subst
    (λ (z : LockTable × (Pass × Pass)).
    WorksLine (context_on z.0.order c.args.around.now) (view_of z.1.0).fronts c.args.cpu.now
    (replied_line c.args.line.now (reply_in c.run_act.new.slot)) (view_of z.1.1).fronts)
    (λ j. (e.1 j, (e.0 j, sym c.into_pass.ensures j)))
    (line_works a.table.now c.args.around.now c.args.line.now c.args.cpu.now a.pass b.pass
    (reply_in c.run_act.new.slot) k.made.0 size k.call k.access k.comes_later k.gone))

pub returns-clause-size : goal.returns-clause-size
returns-clause-size g c =
    let e = c.new.ensures in
    let size : length (view_of c.new.result.pass).fronts ≡ 2 ^ (c.args.table.now.order - 4) = subst
    (λ (z : Pass). length (view_of z).fronts ≡ 2 ^ (c.args.table.now.order - 4)) (sym e.0)
    c.requires.size in
    rw c.into_pass.ensures
    (kept_size (view_of c.new.result.pass).fronts
    (view_of c.run_act.new.store.store.pass).fronts
    (receipts_in (reply_in c.run_act.new.slot)) _ c.run_act.ensures.made.0.made.fronts
    size)

pub returns-clause-seen : goal.returns-clause-seen
returns-clause-seen g c =
    let k = c.run_act.ensures in
    subst (λ (z : LockTable × Pass). AllCached (IsSeenBy z.0 z.1) c.run_act.new.cpu.cache)
    (λ j. ((k.made.1 ∙ c.new.ensures.1) j, sym c.into_pass.ensures j)) k.seen
