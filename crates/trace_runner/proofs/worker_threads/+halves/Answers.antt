use Rattle.std.proofs.Common.{arith, ◌≡◌, ◌+◌, ◌/◌, length, sym, ◌∙◌, false}
use Rattle.std.specs.List.{list_any}
use Rattle.run_model.specs.StoreContexts.{context_on}
use denote.Param.Send.{sendable, param_send}
use Rattle.entry_lock.proofs.table.LockTable.TheSendSync as lock_table
use Rattle.run_model.proofs.surroundings.Surroundings.TheSendSync as surroundings
use Rattle.trace_line.proofs.line.TraceLine.TheSendSync as trace_line
use Rattle.trace_runner.proofs.worker_threads.+halves.Lts-both_halves as lts
use Rattle.trace_runner.proofs.WorkerSend.{worker_send}
use Rattle.trace_runner.proofs.WorkerGroups.{has_pass, ready_front, ready_back, runs_idle, runs_both}
use Rattle.trace_runner.proofs.worker_threads.+halves.Goals as goal

pub run_from-run_from-requires-clause-ready : goal.run_from-run_from-requires-clause-ready
run_from-run_from-requires-clause-ready g t c κs within =
    let cut = c.split_at_mut-front in
    let some = c.requires.ready.some in
    ready_back g.L.ReplyLog.keeps g.L.ReplyLog.room
    (context_on c.args.table.now.order c.args.around.now) c.args.table.now c.args.lines.now
    c.args.first (c.args.first + length c.args.workers.now / 2) c.args.workers.now
    cut.result.0.now cut.result.1.now
    cut.ensures.value (omega (arith, cut.ensures.front_len))
    (omega (arith, some, cut.ensures.back_len)) c.requires.ready

pub run_from-run_from-requires-then-not-any_has_pass-2-clause-ready :
    goal.run_from-run_from-requires-then-not-any_has_pass-2-clause-ready
run_from-run_from-requires-then-not-any_has_pass-2-clause-ready g t c κs within =
    let cut = c.split_at_mut-front in
    let some = c.requires.ready.some in
    ready_front g.L.ReplyLog.keeps g.L.ReplyLog.room
    (context_on c.args.table.now.order c.args.around.now) c.args.table.now c.args.lines.now
    c.args.first c.args.workers.now cut.result.0.now cut.result.1.now
    cut.ensures.value (omega (arith, some, cut.ensures.front_len, c.if-workers-eq1.false))
    c.requires.ready

pub run_from-both_halves-requires-clause-front : goal.run_from-both_halves-requires-clause-front
run_from-both_halves-requires-clause-front g t c κs within =
    let cut = c.split_at_mut-front in
    let some = c.requires.ready.some in
    ready_front g.L.ReplyLog.keeps g.L.ReplyLog.room
    (context_on c.args.table.now.order c.args.around.now) c.args.table.now c.args.lines.now
    c.args.first c.args.workers.now cut.result.0.now cut.result.1.now
    cut.ensures.value (omega (arith, some, cut.ensures.front_len, c.if-workers-eq1.false))
    c.requires.ready

pub run_from-both_halves-requires-clause-back : goal.run_from-both_halves-requires-clause-back
run_from-both_halves-requires-clause-back g t c κs within =
    let cut = c.split_at_mut-front in
    let some = c.requires.ready.some in
    ready_back g.L.ReplyLog.keeps g.L.ReplyLog.room
    (context_on c.args.table.now.order c.args.around.now) c.args.table.now c.args.lines.now
    c.args.first (c.args.first + length c.args.workers.now / 2) c.args.workers.now
    cut.result.0.now cut.result.1.now
    cut.ensures.value (omega (arith, cut.ensures.front_len))
    (omega (arith, some, cut.ensures.back_len)) c.requires.ready

pub run_from-returns-then-not-any_has_pass : goal.run_from-returns-then-not-any_has_pass
run_from-returns-then-not-any_has_pass g t c =
    let cut = c.split_at_mut-front in
    let some = c.requires.ready.some in
    let set = context_on c.args.table.now.order c.args.around.now in
    let none : list_any has_pass cut.result.0.now ≡ false = sym c.any_has_pass.ensures ∙
    c.if-not-any_has_pass.true in
    let ready =
    ready_front g.L.ReplyLog.keeps g.L.ReplyLog.room set c.args.table.now c.args.lines.now
    c.args.first c.args.workers.now cut.result.0.now cut.result.1.now
    cut.ensures.value (omega (arith, some, cut.ensures.front_len, c.if-workers-eq1.false))
    c.requires.ready in
    runs_both g.L.ReplyLog.keeps g.L.ReplyLog.room set c.args.table.now c.args.lines.now
    c.args.first (c.args.first + length c.args.workers.now / 2) c.args.workers.now
    cut.result.0.now cut.result.1.now _ _
    cut.ensures.value (omega (arith, cut.ensures.front_len))
    (runs_idle g.L.ReplyLog.keeps g.L.ReplyLog.room set c.args.table.now c.args.lines.now
    c.args.first cut.result.0.now none ready) c.run_from.ensures

pub run_from-returns-then-not-any_has_pass-2 : goal.run_from-returns-then-not-any_has_pass-2
run_from-returns-then-not-any_has_pass-2 g t c =
    let cut = c.split_at_mut-front in
    let some = c.requires.ready.some in
    let set = context_on c.args.table.now.order c.args.around.now in
    let none : list_any has_pass cut.result.1.now ≡ false = sym
    c.any_has_pass-else-not-any_has_pass.ensures ∙ c.if-not-any_has_pass-2.true in
    let ready =
    ready_back g.L.ReplyLog.keeps g.L.ReplyLog.room set c.args.table.now c.args.lines.now
    c.args.first (c.args.first + length c.args.workers.now / 2) c.args.workers.now
    cut.result.0.now cut.result.1.now
    cut.ensures.value (omega (arith, cut.ensures.front_len))
    (omega (arith, some, cut.ensures.back_len)) c.requires.ready in
    runs_both g.L.ReplyLog.keeps g.L.ReplyLog.room set c.args.table.now c.args.lines.now
    c.args.first (c.args.first + length c.args.workers.now / 2) c.args.workers.now
    cut.result.0.now cut.result.1.now _ _
    cut.ensures.value (omega (arith, cut.ensures.front_len))
    c.run_from-then-not-any_has_pass-2.ensures
    (runs_idle g.L.ReplyLog.keeps g.L.ReplyLog.room set c.args.table.now c.args.lines.now
    (c.args.first + length c.args.workers.now / 2) cut.result.1.now none ready)

pub run_from-returns-else-not-any_has_pass-2 : goal.run_from-returns-else-not-any_has_pass-2
run_from-returns-else-not-any_has_pass-2 g t c =
    let cut = c.split_at_mut-front in
    let set = context_on c.args.table.now.order c.args.around.now in
    runs_both g.L.ReplyLog.keeps g.L.ReplyLog.room set c.args.table.now c.args.lines.now
    c.args.first (c.args.first + length c.args.workers.now / 2) c.args.workers.now
    cut.result.0.now cut.result.1.now _ _
    cut.ensures.value (omega (arith, cut.ensures.front_len)) c.both_halves.ensures.front
    c.both_halves.ensures.back

pub both_halves-join_mut-requires-send-F : goal.both_halves-join_mut-requires-send-F
both_halves-join_mut-requires-send-F g t c κs within =
    param_send 1
    (lts.arg-0-1 g.row.R g.row.G g.row.L g.R.laws g.G.laws g.L.laws g.R.Threads-dict
    g.R.Wait-dict g.G.Gate-dict g.L.ReplyLog-dict κs)
    (search (sendable, worker_send, lock_table.the_sync, surroundings.the_sync, trace_line.the_sync)
    depth 20)
