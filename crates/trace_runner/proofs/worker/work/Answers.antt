use Rattle.std.specs.Prelude.{IsSomeAnd}
use Rattle.std.proofs.Common.{◌≡◌, ◌∙◌, ◌++◌, ◌<◌, [], ◌∷◌, sym, refl, subst, ap, take, get_or, eqb, true, arith, length, inr, Option, Some}
use Rattle.std.proofs.lemmas.List.{take_more, take_all, get_or_read}
use Rattle.entry_lock.specs.declared.table.Pass.{Pass}
use Rattle.run_model.specs.StoreContexts.{context_on}
use Rattle.trace_line.specs.declared.line.TraceLine.{TraceLine}
use Rattle.trace_reply.specs.Slots.{reply_in}
use Rattle.trace_runner.specs.Workers.{HasRun, lines_of_cpu}
use Rattle.trace_runner.proofs.DealtLines.{line_at, as_many, all_own, own_of_own}
use Rattle.trace_runner.proofs.WorkSteps.{Ran, own_run, same_run, has_start}
use Rattle.trace_runner.proofs.worker.work.Goals as goal
use Rattle.basics.proofs.Each.{each_within}
use Rattle.trace_line.specs.Lines.{past_lines}

pub loop-i-init : goal.loop-i-init
loop-i-init g c =
    let n = c.args.number in
    let set = context_on c.args.table.now.order c.args.around.now in
    let w = c.args.worker.now in
    let has : w.pass ≡ Some c.in-Some.pass = sym c.take.ensures.value ∙ c.in-Some.is in
    let start = has_start g.L.ReplyLog.keeps g.L.ReplyLog.room set c.args.table.now n
    c.args.lines.now w c.in-Some.pass has c.requires.ready in
    record {
      own = start.own;
      count = refl;
      replies = [];
      kept = start.none;
      run =
          same_run set c.args.table.now n [] [] [] w _ c.in-Some.pass refl refl refl
          (subst (λ (o : Option Pass). IsSomeAnd o (HasRun set c.args.table.now n [] [] w)) has
          start.fresh);
      room = omega (arith, start.room);
      before = refl;
    }

pub bounds-lines-index : goal.bounds-lines-index
bounds-lines-index g c =
    let i = c.loop-i.invariant in
    let own = c.loop-i.worker.own.items in
    let within : c.loop-i.i < length own = omega (arith, c.loop-i-test.true, i.count) in
    subst (λ m. m < length c.args.lines.now)
    (sym (get_or_read own c.loop-i.i _ within c.index-index.ensures 0))
    (each_within (λ m. m < length c.args.lines.now) own c.loop-i.i 0 i.own.inside within)

pub keep-requires-clause-room : goal.keep-requires-clause-room
keep-requires-clause-room g c =
    let i = c.loop-i.invariant in
    let count = as_many c.args.lines.now c.loop-i.worker.own.items
    (lines_of_cpu c.args.number c.args.lines.now) i.own in
    omega (arith, c.loop-i-test.true, count, i.count, i.room)

pub loop-i-preserved : goal.loop-i-preserved
loop-i-preserved g c =
    let i = c.loop-i.invariant in
    let n = c.args.number in
    let lines = c.args.lines.now in
    let mine = lines_of_cpu n lines in
    let own = c.loop-i.worker.own.items in
    let k = c.loop-i.i in
    let keeps = g.L.ReplyLog.keeps in
    let set = context_on c.args.table.now.order c.args.around.now in
    let inside : k < length own = omega (arith, c.loop-i-test.true, i.count) in
    let within : k < length mine = omega (arith, inside, as_many lines own mine i.own) in
    let is :
    get_or mine k past_lines ≡ get_or lines c.index-index.result.now past_lines =
    line_at lines own
    mine k past_lines inside i.own ∙ ap (λ m. get_or lines m past_lines)
    (sym (get_or_read own k _ inside c.index-index.ensures 0)) in
    let of_cpu : eqb (get_or mine k past_lines).cpu n ≡ true = each_within
    (λ (l : TraceLine). eqb l.cpu n ≡ true) mine k past_lines (all_own n lines) within in
    let e = c.answer-pass.ensures in
    let r = reply_in c.answer-pass.new.slot in
    let ran : Ran set c.args.table.now (get_or lines c.index-index.result.now past_lines)
    c.loop-i.worker.cpu c.answer-pass.new.cpu c.loop-i.pass c.answer-pass.result r = record {
      of = e.of;
      share = e.share;
      made = e.made;
      line = e.line;
      size = e.size;
      kind = e.kind;
      place = e.processor;
      seen = e.seen;
    } in
    record {
      own = i.own;
      count = i.count;
      replies = i.replies ++ r ∷ [];
      kept =
          subst (λ ls. keeps c.keep.new.self ls (i.replies ++ r ∷ []))
          (sym (take_more mine k past_lines within))
          (subst (λ l. keeps c.keep.new.self (take k mine ++ l ∷ []) (i.replies ++ r ∷ []))
          (sym is) (c.keep.ensures.kept (take k mine) i.replies i.kept));
      run =
          own_run set c.args.table.now n mine k past_lines i.replies (i.replies ++ r ∷ [])
          c.loop-i.worker
          _ c.loop-i.pass c.answer-pass.result r within of_cpu i.run refl refl
          (subst
          (λ l.
          Ran set c.args.table.now l c.loop-i.worker.cpu c.answer-pass.new.cpu c.loop-i.pass
          c.answer-pass.result r) (sym is) ran);
      room = omega (arith, i.room, c.keep.ensures.room);
      before = i.before;
    }

pub returns-clause-done : goal.returns-clause-done
returns-clause-done g c =
    let i = c.loop-i.invariant in
    let n = c.args.number in
    let lines = c.args.lines.now in
    let mine = lines_of_cpu n lines in
    let set = context_on c.args.table.now.order c.args.around.now in
    let w = c.args.worker.now in
    let has : w.pass ≡ Some c.in-Some.pass = sym c.take.ensures.value ∙ c.in-Some.is in
    let start = has_start g.L.ReplyLog.keeps g.L.ReplyLog.room set c.args.table.now n lines w
    c.in-Some.pass has c.requires.ready in
    let count = as_many lines c.loop-i.worker.own.items mine i.own in
    let all : take c.loop-i.i mine ≡ mine = take_all c.loop-i.i mine
    (omega (arith, c.loop-i-test.false, count, i.count)) in
    inr (record {
      some = start.some;
      replies = i.replies;
      kept = subst (λ ls. g.L.ReplyLog.keeps c.loop-i.worker.log ls i.replies) all i.kept;
      run =
          same_run set c.args.table.now n mine lines i.replies c.loop-i.worker _ c.loop-i.pass
          (own_of_own n lines) refl refl
          (subst
          (λ ls. HasRun set c.args.table.now n ls i.replies c.loop-i.worker c.loop-i.pass)
          all i.run);
    })
