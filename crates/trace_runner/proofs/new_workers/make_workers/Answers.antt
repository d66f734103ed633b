use Rattle.std.proofs.Common.{◌≡◌, ◌+◌, ◌∙◌, ◌++◌, sym, ap, refl, subst, suc, arith, length, [], ◌∷◌, Some, reverse, append-nil, append_assoc}
use Rattle.std.proofs.lemmas.List.{reverse-append, length-reverse, length_push}
use Rattle.run_model.specs.HeldLines.{AllHold}
use Rattle.trace_runner.specs.Workers.{processors_before, AreOwn, IsReady, IsRest, AllNumbered}
use Rattle.trace_runner.specs.DealtLines.{count_with_own}
use Rattle.trace_runner.proofs.JoinedWorkers.{popped_last, popped_count}
use Rattle.trace_runner.proofs.Numbered.{all_front, all_back}
use Rattle.trace_runner.proofs.NewWorkers.{first_rest, nil_of, hold_last, count_last}
use Rattle.trace_runner.proofs.new_workers.make_workers.Goals as goal

pub loop-init : goal.loop-init
loop-init g c =
    let table = c.args.table.now in
    let none : reverse c.in_ok-workers.workers.items ≡ [] = ap reverse c.in_ok-workers.ensures.items
    in
    record {
      rest =
          subst (λ n. IsRest table n (Some c.args.pass)) c.requires.shares
          (first_rest table c.args.pass.shares c.args.pass c.requires.some
          (record {
            of = c.requires.of;
            count = refl;
            made = c.requires.receipts;
            fronts = c.requires.fronts;
          }));
      hold = c.requires.hold;
      count = omega arith;
      left = omega (arith, c.requires.size);
      room = refl;
      size = ap length c.in_ok-workers.ensures.items;
      before =
          ap (λ l. c.args.cpus.now.items ++ processors_before l) none
          ∙ append-nil c.args.cpus.now.items;
      ready = λ set lines dealt. (
        dealt,
        subst
            (λ l.
            AllNumbered (λ j w. IsReady g.L.ReplyLog.keeps g.L.ReplyLog.room set table j lines w)
            (length c.args.dealt.items) l) (sym none) tt,
      );
    }

pub next_worker-requires-clause-hold : goal.next_worker-requires-clause-hold
next_worker-requires-clause-hold g c κs within =
    let cut = popped_last c.loop.cpus.items c.pop.new.self.items c.pop.result c.unwrap-cpu.result
    c.pop.ensures.items c.unwrap-cpu.ensures in
    (hold_last _ c.pop.new.self.items c.unwrap-cpu.result
    (subst (AllHold c.args.table.now.opening.items) cut c.loop.invariant.hold)).1

pub next_worker-requires-clause-rest : goal.next_worker-requires-clause-rest
next_worker-requires-clause-rest g c κs within =
    let left = popped_last c.loop.left.items c.pop-in-loop.new.self.items c.pop-in-loop.result
    c.unwrap-own.result c.pop-in-loop.ensures.items c.unwrap-own.ensures in (
      count_with_own c.pop-in-loop.new.self.items,
      subst (λ n. IsRest c.args.table.now n c.loop.rest)
          (ap count_with_own left ∙ count_last c.pop-in-loop.new.self.items c.unwrap-own.result)
          c.loop.invariant.rest,
    )

pub loop-preserved : goal.loop-preserved
loop-preserved g c =
    let i = c.loop.invariant in
    let table = c.args.table.now in
    let w = c.in_ok-worker.worker in
    let k = c.in_ok-worker.ensures in
    let x = c.unwrap-cpu.result in
    let own = c.unwrap-own.result in
    let cut = popped_last c.loop.cpus.items c.pop.new.self.items c.pop.result x c.pop.ensures.items
    c.unwrap-cpu.ensures in
    let left = popped_last c.loop.left.items c.pop-in-loop.new.self.items c.pop-in-loop.result own
    c.pop-in-loop.ensures.items c.unwrap-own.ensures in
    let made = ap reverse c.in_ok-push.ensures.items ∙ reverse-append c.loop.workers.items (w ∷ [])
    in
    record {
      rest =
          k.rest (count_with_own c.pop-in-loop.new.self.items)
          (subst (λ n. IsRest table n c.loop.rest)
          (ap count_with_own left ∙ count_last c.pop-in-loop.new.self.items own) i.rest);
      hold =
          (hold_last _ c.pop.new.self.items x (subst (AllHold table.opening.items) cut i.hold)).0;
      count =
          omega (
            arith,
            i.count,
            popped_count c.loop.cpus.items c.pop.new.self.items c.pop.result x
                c.pop.ensures.items c.unwrap-cpu.ensures,
          );
      left =
          omega (
            arith,
            i.left,
            popped_count c.loop.left.items c.pop-in-loop.new.self.items c.pop-in-loop.result own
                c.pop-in-loop.ensures.items c.unwrap-own.ensures,
          );
      room = c.pop.ensures.capacity ∙ i.room;
      size =
          ap length c.in_ok-push.ensures.items
          ∙ length_push c.loop.workers.items w
          ∙ ap (λ n. n + 1) i.size;
      before = ap (λ l. c.pop.new.self.items ++ processors_before l) made
          ∙ ap (λ y. c.pop.new.self.items ++ y ∷ processors_before (reverse c.loop.workers.items))
          k.before
          ∙ sym
          (append_assoc c.pop.new.self.items (x ∷ [])
          (processors_before (reverse c.loop.workers.items)))
          ∙ ap (λ l. l ++ processors_before (reverse c.loop.workers.items)) (sym cut) ∙ i.before;
      ready = λ set lines dealt.
          let h = i.ready set lines dealt in
          let lists = subst (AllNumbered (λ cpu own. AreOwn lines cpu own.items) 0) left h.0 in
          let at = length c.pop-in-loop.new.self.items in
          let mine =
          (all_back (λ cpu own. AreOwn lines cpu own.items) 0 at c.pop-in-loop.new.self.items
          (own ∷ []) (omega arith) lists).0 in
          let next : length c.loop.left.items ≡ suc at = omega (
            arith,
            popped_count c.loop.left.items c.pop-in-loop.new.self.items c.pop-in-loop.result own
                c.pop-in-loop.ensures.items c.unwrap-own.ensures,
          ) in (
            all_front (λ cpu own. AreOwn lines cpu own.items) 0 c.pop-in-loop.new.self.items
                (own ∷ []) lists,
            subst
                (λ l.
                AllNumbered
                (λ j y. IsReady g.L.ReplyLog.keeps g.L.ReplyLog.room set table j lines y) at l)
                (sym made) (
                  k.ready set at lines mine,
                  subst
                      (λ n.
                      AllNumbered
                      (λ j y. IsReady g.L.ReplyLog.keeps g.L.ReplyLog.room set table j lines y)
                      n (reverse c.loop.workers.items)) next h.1,
                ),
          );
    }

pub returns-clause-ready : goal.returns-clause-ready
returns-clause-ready g c set lines dealt =
    let zero_left : length c.loop.left.items ≡ 0 = omega
    (arith, c.loop.invariant.left, c.loop-test.false) in
    subst
    (AllNumbered
    (λ j y. IsReady g.L.ReplyLog.keeps g.L.ReplyLog.room set c.args.table.now j lines y) 0)
    (sym c.reverse.ensures.items)
    (subst
    (λ n.
    AllNumbered
    (λ j y. IsReady g.L.ReplyLog.keeps g.L.ReplyLog.room set c.args.table.now j lines y) n
    (reverse c.loop.workers.items)) zero_left (c.loop.invariant.ready set lines dealt).1)

pub returns-clause-before : goal.returns-clause-before
returns-clause-before g c =
    let none : c.loop.cpus.items ≡ [] = nil_of c.loop.cpus.items
    (omega (arith, c.loop.invariant.count, c.loop-test.false)) in
    ap processors_before c.reverse.ensures.items
    ∙ ap (λ l. l ++ processors_before (reverse c.loop.workers.items)) (sym none)
    ∙ c.loop.invariant.before

pub returns-clause-room : goal.returns-clause-room
returns-clause-room g c =
    omega (
      arith,
      ap length c.reverse.ensures.items,
      length-reverse c.loop.workers.items,
      c.loop.invariant.size,
      c.loop.invariant.room,
      c.args.cpus.now.ok.0,
      c.args.cpus.now.ok.1,
    )
