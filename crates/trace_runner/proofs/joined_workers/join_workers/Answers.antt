use Rattle.std.proofs.Common.{◌≡◌, ◌∙◌, ◌++◌, sym, ap, refl, subst, arith, length, map, reverse, [], ◌∷◌}
use Rattle.std.proofs.lemmas.List.{reverse-reverse}
use Rattle.trace_runner.specs.declared.worker.Worker.{Worker}
use Rattle.trace_runner.proofs.NewWorkers.{nil_of}
use Rattle.trace_runner.proofs.JoinedWorkers.{Joining, popped_first, popped_count, joining_none, joining_more, joining_all, joining_some, map_more, room_left}
use Rattle.trace_runner.proofs.joined_workers.join_workers.Goals as goal

pub loop-init : goal.loop-init
loop-init g c =
    let ws = c.args.workers.items in
    let back : reverse c.reverse.new.self.items ≡ ws = ap reverse c.reverse.ensures.items ∙
    reverse-reverse ws in
    record {
      joining =
          subst (λ l. Joining c.args.table.now ws l _) (sym back)
          (joining_none c.args.table.now ws c.requires.passes);
      count = omega (arith, ap length back);
      cpus = ap (λ l. c.args.cpus.now.items ++ map (λ (w : Worker g.row.L.Denot). w.cpu) l) back;
      logs = ap (λ l. c.args.logs.now.items ++ map (λ (w : Worker g.row.L.Denot). w.log) l) back;
      room_for_cpus = refl;
      room_for_logs = refl;
    }

pub push_reserved-requires : goal.push_reserved-requires
push_reserved-requires g c =
    let i = c.loop.invariant in
    let w = c.unwrap-cpu.result in
    let cut = popped_first c.loop.rest.items c.pop.new.self.items c.pop.result w c.pop.ensures.items
    c.unwrap-cpu.ensures in
    let room = room_left (λ (x : Worker g.row.L.Denot). x.cpu) c.loop.cpus.items
    c.args.cpus.now.items (reverse c.loop.rest.items) (reverse c.pop.new.self.items)
    c.args.workers.items w cut i.cpus in
    omega (arith, room, i.room_for_cpus, c.loop.cpus.ok.0, c.requires.room_for_cpus)

pub push_reserved-requires-in-loop : goal.push_reserved-requires-in-loop
push_reserved-requires-in-loop g c =
    let i = c.loop.invariant in
    let w = c.unwrap-cpu.result in
    let cut = popped_first c.loop.rest.items c.pop.new.self.items c.pop.result w c.pop.ensures.items
    c.unwrap-cpu.ensures in
    let room = room_left (λ (x : Worker g.row.L.Denot). x.log) c.loop.logs.items
    c.args.logs.now.items (reverse c.loop.rest.items) (reverse c.pop.new.self.items)
    c.args.workers.items w cut i.logs in
    omega (arith, room, i.room_for_logs, c.loop.logs.ok.0, c.requires.room_for_logs)

pub unwrap-requires : goal.unwrap-requires
unwrap-requires g c =
    let i = c.loop.invariant in
    let none : c.loop.rest.items ≡ [] = nil_of c.loop.rest.items
    (omega (arith, i.count, c.loop-test.false)) in
    joining_some c.args.table.now c.args.workers.items c.loop.all c.requires.some
    (subst (λ l. Joining c.args.table.now c.args.workers.items (reverse l) c.loop.all) none
    i.joining)

pub loop-preserved : goal.loop-preserved
loop-preserved g c =
    let i = c.loop.invariant in
    let w = c.unwrap-cpu.result in
    let rest = reverse c.loop.rest.items in
    let more = reverse c.pop.new.self.items in
    let cut : rest ≡ w ∷ more = popped_first c.loop.rest.items c.pop.new.self.items c.pop.result w
    c.pop.ensures.items c.unwrap-cpu.ensures in
    record {
      joining =
          joining_more c.args.table.now c.args.workers.items rest more w c.loop.all w.pass
          c.joined-all.result cut refl c.joined-all.ensures i.joining;
      count =
          omega (
            arith,
            i.count,
            popped_count c.loop.rest.items c.pop.new.self.items c.pop.result w
                c.pop.ensures.items c.unwrap-cpu.ensures,
          );
      cpus =
          ap (λ l. l ++ map (λ (x : Worker g.row.L.Denot). x.cpu) more)
          c.push_reserved.ensures.items
          ∙ map_more (λ (x : Worker g.row.L.Denot). x.cpu) c.loop.cpus.items rest more w _ cut
          i.cpus;
      logs =
          ap (λ l. l ++ map (λ (x : Worker g.row.L.Denot). x.log) more)
          c.push_reserved-in-loop.ensures.items
          ∙ map_more (λ (x : Worker g.row.L.Denot). x.log) c.loop.logs.items rest more w _ cut
          i.logs;
      room_for_cpus = c.push_reserved.ensures.capacity ∙ i.room_for_cpus;
      room_for_logs = c.push_reserved-in-loop.ensures.capacity ∙ i.room_for_logs;
    }

pub returns-clause-all : goal.returns-clause-all
returns-clause-all g c =
    let i = c.loop.invariant in
    let none : c.loop.rest.items ≡ [] = nil_of c.loop.rest.items
    (omega (arith, i.count, c.loop-test.false)) in
    joining_all c.args.table.now c.args.workers.items c.unwrap.result
    (subst (Joining c.args.table.now c.args.workers.items []) c.unwrap.ensures
    (subst (λ l. Joining c.args.table.now c.args.workers.items (reverse l) c.loop.all) none
    i.joining))
