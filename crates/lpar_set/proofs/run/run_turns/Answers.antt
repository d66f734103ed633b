use Rattle.std.proofs.Common.{◌≡◌, ◌+◌, ◌<◌, ◌++◌, [], ◌∷◌, List, length, get_or, drop, Contains, sym, ap, ◌∙◌, subst, arith}
use Rattle.std.proofs.lemmas.List.{length-append}
use Rattle.std.proofs.lemmas.Grind.{common_steps}
use Rattle.std.proofs.lemmas.List.Elements.{Contains-get_or}
use Rattle.trace_line.specs.declared.line.TraceLine.{TraceLine}
use Rattle.trace_reply.specs.declared.reply.Reply.{Reply}
use Rattle.lpar_set.specs.declared.turn.Turn.{Turn}
use Rattle.lpar_set.specs.SetTrace.{line_of}
use Rattle.lpar_set.specs.SetRun.{SetState, member_at, set_line, replies_from}
use Rattle.lpar_set.proofs.SetSteps.{in_set}
use Rattle.lpar_set.proofs.SetRuns.{IsReady, opening_ready, may_run, turn_ready, replies_go_on}
use Rattle.lpar_set.proofs.run.run_turns.Goals as goal

pub loop-turn-init : goal.loop-turn-init
loop-turn-init c =
    let s = c.args.set.now in
    let none : c.reserve.new.self.items ≡ [] = c.in_ok-reserve.ensures.same ∙
    c.new-replies.ensures.none in
    record {
      told = λ i. none i ++ replies_from s (c.requires i) (c.turns-turns.ensures i);
      count = ap length none;
      room = grind (arith, common_steps);
      ready = subst (λ (w : SetState). IsReady s w 0) (sym c.requires) (opening_ready s);
    }

pub line-requires-clause-cpu : goal.line-requires-clause-cpu
line-requires-clause-cpu c =
    let s = c.args.set.now in
    let w = c.loop-turn.members in
    let t = get_or c.turns-turns.result.now c.loop-turn.turn-index
    (record { partition = 0; line = 0 }) in
    let here = subst (λ (ts : List Turn). Contains ts t) c.turns-turns.ensures
    (Contains-get_or c.turns-turns.result.now c.loop-turn.turn-index
    (record { partition = 0; line = 0 }) c.loop-turn-test.true) in
    let may = may_run s w c.loop-turn.turn-index t c.keeps_limits.ensures
    c.loop-turn.invariant.ready here in
    subst (λ (l : TraceLine). l.cpu < length (member_at w t.partition).processors)
    (sym c.line_of.ensures) may.cpu

pub loop-turn-preserved : goal.loop-turn-preserved
loop-turn-preserved c =
    let s = c.args.set.now in
    let w = c.loop-turn.members in
    let turns = c.turns-turns.result.now in
    let i = c.loop-turn.turn-index in
    let t = get_or turns i (record { partition = 0; line = 0 }) in
    let here = subst (λ (ts : List Turn). Contains ts t) c.turns-turns.ensures
    (Contains-get_or turns i (record { partition = 0; line = 0 }) c.loop-turn-test.true) in
    let may = may_run s w i t c.keeps_limits.ensures c.loop-turn.invariant.ready here in
    let moved : in_set c.into_reply.result c.line.new.self ≡ set_line w t.partition (line_of s t) =
    ap (λ (r : Reply). in_set r c.line.new.self) c.into_reply.ensures
    ∙ c.in_ok-line.ensures.reply
    ∙ ap (λ (l : TraceLine). set_line w t.partition l) c.line_of.ensures in
    let pushed = c.in_ok-push.ensures.ok in
    let long = ap length pushed ∙ length-append c.loop-turn.replies.items (c.into_reply.result ∷ [])
    in
    let room = c.in_ok-push.ensures.room
    (omega (arith, c.loop-turn.invariant.room, c.loop-turn-test.true)) in
    record {
      told =
          ap (λ (rs : List Reply). rs ++ replies_from s c.line.new.self (drop (i + 1) turns)) pushed
          ∙ replies_go_on s w c.line.new.self turns i (record { partition = 0; line = 0 })
          c.into_reply.result c.loop-turn.replies.items _ c.loop-turn-test.true moved
          c.loop-turn.invariant.told;
      count = omega (arith, long, c.loop-turn.invariant.count);
      room = omega (arith, room.1, c.loop-turn.invariant.room, c.loop-turn-test.true);
      ready =
          turn_ready s w c.line.new.self i t c.into_reply.result may c.loop-turn.invariant.ready
          moved;
    }
