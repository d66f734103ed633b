use Rattle.std.proofs.Common.{◌≡◌, ◌<◌, ◌++◌, List, length, get_or, Contains, sym, ap, ◌∙◌, subst, string_bytes}
use Rattle.std.proofs.lemmas.List.Elements.{Contains-get_or}
use Rattle.trace_line.specs.declared.line.TraceLine.{TraceLine}
use Rattle.trace_reply.specs.Slots.{reply_in}
use Rattle.lpar_set.specs.declared.turn.Turn.{Turn}
use Rattle.lpar_set.specs.SetTrace.{line_of}
use Rattle.lpar_set.specs.SetRun.{SetState, member_at, set_line, replies_from}
use Rattle.lpar_set.specs.SetText.{numbered_reply, text_from}
use Rattle.lpar_set.proofs.SetSteps.{in_set}
use Rattle.lpar_set.proofs.SetRuns.{IsReady, opening_ready, may_run, turn_ready, turn_text, run_text_goes_on}
use Rattle.lpar_set.proofs.text.turns_to_text.Goals as goal

pub loop-turn-init : goal.loop-turn-init
loop-turn-init c =
    let s = c.args.set.now in
    record {
      told =
          λ i.
          c.new-out.ensures.bytes i
          ++ text_from s (c.turns-turns.ensures i)
          (replies_from s (c.requires i) (c.turns-turns.ensures i));
      ready = subst (λ (w : SetState). IsReady s w 0) (sym c.requires) (opening_ready s);
    }

pub line-requires-clause-cpu : goal.line-requires-clause-cpu
line-requires-clause-cpu c =
    let s = c.args.set.now in
    let w = c.loop-turn.members in
    let t = get_or c.turns-turns.result.now c.loop-turn.turn-index
    (record { partition = 0; line = 0 }) in
    let here = subst (λ (ts : List Turn). Contains ts t) c.turns-turns.ensures
    (Contains-get_or c.turns-turns.result.now c.loop-turn.turn-index
    (record { partition = 0; line = 0 }) c.loop-turn-test.true) in
    let may = may_run s w c.loop-turn.turn-index t c.keeps_limits.ensures
    c.loop-turn.invariant.ready here in
    subst (λ (l : TraceLine). l.cpu < length (member_at w t.partition).processors)
    (sym c.line_of-line.ensures) may.cpu

pub loop-turn-preserved : goal.loop-turn-preserved
loop-turn-preserved c =
    let s = c.args.set.now in
    let w = c.loop-turn.members in
    let turns = c.turns-turns.result.now in
    let i = c.loop-turn.turn-index in
    let t = get_or turns i (record { partition = 0; line = 0 }) in
    let here = subst (λ (ts : List Turn). Contains ts t) c.turns-turns.ensures
    (Contains-get_or turns i (record { partition = 0; line = 0 }) c.loop-turn-test.true) in
    let may = may_run s w i t c.keeps_limits.ensures c.loop-turn.invariant.ready here in
    let r = reply_in c.line.new.slot in
    let moved : in_set r c.line.new.self ≡ set_line w t.partition (line_of s t) =
    c.in_ok-line.ensures.reply
    ∙ ap (λ (l : TraceLine). set_line w t.partition l) c.line_of-line.ensures in
    let put :
    string_bytes c.put_numbered_slot.new.out
    ≡ string_bytes c.loop-turn.out ++ turn_text s t r =
    c.in_ok-put_numbered_slot.ensures
    ∙
    (λ j.
    string_bytes c.loop-turn.out
    ++ numbered_reply (c.number_of.ensures j) (c.line_of-line.ensures j) r) in
    record {
      told =
          run_text_goes_on s w c.line.new.self turns i (record { partition = 0; line = 0 }) r
          (string_bytes c.loop-turn.out) (string_bytes c.put_numbered_slot.new.out) _
          c.loop-turn-test.true moved put c.loop-turn.invariant.told;
      ready = turn_ready s w c.line.new.self i t r may c.loop-turn.invariant.ready moved;
    }
