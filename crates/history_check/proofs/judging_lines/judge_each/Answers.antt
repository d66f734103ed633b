use Rattle.std.proofs.Common.{◌≡◌, ◌<◌, ◌∙◌, List, [], ◌∷◌, false, ap, sym, refl, subst, length, get_or, ◌+◌, arith}
use Rattle.std.proofs.lemmas.Grind.{common_steps}
use Rattle.basics.proofs.Each.{each_within}
use Rattle.trace_line.specs.declared.line.TraceLine.{TraceLine}
use Rattle.trace_line.specs.Lines.{is_quiet, past_lines}
use Rattle.entry_model.specs.State.{State}
use Rattle.history_check.specs.FrontKeeping.{fronts_of}
use Rattle.history_check.proofs.SectionSteps.{all_left}
use Rattle.history_check.proofs.SectionLoop.{Left, text_first, text_on, step_left, none_left, few_left, end_left, over_left}
use Rattle.history_check.proofs.judging_lines.judge_each.Goals as goal

pub loop-i-init : goal.loop-i-init
loop-i-init c = record {
  left =
      all_left c.args.context.now c.args.closing.now c.args.lines.now c.args.counts.now
      c.args.found.now c.args.processors.now.items
      (fronts_of c.args.fronts.now.items c.args.opening.now) c.args.given.now;
  processors = refl;
  fronts = c.requires.fronts;
  within = omega arith;
  text = text_first c.args.given.now;
}

pub judge_next-requires-clause-plain : goal.judge_next-requires-clause-plain
judge_next-requires-clause-plain c =
    each_within (λ (l : TraceLine). is_quiet l.act ≡ false) c.args.lines.now c.loop-i.i _
    c.requires.plain c.loop-i-test.true

pub judge_next-requires-clause-cpu : goal.judge_next-requires-clause-cpu
judge_next-requires-clause-cpu c =
    subst (λ n. (get_or c.args.lines.now c.loop-i.i past_lines).cpu < n)
    (sym c.loop-i.invariant.processors)
    (each_within (λ (l : TraceLine). l.cpu < length c.args.processors.now.items) c.args.lines.now
    c.loop-i.i past_lines c.requires.cpus c.loop-i-test.true)

pub returns-then-count-states-clause-told : goal.returns-then-count-states-clause-told
returns-then-count-states-clause-told c =
    few_left _ _ _ _ _ _ _ _ _ _ _ _ _ c.loop-i.invariant.left
    (get_or c.args.lines.now c.loop-i.i past_lines) past_lines
    (get_or c.args.counts.now c.loop-i.i 0)
    c.loop-i.processors.items (omega arith) (omega arith) refl refl c.if-count-states.true

pub returns-in_default-clause-told : goal.returns-in_default-clause-told
returns-in_default-clause-told c =
    let none = rw c.in_default.is at c.in_ok-told.ensures.told in
    none_left _ _ _ _ _ _ _ _ _ _ _ _ _ c.loop-i.invariant.left
    (get_or c.args.lines.now c.loop-i.i past_lines) past_lines
    (get_or c.args.counts.now c.loop-i.i 0)
    c.split_at.result.0.now c.judge_next.new.processors.items c.judge_next.new.processors.items
    (fronts_of c.judge_next.new.fronts.items c.args.opening.now) (omega arith) (omega arith)
    refl refl c.split_at.ensures.front none

pub loop-i-preserved : goal.loop-i-preserved
loop-i-preserved c =
    let l = get_or c.args.lines.now c.loop-i.i past_lines in
    let cpu : l.cpu < length c.loop-i.processors.items = subst (λ n. l.cpu < n)
    (sym c.loop-i.invariant.processors)
    (each_within (λ (l : TraceLine). l.cpu < length c.args.processors.now.items) c.args.lines.now
    c.loop-i.i past_lines c.requires.cpus c.loop-i-test.true) in
    let plain : is_quiet l.act ≡ false = each_within (λ (l : TraceLine). is_quiet l.act ≡ false)
    c.args.lines.now c.loop-i.i past_lines c.requires.plain c.loop-i-test.true in
    let told = rw c.in-Some.is at c.in_ok-told.ensures.told in
    let left = step_left _ _ _ _ _ _ _ _ _ _ _ _ _ c.loop-i.invariant.left l past_lines
    (get_or c.args.counts.now c.loop-i.i 0) c.in-Some.bytes c.split_at.result.0.now
    c.split_at.result.1.now c.judge_next.new.processors.items
    (fronts_of c.judge_next.new.fronts.items c.args.opening.now) (omega arith) (omega arith)
    refl refl plain cpu c.if-count-states.false c.split_at.ensures.front c.split_at.ensures.back
    told in
    let text = text_on c.args.given.now c.loop-i.text.now c.split_at-in-loop-i.result.1.now
    c.in-Some.bytes c.loop-i.invariant.text c.loop-i.invariant.within told.0.within
    c.split_at-in-loop-i.ensures.back in
    record {
      left =
          subst
          (λ z.
          Left c.args.context.now c.args.closing.now c.args.lines.now c.args.counts.now
          (c.loop-i.i + 1) c.args.found.now c.split_at.result.1.now
          c.args.processors.now.items c.judge_next.new.processors.items
          (fronts_of c.args.fronts.now.items c.args.opening.now)
          (fronts_of c.judge_next.new.fronts.items c.args.opening.now) c.args.given.now z)
          (sym c.split_at-in-loop-i.ensures.back) left;
      processors = c.in_ok-told.ensures.processors ∙ c.loop-i.invariant.processors;
      fronts =
          c.in_ok-told.ensures.fronts
          ∙ c.loop-i.invariant.fronts
          ∙ sym c.in_ok-told.ensures.processors;
      within = text.0;
      text = text.1;
    }

no_state : (ss : List State) → length ss ≡ 0 → ss ≡ []
no_state [] e = refl
no_state (s ∷ ss) e = absurd (omega arith)

pub returns-then-is_empty-clause-told : goal.returns-then-is_empty-clause-told
returns-then-is_empty-clause-told c =
    let none : c.loop-i.states.now ≡ [] = no_state c.loop-i.states.now (grind (arith, common_steps))
    in
    end_left _ _ _ _ _ _ _ _ _ _ _ _ _ c.loop-i.invariant.left (omega arith) (omega arith) none
    c.loop-i.invariant.within c.loop-i.invariant.text

some_state : (ss : List State) → (length ss ≡ 0 → ⊥) → ss ≡ [] → ⊥
some_state ss some e = some (ap length e)

pub returns-clause-told : goal.returns-clause-told
returns-clause-told c =
    over_left _ _ _ _ _ _ _ _ _ _ _ _ _ c.loop-i.invariant.left c.loop-i.processors.items
    (omega arith) (omega arith) (some_state c.loop-i.states.now (grind (arith, common_steps)))
