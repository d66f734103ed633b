use Rattle.std.proofs.Common.{◌≡◌, length, arith, sym, ◌∙◌}
use Rattle.std.proofs.lemmas.Grind.{common_steps}
use Rattle.history_check.specs.FoundSection.{Opening}
use Rattle.history_check.proofs.SectionTold.{IsOpening, HasSteps, lines_told, marks_has_not}
use Rattle.history_check.proofs.section.section_found.Goals as goal

pub returns-in_default-clause-told : goal.returns-in_default-clause-told
returns-in_default-clause-told c =
    let o : Opening = record {
      context = c.args.context.now;
      states = c.args.states.now.items;
      processors = c.args.processors.now.items;
    } in
    let is : IsOpening o c.args.lines.now = record {
      plain = c.requires.plain;
      cpus = c.requires.cpus;
      few = c.requires.few;
      low = rw c.deref.ensures.value at c.in_ok-opening.ensures.low;
    } in
    marks_has_not o c.args.lines.now c.args.text.now is
    (let none = rw c.in_default.is at c.in_ok-read.ensures.none in
    let size : c.len.result ≡ length c.args.states.now.items = grind (arith, common_steps) in
    rw size at none)

pub returns-clause-told : goal.returns-clause-told
returns-clause-told c =
    let o : Opening = record {
      context = c.args.context.now;
      states = c.args.states.now.items;
      processors = c.args.processors.now.items;
    } in
    let is : IsOpening o c.args.lines.now = record {
      plain = c.requires.plain;
      cpus = c.requires.cpus;
      few = c.requires.few;
      low = rw c.deref.ensures.value at c.in_ok-opening.ensures.low;
    } in
    let size : c.len.result ≡ length c.args.states.now.items = grind (arith, common_steps) in
    let has : HasSteps o c.args.lines.now c.args.text.now c.in-Some.read.steps.items
    c.as_slice-3.result.now c.in_ok-found.found.items c.find_states.new.states.items = record {
      read =
          rw (sym size)
          (rw c.as_slice-3.ensures.value (rw c.in-Some.is at c.in_ok-read.ensures.some));
      find = c.in_ok-found.ensures.found;
    } in
    let pairs = rw c.deref.ensures.value at c.in_ok-opening.ensures.pairs in
    lines_told o c.args.lines.now c.args.text.now c.in-Some.read.steps.items c.as_slice-3.result.now
    c.as_slice.result.now c.in_ok-found.found.items c.as_slice-4.result.now
    c.find_states.new.states.items c.as_slice-2.result.now c.judge_lines.new.processors.items
    c.in_ok-judged.judged is has (c.as_slice.ensures.value ∙ pairs) c.as_slice-4.ensures.value
    c.as_slice-2.ensures.value c.in_ok-judged.ensures.told
