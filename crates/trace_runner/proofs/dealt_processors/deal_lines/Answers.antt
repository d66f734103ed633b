use Rattle.std.proofs.Common.{◌<◌, ◌∙◌, sym, subst, arith, length, get_or}
use Rattle.std.proofs.lemmas.List.{length-set}
use Rattle.trace_line.specs.declared.line.TraceLine.{TraceLine}
use Rattle.trace_runner.proofs.DealtLines.{dealt_none, dealt_more, dealt_all}
use Rattle.trace_runner.proofs.dealt_processors.deal_lines.Goals as goal
use Rattle.basics.proofs.Each.{each_within}
use Rattle.trace_line.specs.Lines.{past_lines}

pub loop-i-init : goal.loop-i-init
loop-i-init c = record {
  size = c.in_ok-dealt.ensures.size;
  dealt = dealt_none c.args.lines.now c.in_ok-dealt.dealt.items c.in_ok-dealt.ensures.empty;
}

pub loop-i-preserved : goal.loop-i-preserved
loop-i-preserved c =
    let i = c.loop-i.invariant in
    let lines = c.args.lines.now in
    let k = c.loop-i.i in
    let l = get_or lines k past_lines in
    let dealt = c.loop-i.dealt.items in
    let inside : l.cpu < length dealt = subst (λ n. l.cpu < n) (sym i.size)
    (each_within (λ (l : TraceLine). l.cpu < c.args.cpus) lines k past_lines c.requires.on_cpus
    c.loop-i-test.true) in
    record {
      size = length-set dealt l.cpu c.push.new.self ∙ i.size;
      dealt =
          dealt_more lines k past_lines dealt c.index_mut.result.now c.push.new.self
          c.loop-i-test.true
          inside c.index_mut.ensures.value c.in_ok-push.ensures.items i.dealt;
    }

pub returns-clause-dealt : goal.returns-clause-dealt
returns-clause-dealt c =
    dealt_all c.args.lines.now c.loop-i.i c.loop-i.dealt.items (omega (arith, c.loop-i-test.false))
    c.loop-i.invariant.dealt
