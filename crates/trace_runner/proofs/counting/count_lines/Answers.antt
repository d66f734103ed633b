use Rattle.std.proofs.Common.{◌+◌, ◌++◌, ◌∷◌, [], arith, ap, ◌∙◌}
use Rattle.std.proofs.lemmas.List.{length-append}
use Rattle.trace_reply.specs.Slots.{reply_in}
use Rattle.trace_runner.proofs.CountedReplies.{counted_more}
use Rattle.trace_runner.proofs.RunSteps.{goes_on, run_state_goes_on}
use Rattle.trace_runner.proofs.counting.count_lines.Goals as goal

pub loop-line-preserved : goal.loop-line-preserved
loop-line-preserved c =
    let i = c.loop-line.invariant in
    let k = c.in_ok-line.ensures in
    let r = reply_in c.line.new.slot in
    record {
      seen = i.seen ++ r ∷ [];
      counted =
          counted_more c.loop-line.counts c.add_slot.new.self i.seen r i.counted
          c.add_slot.ensures;
      count = length-append i.seen (r ∷ []) ∙ ap (λ n. n + 1) i.count;
      told =
          goes_on c.loop-line.machine c.line.new.self c.args.lines.now c.loop-line.line-index _ r
          i.seen _ c.loop-line-test.true k.reply i.told;
      run_state =
          run_state_goes_on c.loop-line.machine c.line.new.self _ c.args.lines.now
          c.loop-line.line-index _ r c.loop-line-test.true k.reply i.run_state;
      cpus = k.cpus ∙ i.cpus;
      number = omega (arith, k.number, i.number);
    }
