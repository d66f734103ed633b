use Rattle.std.proofs.Common.{◌<◌, sym, subst, arith}
use Rattle.trace_reply.specs.Slots.{reply_in}
use Rattle.trace_runner.proofs.parallel.section_to_quiet.Goals as goal

pub line-requires-clause-cpu : goal.line-requires-clause-cpu
line-requires-clause-cpu g c =
    subst (λ n. c.args.quiet.now.cpu < n)
    (sym c.in_ok-later.ensures.sectioned.stays.processors) c.requires.cpu

pub line-requires-clause-number : goal.line-requires-clause-number
line-requires-clause-number g c =
    omega (arith, c.in_ok-later.ensures.sectioned.stays.number, c.requires.number)

pub returns : goal.returns
returns g c =
    let line = c.in_ok-line.ensures in
    record {
      next = c.in_ok-later.later;
      between = c.section.new.output;
      section = c.in_ok-later.ensures;
      reply = reply_in c.line.new.slot;
      ran = line.reply;
      put = c.in_ok-put.ensures;
      number = line.number;
      processors = line.cpus;
    }
