use Rattle.std.proofs.Common.{◌+◌, ◌-◌, ◌++◌}
use Rattle.trace_gen.specs.Generated.{lines_from, words_of_seed}
use Rattle.trace_gen.proofs.Drawing.{IsDrawn}
use Rattle.trace_gen.proofs.trace.push_words.Given as goal

abbrev pub invariant-loop-drawn : goal.invariant-loop-drawn
invariant-loop-drawn l =
    IsDrawn l.words l.list (5 + l.drawn) (l.lines - l.drawn)
    (l.fn.list ++ lines_from 5 (words_of_seed l.seed l.lines))
