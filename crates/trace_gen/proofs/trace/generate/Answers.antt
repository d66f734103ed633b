use Rattle.std.proofs.Common.{◌≡◌, ◌++◌}
use Rattle.trace_gen.specs.Generated.{segment_lines, lines_from, words_of_seed}
use Rattle.trace_gen.proofs.LineLemmas.{lines_are, kept_trace, trace_is}
use Rattle.trace_gen.proofs.trace.generate.Goals.{After-config}
use Rattle.trace_gen.proofs.trace.generate.Goals as goal

lines :
    (c : After-config)
    → c.push_words.new.list ≡ segment_lines ++ lines_from 5 (words_of_seed c.args.seed c.args.lines)
lines c =
    lines_are c.new-list.result c.push_segments.new.list c.push_words.new.list c.args.seed
    c.args.lines c.new-list.ensures c.in_ok-push_segments.ensures c.in_ok-push_words.ensures

pub invariant_of-trace : goal.invariant_of-trace
invariant_of-trace c =
    kept_trace c.config.result c.push_words.new.list c.args.seed c.args.lines c.requires
    c.config.ensures (lines c)

pub returns-clause-value : goal.returns-clause-value
returns-clause-value c =
    let lines = lines_are c.new-list.result c.push_segments.new.list c.push_words.new.list
    c.args.seed c.args.lines c.new-list.ensures c.in_ok-push_segments.ensures
    c.in_ok-push_words.ensures in
    trace_is c.config.result c.push_words.new.list c.args.seed c.args.lines c.config.ensures lines
