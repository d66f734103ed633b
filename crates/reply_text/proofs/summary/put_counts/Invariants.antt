use Rattle.std.proofs.Common.{◌≡◌, ◌++◌, take, string_bytes}
use Rattle.std.specs.List.{flat_map}
use Rattle.reply_text.specs.Summary.{count_of, counted_text}
use Rattle.reply_text.proofs.summary.put_counts.Given as goal

abbrev pub invariant-loop-counted : goal.invariant-loop-counted
invariant-loop-counted l =
    string_bytes l.out
    ≡ string_bytes l.initial.out
    ++ flat_map (counted_text (count_of l.counts)) (take l.counted-index l.all)
