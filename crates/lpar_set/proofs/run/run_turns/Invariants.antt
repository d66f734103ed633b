use Rattle.std.proofs.Common.{◌≡◌, ◌+◌, ◌++◌, drop, length}
use Rattle.lpar_set.specs.SetRun.{replies_from, set_replies}
use Rattle.lpar_set.proofs.SetRuns.{IsReady}
use Rattle.lpar_set.proofs.run.run_turns.Given as goal

-- The replies so far and those to the turns that are left are those to all.
abbrev pub invariant-loop-turn : goal.invariant-loop-turn
invariant-loop-turn l = record {
  told :
      l.replies.items ++ replies_from l.set l.members (drop l.turn-index l.turns)
      ≡ set_replies l.set;
  count : length l.replies.items ≡ l.turn-index;
  room : l.replies.spare + l.turn-index ≡ length l.turns;
  ready : IsReady l.set l.members l.turn-index;
}
