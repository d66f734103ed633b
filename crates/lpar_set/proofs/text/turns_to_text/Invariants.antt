use Rattle.std.proofs.Common.{◌≡◌, ◌++◌, drop, string_bytes}
use Rattle.lpar_set.specs.SetRun.{replies_from, set_replies}
use Rattle.lpar_set.specs.SetText.{text_from, set_text}
use Rattle.lpar_set.proofs.SetRuns.{IsReady}
use Rattle.lpar_set.proofs.text.turns_to_text.Given as goal

-- The text so far and that of the turns that are left are that of all.
abbrev pub invariant-loop-turn : goal.invariant-loop-turn
invariant-loop-turn l = record {
  told :
      string_bytes l.out
      ++ text_from l.set (drop l.turn-index l.turns)
      (replies_from l.set l.members (drop l.turn-index l.turns))
      ≡ set_text l.set (set_replies l.set);
  ready : IsReady l.set l.members l.turn-index;
}
