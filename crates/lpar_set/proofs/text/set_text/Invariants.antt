use Rattle.std.proofs.Common.{◌≡◌, ◌++◌, drop, string_bytes}
use Rattle.lpar_set.specs.SetText.{text_from, set_text}
use Rattle.lpar_set.proofs.text.set_text.Given as goal

-- The text so far and that of the turns that are left are that of all.
abbrev pub invariant-loop-i : goal.invariant-loop-i
invariant-loop-i l =
    string_bytes l.out ++ text_from l.set (drop l.i l.turns) (drop l.i l.replies)
    ≡ set_text l.set l.replies
