use Rattle.std.proofs.Common.{◌≡◌, ◌≤◌, ◌-◌, length, drop}
use Rattle.history_check.specs.FrontKeeping.{fronts_of}
use Rattle.history_check.proofs.SectionLoop.{Left}
use Rattle.history_check.proofs.judging_lines.judge_each.Given as goal

-- what is left to judge decides
abbrev pub invariant-loop-i : goal.invariant-loop-i
invariant-loop-i l = record {
  left :
      Left l.context l.closing l.lines l.counts l.i l.found l.states l.fn.processors.items
      l.processors.items (fronts_of l.fn.fronts.items l.opening)
      (fronts_of l.fronts.items l.opening) l.given l.text;
  processors : length l.processors.items ≡ length l.fn.processors.items;
  fronts : length l.fronts.items ≡ length l.processors.items;
  within : length l.text ≤ length l.given;
  text : l.text ≡ drop (length l.given - length l.text) l.given;
}
