use Rattle.std.proofs.Common.{◌≡◌, ◌+◌, ◌-◌, ◌^◌, ◌<◌, ◌≤◌, ◌++◌, false, drop}
use Rattle.std.specs.Fmt.{digits, digits_onto}
use Rattle.number_text.proofs.numbers.write_hexadecimal_digits.Given as goal

-- What is left has its digits in the places that are left.
abbrev pub invariant-loop-start : goal.invariant-loop-start
invariant-loop-start l = record {
  places : l.first + 16 ≡ l.end;
  low : l.first ≤ l.start;
  high : l.start ≤ l.end;
  small : l.rest < 16 ^ (l.start - l.first);
  begun : l.start < l.end → 0 < l.rest;
  told :
      digits_onto (l.start - l.first + 48) 16 false l.rest (drop l.start l.text)
      ≡ digits 16 false l.number ++ drop l.end l.fn.text;
}

abbrev pub decreases-loop-start : goal.decreases-loop-start
decreases-loop-start l = l.start
