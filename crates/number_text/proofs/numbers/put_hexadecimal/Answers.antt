use Rattle.std.proofs.Common.{◌≡◌, ◌-◌, ◌∙◌, drop, arith, length-drop, append-nil}
use Rattle.std.proofs.lemmas.List.{take_all}
use Rattle.std.proofs.lemmas.Str.{IsUtf8-from_ascii}
use Rattle.number_text.specs.Numbers.{hex}
use Rattle.number_text.proofs.NumberSteps.{hex_IsAscii}
use Rattle.number_text.proofs.numbers.put_hexadecimal.Goals as goal

pub from_utf8_unchecked-requires : goal.from_utf8_unchecked-requires
from_utf8_unchecked-requires c =
    let w = c.write_hexadecimal-start in
    let written : drop w.result w.new.text ≡ hex c.args.number = w.ensures.written ∙ append-nil
    (hex c.args.number) in
    IsUtf8-from_ascii _
    (rw (
      take_all (18 - w.result) (drop w.result w.new.text)
          (omega (arith, length-drop w.result w.new.text)),
      written,
    ) (hex_IsAscii c.args.number))
