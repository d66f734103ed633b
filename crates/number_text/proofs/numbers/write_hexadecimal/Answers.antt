use Rattle.std.proofs.Common.{ap, arith, drop, false, length, length-append, length-drop}
use Rattle.std.specs.Fmt.{digits}
use Rattle.number_text.proofs.numbers.write_hexadecimal.Goals as goal

pub returns-clause-start : goal.returns-clause-start
returns-clause-start c =
    let w = c.write_hexadecimal_digits-start in
    omega (
      arith,
      ap length w.ensures.written,
      length-drop w.result w.new.text,
      length-drop c.args.end c.args.text.now,
      length-append (digits 16 false c.args.number) (drop c.args.end c.args.text.now),
    )
