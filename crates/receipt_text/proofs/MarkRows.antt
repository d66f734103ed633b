-- The marks of made lines.
use Rattle.std.specs.Prelude.{◌≡◌, [], ◌∷◌, codes, Some, None}
use Rattle.std.proofs.Common.{refl, arith}
use Rattle.std.specs.Fmt.{digits}
use Rattle.entry_model.specs.declared.operation.Answer.TheVariants as answers
use Rattle.receipt_text.specs.Receipts.{mark_word}
use Rattle.receipt_text.specs.Marks.{behind_bar, HasMarks}

entered :
    HasMarks (codes "4 0 H_ENTER 0 0x20 | 0x20.0.0.entered")
    (record { entry = 32; stamp = 0; bits = 0; answer = answers.Entered } ∷ [])
unfolding digits
entered =
    record {
      some = omega arith;
      most = omega arith;
      marks = (record { entry = omega arith; stamp = omega arith; bits = omega arith }, tt);
      text = refl;
    }

two_marks :
    HasMarks (codes "9 0 load at 0x2000004000 walk | 0x20.2.0.nomatch 0x21.1.3.at")
    (record { entry = 32; stamp = 2; bits = 0; answer = answers.NoMatch }
    ∷ record { entry = 33; stamp = 1; bits = 3; answer = answers.At }
    ∷ [])
unfolding digits
two_marks =
    record {
      some = omega arith;
      most = omega arith;
      marks = (
        record { entry = omega arith; stamp = omega arith; bits = omega arith },
        (record { entry = omega arith; stamp = omega arith; bits = omega arith }, tt),
      );
      text = refl;
    }

no_receipts : HasMarks (codes "4 0 slbclear ok") []
no_receipts = refl

-- The largest numbers.
largest :
    mark_word
    (record { entry = 0xFFFFFFFF; stamp = 0xFFFFFFFF; bits = 3; answer = answers.NotFound })
    ≡ codes "0xffffffff.4294967295.3.notfound"
unfolding digits
largest = refl

-- The first space and bar of several, and a bar without a space.
first_bar : behind_bar (codes "4 0 x | a | b") ≡ Some (codes " a | b")
first_bar = refl

unspaced_bar : behind_bar (codes "4 0 x|a") ≡ None
unspaced_bar = refl
