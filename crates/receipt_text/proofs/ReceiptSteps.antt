-- Receipts are ASCII.
use Rattle.std.proofs.Common.{◌≡◌, ℕ, Bool, true, ◌&&◌, T, List, [], ◌∷◌, ◌++◌, append_assoc, subst}
use Rattle.std.specs.Prelude.{codes, nat_lt}
use Rattle.std.proofs.lemmas.Str.{IsAscii-append}
use Rattle.std.proofs.lemmas.Str.Ascii.{IsAscii-cons, IsAscii-nil}
use Rattle.std.proofs.Math.Facts.{ltb_yes}
use Rattle.std.specs.Fmt.{decimal}
use Rattle.std.specs.Str.{IsAscii}
use Rattle.entry_model.specs.declared.operation.Answer.{Answer}
use Rattle.entry_model.specs.declared.operation.Answer.TheVariants.{Entered, Taken, Removed, Protected, Was, Words, NotFound, NoMatch, Denied, Masked, At, Worn}
use Rattle.entry_model.specs.declared.receipt.Receipt.{Receipt}
use Rattle.number_text.specs.Numbers.{hex}
use Rattle.receipt_text.specs.Receipts.{answer_word, receipt_text}
use Rattle.number_text.proofs.NumberSteps.{decimal_IsAscii, hex_IsAscii}
use lib.Ieee.Fits.{and_l, and_r}
use Rattle.entry_model.specs.State.{bits_number}

abbrev are_ascii : List ℕ → Bool
are_ascii [] = true
are_ascii (b ∷ bs) = nat_lt b 128 && are_ascii bs

IsAscii-from_test : (bs : List ℕ) → T (are_ascii bs) → IsAscii bs
IsAscii-from_test [] all = IsAscii-nil
IsAscii-from_test (b ∷ bs) all =
    IsAscii-cons b bs (ltb_yes (and_l _ (are_ascii bs) all))
    (IsAscii-from_test bs (and_r _ (are_ascii bs) all))

IsAscii-answer_word : (a : Answer) → IsAscii (answer_word a)
IsAscii-answer_word Entered = IsAscii-from_test (codes "entered") tt
IsAscii-answer_word Taken = IsAscii-from_test (codes "taken") tt
IsAscii-answer_word Removed = IsAscii-from_test (codes "removed") tt
IsAscii-answer_word Protected = IsAscii-from_test (codes "protected") tt
IsAscii-answer_word Was = IsAscii-from_test (codes "was") tt
IsAscii-answer_word Words = IsAscii-from_test (codes "read") tt
IsAscii-answer_word NotFound = IsAscii-from_test (codes "notfound") tt
IsAscii-answer_word NoMatch = IsAscii-from_test (codes "nomatch") tt
IsAscii-answer_word Denied = IsAscii-from_test (codes "denied") tt
IsAscii-answer_word Masked = IsAscii-from_test (codes "masked") tt
IsAscii-answer_word At = IsAscii-from_test (codes "at") tt
IsAscii-answer_word Worn = IsAscii-from_test (codes "worn") tt

pub IsAscii-receipt_text : (r : Receipt) → IsAscii (receipt_text r)
IsAscii-receipt_text r =
    let point = IsAscii-from_test (codes ".") tt in
    let word : List ℕ = codes "." ++ answer_word r.answer in
    let bits : List ℕ = codes "." ++ (decimal (bits_number r.before) ++ word) in
    let rest : List ℕ = codes "." ++ (decimal r.before.stamp ++ bits) in
    let of_word : IsAscii word = IsAscii-append (codes ".") (answer_word r.answer) point
    (IsAscii-answer_word r.answer) in
    let of_digit : IsAscii (decimal (bits_number r.before) ++ word) = IsAscii-append
    (decimal (bits_number r.before)) word (decimal_IsAscii (bits_number r.before)) of_word in
    let of_bits : IsAscii bits = IsAscii-append (codes ".") (decimal (bits_number r.before) ++ word)
    point of_digit in
    let of_stamp : IsAscii (decimal r.before.stamp ++ bits) = IsAscii-append
    (decimal r.before.stamp) bits (decimal_IsAscii r.before.stamp) of_bits in
    let of_rest : IsAscii rest = IsAscii-append (codes ".") (decimal r.before.stamp ++ bits) point
    of_stamp in
    let of_entry : IsAscii (hex r.entry ++ rest) = IsAscii-append (hex r.entry) rest
    (hex_IsAscii r.entry) of_rest in
    let whole : IsAscii (codes " " ++ (hex r.entry ++ rest)) = IsAscii-append (codes " ")
    (hex r.entry ++ rest) (IsAscii-from_test (codes " ") tt) of_entry in
    let same : codes " " ++ (hex r.entry ++ rest) ≡ receipt_text r = simp append_assoc in
    subst IsAscii same whole
