-- The text of receipts: what a reply's line shows of each.
use Rattle.std.specs.Prelude.{ℕ, List, [], ◌∷◌, ◌++◌, codes}
use Rattle.std.specs.List.{flat_map}
use Rattle.std.specs.Fmt.{decimal}
use Rattle.entry_model.specs.State.{bits_number}
use Rattle.entry_model.specs.declared.operation.Answer.{Answer}
use Rattle.entry_model.specs.declared.operation.Answer.TheVariants.{Entered, Taken, Removed, Protected, Was, Words, NotFound, NoMatch, Denied, Masked, At, Worn}
use Rattle.entry_model.specs.declared.receipt.Receipt.{Receipt}
use Rattle.receipt_text.specs.declared.mark.Mark.{Mark}
use Rattle.number_text.specs.Numbers.{hex}

-- The word of an answer.
abbrev pub answer_word : Answer → List ℕ
answer_word Entered = codes "entered"
answer_word Taken = codes "taken"
answer_word Removed = codes "removed"
answer_word Protected = codes "protected"
answer_word Was = codes "was"
answer_word Words = codes "read"
answer_word NotFound = codes "notfound"
answer_word NoMatch = codes "nomatch"
answer_word Denied = codes "denied"
answer_word Masked = codes "masked"
answer_word At = codes "at"
answer_word Worn = codes "worn"

-- ENTRY.STAMP.BITS.ANSWER
abbrev pub mark_word : Mark → List ℕ
mark_word m =
    hex m.entry
    ++ codes "."
    ++ decimal m.stamp
    ++ codes "."
    ++ decimal m.bits
    ++ codes "."
    ++ answer_word m.answer

-- The word of a mark, after a space.
abbrev pub mark_text : Mark → List ℕ
mark_text m = codes " " ++ mark_word m

-- What is shown of a receipt: stamp and bits are those before.
abbrev pub mark_of : Receipt → Mark
mark_of r = record {
  entry = r.entry;
  stamp = r.before.stamp;
  bits = bits_number r.before;
  answer = r.answer;
}

-- The text of a receipt: that of its mark.
abbrev pub receipt_text : Receipt → List ℕ
receipt_text r = mark_text (mark_of r)

-- The receipts of a reply, after a bar; nothing where there are none.
abbrev pub receipts_text : List Receipt → List ℕ
receipts_text [] = []
receipts_text (r ∷ rs) = codes " |" ++ flat_map receipt_text (r ∷ rs)
