-- How the caller's slots for words and receipts are filled, and a receipt as C has it.
use Rattle.std.specs.Prelude.{ℕ, ◌+◌, List, [], ◌∷◌, ◌++◌, length, take, drop, set}
use Rattle.entry_model.specs.State.{bits_number}
use Rattle.entry_model.specs.Reply.{words_of}
use Rattle.entry_model.specs.declared.operation.Answer.{Answer}
use Rattle.entry_model.specs.declared.operation.Answer.TheVariants.{Entered, Taken, Removed, Protected, Was, Words, NotFound, NoMatch, Denied, Masked, At, Worn}
use Rattle.entry_model.specs.declared.receipt.Receipt.{Receipt}
use Rattle.c_layout.specs.declared.receipts.PaprReceipt.{PaprReceipt}

-- The first slots have the items, as many as there are slots, and the slots after them are as
-- they were.
abbrev pub filled : {X : Type 0} → List X → List X → List X
filled slots items = take (length slots) items ++ drop (length items) slots

-- The slots after items were put into them one after the other from an index on. What has no slot
-- is left out.
abbrev pub placed : {X : Type 0} → List X → ℕ → List X → List X
placed slots index [] = slots
placed slots index (item ∷ items) = placed (set slots index item) (index + 1) items

-- ---- receipts as C has them
-- The number of an answer.
abbrev pub answer_number : Answer → ℕ
answer_number Entered = 0
answer_number Taken = 1
answer_number Removed = 2
answer_number Protected = 3
answer_number Was = 4
answer_number Words = 5
answer_number NotFound = 6
answer_number NoMatch = 7
answer_number Denied = 8
answer_number At = 9
answer_number Worn = 10
answer_number Masked = 11

-- The entry, what stood in it before, with R and C in doubleword 1 as H_READ shows them, and its
-- answer.
abbrev pub shown_receipt : Receipt → PaprReceipt
shown_receipt r = record {
  dword0 = (words_of r.before).0;
  dword1 = (words_of r.before).1;
  entry = r.entry;
  stamp = r.before.stamp;
  bits = bits_number r.before;
  answer = answer_number r.answer;
}
