-- Receipts: one operation that was made on one entry, and tests of its answer.
use Rattle.std.specs.Prelude.{refl, ◌≡◌, ℕ, Some, Bool, true, false, List, Option, find, not, None}
use Rattle.entry_model.specs.State.{State, empty_state}
use Rattle.entry_model.specs.declared.operation.Answer.{Answer}
use Rattle.entry_model.specs.declared.operation.Answer.TheVariants.{Entered, Taken, Removed, Protected, Was, Worn, NoMatch, Denied, Masked, At}
use Rattle.entry_model.specs.declared.operation.Op.{Op}
use Rattle.entry_model.specs.declared.operation.Op.TheVariants.{Enter, Read, Access}
use Rattle.entry_model.specs.declared.receipt.Receipt.{Receipt}
use Rattle.entry_model.specs.Reply.{reply_of, mask_against}
use Rattle.authority_mask.specs.declared.masks.MaskName.{MaskName}
use Rattle.hpte_fields.specs.Fields.{normal_words}

-- The state after a receipt.
abbrev pub after_of : Receipt → State
after_of r = (reply_of r.before r.op).1

-- The receipt of this operation on an entry in this state.
abbrev pub receipt_of : ℕ → State → Op → Receipt
receipt_of e s op = record {
  entry = e;
  before = s;
  op = op;
  answer = (reply_of s op).0;
  lawful = refl;
}

-- A read of an empty entry 0: what a list of receipts holds past its end.
abbrev pub blank_receipt : Receipt
blank_receipt = receipt_of 0 (empty_state 0) Read

-- This receipt is of this entry and this operation.
pub record IsReceiptOf (e : ℕ) (o : Op) (r : Receipt) : Type 0 where
  pub entry : r.entry ≡ e
  pub op : r.op ≡ o

-- The words of an Enter came from `normal`, which gives them back unchanged.
abbrev pub IsNormal : Op → Type 0
IsNormal (Enter dword0 dword1) = normal_words dword0 dword1 ≡ Some (dword0, dword1)
IsNormal other = Unit {0}

-- ---- tests of answers
-- The entry was taken already.
abbrev pub is_taken : Answer → Bool
is_taken Taken = true
is_taken other = false

-- The entry's stamp is at its last value.
abbrev pub is_worn : Answer → Bool
is_worn Worn = true
is_worn other = false

-- The entry was changed, other than by an access: its stamp was raised.
abbrev pub is_change : Answer → Bool
is_change Entered = true
is_change Removed = true
is_change Protected = true
is_change Was = true
is_change other = false

-- The entry doesn't translate the page.
abbrev pub is_no_match : Answer → Bool
is_no_match NoMatch = true
is_no_match other = false

-- The answer used the entry's translation.
abbrev pub is_decided : Answer → Bool
is_decided Denied = true
is_decided Masked = true
is_decided At = true
is_decided other = false

-- The access was allowed.
abbrev pub is_at : Answer → Bool
is_at At = true
is_at other = false

-- The access was allowed by protection, and a mask refuses it.
abbrev pub is_masked : Answer → Bool
is_masked Masked = true
is_masked other = false

-- ---- tests of operations
-- The operation is an access of a processor.
abbrev pub is_access : Op → Bool
is_access (Access tag base key no_execute want masks) = true
is_access other = false

-- The mask that refuses this operation for an entry in this state, where it is an access that a
-- mask refuses.
abbrev pub mask_against_op : State → Op → Option MaskName
mask_against_op s (Access tag base key no_execute want masks) = mask_against s masks want
mask_against_op s other = None

-- The mask that refused the receipt's operation, where one did.
abbrev pub mask_of : Receipt → Option MaskName
mask_of r = mask_against_op r.before r.op

-- ---- searches
-- The receipt that was found: the first that doesn't say NoMatch.
abbrev pub found_of : List Receipt → Option Receipt
found_of rs = find (λ (r : Receipt). not (is_no_match r.answer)) rs
