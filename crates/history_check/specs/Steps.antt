-- Receipts without their states before: what they make of states that nobody else changes.
use Rattle.std.specs.Prelude.{ℕ, ◌+◌, ◌*◌, ◌==◌, ◌&&◌, ◌||◌, List, [], ◌∷◌, map, Bool, true, false, if◌then◌else◌, nat_le, slice_set}
use Rattle.basics.specs.Words.{bool_eq}
use Rattle.entry_model.specs.State.{State}
use Rattle.authority_mask.specs.Authority.{no_masks}
use Rattle.entry_model.specs.declared.operation.Op.{Op}
use Rattle.entry_model.specs.declared.operation.Op.TheVariants.{Access, Remove, Protect, Read}
use Rattle.entry_model.specs.declared.operation.Answer.{Answer}
use Rattle.entry_model.specs.declared.receipt.Receipt.{Receipt}
use Rattle.entry_model.specs.Receipt.{is_at, is_worn, is_change}
use Rattle.entry_model.specs.Reply.{reply_of, touched_state, no_test}
use Rattle.entry_model.specs.Run.{state_at}
use Rattle.entry_model.specs.Trial.{Call}
use Rattle.receipt_text.specs.declared.mark.Mark.{Mark}

-- ---- operations of steps
-- What is kept of an operation. No test, since the answer says whether the entry passed. Of an
-- access what it wants: by which segment, which masks and which entry it was made isn't known
-- before the processor's lines are run.
abbrev pub step_op : Op → Op
step_op (Access tag base key no_execute want masks) = Access 0 0 false false want no_masks
step_op (Remove test) = Remove no_test
step_op (Protect test flags) = Protect no_test flags
step_op other = other

-- This of an operation that was answered so. At the last stamp nothing changes whatever the
-- operation was, and so nothing is kept of it.
abbrev pub unless_worn : Answer → Op → Op
unless_worn answer op = if is_worn answer then Read else op

-- The state after, where this was the answer. An access that was allowed was on a valid state, and
-- sets R, and a store C; any other operation made its change if the answer says that the stamp was
-- raised.
unfoldable pub next_by : Op → Answer → State → State
next_by (Access tag base key no_execute want masks) answer s =
    if is_at answer && s.valid then touched_state s want else s
next_by other answer s = if is_change answer then (reply_of s other).1 else s

-- ---- steps
-- A receipt without its state before.
pub record Step : Type 0 where
  pub entry : ℕ
  pub op : Op
  pub answer : Answer

-- The step of a receipt. At the last stamp its operation isn't kept.
abbrev pub step_of : Receipt → Step
step_of r = record {
  entry = r.entry;
  op = unless_worn r.answer (step_op r.op);
  answer = r.answer;
}

-- The states after a step.
abbrev pub after_step : List State → Step → List State
after_step a x = slice_set a x.entry (next_by x.op x.answer (state_at a x.entry))

-- The state that each step finds, in their order.
abbrev pub found_states : List State → List Step → List State
found_states a [] = []
found_states a (x ∷ xs) = state_at a x.entry ∷ found_states (after_step a x) xs

-- The states after all steps.
abbrev pub ending_states : List State → List Step → List State
ending_states a [] = a
ending_states a (x ∷ xs) = ending_states (after_step a x) xs

-- ---- places
-- Nothing was changed by an operation, a store of a processor or none, as the answer and R and C
-- before show.
abbrev pub is_unchanged : Bool → Answer → Bool → Bool → Bool
is_unchanged store answer r c =
    if is_change answer
    then false
    else
    if is_at answer
    then bool_eq true r && bool_eq (c || store) c
    else true

-- How many of R and C the digit has.
abbrev pub bit_count : ℕ → ℕ
bit_count digit =
    (if nat_le 2 digit then 1 else 0) + (if (digit == 1) || (digit == 3) then 1 else 0)

-- The place of a receipt with this mark, of an operation that is a store of a processor or none.
unfoldable pub place_by : Mark → Bool → ℕ
place_by m store =
    (m.stamp * 4 + bit_count m.bits) * 2
    + (if is_unchanged store m.answer (nat_le 2 m.bits) ((m.bits == 1) || (m.bits == 3))
    then 0
    else 1)

-- ---- calls
-- The operations of calls, in turn.
abbrev pub ops_of : List Call → List Op
ops_of cs = map (λ (c : Call). c.op) cs
