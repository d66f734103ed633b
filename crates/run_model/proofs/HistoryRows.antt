-- Histories, closing states and fronts of made receipts.
use Rattle.std.proofs.Common.{◌≡◌, ℕ, [], ◌∷◌, true, false, None, refl, ap, arith, ◌≤◌}
use Rattle.power_addr.specs.Pages.{virtual_page}
use Rattle.storage_prot.specs.declared.want.Want.TheVariants.{Load, Store}
use Rattle.storage_prot.specs.Protection.{permission, rows}
use Rattle.entry_model.specs.State.{State, empty_state}
use Rattle.entry_model.specs.declared.line.Line.{Line}
use Rattle.entry_model.specs.declared.operation.Op.{Op}
use Rattle.entry_model.specs.declared.receipt.Receipt.{Receipt}
use Rattle.entry_model.specs.Receipt.{receipt_of}
use Rattle.entry_model.specs.Reply.{has_base}
use Rattle.entry_model.specs.History.{IsLegal, history, place, pair_of, state_eq}
use Rattle.run_model.specs.Histories.{InOrder, made, gone, closing_states}
use Rattle.entry_model.specs.declared.operation.Op.TheVariants as ops
use Rattle.authority_mask.specs.Authority.{no_masks, row_says, key_rows}

-- An entry of the page of VSID 1 and index 1 at this stamp.
unfoldable pub at_stamp : ℕ → State
at_stamp stamp =
    record {
      valid = true;
      dword0 = 0x1001;
      dword1 = 0x3012;
      referenced = false;
      changed = false;
      stamp = stamp;
    }

-- The entry at stamp 2, with R.
unfoldable pub with_r : State
with_r = record (at_stamp 2) { referenced = true }

reached : Op
reached = ops.Access 0x1001 12 false false Load no_masks

stored : Op
stored = ops.Access 0x1001 12 false false Store no_masks

-- A receipt of the entry 5.
by : State → Op → Receipt
by before op = receipt_of 5 before op

-- ---- histories
-- By stamp, then by bits, and on one state those that change nothing first. Of these a read and an
-- H_ENTER that finds the entry taken tie, and stay as they are listed.
sorted :
    history 5
    (by with_r stored
    ∷ by (at_stamp 2) reached
    ∷ by (at_stamp 2) ops.Read
    ∷ receipt_of 6 (at_stamp 0) ops.Read
    ∷ by with_r reached
    ∷ by (at_stamp 1) (ops.Protect (record { avpn = None; andcond = None }) 0)
    ∷ by (at_stamp 2) (ops.Enter 0x1001 0x3012)
    ∷ [])
    ≡ by (at_stamp 1) (ops.Protect (record { avpn = None; andcond = None }) 0)
    ∷ by (at_stamp 2) ops.Read
    ∷ by (at_stamp 2) (ops.Enter 0x1001 0x3012)
    ∷ by (at_stamp 2) reached
    ∷ by with_r reached
    ∷ by with_r stored
    ∷ []
unfolding at_stamp with_r reached stored by place pair_of state_eq has_base permission rows row_says
    key_rows
sorted = refl

-- The other way round the two that tie are the other way round.
tied :
    history 5 (by (at_stamp 2) (ops.Enter 0x1001 0x3012) ∷ by (at_stamp 2) ops.Read ∷ [])
    ≡ by (at_stamp 2) (ops.Enter 0x1001 0x3012) ∷ by (at_stamp 2) ops.Read ∷ []
unfolding at_stamp by place pair_of state_eq
tied = refl

-- Legal from the state at which the entry opens to the one at which it closes; with another state
-- between it isn't.
legal :
    IsLegal (at_stamp 2)
    (by (at_stamp 2) ops.Read ∷ by (at_stamp 2) reached ∷ by with_r reached ∷ []) with_r
unfolding at_stamp with_r reached by has_base permission rows row_says key_rows
legal = (refl, (refl, (refl, refl)))

r_is_lost :
    IsLegal (at_stamp 2) (by (at_stamp 2) reached ∷ by (at_stamp 2) ops.Read ∷ []) with_r → ⊥
unfolding at_stamp with_r reached by has_base permission rows row_says key_rows
r_is_lost h = let no : false ≡ true = ap (λ (s : State). s.referenced) h.1.0 in cc

-- ---- closing states
-- The last state of each entry's history, whatever the order in which the receipts are listed;
-- without a receipt the state at which it opens.
closes :
    closing_states (empty_state 3 ∷ at_stamp 1 ∷ empty_state 0 ∷ [])
    (receipt_of 2 (empty_state 0) (ops.Enter 0x1001 0x3012)
    ∷ receipt_of 1 (at_stamp 2) reached
    ∷ receipt_of 1 (at_stamp 1) (ops.Protect (record { avpn = None; andcond = None }) 0x2)
    ∷ [])
    ≡ empty_state 3 ∷ with_r ∷ at_stamp 1 ∷ []
unfolding at_stamp with_r reached closing_states place pair_of state_eq has_base permission rows
    row_says key_rows
closes = refl

-- ---- fronts
-- The line of the page and the entry 5 at stamp 1.
line : Line
line =
    record {
      page = virtual_page false 1 12 1;
      entry = 5;
      stamp = 1;
      dword0 = 0x1001;
      dword1 = 0x3012;
    }

-- The front rises with the processor's own receipts: no receipt before it.
keeps :
    InOrder 5 4
    (made (by (at_stamp 1) ops.Read)
    ∷ made (receipt_of 6 (empty_state 0) ops.Read)
    ∷ made (by (at_stamp 2) reached)
    ∷ made (by with_r ops.Read)
    ∷ [])
unfolding at_stamp with_r reached by pair_of has_base permission rows row_says key_rows
keeps = (omega arith, (omega arith, (omega arith, tt)))

sees_an_older_state :
    InOrder 5 4 (made (by (at_stamp 2) ops.Read) ∷ made (by (at_stamp 1) ops.Read) ∷ []) → ⊥
unfolding at_stamp by pair_of
sees_an_older_state h = let no : 8 ≤ 4 = h.1.0 in omega arith

forgets_r : InOrder 5 4 (made (by (at_stamp 2) reached) ∷ made (by (at_stamp 2) ops.Read) ∷ []) → ⊥
unfolding at_stamp reached by pair_of has_base permission rows row_says key_rows
forgets_r h = let no : 9 ≤ 8 = h.1.0 in omega arith

-- A cached translation at stamp 1 that was gone raises the front to stamp 2: what the entry was at
-- stamp 1 can't be seen any more, whatever its bits.
goes_on_past_the_line : InOrder 5 4 (gone line ∷ made (by (at_stamp 2) ops.Read) ∷ [])
unfolding at_stamp line by pair_of
goes_on_past_the_line = (omega arith, tt)

sees_the_line_again :
    InOrder 5 4 (gone line ∷ made (by (record with_r { stamp = 1; changed = true }) ops.Read) ∷ [])
    → ⊥
unfolding at_stamp with_r line by pair_of
sees_the_line_again h = let no : 8 ≤ 6 = h.0 in omega arith

-- A line never lowers it, and one of another entry leaves it.
an_old_line : InOrder 5 12 (gone line ∷ made (by (at_stamp 2) ops.Read) ∷ []) → ⊥
unfolding at_stamp line by pair_of
an_old_line h = let no : 12 ≤ 8 = h.0 in omega arith

another_entry :
    InOrder 5 4 (gone (record line { entry = 6; stamp = 9 }) ∷ made (by (at_stamp 1) ops.Read) ∷ [])
unfolding at_stamp line by pair_of
another_entry = (omega arith, tt)
