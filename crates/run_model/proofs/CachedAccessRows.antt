-- Worked accesses by a cached translation of entry 1 with stamp 2, and past it.
use Rattle.std.proofs.Common.{◌≡◌, ℕ, ◌<◌, List, [], ◌∷◌, true, false, Some, None, ap, ◌∙◌, refl, arith}
use Rattle.power_addr.specs.Pages.{virtual_page}
use Rattle.entry_model.specs.State.{State, empty_state}
use Rattle.entry_model.specs.declared.line.Line.{Line}
use Rattle.entry_model.specs.declared.receipt.Receipt.{Receipt}
use Rattle.entry_model.specs.declared.access_reply.By.TheVariants.{Hit, Walk}
use Rattle.entry_model.specs.declared.operation.Op.TheVariants.{Read}
use Rattle.entry_model.specs.Receipt.{receipt_of}
use Rattle.run_model.specs.CachedAccesses.{UsesLine}

abbrev line : Line
line =
    record {
      page = virtual_page false 1 12 0;
      entry = 1;
      stamp = 2;
      dword0 = 0x1001;
      dword1 = 0x3012;
    }

abbrev at_stamp : ℕ → State
at_stamp n =
    record {
      valid = true;
      dword0 = 0x1001;
      dword1 = 0x3012;
      referenced = false;
      changed = false;
      stamp = n;
    }

abbrev on : ℕ → State → Receipt
on entry before = receipt_of entry before Read

-- The closing states of a table of two entries.
abbrev closing : ℕ → List State
closing n = empty_state 0 ∷ at_stamp n ∷ []

abbrev first_stamp : List Receipt → ℕ
first_stamp [] = 0
first_stamp (r ∷ rs) = r.before.stamp

-- ---- hits
hit : UsesLine (closing 2) (Some Hit) (Some line) (on 1 (at_stamp 2) ∷ [])
hit =
    record {
      receipt = on 1 (at_stamp 2);
      only = refl;
      entry = refl;
      current = record { valid = refl; stamp = refl; dword0 = refl; dword1 = refl };
    }

-- Not by an entry that has left the stamp, by another entry, or by none.
stale_hit : UsesLine (closing 3) (Some Hit) (Some line) (on 1 (at_stamp 3) ∷ []) → ⊥
stale_hit h = let clash : 3 ≡ 2 = ap first_stamp h.only ∙ h.current.stamp in omega (arith, clash)

no_line : UsesLine (closing 2) (Some Hit) None (on 1 (at_stamp 2) ∷ []) → ⊥
no_line h = h

-- ---- walks
past : UsesLine (closing 3) (Some Walk) (Some line) (on 0 (empty_state 0) ∷ on 1 (at_stamp 3) ∷ [])
past =
    record {
      left = omega arith;
      later = (
        (λ same. absurd (let clash : 0 ≡ 1 = same in omega (arith, clash))),
        ((λ same. omega arith), tt),
      );
    }

-- Not past a line that is current to the end, and not by a receipt of the line's stamp.
past_a_current_line : UsesLine (closing 2) (Some Walk) (Some line) [] → ⊥
past_a_current_line h = let low : 2 < 2 = h.left in omega (arith, low)

by_the_line_itself : UsesLine (closing 3) (Some Walk) (Some line) (on 1 (at_stamp 2) ∷ []) → ⊥
by_the_line_itself h = let low : 2 < 2 = h.later.0 refl in omega (arith, low)
