-- Worked values of the definitions, which the checker computes.
use Rattle.std.proofs.Common.{◌≡◌, ℕ, [], ◌∷◌, true, None, refl}
use Rattle.entry_model.specs.State.{State}
use Rattle.entry_model.specs.declared.operation.Op.TheVariants.{Remove}
use Rattle.entry_model.specs.Receipt.{receipt_of}
use Rattle.c_layout.specs.Slots.{filled, shown_receipt}
use Rattle.c_layout.specs.Accesses.{want_of}

-- ---- slots
too_small : filled {X = ℕ} (1 ∷ 2 ∷ []) (7 ∷ 8 ∷ 9 ∷ []) ≡ 7 ∷ 8 ∷ []
too_small = refl

to_spare : filled {X = ℕ} (1 ∷ 2 ∷ 3 ∷ []) (7 ∷ []) ≡ 7 ∷ 2 ∷ 3 ∷ []
to_spare = refl

-- ---- receipts
-- An entry with R and C, at stamp 4.
entry : State
entry =
    record {
      valid = true;
      dword0 = 0x1001;
      dword1 = 0x3012;
      referenced = true;
      changed = true;
      stamp = 4;
    }

-- The receipt of its removal has the words from before, with R and C.
removed :
    shown_receipt (receipt_of 0x20 entry (Remove (record { avpn = None; andcond = None })))
    ≡ record { dword0 = 0x1001; dword1 = 0x3192; entry = 0x20; stamp = 4; bits = 3; answer = 2 }
unfolding entry
removed = refl

-- ---- walks
other_want : want_of 3 ≡ None
other_want = refl
