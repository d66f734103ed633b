-- The texts of made receipts: each answer once.
use Rattle.std.specs.Prelude.{codes}
use Rattle.std.proofs.Common.{◌≡◌, ℕ, [], ◌∷◌, ◌++◌, true, false, refl}
use Rattle.std.specs.Fmt.{digits}
use Rattle.storage_prot.specs.declared.want.Want.TheVariants.{Store}
use Rattle.storage_prot.specs.Protection.{permission, rows}
use Rattle.entry_model.specs.State.{State, empty_state}
use Rattle.entry_model.specs.declared.operation.Op.{Op}
use Rattle.entry_model.specs.Receipt.{receipt_of}
use Rattle.entry_model.specs.Reply.{has_base, no_test}
use Rattle.receipt_text.specs.Receipts.{receipts_text}
use Rattle.entry_model.specs.declared.operation.Op.TheVariants as ops
use Rattle.authority_mask.specs.Authority.{no_masks, row_says, key_rows}

-- An entry of the page of VSID 1 and index 1, read-only, with C and without R.
unfoldable pub used : State
used =
    record {
      valid = true;
      dword0 = 0x1001;
      dword1 = 0x3013;
      referenced = false;
      changed = true;
      stamp = 31;
    }

-- The used entry with R as well, at the last stamp.
unfoldable pub worn : State
worn = record used { referenced = true; stamp = 0xFFFFFFFF }

-- A store to the page of this tag, without masks.
unfoldable pub reached : ℕ → Op
reached tag = ops.Access tag 12 false false Store no_masks

-- Each answer, with the entry in hexadecimal digits, the stamp in decimal ones, and R as 2 and C as
-- 1.
each_answer :
    receipts_text
    (receipt_of 0 (empty_state 7) (ops.Enter 0x1001 0x3013)
    ∷ receipt_of 9 used (ops.Enter 0x1001 0x3013)
    ∷ receipt_of 10 used (ops.Remove no_test)
    ∷ receipt_of 16 used (ops.Protect no_test 0)
    ∷ receipt_of 0x3FFF worn ops.ClearRef
    ∷ receipt_of 255 (record worn { changed = false }) ops.Read
    ∷ receipt_of 1 (empty_state 0) ops.ClearMod
    ∷ receipt_of 2 used (reached 0x2001)
    ∷ receipt_of 3 used (reached 0x1001)
    ∷ receipt_of 4 (record used { dword1 = 0x3012 }) (reached 0x1001)
    ∷ receipt_of 5 worn (ops.Remove no_test)
    ∷ [])
    ≡ codes " | 0x0.7.0.entered 0x9.31.1.taken 0xa.31.1.removed 0x10.31.1.protected"
    ++ codes " 0x3fff.4294967295.3.worn 0xff.4294967295.2.read 0x1.0.0.notfound"
    ++ codes " 0x2.31.1.nomatch 0x3.31.1.denied 0x4.31.1.at 0x5.4294967295.3.worn"
unfolding digits used worn reached has_base permission rows row_says key_rows
each_answer = refl
