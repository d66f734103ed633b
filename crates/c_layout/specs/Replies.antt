-- What a hypervisor call answers to C: its code, the slots it fills, and whether a translation may
-- be stale.
use Rattle.std.specs.Prelude.{ℕ, false, List, length, min}
use Rattle.papr_codes.specs.ReturnCodes.{rc_code}
use Rattle.papr_codes.specs.declared.codes.Rc.TheVariants.{Parameter}
use Rattle.entry_model.specs.declared.hreply.HReply.{HReply}
use Rattle.c_layout.specs.declared.receipts.PaprReceipt.{PaprReceipt}
use Rattle.c_layout.specs.declared.reply.PaprReply.{PaprReply}
use Rattle.c_layout.specs.Stale.{any_stale}

-- H_PARAMETER, and no slot filled.
abbrev pub refused_reply : PaprReply
refused_reply = record { rc = rc_code Parameter; words = 0; receipts = 0; stale = false }

-- The code of a reply, how many of the slots it fills, and whether a cached translation may no
-- longer hold.
abbrev pub reply_told : HReply → List ℕ → List PaprReceipt → PaprReply
reply_told reply words receipts = record {
  rc = rc_code reply.rc;
  words = min (length words) (length reply.words);
  receipts = min (length receipts) (length reply.receipts);
  stale = any_stale reply.receipts;
}
