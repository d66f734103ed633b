-- The texts of made replies: each form of a line once.
use Rattle.std.specs.Prelude.{codes, map}
use Rattle.std.proofs.Common.{◌≡◌, List, [], ◌∷◌, ◌++◌, true, false, Some, None, refl}
use Rattle.std.specs.List.{flat_map}
use Rattle.std.specs.Fmt.{digits}
use Rattle.papr_codes.specs.Hcalls.{hcall_of, row_of}
use Rattle.papr_codes.specs.ReturnCodes.{rc_code}
use Rattle.storage_prot.specs.declared.want.Want.TheVariants.{Load, Store, Fetch}
use Rattle.storage_prot.specs.Protection.{permission, rows}
use Rattle.entry_model.specs.State.{empty_state}
use Rattle.entry_model.specs.declared.access_reply.By.TheVariants.{Hit, Walk}
use Rattle.entry_model.specs.declared.access_reply.Outcome.TheVariants.{At, Denied, Masked, NoPage, NoSegment, Ungranted}
use Rattle.entry_model.specs.declared.device_reply.DeviceOutcome.TheVariants as devices
use Rattle.entry_model.specs.Receipt.{receipt_of}
use Rattle.entry_model.specs.Reply.{has_base}
use Rattle.trace_line.specs.declared.line.TraceLine.{TraceLine}
use Rattle.trace_line.specs.declared.act.Act.TheVariants.{Call, Device, Access, SlbMte, SlbClear, SetMask, Dump}
use Rattle.authority_mask.specs.declared.masks.MaskName.TheVariants.{Amr, Iamr}
use Rattle.trace_reply.specs.declared.reply.Reply.{Reply}
use Rattle.reply_text.specs.Summary.{summary_text, counts_text, row_text, entries_text}
use Rattle.reply_text.specs.Text.{text_from, head_text, code_text, entry_text, dump_head, table_text}
use Rattle.papr_codes.specs.declared.codes.Rc.TheVariants as rc
use Rattle.entry_model.specs.declared.operation.Op.TheVariants as ops
use Rattle.trace_reply.specs.declared.reply.Reply.TheVariants as replies
use Rattle.authority_mask.specs.Authority.{row_says, key_rows}
use Rattle.receipt_text.proofs.ReceiptRows.{used, reached, worn}

-- ---- codes
each_code :
    flat_map code_text
    (map rc_code
    (rc.Success
    ∷ rc.Busy
    ∷ rc.Closed
    ∷ rc.LongBusy
    ∷ rc.Hardware
    ∷ rc.Function
    ∷ rc.Parameter
    ∷ rc.PtegFull
    ∷ rc.NotFound
    ∷ rc.NoMem
    ∷ rc.Resource
    ∷ []))
    ≡ codes " 0 1 2 9900 -1 -2 -4 -6 -7 -9 -16"
unfolding digits code_text
each_code = refl

-- ---- lines
lines : List TraceLine
lines =
    record { number = 10; cpu = 63; act = Call 0x08 [] true }
    ∷ record { number = 11; cpu = 0; act = Call 0x0C [] false }
    ∷ record { number = 12; cpu = 1; act = Access Load 0 true }
    ∷ record { number = 13; cpu = 1; act = Access Store 0 false }
    ∷ record { number = 14; cpu = 1; act = Access Fetch 0 false }
    ∷ record { number = 15; cpu = 1; act = Access Load 0 false }
    ∷ record { number = 16; cpu = 1; act = Access Load 0 false }
    ∷ record { number = 17; cpu = 1; act = SlbMte 0 0 }
    ∷ record { number = 18; cpu = 1; act = SlbMte 0 0 }
    ∷ record { number = 19; cpu = 1; act = SlbClear }
    ∷ record { number = 131072; cpu = 1; act = Dump }
    ∷ []

made : List Reply
made =
    replies.Hcall
    (record {
      rc = rc.PtegFull;
      words = [];
      receipts = receipt_of 9 used (ops.Enter 0x1001 0x3013) ∷ [];
    })
    ∷ replies.Hcall
    (record {
      rc = rc.Success;
      words = 0xFFFFFFFFFFFFFFFF ∷ 0 ∷ [];
      receipts = receipt_of 9 used ops.Read ∷ receipt_of 10 (empty_state 0) ops.Read ∷ [];
    })
    ∷ replies.Access
    (record {
      outcome = At 0x2000003ABC;
      by = Some Hit;
      receipts = receipt_of 4 (record used { dword1 = 0x3012 }) (reached 0x1001) ∷ [];
    })
    ∷ replies.Access
    (record {
      outcome = Denied;
      by = Some Walk;
      receipts =
          receipt_of 2 used (reached 0x2001) ∷ receipt_of 3 used (reached 0x1001) ∷ [];
    })
    ∷ replies.Access
    (record {
      outcome = NoPage;
      by = Some Walk;
      receipts = receipt_of 2 used (reached 0x2001) ∷ [];
    })
    ∷ replies.Access (record { outcome = NoSegment; by = None; receipts = [] })
    ∷ replies.Access (record { outcome = Ungranted 0x7000; by = Some Walk; receipts = [] })
    ∷ replies.Segment true
    ∷ replies.Segment false
    ∷ replies.Segment true
    ∷ replies.Dump
    (record {
      number = 12;
      order = 22;
      place = 0x1000400000;
      states =
          (0, worn)
          ∷ (
            0x3FFF,
            record used {
              dword0 = 0x4000000001000011;
              dword1 = 0x8000000000003012;
              changed = false;
              stamp = 2;
            },
          )
          ∷ [];
    })
    ∷ []

each_form :
    text_from lines made
    ≡ codes "10 63 H_ENTER -6 | 0x9.31.1.taken\n"
    ++ codes "11 0 hcall 0 0xffffffffffffffff 0x0 | 0x9.31.1.read 0xa.0.0.read\n"
    ++ codes "12 1 load at 0x2000003abc hit | 0x4.31.1.at\n"
    ++ codes "13 1 store denied walk | 0x2.31.1.nomatch 0x3.31.1.denied\n"
    ++ codes "14 1 fetch nopage walk | 0x2.31.1.nomatch\n"
    ++ codes "15 1 load nosegment\n"
    ++ codes "16 1 load ungranted 0x7000 walk\n"
    ++ codes "17 1 slbmte ok\n"
    ++ codes "18 1 slbmte refused\n"
    ++ codes "19 1 slbclear ok\n"
    ++ codes "131072 dump table 12 order 22 place 0x1000400000 entries 2\n"
    ++ codes " 0x0 0x1001 0x3193 4294967295\n"
    ++ codes " 0x3fff 0x4000000001000011 0x8000000000003012 2\n"
unfolding digits lines made used worn reached has_base permission rows row_says key_rows hcall_of
    row_of text_from head_text code_text entry_text dump_head table_text
each_form = refl

-- Lines that set masks, and an access that one refuses.
masked_lines : List TraceLine
masked_lines =
    record { number = 6; cpu = 0; act = SetMask Amr 1 }
    ∷ record { number = 7; cpu = 0; act = SetMask Iamr 1 }
    ∷ record { number = 8; cpu = 0; act = Access Fetch 0x5000 false }
    ∷ []

masked_made : List Reply
masked_made =
    replies.MaskSet
    ∷ replies.MaskSet
    ∷ replies.Access (record { outcome = Masked Iamr; by = Some Hit; receipts = [] })
    ∷ []

masks_told :
    text_from masked_lines masked_made
    ≡ codes "6 0 amr ok\n7 0 iamr ok\n8 0 fetch masked iamr hit\n"
unfolding digits masked_lines masked_made text_from head_text
masks_told = refl

-- Accesses of devices.
device_lines : List TraceLine
device_lines =
    record { number = 6; cpu = 0; act = Device false 1 0x5008 }
    ∷ record { number = 7; cpu = 0; act = Device true 1 0x5008 }
    ∷ record { number = 8; cpu = 1; act = Device true 2 0 }
    ∷ record { number = 9; cpu = 1; act = Device false 1 0 }
    ∷ []

device_made : List Reply
device_made =
    replies.Device
    (record {
      outcome = devices.At 0x2000003008;
      receipts = receipt_of 5 (empty_state 1) ops.Read ∷ [];
    })
    ∷ replies.Device
    (record { outcome = devices.Denied; receipts = receipt_of 5 (empty_state 1) ops.Read ∷ [] })
    ∷ replies.Device (record { outcome = devices.NoWindow; receipts = [] })
    ∷ replies.Device (record { outcome = devices.Ungranted 0x7000; receipts = [] })
    ∷ []

devices_told :
    text_from device_lines device_made
    ≡ codes "6 0 dmaread at 0x2000003008 | 0x5.1.0.read\n"
    ++ codes "7 0 dmawrite denied | 0x5.1.0.read\n"
    ++ codes "8 1 dmawrite nowindow\n"
    ++ codes "9 1 dmaread ungranted 0x7000\n"
unfolding digits device_lines device_made text_from head_text
devices_told = refl

-- ---- the summary
-- Of no replies, of four, and of those above. A hit that is denied is a hit; an access that is
-- ungranted is an access alone.
of_none :
    summary_text 0 [] []
    ≡ codes "lines 0\nhcalls 0\nsuccess 0\nfull 0\nnotfound 0\naccesses 0\nat 0\n"
    ++ codes "denied 0\nnopage 0\nhits 0\nentries 0\nchanged 0\n"
unfolding digits summary_text counts_text row_text entries_text
of_none = refl

of_four :
    summary_text 4
    (replies.Hcall (record { rc = rc.NotFound; words = []; receipts = [] })
    ∷ replies.Access (record { outcome = At 0; by = Some Hit; receipts = [] })
    ∷ replies.Access (record { outcome = Denied; by = Some Hit; receipts = [] })
    ∷ replies.Segment true
    ∷ []) ((1, used) ∷ (2, record used { changed = false }) ∷ (3, worn) ∷ [])
    ≡ codes "lines 4\nhcalls 1\nsuccess 0\nfull 0\nnotfound 1\naccesses 2\nat 1\n"
    ++ codes "denied 1\nnopage 0\nhits 2\nentries 3\nchanged 2\n"
unfolding digits used worn summary_text counts_text row_text entries_text
of_four = refl

of_all :
    summary_text 11 made ((0, worn) ∷ [])
    ≡ codes "lines 11\nhcalls 2\nsuccess 1\nfull 1\nnotfound 0\naccesses 5\nat 1\n"
    ++ codes "denied 1\nnopage 1\nhits 1\nentries 1\nchanged 1\n"
unfolding digits made worn used summary_text counts_text row_text entries_text
of_all = refl
