-- H_PUT_TCE and H_BUSY: another call entered a TCE between the two steps of this one.
use Rattle.std.specs.Prelude.{◌≢◌, ◌↔◌, ◌≡◌}
use Rattle.papr_codes.specs.Hcalls.{hcall_of}
use Rattle.papr_codes.specs.declared.calls.Hcall.{Hcall}
use Rattle.papr_codes.specs.declared.codes.Rc.{Rc}
use Rattle.papr_codes.specs.declared.codes.Rc.TheVariants.{Busy}
use Rattle.dma_window.specs.Laws.{HasTaken}
use Rattle.entry_model.specs.declared.hreply.HReply.{HReply}
use Rattle.trace_line.specs.declared.act.Act.{Act}
use Rattle.trace_reply.specs.declared.reply.Reply.{Reply}
use Rattle.papr_codes.specs.declared.calls.Hcall.TheVariants as calls
use Rattle.trace_line.specs.declared.act.Act.TheVariants as acts
use Rattle.trace_reply.specs.declared.reply.Reply.TheVariants as replies

-- The call is no H_PUT_TCE, or its reply is H_BUSY exactly if a receipt says Taken.
abbrev pub IsBusyWhereTaken : Hcall → HReply → Type 0
IsBusyWhereTaken calls.PutTce h = (h.rc ≡ Busy) ↔ HasTaken h.receipts
IsBusyWhereTaken other h = Unit {0}

-- The line is no H_PUT_TCE, or its reply is H_BUSY exactly if a receipt says Taken.
abbrev pub BusyWhereTaken : Act → Reply → Type 0
BusyWhereTaken (acts.Call number args spelt) (replies.Hcall h) =
    IsBusyWhereTaken (hcall_of number) h
BusyWhereTaken act reply = Unit {0}

-- The call is no H_PUT_TCE, or its code isn't H_BUSY.
abbrev pub IsNotBusy : Hcall → Rc → Type 0
IsNotBusy calls.PutTce code = code ≢ Busy
IsNotBusy other code = Unit {0}

-- The line is no H_PUT_TCE, or its reply's code isn't H_BUSY.
abbrev pub PutIsNotBusy : Act → Reply → Type 0
PutIsNotBusy (acts.Call number args spelt) (replies.Hcall h) = IsNotBusy (hcall_of number) h.rc
PutIsNotBusy act reply = Unit {0}
