-- The text of replies: one line for each, and for a dump a further line for each valid entry.
use Rattle.std.specs.Prelude.{ℕ, ℤ, Bool, List, [], ◌∷◌, ◌++◌, length, Option, Some, None, if◌then◌else◌, codes}
use Rattle.std.specs.List.{flat_map}
use Rattle.std.specs.Fmt.{decimal, signed_decimal}
use Rattle.papr_codes.specs.Hcalls.{hcall_of, hcall_name}
use Rattle.papr_codes.specs.ReturnCodes.{rc_code}
use Rattle.storage_prot.specs.declared.want.Want.{Want}
use Rattle.authority_mask.specs.declared.masks.MaskName.{MaskName}
use Rattle.entry_model.specs.State.{State}
use Rattle.entry_model.specs.declared.access_reply.AccessReply.{AccessReply}
use Rattle.entry_model.specs.declared.access_reply.Outcome.{Outcome}
use Rattle.entry_model.specs.declared.access_reply.By.{By}
use Rattle.entry_model.specs.declared.device_reply.DeviceOutcome.{DeviceOutcome}
use Rattle.entry_model.specs.declared.device_reply.DeviceReply.{DeviceReply}
use Rattle.entry_model.specs.declared.hreply.HReply.{HReply}
use Rattle.entry_model.specs.Reply.{words_of}
use Rattle.number_text.specs.Numbers.{hex}
use Rattle.receipt_text.specs.Receipts.{receipts_text}
use Rattle.trace_line.specs.declared.line.TraceLine.{TraceLine}
use Rattle.trace_line.specs.declared.act.Act.{Act}
use Rattle.trace_read.specs.Trace.{AcceptedTrace}
use Rattle.trace_reply.specs.declared.shown.Shown.{Shown}
use Rattle.trace_reply.specs.declared.reply.Reply.{Reply}
use Rattle.storage_prot.specs.declared.want.Want.TheVariants as wants
use Rattle.authority_mask.specs.declared.masks.MaskName.TheVariants as masks
use Rattle.entry_model.specs.declared.access_reply.Outcome.TheVariants as outcomes
use Rattle.entry_model.specs.declared.access_reply.By.TheVariants as ways
use Rattle.entry_model.specs.declared.device_reply.DeviceOutcome.TheVariants as device_outcomes
use Rattle.trace_line.specs.declared.act.Act.TheVariants as acts
use Rattle.trace_reply.specs.declared.reply.Reply.TheVariants as replies

-- ---- lines
-- The word of an access.
abbrev pub want_word : Want → List ℕ
want_word wants.Load = codes "load"
want_word wants.Store = codes "store"
want_word wants.Fetch = codes "fetch"

-- The word of a mask.
abbrev pub mask_word : MaskName → List ℕ
mask_word masks.Amr = codes "amr"
mask_word masks.Iamr = codes "iamr"

-- The word of a device's access.
abbrev pub device_word : Bool → List ℕ
device_word write = if write then codes "dmawrite" else codes "dmaread"

-- The word after the processor: a call's name where the line spelt it, else `hcall`.
abbrev pub name_of : Act → List ℕ
name_of (acts.Call number args spelt) =
    if spelt then hcall_name (hcall_of number) else codes "hcall"
name_of (acts.Access want ea user) = want_word want
name_of (acts.Device write liobn ioba) = device_word write
name_of (acts.SlbMte rb rs) = codes "slbmte"
name_of acts.SlbClear = codes "slbclear"
name_of (acts.SetMask name value) = mask_word name
name_of acts.Dump = codes "dump"

-- NUMBER PROCESSOR NAME
unfoldable pub head_text : ℕ → ℕ → List ℕ → List ℕ
head_text number cpu name = decimal number ++ codes " " ++ decimal cpu ++ codes " " ++ name

-- ---- hypervisor calls
-- A word of a reply, after a space.
abbrev pub word_text : ℕ → List ℕ
word_text w = codes " " ++ hex w

-- A return code, after a space.
unfoldable pub code_text : ℤ → List ℕ
code_text code = codes " " ++ signed_decimal code

-- The code, the words, and the receipts.
abbrev pub hcall_text : HReply → List ℕ
hcall_text h =
    code_text (rc_code h.rc) ++ flat_map word_text h.words ++ receipts_text h.receipts ++ codes "\n"

-- ---- accesses
-- Where an access ended.
abbrev pub outcome_text : Outcome → List ℕ
outcome_text (outcomes.At address) = codes " at " ++ hex address
outcome_text outcomes.Denied = codes " denied"
outcome_text (outcomes.Masked name) = codes " masked " ++ mask_word name
outcome_text outcomes.NoPage = codes " nopage"
outcome_text outcomes.NoSegment = codes " nosegment"
outcome_text (outcomes.Ungranted address) = codes " ungranted " ++ hex address

-- The word for what an access ended by: a cached translation or a walk.
abbrev pub way_text : Option By → List ℕ
way_text (Some ways.Hit) = codes " hit"
way_text (Some ways.Walk) = codes " walk"
way_text None = []

-- Where it ended, by what, and the receipts.
abbrev pub access_text : AccessReply → List ℕ
access_text r = outcome_text r.outcome ++ way_text r.by ++ receipts_text r.receipts ++ codes "\n"

-- ---- accesses of devices
-- Where a device's access ended.
abbrev pub device_outcome_text : DeviceOutcome → List ℕ
device_outcome_text (device_outcomes.At address) = codes " at " ++ hex address
device_outcome_text device_outcomes.Denied = codes " denied"
device_outcome_text device_outcomes.NoWindow = codes " nowindow"
device_outcome_text (device_outcomes.Ungranted address) = codes " ungranted " ++ hex address

-- Where it ended, and the receipts.
abbrev pub device_text : DeviceReply → List ℕ
device_text r = device_outcome_text r.outcome ++ receipts_text r.receipts ++ codes "\n"

-- ---- the segment lookaside buffer
-- Whether a change of the segment lookaside buffer was accepted.
abbrev pub verdict_text : Bool → List ℕ
verdict_text accepted = if accepted then codes " ok\n" else codes " refused\n"

-- ---- dumps
-- Index, both doublewords with R and C, and stamp, each after a space.
unfoldable pub entry_text : ℕ × State → List ℕ
entry_text x =
    codes " "
    ++ hex x.0
    ++ codes " "
    ++ hex (words_of x.1).0
    ++ codes " "
    ++ hex (words_of x.1).1
    ++ codes " "
    ++ decimal x.1.stamp
    ++ codes "\n"

-- The number of a dump's line.
unfoldable pub dump_head : ℕ → List ℕ
dump_head line = decimal line ++ codes " dump"

-- table T order S place P entries K
unfoldable pub table_text : ℕ → ℕ → ℕ → ℕ → List ℕ
table_text number order place count =
    codes " table "
    ++ decimal number
    ++ codes " order "
    ++ decimal order
    ++ codes " place "
    ++ hex place
    ++ codes " entries "
    ++ decimal count
    ++ codes "\n"

-- The table, then a line for each valid entry.
abbrev pub dump_text : ℕ → Shown → List ℕ
dump_text line shown =
    dump_head line
    ++ table_text shown.number shown.order shown.place (length shown.states)
    ++ flat_map entry_text shown.states

-- ---- all lines
-- The text of one reply.
abbrev pub reply_text : TraceLine → Reply → List ℕ
reply_text l (replies.Hcall h) = head_text l.number l.cpu (name_of l.act) ++ hcall_text h
reply_text l (replies.Access r) = head_text l.number l.cpu (name_of l.act) ++ access_text r
reply_text l (replies.Device r) = head_text l.number l.cpu (name_of l.act) ++ device_text r
reply_text l (replies.Segment accepted) =
    head_text l.number l.cpu (name_of l.act) ++ verdict_text accepted
reply_text l replies.MaskSet = head_text l.number l.cpu (name_of l.act) ++ codes " ok\n"
reply_text l (replies.Dump shown) = dump_text l.number shown

-- The replies of all run lines, in file order.
unfoldable pub text_from : List TraceLine → List Reply → List ℕ
text_from [] rs = []
text_from (l ∷ ls) [] = []
text_from (l ∷ ls) (r ∷ rs) = reply_text l r ++ text_from ls rs

-- The text of a run with these replies.
abbrev pub text_of : AcceptedTrace → List Reply → List ℕ
text_of t rs = text_from t.lines rs
