-- Accesses that an authority mask refuses, and runs whose masks are 0.
use Rattle.std.specs.Prelude.{◌≡◌, ◌↔◌, false}
use Rattle.std.specs.List.{AllByRecursion}
use Rattle.authority_mask.specs.Authority.{no_masks}
use Rattle.authority_mask.specs.declared.masks.MaskName.{MaskName}
use Rattle.entry_model.specs.declared.access_reply.Outcome.TheVariants.{Masked}
use Rattle.entry_model.specs.declared.receipt.Receipt.{Receipt}
use Rattle.entry_model.specs.Receipt.{is_masked, found_of}
use Rattle.slb_model.specs.Buffer.{segment_of}
use Rattle.hpt_walk.specs.Access.{request}
use Rattle.hpt_walk.specs.Laws.{IsRefusedByMask}
use Rattle.tlb_model.specs.Processor.{Processor}
use Rattle.trace_line.specs.declared.act.Act.{Act}
use Rattle.trace_reply.specs.declared.reply.Reply.{Reply}
use Rattle.trace_reply.specs.Replies.{RepliedLine}
use Rattle.run_model.specs.Sections.{Section}
use Rattle.run_model.specs.GoodRun.{EachLine}
use Rattle.trace_line.specs.declared.act.Act.TheVariants as acts
use Rattle.trace_reply.specs.declared.reply.Reply.TheVariants as replies

-- ---- one access
-- The line is no access of this processor, or a mask of the processor refused it exactly if the
-- receipt that it ended with says so: protection allows the access by the entry as it was before,
-- and the mask refuses it for the entry's key.
abbrev pub IsMaskedByItsEntry : Processor → Act → Reply → Type 0
IsMaskedByItsEntry p (acts.Access want ea user) (replies.Access r) =
    (name : MaskName)
    → (r.outcome ≡ Masked name)
    ↔ IsRefusedByMask
    (segment_of p.slots ea)
    (request want ea user p.masks)
    name
    (found_of r.receipts)
IsMaskedByItsEntry p act reply = Unit {0}

-- In a section masks refuse exactly the accesses whose last receipts say so.
abbrev pub MasksRefuse : Section → Type 0
MasksRefuse s = EachLine (λ p t. IsMaskedByItsEntry p t.line.act t.reply) s

-- ---- masks of 0
-- The line sets no mask, or sets it to 0.
abbrev pub SetsZero : Act → Type 0
SetsZero (acts.SetMask name value) = value ≡ 0
SetsZero other = Unit {0}

-- The line is no access, or none of its receipts says Masked.
abbrev pub HasNoMasked : Act → Reply → Type 0
HasNoMasked (acts.Access want ea user) (replies.Access r) =
    AllByRecursion (λ (x : Receipt). is_masked x.answer ≡ false) r.receipts
HasNoMasked act reply = Unit {0}

-- Both masks of the processor are 0, and no entry answers an access Masked.
pub record IsUnmasked (p : Processor) (t : RepliedLine) : Type 0 where
  pub masks : p.masks ≡ no_masks
  pub answers : HasNoMasked t.line.act t.reply

-- On each line of the section both masks are 0, and no entry answers an access Masked.
abbrev pub NoneIsMasked : Section → Type 0
NoneIsMasked s = EachLine IsUnmasked s
