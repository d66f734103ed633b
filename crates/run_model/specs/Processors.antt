-- The processors of a partition: what each keeps after one of its lines, by that line and its reply
-- alone.
use Rattle.std.specs.Prelude.{ℕ, List, [], ◌∷◌, Option, Some, None, slice_index_or, slice_set}
use Rattle.entry_model.specs.declared.line.Line.{Line}
use Rattle.slb_model.specs.declared.error.BadSlb.{BadSlb}
use Rattle.slb_model.specs.declared.slot.Slot.{Slot}
use Rattle.slb_model.specs.Refusals.{mte_refusal}
use Rattle.authority_mask.specs.Authority.{with_mask}
use Rattle.slb_model.specs.Buffer.{no_slots, slots_after, segment_of}
use Rattle.tlb_model.specs.CacheAfter.{cache_after, gone_line}
use Rattle.tlb_model.specs.Processor.{Processor, new_processor}
use Rattle.trace_line.specs.declared.act.Act.{Act}
use Rattle.trace_reply.specs.declared.reply.Reply.{Reply}
use Rattle.trace_reply.specs.Replies.{RepliedLine}
use Rattle.trace_line.specs.declared.act.Act.TheVariants as acts
use Rattle.trace_reply.specs.declared.reply.Reply.TheVariants as replies

-- The processor of a number; beyond the last, a new one.
abbrev pub processor_at : List Processor → ℕ → Processor
processor_at processors cpu = slice_index_or processors cpu new_processor

-- An slbmte that is refused leaves its slot.
abbrev pub slots_or :
    Option BadSlb → List (Option Slot) → List (Option Slot) → List (Option Slot)
slots_or None slots old = slots
slots_or (Some error) slots old = old

-- A processor after one of its lines.
abbrev pub processor_after : Processor → Act → Reply → Processor
processor_after p (acts.SlbMte rb rs) r =
    record p { slots = slots_or (mte_refusal rb rs) (slots_after p.slots rb rs) p.slots }
processor_after p acts.SlbClear r = record p { slots = no_slots }
processor_after p (acts.SetMask name value) r =
    record p { masks = with_mask p.masks name value }
processor_after p (acts.Access want ea user) (replies.Access r) =
    record p { cache = cache_after p.cache (segment_of p.slots ea) r.by r }
processor_after p act r = p

-- All processors after a line.
abbrev pub processors_after : List Processor → RepliedLine → List Processor
processors_after processors t =
    slice_set
    processors
    t.line.cpu
    (processor_after (processor_at processors t.line.cpu) t.line.act t.reply)

-- The processors after these lines.
abbrev pub processors_behind : List Processor → List RepliedLine → List Processor
processors_behind processors [] = processors
processors_behind processors (t ∷ ts) = processors_behind (processors_after processors t) ts

-- The cached translation that was gone when a line was run: that of the page which an access then
-- walked.
abbrev pub gone_line_of : Processor → Act → Reply → Option Line
gone_line_of p (acts.Access want ea user) (replies.Access r) =
    gone_line p.cache (segment_of p.slots ea) r
gone_line_of p act r = None
