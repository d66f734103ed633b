-- What the reply to a line that isn't quiet is, by its receipts.
use Rattle.std.specs.Prelude.{◌≡◌, ℕ, Bool, true, List, slice_index, Option, Some, None, is_none}
use Rattle.bus_window.specs.Windows.{BusWindow}
use Rattle.dma_window.specs.Calls.{put_tce_plan, get_tce_plan}
use Rattle.dma_window.specs.Devices.{IsDeviceReply}
use Rattle.frame_grants.specs.declared.grant.Grant.{Grant}
use Rattle.papr_codes.specs.declared.calls.Hcall.{Hcall}
use Rattle.papr_codes.specs.Hcalls.{hcall_of}
use Rattle.entry_model.specs.Replies.{no_window_reply}
use Rattle.entry_model.specs.Trial.{Plan, IsReplyOf, plan_of_code}
use Rattle.call_plan.specs.Hcalls.{entries_plan}
use Rattle.slb_model.specs.Refusals.{mte_refusal}
use Rattle.slb_model.specs.Buffer.{segment_of}
use Rattle.hpt_walk.specs.Access.{AccessContext, IsAccessReply, request}
use Rattle.tlb_model.specs.Processor.{Processor}
use Rattle.run_model.specs.StoreContexts.{StoreContext}
use Rattle.trace_line.specs.declared.act.Act.{Act}
use Rattle.trace_reply.specs.declared.reply.Reply.{Reply}
use Rattle.tlb_model.specs.Cache.{cached_line}
use Rattle.papr_codes.specs.declared.calls.Hcall.TheVariants as calls
use Rattle.papr_codes.specs.declared.codes.Rc.TheVariants as rc
use Rattle.trace_line.specs.declared.act.Act.TheVariants as acts
use Rattle.trace_reply.specs.declared.reply.Reply.TheVariants as replies

-- ---- calls
-- H_PUT_TCE of this bus address and TCE. On the page table, whose entries are no window's, it is
-- answered H_PARAMETER.
abbrev pub put_plan : List Grant → Option BusWindow → ℕ → ℕ → Plan
put_plan grants None ioba tce = plan_of_code rc.Parameter
put_plan grants (Some w) ioba tce = put_tce_plan grants w ioba tce

-- H_GET_TCE of this bus address, likewise.
abbrev pub get_plan : Option BusWindow → ℕ → Plan
get_plan None ioba = plan_of_code rc.Parameter
get_plan (Some w) ioba = get_tce_plan w ioba

-- What a hypervisor call does that isn't made at a quiet line, on a store of entries. A resize
-- call, and a number that is no call, are answered H_FUNCTION here.
unfoldable pub hcall_plan : StoreContext → Hcall → List ℕ → Plan
hcall_plan context calls.PutTce args =
    put_plan context.grants context.window (slice_index args 1) (slice_index args 2)
hcall_plan context calls.GetTce args = get_plan context.window (slice_index args 1)
hcall_plan context other args = entries_plan context.order context.grants other args

-- ---- replies
-- The reply of a device's access by the window whose entries a store has. On the page table it
-- finds no window.
abbrev pub IsDeviceLine : List Grant → Option BusWindow → Bool → ℕ → Reply → Type 0
IsDeviceLine grants None write ioba r = r ≡ replies.Device no_window_reply
IsDeviceLine grants (Some w) write ioba (replies.Device d) = IsDeviceReply grants w ioba write d
IsDeviceLine grants (Some w) write ioba other = ⊥

-- The reply of a hypervisor call and of a device's access is the one of its receipts. An slbmte is
-- refused exactly if the buffer refuses its words; to clear the buffer or to set a mask never
-- is.
abbrev pub IsCallReply : StoreContext → Act → Reply → Type 0
IsCallReply context (acts.Call number args spelt) (replies.Hcall h) =
    IsReplyOf (hcall_plan context (hcall_of number) args) h
IsCallReply context (acts.Call number args spelt) other = ⊥
IsCallReply context (acts.Device write liobn ioba) r =
    IsDeviceLine context.grants context.window write ioba r
IsCallReply context (acts.SlbMte rb rs) r = r ≡ replies.Segment (is_none (mte_refusal rb rs))
IsCallReply context acts.SlbClear r = r ≡ replies.Segment true
IsCallReply context (acts.SetMask name value) r = r ≡ replies.MaskSet
IsCallReply context other r = Unit {0}

-- The reply of an access is the one of its receipts, for the segments, the masks and the cache that
-- the processor has then.
abbrev pub IsReplyToAccess : AccessContext → Processor → Act → Reply → Type 0
IsReplyToAccess context p (acts.Access want ea user) (replies.Access r) =
    IsAccessReply
    context
    (cached_line p.cache)
    (request want ea user p.masks)
    (segment_of p.slots ea)
    r
IsReplyToAccess context p (acts.Access want ea user) other = ⊥
IsReplyToAccess context p other r = Unit {0}
