-- A processor without a segment and without a cached translation.
use Rattle.std.proofs.Common.{◌≡◌, ℕ, zero, suc, List, [], replicate, Option, None, refl, subst}
use Rattle.power_addr.specs.Pages.{VirtualPage}
use Rattle.slb_model.specs.declared.segment.Segment.{Segment}
use Rattle.slb_model.specs.declared.slot.Slot.{Slot}
use Rattle.slb_model.specs.Buffer.{no_slots, segment_of}
use Rattle.entry_model.specs.declared.line.Line.{Line}
use Rattle.entry_model.specs.declared.access_reply.AccessReply.{AccessReply}
use Rattle.entry_model.specs.declared.receipt.Receipt.{Receipt}
use Rattle.entry_model.specs.Run.{IsRun}
use Rattle.entry_model.specs.State.{State}
use Rattle.tlb_model.specs.Cache.{AllCached}
use Rattle.hpt_walk.specs.declared.request.Request.{Request}
use Rattle.hpt_walk.specs.Access.{AccessContext, IsAccessReply, no_segment_reply}

no_segment : (ea : ℕ) → segment_of no_slots ea ≡ None
unfolding no_slots segment_of
no_segment ea = refl

pub replied :
    (context : AccessContext) (cached : VirtualPage → Option Line) (a : Request) (ea : ℕ)
    (slots : List (Option Slot)) (r : AccessReply)
    → slots ≡ no_slots
    → IsAccessReply context cached a (segment_of slots ea) r
    → r ≡ no_segment_reply
replied context cached a ea slots r none reply =
    let at_none : IsAccessReply context cached a (segment_of no_slots ea) r = subst
    (λ (s : List (Option Slot)). IsAccessReply context cached a (segment_of s ea) r) none reply
    in
    subst (λ (segment : Option Segment). IsAccessReply context cached a segment r) (no_segment ea)
    at_none

pub nothing_made :
    (old new : List State) (rs : List Receipt) → rs ≡ [] → IsRun old rs new → new ≡ old
nothing_made old new rs none made = subst (λ (xs : List Receipt). IsRun old xs new) none made
