-- The reply to an access by a walk is about an entry that translates its page.
use Rattle.std.proofs.Common.{Option, None, Some, refl}
use Rattle.power_addr.specs.Pages.{VirtualPage}
use Rattle.slb_model.specs.declared.segment.Segment.{Segment}
use Rattle.entry_model.specs.declared.line.Line.{Line}
use Rattle.entry_model.specs.declared.access_reply.AccessReply.{AccessReply}
use Rattle.entry_model.specs.declared.access_reply.By.{By}
use Rattle.entry_model.specs.declared.access_reply.By.TheVariants.{Hit, Walk}
use Rattle.entry_model.specs.Receipt.{found_of}
use Rattle.hpt_walk.specs.Access.{AccessContext, IsByWay, IsAccessReply, mode_for}
use Rattle.hpt_walk.specs.declared.request.Request.{Request}
use Rattle.hpt_walk.proofs.Walks.{walk_translates}
use Rattle.vcpu.specs.Walked.{WalkFindsPage}

way_finds :
    (set : AccessContext) (seg : Segment) (x : Request) (c : Option Line) (by : Option By)
    (r : AccessReply)
    → IsByWay set seg x c by r
    → WalkFindsPage (Some seg) by r.receipts
way_finds set seg x (Some line) (Some Hit) r w = tt
way_finds set seg x (Some line) (Some Walk) r w =
    walk_translates set.order seg.page (mode_for seg x) r.receipts (found_of r.receipts) w.trial
    refl
way_finds set seg x (Some line) None r w = tt
way_finds set seg x None (Some Hit) r w = tt
way_finds set seg x None (Some Walk) r w =
    walk_translates set.order seg.page (mode_for seg x) r.receipts (found_of r.receipts) w.trial
    refl
way_finds set seg x None None r w = tt

pub access_finds :
    (set : AccessContext) (cached : VirtualPage → Option Line) (x : Request) (s : Option Segment)
    (r : AccessReply)
    → IsAccessReply set cached x s r
    → WalkFindsPage s r.by r.receipts
access_finds set cached x None r is = tt
access_finds set cached x (Some seg) r is = way_finds set seg x (cached seg.page) r.by r is
