-- An access without a receipt that says At changes no entry.
use Rattle.std.proofs.Common.{◌≡◌, ℕ, ◌*◌, List, [], ◌∷◌, true, false, Option, Some, None, ap, sym, ◌∙◌, refl, subst, set}
use Rattle.std.specs.List.{AllByRecursion, range_with_len}
use Rattle.std.proofs.lemmas.List.{set-get_or}
use Rattle.entry_model.proofs.PlanBounds.{each_call}
use Rattle.power_addr.specs.Pages.{VirtualPage}
use Rattle.hpt_hash.specs.Hash.{group_of}
use Rattle.slb_model.specs.declared.segment.Segment.{Segment}
use Rattle.entry_model.specs.State.{State, empty_state}
use Rattle.entry_model.specs.declared.line.Line.{Line}
use Rattle.entry_model.specs.declared.receipt.Receipt.{Receipt}
use Rattle.entry_model.specs.declared.access_reply.AccessReply.{AccessReply}
use Rattle.entry_model.specs.declared.access_reply.By.{By}
use Rattle.entry_model.specs.declared.access_reply.By.TheVariants.{Hit, Walk}
use Rattle.entry_model.specs.Receipt.{is_no_match, is_access, is_at, after_of}
use Rattle.entry_model.specs.Run.{IsRun, IsStep}
use Rattle.entry_model.specs.Trial.{Call, IsTrial}
use Rattle.entry_model.specs.Reply.{AccessMode}
use Rattle.entry_model.proofs.OperationLaws.{access_undone}
use Rattle.hpt_walk.specs.declared.request.Request.{Request}
use Rattle.hpt_walk.specs.Access.{AccessContext, IsAccessReply, IsByWay, hit_calls, mode_for}
use Rattle.hpt_walk.specs.Walk.{access_op, group_calls, walk_calls}
use Rattle.hpt_walk.proofs.Found.{trial_ops}
use Rattle.basics.proofs.Each.{each_append}

-- ---- receipts
-- Each receipt is of an access.
abbrev pub AreAccesses : List Receipt → Type 0
AreAccesses rs = AllByRecursion (λ (r : Receipt). is_access r.op ≡ true) rs

step_still :
    (old new : List State) (r : Receipt)
    → is_access r.op ≡ true
    → is_at r.answer ≡ false
    → IsStep old r new
    → new ≡ old
step_still old new r access off step =
    let still : after_of r ≡ r.before = access_undone r.before r.op access
    (ap is_at (sym r.lawful) ∙ off) in
    step.after
    ∙ ap (λ s. set old r.entry s) (still ∙ step.before)
    ∙ set-get_or old r.entry (empty_state 0)

run_still :
    (old new : List State) (rs : List Receipt)
    → AreAccesses rs
    → AllByRecursion (λ (r : Receipt). is_at r.answer ≡ false) rs
    → IsRun old rs new
    → new ≡ old
run_still old new [] access off run = run
run_still old new (r ∷ rs) access off run =
    run_still run.0 new rs access.1 off.1 run.2 ∙ step_still old run.0 r access.0 off.0 run.1

-- ---- the receipts of an access
pub calls_access :
    (order : ℕ) (page : VirtualPage) (mode : AccessMode)
    → AllByRecursion (λ (c : Call). is_access c.op ≡ true) (walk_calls order page mode)
unfolding walk_calls
calls_access order page mode =
    each_append (λ (c : Call). is_access c.op ≡ true)
    (group_calls (access_op page mode false) (group_of page order false))
    (group_calls (access_op page mode true) (group_of page order true))
    (each_call (λ op. is_access op ≡ true) (access_op page mode false)
    (range_with_len (group_of page order false * 8) 8) refl)
    (each_call (λ op. is_access op ≡ true) (access_op page mode true)
    (range_with_len (group_of page order true * 8) 8) refl)

walk_accesses :
    (order : ℕ) (page : VirtualPage) (mode : AccessMode) (rs : List Receipt)
    → IsTrial is_no_match (walk_calls order page mode) rs
    → AreAccesses rs
walk_accesses order page mode rs trial =
    trial_ops (λ op. is_access op ≡ true) (walk_calls order page mode) rs
    (calls_access order page mode) trial

way_accesses :
    (context : AccessContext) (seg : Segment) (a : Request) (line : Option Line) (way : Option By)
    (reply : AccessReply)
    → IsByWay context seg a line way reply
    → AreAccesses reply.receipts
way_accesses context seg a (Some line) (Some Hit) reply h =
    trial_ops (λ op. is_access op ≡ true) (hit_calls seg a line) reply.receipts (refl, tt) h.trial
way_accesses context seg a (Some line) (Some Walk) reply h =
    walk_accesses context.order seg.page (mode_for seg a) reply.receipts h.trial
way_accesses context seg a (Some line) None reply h = absurd h
way_accesses context seg a None (Some Walk) reply h =
    walk_accesses context.order seg.page (mode_for seg a) reply.receipts h.trial
way_accesses context seg a None (Some Hit) reply h = absurd h
way_accesses context seg a None None reply h = absurd h

pub reply_accesses :
    (context : AccessContext) (cached : VirtualPage → Option Line) (a : Request)
    (segment : Option Segment) (reply : AccessReply)
    → IsAccessReply context cached a segment reply
    → AreAccesses reply.receipts
reply_accesses context cached a None reply h =
    subst (λ (x : AccessReply). AreAccesses x.receipts) (sym h) tt
reply_accesses context cached a (Some seg) reply h =
    way_accesses context seg a (cached seg.page) reply.by reply h

pub only_at_changes :
    (context : AccessContext) (cached : VirtualPage → Option Line) (a : Request)
    (segment : Option Segment) (reply : AccessReply) (old new : List State)
    → IsAccessReply context cached a segment reply
    → AllByRecursion (λ (r : Receipt). is_at r.answer ≡ false) reply.receipts
    → IsRun old reply.receipts new
    → new ≡ old
only_at_changes context cached a segment reply old new h off run =
    run_still old new reply.receipts (reply_accesses context cached a segment reply h) off run
