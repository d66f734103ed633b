-- What each reply enters, how far it raises stamps, and that it is safe where its receipts were
-- made on states with low stamps.
use Rattle.std.proofs.Common.{◌≡◌, ℕ, ◌*◌, ◌≤◌, ◌^◌, List, true, false, sym, refl, subst, arith, Option, Some, None}
use Rattle.std.specs.List.{AllByRecursion, range_with_len}
use Rattle.std.specs.Option.{option_map_or}
use Rattle.power_addr.specs.Pages.{VirtualPage}
use Rattle.papr_codes.specs.declared.calls.Hcall.{Hcall}
use Rattle.papr_codes.specs.Hcalls.{hcall_of}
use Rattle.page_sizes.specs.declared.size.PageSize.{PageSize}
use Rattle.page_sizes.specs.Sizes.{size_of}
use Rattle.hpte_fields.specs.Fields.{frame_of, wimg_of}
use Rattle.frame_grants.specs.declared.grant.Grant.{Grant}
use Rattle.frame_grants.specs.declared.grant.Kind.{Kind}
use Rattle.frame_grants.specs.Grants.{GrantedMemory, machine_range}
use Rattle.hpt_hash.specs.Hash.{group_of}
use Rattle.entry_model.specs.declared.operation.Op.{Op}
use Rattle.entry_model.specs.declared.line.Line.{Line}
use Rattle.entry_model.specs.declared.access_reply.AccessReply.{AccessReply}
use Rattle.entry_model.specs.declared.access_reply.By.{By}
use Rattle.entry_model.specs.declared.access_reply.By.TheVariants.{Hit, Walk}
use Rattle.entry_model.specs.declared.hreply.HReply.{HReply}
use Rattle.entry_model.specs.declared.receipt.Receipt.{Receipt}
use Rattle.entry_model.specs.Receipt.{is_no_match}
use Rattle.tlb_model.specs.Cache.{cached_line}
use Rattle.entry_model.specs.Trial.{Call, IsTrial, IsReplyOf, call}
use Rattle.entry_model.proofs.Heights.{weight, calls_cost, trial_weight, cost_append}
use Rattle.entry_model.proofs.PlanBounds.{EntersOnly, IsTame, IsTameReply, answered_tame, tame_reply, trial_ops, each_call, entries_cost}
use Rattle.page_grants.specs.Suited.{suits_grants, suits_size, suits_kind}
use Rattle.call_plan.proofs.EachCall.{each_tame}
use Rattle.call_plan.proofs.Suited.{IsSuited, entered_suited}
use Rattle.slb_model.specs.declared.segment.Segment.{Segment}
use Rattle.slb_model.specs.Buffer.{segment_of}
use Rattle.hpt_walk.specs.Walk.{access_op, group_calls, walk_calls}
use Rattle.hpt_walk.specs.Access.{AccessContext, hit_calls, IsByWay, IsAccessReply, request, mode_for}
use Rattle.hpt_walk.specs.declared.request.Request.{Request}
use Rattle.tlb_model.specs.Processor.{Processor}
use Rattle.hpt_walk.proofs.Granted.{IsGrantedPage, IsGrantedWords}
use Rattle.trace_line.specs.declared.act.Act.{Act}
use Rattle.trace_reply.specs.declared.reply.Reply.{Reply}
use Rattle.trace_reply.specs.Replies.{IsOfKind, receipts_in}
use Rattle.run_model.specs.StoreContexts.{table_context}
use Rattle.run_model.specs.LineReplies.{hcall_plan, IsCallReply, IsReplyToAccess}
use Rattle.run_model.specs.Landings.{IsUnworn}
use Rattle.basics.proofs.Each.{each_map, each_append}
use Rattle.run_model.proofs.LowStamps.{top, EnterGranted, FromLowStamp, none_worn}
use Rattle.papr_codes.specs.declared.calls.Hcall.TheVariants as calls
use Rattle.papr_codes.specs.declared.codes.Rc.TheVariants as rc
use Rattle.entry_model.specs.declared.operation.Op.TheVariants as ops
use Rattle.trace_line.specs.declared.act.Act.TheVariants as acts
use Rattle.trace_reply.specs.declared.reply.Reply.TheVariants as replies

-- ---- words that H_ENTER accepts have a granted page
size_granted :
    (grants : List Grant) (dword1 actual : ℕ) (x : Option (ℕ × Kind))
    → machine_range grants (frame_of dword1 actual) (2 ^ actual) ≡ x
    → option_map_or (λ (y : ℕ × Kind). suits_kind (wimg_of dword1) y.1) x false ≡ true
    → IsGrantedPage grants (frame_of dword1 actual) actual
size_granted grants dword1 actual None e h = absurd (cc)
size_granted grants dword1 actual (Some x) e h = (x, e)

words_granted :
    (grants : List Grant) (dword1 : ℕ) (size : Option PageSize)
    → option_map_or (suits_size grants dword1) size false ≡ true
    → IsGrantedPage grants (frame_of dword1 (option_map_or (λ (s : PageSize). s.actual) size 12))
    (option_map_or (λ (s : PageSize). s.actual) size 12)
words_granted grants dword1 None h = absurd (cc)
words_granted grants dword1 (Some size) h =
    size_granted grants dword1 size.actual
    (machine_range grants (frame_of dword1 size.actual) (2 ^ size.actual)) refl h

pub suited_granted :
    (grants : List Grant) (dword0 dword1 : ℕ)
    → IsSuited grants dword0 dword1
    → IsGrantedWords grants dword0 dword1
unfolding suits_grants
suited_granted grants dword0 dword1 h =
    record { page = words_granted grants dword1 (size_of dword0 dword1) h.suits; fits = h.fits }

enters_granted :
    (grants : List Grant) (op : Op)
    → EntersOnly (IsSuited grants) op
    → EntersOnly (IsGrantedWords grants) op
enters_granted grants (ops.Enter dword0 dword1) h = suited_granted grants dword0 dword1 h
enters_granted grants other h = tt

-- ---- hypervisor calls
hcall_tame :
    (set : AccessContext) (h : Hcall) (args : List ℕ)
    → IsTame (IsSuited set.grants) (hcall_plan (table_context set) h args)
unfolding hcall_plan
hcall_tame set calls.GetTce args = answered_tame (IsSuited set.grants) rc.Parameter (λ e. cc)
hcall_tame set calls.PutTce args = answered_tame (IsSuited set.grants) rc.Parameter (λ e. cc)
hcall_tame set other args =
    each_tame (IsSuited set.grants) set.order set.grants other args (entered_suited set.grants)

-- ---- lines
-- What is entered has a granted page, few stamps are raised, and the reply is safe where the stamps
-- before were low.
pub record IsTameLine (granted : GrantedMemory) (reply : Reply) : Type 0 where
  pub enters : EnterGranted granted.grants (receipts_in reply)
  pub few : weight (receipts_in reply) ≤ 32
  pub safe : FromLowStamp granted.grants top (receipts_in reply) → IsUnworn reply

call_line :
    (granted : GrantedMemory) (set : AccessContext) (h : Hcall) (args : List ℕ) (reply : HReply)
    → set.grants ≡ granted.grants
    → IsReplyOf (hcall_plan (table_context set) h args) reply
    → IsTameLine granted (replies.Hcall reply)
call_line granted set h args reply same is =
    let tame : IsTameReply (IsSuited granted.grants) reply = subst
    (λ g. IsTameReply (IsSuited g) reply) same
    (tame_reply (IsSuited set.grants) (hcall_plan (table_context set) h args) reply
    (hcall_tame set h args) is) in
    record {
      enters =
          each_map (λ (r : Receipt). EntersOnly (IsSuited granted.grants) r.op)
          (λ (r : Receipt). EntersOnly (IsGrantedWords granted.grants) r.op) reply.receipts
          (λ r. enters_granted granted.grants r.op) tame.enters;
      few = tame.few;
      safe = λ low_stamp. tame.code (none_worn granted.grants reply.receipts low_stamp);
    }

-- ---- accesses
access_line :
    (granted : GrantedMemory) (r : AccessReply) (cs : List Call)
    → AllByRecursion (λ (c : Call). EntersOnly (IsGrantedWords granted.grants) c.op) cs
    → calls_cost cs ≤ 32
    → IsTrial is_no_match cs r.receipts
    → IsTameLine granted (replies.Access r)
access_line granted r cs enters low trial = record {
  enters =
      trial_ops (EntersOnly (IsGrantedWords granted.grants)) is_no_match cs r.receipts enters trial;
  few = omega (arith, trial_weight is_no_match cs r.receipts trial);
  safe = λ low_stamp. tt;
}

walk_cost :
    (order : ℕ) (seg : Segment) (a : Request)
    → calls_cost (walk_calls order seg.page (mode_for seg a)) ≤ 32
unfolding walk_calls
walk_cost order seg a =
    let first = access_op seg.page (mode_for seg a) false in
    let second = access_op seg.page (mode_for seg a) true in
    omega (
      arith,
      cost_append (group_calls first (group_of seg.page order false))
          (group_calls second (group_of seg.page order true)),
      entries_cost first (group_of seg.page order false * 8) 8,
      entries_cost second (group_of seg.page order true * 8) 8,
    )

pub walk_enters :
    (W : ℕ → ℕ → Type 0) (order : ℕ) (seg : Segment) (a : Request)
    → AllByRecursion (λ (c : Call). EntersOnly W c.op) (walk_calls order seg.page (mode_for seg a))
unfolding walk_calls
walk_enters W order seg a =
    let first = access_op seg.page (mode_for seg a) false in
    let second = access_op seg.page (mode_for seg a) true in
    each_append (λ (c : Call). EntersOnly W c.op)
    (group_calls first (group_of seg.page order false))
    (group_calls second (group_of seg.page order true))
    (each_call (EntersOnly W) first (range_with_len (group_of seg.page order false * 8) 8) tt)
    (each_call (EntersOnly W) second (range_with_len (group_of seg.page order true * 8) 8) tt)

way_line :
    (granted : GrantedMemory) (set : AccessContext) (seg : Segment) (a : Request) (c : Option Line)
    (by : Option By) (r : AccessReply)
    → IsByWay set seg a c by r
    → IsTameLine granted (replies.Access r)
way_line granted set seg a (Some line) (Some Hit) r h =
    access_line granted r (hit_calls seg a line) (tt, tt) (omega arith) h.trial
way_line granted set seg a (Some line) (Some Walk) r h =
    access_line granted r (walk_calls set.order seg.page (mode_for seg a))
    (walk_enters (IsGrantedWords granted.grants) set.order seg a) (walk_cost set.order seg a)
    h.trial
way_line granted set seg a None (Some Walk) r h =
    access_line granted r (walk_calls set.order seg.page (mode_for seg a))
    (walk_enters (IsGrantedWords granted.grants) set.order seg a) (walk_cost set.order seg a)
    h.trial
way_line granted set seg a None (Some Hit) r h = absurd h
way_line granted set seg a None None r h = absurd h
way_line granted set seg a (Some line) None r h = absurd h

segment_line :
    (granted : GrantedMemory) (set : AccessContext) (cached : VirtualPage → Option Line)
    (a : Request) (s : Option Segment) (r : AccessReply)
    → IsAccessReply set cached a s r
    → IsTameLine granted (replies.Access r)
segment_line granted set cached a None r h =
    subst (λ (x : AccessReply). IsTameLine granted (replies.Access x)) (sym h)
    (record { enters = tt; few = omega arith; safe = λ low_stamp. tt })
segment_line granted set cached a (Some seg) r h =
    way_line granted set seg a (cached seg.page) r.by r h

-- ---- each line
pub line_tame :
    (granted : GrantedMemory) (set : AccessContext) (processor : Processor) (act : Act)
    (reply : Reply)
    → set.grants ≡ granted.grants
    → IsOfKind act reply
    → IsCallReply (table_context set) act reply
    → IsReplyToAccess set processor act reply
    → IsTameLine granted reply
line_tame granted set processor (acts.Call number args spelt) (replies.Hcall h) same kind call acc =
    call_line granted set (hcall_of number) args h same call
line_tame granted set processor (acts.Access want ea user) (replies.Access r) same kind call acc =
    segment_line granted set (cached_line processor.cache) (request want ea user processor.masks)
    (segment_of processor.slots ea) r acc
line_tame granted set processor (acts.SlbMte rb rs) (replies.Segment accepted) same kind call acc =
    record { enters = tt; few = omega arith; safe = λ low_stamp. tt }
line_tame granted set processor acts.SlbClear (replies.Segment accepted) same kind call acc =
    record { enters = tt; few = omega arith; safe = λ low_stamp. tt }
line_tame granted set processor (acts.SetMask name value) replies.MaskSet same kind call acc =
    record { enters = tt; few = omega arith; safe = λ low_stamp. tt }
line_tame granted set processor (acts.Device write liobn ioba) (replies.Device r) same kind call acc
    =
    subst (λ (x : Reply). IsTameLine granted x) (sym call)
    (record { enters = tt; few = omega arith; safe = λ low_stamp. tt })
line_tame granted set processor acts.Dump (replies.Dump shown) same kind call acc =
    record { enters = tt; few = omega arith; safe = λ low_stamp. tt }
line_tame granted set processor act reply same kind call acc = absurd kind
