-- The steps of a line, by the marks of its reply.
use Rattle.std.specs.List.{range_with_len}
use Rattle.std.proofs.Common.{◌≡◌, ℕ, ◌*◌, ◌≤◌, List, [], ◌∷◌, Bool, true, false, ap, sym, ◌∙◌, refl, subst, ◌⊎◌, inl, inr, map, length, arith, Option, Some, None}
use Rattle.std.proofs.lemmas.Bool.{cases_Bool}
use Rattle.std.proofs.lemmas.List.{length-map}
use Rattle.hpt_walk.proofs.Walks.{calls-length}
use Rattle.call_plan.proofs.TrialCalls.{few_of}
use Rattle.papr_codes.specs.Hcalls.{hcall_of}
use Rattle.entry_model.specs.declared.operation.Answer.{Answer}
use Rattle.entry_model.specs.declared.operation.Op.{Op}
use Rattle.entry_model.specs.declared.receipt.Receipt.{Receipt}
use Rattle.entry_model.specs.declared.line.Line.{Line}
use Rattle.entry_model.specs.declared.access_reply.AccessReply.{AccessReply}
use Rattle.entry_model.specs.declared.access_reply.By.{By}
use Rattle.entry_model.specs.declared.access_reply.By.TheVariants.{Hit, Walk}
use Rattle.entry_model.specs.Trial.{Call, call, IsTrial}
use Rattle.entry_model.specs.Receipt.{IsReceiptOf, is_no_match}
use Rattle.entry_model.specs.Reply.{reply_of}
use Rattle.entry_model.specs.declared.operation.Op.TheVariants as ops
use Rattle.entry_model.specs.declared.device_reply.DeviceReply.{DeviceReply}
use Rattle.authority_mask.specs.Authority.{no_masks}
use Rattle.bus_window.specs.Windows.{BusWindow, entry_at}
use Rattle.dma_window.specs.Devices.{IsDeviceReplyBy}
use Rattle.frame_grants.specs.declared.grant.Grant.{Grant}
use Rattle.power_addr.specs.Pages.{VirtualPage}
use Rattle.slb_model.specs.declared.segment.Segment.{Segment}
use Rattle.slb_model.specs.Buffer.{segment_of}
use Rattle.hpt_hash.specs.Hash.{group_of}
use Rattle.hpt_walk.specs.Walk.{access_op, group_calls, walk_calls}
use Rattle.hpt_walk.specs.Access.{AccessContext, mode_for, hit_calls, IsByWay, IsAccessReply, request}
use Rattle.hpt_walk.specs.declared.request.Request.{Request}
use Rattle.tlb_model.specs.Cache.{cached_line}
use Rattle.tlb_model.specs.Processor.{Processor}
use Rattle.trace_line.specs.declared.act.Act.{Act}
use Rattle.trace_line.specs.declared.act.Act.TheVariants as acts
use Rattle.trace_line.specs.Lines.{is_quiet}
use Rattle.trace_reply.specs.declared.reply.Reply.{Reply}
use Rattle.trace_reply.specs.declared.reply.Reply.TheVariants as replies
use Rattle.trace_reply.specs.Replies.{receipts_in}
use Rattle.run_model.specs.LineReplies.{hcall_plan, IsDeviceLine, IsCallReply, IsReplyToAccess}
use Rattle.run_model.specs.StoreContexts.{StoreContext, access_of}
use Rattle.basics.proofs.Each.{each_append}
use Rattle.receipt_text.specs.Receipts.{mark_of}
use Rattle.history_check.specs.ReplyMarks.{marks_in}
use Rattle.history_check.specs.Steps.{step_op, unless_worn, place_by, ops_of}
use Rattle.history_check.specs.PlacedSteps.{placed_step, placed_mark, named_ops, act_op, line_op, is_store_act, placed_line}
use Rattle.history_check.proofs.Alike.{is_store_access}
use Rattle.history_check.proofs.SectionFixed.{place_is}
use Rattle.history_check.proofs.CallSteps.{Keeps, AllKeep, keeps, each_keeps, plan_keeps}
use Rattle.run_model.proofs.StoreLines.{dump_is_quiet}

-- ---- trials
-- a receipt's step, by its mark and its line
one_placed :
    (r : Receipt) (act : Act)
    → is_store_access (step_op r.op) ≡ is_store_act act
    → unless_worn r.answer (step_op r.op) ≡ line_op act r.answer
    → placed_step r ≡ placed_mark act (mark_of r)
one_placed r act store same = λ i. record {
  place = (place_is r ∙ ap (place_by (mark_of r)) store) i;
  step = record { entry = r.entry; op = same i; answer = r.answer };
}

-- The calls keep what is stated for the line.
abbrev CallsKeep : Act → List Call → Type 0
CallsKeep act cs = AllKeep (is_store_act act) (act_op act) cs

call_placed :
    (act : Act) (c : Call) (r : Receipt)
    → Keeps (is_store_act act) (act_op act) c.op
    → IsReceiptOf c.entry c.op r
    → placed_step r ≡ placed_mark act (mark_of r)
call_placed act c r w h =
    let told : r.answer ≡ (reply_of r.before c.op).0 = r.lawful ∙ ap (λ o. (reply_of r.before o).0)
    h.op in
    one_placed r act (ap (λ o. is_store_access (step_op o)) h.op ∙ w.stores)
    ((λ i. unless_worn (told i) (step_op (h.op i)))
    ∙ w.each r.before
    ∙ ap (line_op act) (sym told))

same_placed :
    (goes : Answer → Bool) (act : Act) (cs : List Call) (rs : List Receipt)
    → CallsKeep act cs
    → IsTrial goes cs rs
    → map placed_step rs ≡ map (placed_mark act) (map mark_of rs)
same_placed goes act [] [] w h = refl
same_placed goes act [] (r ∷ rs) w h = absurd h
same_placed goes act (c ∷ cs) [] w h = absurd h
same_placed goes act (c ∷ cs) (r ∷ rs) w h =
    let here : placed_step r ≡ placed_mark act (mark_of r) = call_placed act c r w.0 h.0 in
    let rest : map placed_step rs ≡ map (placed_mark act) (map mark_of rs) = at
    (cases_Bool (goes r.answer)) (same_placed goes act cs rs w.1) in
    λ i. here i ∷ rest i where
      none : rs ≡ [] → map placed_step rs ≡ map (placed_mark act) (map mark_of rs)
      none e = subst (λ z. map placed_step z ≡ map (placed_mark act) (map mark_of z)) (sym e) refl

      at :
          (goes r.answer ≡ true) ⊎ (goes r.answer ≡ false)
          → (IsTrial goes cs rs → map placed_step rs ≡ map (placed_mark act) (map mark_of rs))
          → map placed_step rs ≡ map (placed_mark act) (map mark_of rs)
      at (inl q) go = go (rw q at h.1)
      at (inr q) go = none (rw q at h.1)

-- ---- accesses
-- The line that asks this.
abbrev asked : Request → Act
asked a = acts.Access a.want a.ea a.user

access_keeps :
    (a : Request) (op : Op)
    → step_op op ≡ ops.Access 0 0 false false a.want no_masks
    → Keeps (is_store_act (asked a)) (act_op (asked a)) op
access_keeps a op h =
    keeps (is_store_act (asked a)) (ops.Access 0 0 false false a.want no_masks) op h refl

group_keeps :
    (a : Request) (op : Op) (entries : List ℕ)
    → step_op op ≡ ops.Access 0 0 false false a.want no_masks
    → CallsKeep (asked a) (map (call op) entries)
group_keeps a op entries h =
    each_keeps (is_store_act (asked a)) (ops.Access 0 0 false false a.want no_masks) op entries h
    refl

walk_keeps :
    (order : ℕ) (seg : Segment) (a : Request)
    → CallsKeep (asked a) (walk_calls order seg.page (mode_for seg a))
unfolding walk_calls
walk_keeps order seg a =
    let mode = mode_for seg a in
    each_append (λ (c : Call). Keeps (is_store_act (asked a)) (act_op (asked a)) c.op)
    (group_calls (access_op seg.page mode false) (group_of seg.page order false))
    (group_calls (access_op seg.page mode true) (group_of seg.page order true))
    (group_keeps a (access_op seg.page mode false)
    (range_with_len (group_of seg.page order false * 8) 8) refl)
    (group_keeps a (access_op seg.page mode true)
    (range_with_len (group_of seg.page order true * 8) 8) refl)

-- what is shown of the receipts of a line
record Shows (act : Act) (rs : List Receipt) : Type 0 where
  pub steps : map placed_step rs ≡ map (placed_mark act) (map mark_of rs)
  pub few : length rs ≤ 16

way_shows :
    (set : AccessContext) (seg : Segment) (a : Request) (c : Option Line) (way : Option By)
    (r : AccessReply)
    → IsByWay set seg a c way r
    → Shows (asked a) r.receipts
way_shows set seg a (Some line) (Some Hit) r h = record {
  steps =
      same_placed is_no_match (asked a) (hit_calls seg a line) r.receipts
      (access_keeps a _ refl, tt) h.trial;
  few = let few :
      length r.receipts ≤ 1 =
      few_of is_no_match (hit_calls seg a line) r.receipts h.trial in omega arith;
}
way_shows set seg a (Some line) (Some Walk) r h = record {
  steps =
      same_placed is_no_match (asked a) (walk_calls set.order seg.page (mode_for seg a)) r.receipts
      (walk_keeps set.order seg a) h.trial;
  few =
      subst (λ n. length r.receipts ≤ n) (calls-length set.order seg.page (mode_for seg a))
      (few_of is_no_match (walk_calls set.order seg.page (mode_for seg a)) r.receipts
      h.trial);
}
way_shows set seg a None (Some Walk) r h = record {
  steps =
      same_placed is_no_match (asked a) (walk_calls set.order seg.page (mode_for seg a)) r.receipts
      (walk_keeps set.order seg a) h.trial;
  few =
      subst (λ n. length r.receipts ≤ n) (calls-length set.order seg.page (mode_for seg a))
      (few_of is_no_match (walk_calls set.order seg.page (mode_for seg a)) r.receipts
      h.trial);
}
way_shows set seg a None (Some Hit) r h = absurd h
way_shows set seg a None None r h = absurd h
way_shows set seg a (Some line) None r h = absurd h

access_shows :
    (set : AccessContext) (c : VirtualPage → Option Line) (a : Request) (s : Option Segment)
    (r : AccessReply)
    → IsAccessReply set c a s r
    → Shows (asked a) r.receipts
access_shows set c a None r h =
    subst (λ (x : AccessReply). Shows (asked a) x.receipts) (sym h)
    (record { steps = refl; few = omega arith })
access_shows set c a (Some seg) r h = way_shows set seg a (c seg.page) r.by r h

-- ---- accesses of devices
device_shows :
    (grants : List Grant) (ioba : ℕ) (write : Bool) (act : Act) (d : DeviceReply) (entry : Option ℕ)
    → is_store_act act ≡ false
    → ((answer : Answer) → act_op act answer ≡ ops.Read)
    → IsDeviceReplyBy grants ioba write d entry
    → Shows act d.receipts
device_shows grants ioba write act d None none read h =
    subst (λ (x : DeviceReply). Shows act x.receipts) (sym h)
    (record { steps = refl; few = omega arith })
device_shows grants ioba write act d (Some entry) none read h = record {
  steps =
      same_placed (λ answer. true) act (call ops.Read entry ∷ []) d.receipts (
        record {
          stores = sym none;
          each =
              λ s.
              sym (ap (unless_worn (reply_of s ops.Read).0) (read (reply_of s ops.Read).0));
        },
        tt,
      ) h.trial;
  few = let few :
      length d.receipts ≤ 1 =
      few_of (λ answer. true) (call ops.Read entry ∷ []) d.receipts h.trial in omega arith;
}

-- ---- any line
-- The marks of a reply show the steps and places of its receipts, and are no more than sixteen, or
-- than the operations that the line names.
pub record LineShows (context : StoreContext) (act : Act) (r : Reply) : Type 0 where
  pub steps : map placed_step (receipts_in r) ≡ placed_line act (marks_in r)
  pub few : (length (marks_in r) ≤ 16) ⊎ (length (marks_in r) ≤ length (named_ops context act))

many : (rs : List Receipt) (n : ℕ) → length rs ≤ n → length (map mark_of rs) ≤ n
many rs n h = subst (λ m. m ≤ n) (sym (length-map rs mark_of)) h

window_shows :
    (context : StoreContext) (window : Option BusWindow) (write : Bool) (liobn ioba : ℕ) (r : Reply)
    → IsDeviceLine context.grants window write ioba r
    → LineShows context (acts.Device write liobn ioba) r
window_shows context None write liobn ioba r h =
    subst (LineShows context (acts.Device write liobn ioba)) (sym h)
    (record { steps = refl; few = inl (omega arith) })
window_shows context (Some w) write liobn ioba (replies.Device d) h =
    let shown = device_shows context.grants ioba write (acts.Device write liobn ioba) d
    (entry_at w ioba) refl (λ answer. refl) h in
    record { steps = shown.steps; few = inl (many d.receipts 16 shown.few) }
window_shows context (Some w) write liobn ioba (replies.Hcall d) h = absurd h
window_shows context (Some w) write liobn ioba (replies.Access d) h = absurd h
window_shows context (Some w) write liobn ioba (replies.Segment d) h = absurd h
window_shows context (Some w) write liobn ioba replies.MaskSet h = absurd h
window_shows context (Some w) write liobn ioba (replies.Dump d) h = absurd h

pub line_shows :
    (context : StoreContext) (p : Processor) (act : Act) (r : Reply)
    → is_quiet act ≡ false
    → IsCallReply context act r
    → IsReplyToAccess (access_of context) p act r
    → LineShows context act r
line_shows context p (acts.Call number args spelt) (replies.Hcall h) n call access =
    let cs = (hcall_plan context (hcall_of number) args).calls in
    record {
      steps =
          same_placed (hcall_plan context (hcall_of number) args).goes_on
          (acts.Call number args spelt) cs h.receipts
          (plan_keeps context (hcall_of number) args) call.trial;
      few =
          inr
          (many h.receipts (length (ops_of cs))
          (subst (λ m. length h.receipts ≤ m) (sym (length-map cs (λ (c : Call). c.op)))
          (few_of (hcall_plan context (hcall_of number) args).goes_on cs h.receipts
          call.trial)));
    }
line_shows context p (acts.Call number args spelt) (replies.Access r) n call access = absurd call
line_shows context p (acts.Call number args spelt) (replies.Segment r) n call access = absurd call
line_shows context p (acts.Call number args spelt) replies.MaskSet n call access = absurd call
line_shows context p (acts.Call number args spelt) (replies.Device r) n call access = absurd call
line_shows context p (acts.Call number args spelt) (replies.Dump r) n call access = absurd call
line_shows context p (acts.Access want ea user) (replies.Access r) n call access =
    let shown = access_shows (access_of context) (cached_line p.cache)
    (request want ea user p.masks) (segment_of p.slots ea) r access in
    record { steps = shown.steps; few = inl (many r.receipts 16 shown.few) }
line_shows context p (acts.Access want ea user) (replies.Hcall r) n call access = absurd access
line_shows context p (acts.Access want ea user) (replies.Segment r) n call access = absurd access
line_shows context p (acts.Access want ea user) replies.MaskSet n call access = absurd access
line_shows context p (acts.Access want ea user) (replies.Device r) n call access = absurd access
line_shows context p (acts.Access want ea user) (replies.Dump r) n call access = absurd access
line_shows context p (acts.SlbMte rb rs) r n call access =
    subst (LineShows context (acts.SlbMte rb rs)) (sym call)
    (record { steps = refl; few = inl (omega arith) })
line_shows context p acts.SlbClear r n call access =
    subst (LineShows context acts.SlbClear) (sym call)
    (record { steps = refl; few = inl (omega arith) })
line_shows context p (acts.SetMask name value) r n call access =
    subst (LineShows context (acts.SetMask name value)) (sym call)
    (record { steps = refl; few = inl (omega arith) })
line_shows context p (acts.Device write liobn ioba) r n call access =
    window_shows context context.window write liobn ioba r call
line_shows context p acts.Dump r n call access = absurd (dump_is_quiet acts.Dump refl n)
