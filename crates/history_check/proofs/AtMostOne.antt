-- One line with two replies that show the same marks.
use Rattle.std.proofs.Common.{◌≡◌, ℕ, List, [], ◌∷◌, Bool, true, false, ap, sym, ◌∙◌, refl, subst, ◌⊎◌, inl, inr, map, Option, Some, None, MatchBool}
use Rattle.std.proofs.lemmas.Bool.{cases_Bool}
use Rattle.papr_codes.specs.Hcalls.{hcall_of}
use Rattle.storage_prot.specs.declared.want.Want.{Want}
use Rattle.power_addr.specs.Pages.{VirtualPage}
use Rattle.entry_model.specs.declared.operation.Answer.{Answer}
use Rattle.entry_model.specs.declared.line.Line.{Line}
use Rattle.entry_model.specs.declared.hreply.HReply.{HReply}
use Rattle.entry_model.specs.declared.access_reply.AccessReply.{AccessReply}
use Rattle.entry_model.specs.declared.access_reply.By.{By}
use Rattle.entry_model.specs.declared.access_reply.By.TheVariants.{Hit, Walk}
use Rattle.entry_model.specs.declared.receipt.Receipt.{Receipt}
use Rattle.entry_model.specs.Receipt.{is_no_match}
use Rattle.entry_model.specs.Trial.{Call, call, IsTrial, Plan, IsReplyOf}
use Rattle.entry_model.specs.declared.operation.Op.TheVariants.{Read}
use Rattle.entry_model.specs.declared.device_reply.DeviceReply.{DeviceReply}
use Rattle.bus_window.specs.Windows.{BusWindow, entry_at}
use Rattle.dma_window.specs.Devices.{IsDeviceReplyBy}
use Rattle.dma_window.specs.Devices.{outcome_of as device_outcome}
use Rattle.frame_grants.specs.declared.grant.Grant.{Grant}
use Rattle.tlb_model.specs.Cache.{cached_line}
use Rattle.entry_model.proofs.Exact.{exact, same}
use Rattle.slb_model.specs.declared.segment.Segment.{Segment}
use Rattle.slb_model.specs.Refusals.{mte_refusal}
use Rattle.slb_model.specs.Buffer as buffer
use Rattle.slb_model.specs.Buffer.{segment_of}
use Rattle.hpt_walk.specs.Access.{AccessContext, outcome_of, hit_calls, IsWalk, IsByWay, IsAccessReply, request}
use Rattle.hpt_walk.specs.declared.request.Request.{Request}
use Rattle.tlb_model.specs.Processor.{Processor}
use Rattle.authority_mask.specs.declared.masks.Masks.{Masks}
use Rattle.authority_mask.specs.Authority.{with_mask}
use Rattle.slb_model.specs.declared.slot.Slot.{Slot}
use Rattle.trace_line.specs.declared.act.Act.{Act}
use Rattle.trace_line.specs.declared.act.Act.TheVariants as acts
use Rattle.trace_line.specs.Lines.{is_quiet}
use Rattle.trace_reply.specs.declared.reply.Reply.{Reply}
use Rattle.trace_reply.specs.declared.reply.Reply.TheVariants as replies
use Rattle.trace_reply.specs.Replies.{receipts_in}
use Rattle.run_model.specs.Processors.{processor_after, slots_or}
use Rattle.run_model.specs.LineReplies.{hcall_plan, IsDeviceLine, IsCallReply, IsReplyToAccess}
use Rattle.run_model.specs.StoreContexts.{StoreContext, access_of}
use Rattle.receipt_text.specs.Receipts.{mark_of}
use Rattle.history_check.specs.ReplyMarks.{SameWay, ShowsSame}
use Rattle.history_check.specs.Steps.{step_op}
use Rattle.run_model.proofs.OneReply.{calls_by_walk}
use Rattle.history_check.proofs.Alike.{Pair, firsts, seconds, AllAlike, AllBefore}
use Rattle.run_model.proofs.StoreLines.{dump_is_quiet}

-- ---- receipts in pairs
-- Each receipt with the one at its index in the other list, as far as both lists go.
abbrev pub zip : List Receipt → List Receipt → List Pair
zip [] ys = []
zip (x ∷ xs) [] = []
zip (x ∷ xs) (y ∷ ys) = record { first = x; second = y } ∷ zip xs ys

abbrev SameMarks : List Receipt → List Receipt → Type 0
SameMarks xs ys = map mark_of xs ≡ map mark_of ys

head_mark :
    (x y : Receipt) (xs ys : List Receipt) → SameMarks (x ∷ xs) (y ∷ ys) → mark_of x ≡ mark_of y
head_mark x y xs ys h = cc

tail_marks : (x y : Receipt) (xs ys : List Receipt) → SameMarks (x ∷ xs) (y ∷ ys) → SameMarks xs ys
tail_marks x y xs ys h = cc

no_marks : (y : Receipt) (ys : List Receipt) → SameMarks [] (y ∷ ys) → ⊥
no_marks y ys h = cc

pub zip_firsts : (xs ys : List Receipt) → SameMarks xs ys → firsts (zip xs ys) ≡ xs
zip_firsts [] ys h = refl
zip_firsts (x ∷ xs) [] h = absurd (no_marks x xs (sym h))
zip_firsts (x ∷ xs) (y ∷ ys) h = ap (λ l. x ∷ l) (zip_firsts xs ys (tail_marks x y xs ys h))

pub zip_seconds : (xs ys : List Receipt) → SameMarks xs ys → seconds (zip xs ys) ≡ ys
zip_seconds [] [] h = refl
zip_seconds [] (y ∷ ys) h = absurd (no_marks y ys h)
zip_seconds (x ∷ xs) [] h = absurd (no_marks x xs (sym h))
zip_seconds (x ∷ xs) (y ∷ ys) h = ap (λ l. y ∷ l) (zip_seconds xs ys (tail_marks x y xs ys h))

-- ---- trials with the same marks
abbrev AlikeCalls : List Call → List Call → Type 0
AlikeCalls [] [] = Unit {0}
AlikeCalls [] (c ∷ cs) = ⊥
AlikeCalls (c ∷ cs) [] = ⊥
AlikeCalls (c ∷ cs) (d ∷ ds) = (step_op c.op ≡ step_op d.op) × AlikeCalls cs ds

self_calls : (cs : List Call) → AlikeCalls cs cs
self_calls [] = tt
self_calls (c ∷ cs) = (refl, self_calls cs)

-- the rest of a trial after a receipt
rest_trial :
    (goes : Answer → Bool) (x y : Receipt) (cs ds : List Call) (xs ys : List Receipt) (P : Type 0)
    → mark_of x ≡ mark_of y
    → MatchBool (goes x.answer) (IsTrial goes cs xs) (xs ≡ [])
    → MatchBool (goes y.answer) (IsTrial goes ds ys) (ys ≡ [])
    → (IsTrial goes cs xs → IsTrial goes ds ys → P)
    → (xs ≡ [] → ys ≡ [] → P)
    → P
rest_trial goes x y cs ds xs ys P m h k on off = at (cases_Bool (goes x.answer)) where
  e : goes x.answer ≡ goes y.answer
  e = ap (λ m. goes m.answer) m

  at : (goes x.answer ≡ true) ⊎ (goes x.answer ≡ false) → P
  at (inl q) = let q' : goes y.answer ≡ true = sym e ∙ q in on (rw q at h) (rw q' at k)
  at (inr q) = let q' : goes y.answer ≡ false = sym e ∙ q in off (rw q at h) (rw q' at k)

trial_alike :
    (goes : Answer → Bool) (cs ds : List Call) (xs ys : List Receipt)
    → AlikeCalls cs ds
    → IsTrial goes cs xs
    → IsTrial goes ds ys
    → SameMarks xs ys
    → AllAlike (zip xs ys)
trial_alike goes cs ds [] ys a h k m = tt
trial_alike goes cs ds (x ∷ xs) [] a h k m = tt
trial_alike goes [] ds (x ∷ xs) (y ∷ ys) a h k m = absurd h
trial_alike goes (c ∷ cs) [] (x ∷ xs) (y ∷ ys) a h k m = absurd a
trial_alike goes (c ∷ cs) (d ∷ ds) (x ∷ xs) (y ∷ ys) a h k m = (
  record {
    mark = head_mark x y xs ys m;
    op = ap step_op h.0.op ∙ a.0 ∙ sym (ap step_op k.0.op);
  },
  rest_trial goes x y cs ds xs ys (AllAlike (zip xs ys)) (head_mark x y xs ys m) h.1 k.1
      (λ h' k'. trial_alike goes cs ds xs ys a.1 h' k' (tail_marks x y xs ys m))
      (λ e f. subst (λ l. AllAlike (zip l ys)) (sym e) tt),
)

trial_same :
    (goes : Answer → Bool) (cs : List Call) (xs ys : List Receipt)
    → IsTrial goes cs xs
    → IsTrial goes cs ys
    → SameMarks xs ys
    → AllBefore (zip xs ys)
    → xs ≡ ys
trial_same goes cs [] [] h k m b = refl
trial_same goes cs [] (y ∷ ys) h k m b = absurd (no_marks y ys m)
trial_same goes cs (x ∷ xs) [] h k m b = absurd (no_marks x xs (sym m))
trial_same goes [] (x ∷ xs) (y ∷ ys) h k m b = absurd h
trial_same goes (c ∷ cs) (x ∷ xs) (y ∷ ys) h k m b =
    let head : x ≡ y = same x y.entry y.before y.op (h.0.entry ∙ sym k.0.entry) b.0
    (h.0.op ∙ sym k.0.op) ∙ sym (exact y) in
    let tail : xs ≡ ys = rest_trial goes x y cs cs xs ys (xs ≡ ys) (head_mark x y xs ys m) h.1 k.1
    (λ h' k'. trial_same goes cs xs ys h' k' (tail_marks x y xs ys m) b.1) (λ e f. e ∙ sym f) in
    λ i. head i ∷ tail i

-- ---- one line: the same segments and masks
-- What a processor keeps beside its cache.
abbrev pub segments_and_masks : Processor → List (Option Slot) × Masks
segments_and_masks s = (s.slots, s.masks)

abbrev LinePairs : Reply → Reply → List Pair
LinePairs r q = zip (receipts_in r) (receipts_in q)

is_walk :
    (set : AccessContext) (seg : Segment) (a : Request) (c : Option Line) (r : AccessReply)
    → IsByWay set seg a c (Some Walk) r
    → IsWalk set seg a r
is_walk set seg a None r h = h
is_walk set seg a (Some line) r h = h

no_way :
    (set : AccessContext) (seg : Segment) (a : Request) (c : Option Line) (r : AccessReply)
    → IsByWay set seg a c None r
    → ⊥
no_way set seg a None r h = h
no_way set seg a (Some line) r h = h

hit≢walk : Hit ≡ Walk → ⊥
hit≢walk h = cc

way_alike :
    (set : AccessContext) (seg : Segment) (a : Request) (c d : Option Line) (way way' : Option By)
    (r q : AccessReply)
    → IsByWay set seg a c way r
    → IsByWay set seg a d way' q
    → SameWay way way'
    → SameMarks r.receipts q.receipts
    → AllAlike (zip r.receipts q.receipts)
way_alike set seg a (Some l) (Some l') (Some Hit) (Some Hit) r q h k w m =
    trial_alike is_no_match (hit_calls seg a l) (hit_calls seg a l') r.receipts q.receipts
    (refl, tt) h.trial k.trial m
way_alike set seg a None d (Some Hit) (Some Hit) r q h k w m = absurd h
way_alike set seg a (Some l) None (Some Hit) (Some Hit) r q h k w m = absurd k
way_alike set seg a c d (Some Walk) (Some Walk) r q h k w m =
    trial_alike is_no_match (calls_by_walk set seg a) (calls_by_walk set seg a) r.receipts
    q.receipts
    (self_calls (calls_by_walk set seg a)) (is_walk set seg a c r h).trial
    (is_walk set seg a d q k).trial m
way_alike set seg a c d (Some Hit) (Some Walk) r q h k w m = absurd (hit≢walk w)
way_alike set seg a c d (Some Walk) (Some Hit) r q h k w m = absurd (hit≢walk (sym w))
way_alike set seg a c d None way' r q h k w m = absurd (no_way set seg a c r h)
way_alike set seg a c d (Some way) None r q h k w m = absurd (no_way set seg a d q k)

segment_alike :
    (set : AccessContext) (s s' : VirtualPage → Option Line) (a : Request) (o : Option Segment)
    (r q : AccessReply)
    → IsAccessReply set s a o r
    → IsAccessReply set s' a o q
    → SameWay r.by q.by
    → SameMarks r.receipts q.receipts
    → AllAlike (zip r.receipts q.receipts)
segment_alike set s s' a None r q h k w m =
    subst (λ (x : AccessReply). AllAlike (zip x.receipts q.receipts)) (sym h) tt
segment_alike set s s' a (Some seg) r q h k w m =
    way_alike set seg a (s seg.page) (s' seg.page) r.by q.by r q h k w m

reach_alike :
    (set : AccessContext) (s s' : Processor) (want : Want) (ea : ℕ) (user : Bool) (r q : Reply)
    → segments_and_masks s ≡ segments_and_masks s'
    → IsReplyToAccess set s (acts.Access want ea user) r
    → IsReplyToAccess set s' (acts.Access want ea user) q
    → ShowsSame r q
    → AllAlike (LinePairs r q)
reach_alike set s s' want ea user (replies.Access r) (replies.Access q) e h k m =
    segment_alike set (cached_line s.cache) (cached_line s'.cache) (request want ea user s.masks)
    (segment_of s.slots ea) r q h
    (subst
    (λ l.
    IsAccessReply set (cached_line s'.cache) (request want ea user l.1)
    (segment_of l.0 ea) q) (sym e) k) m.way m.marks
reach_alike set s s' want ea user (replies.Access r) (replies.Hcall q) e h k m = absurd k
reach_alike set s s' want ea user (replies.Access r) (replies.Segment q) e h k m = absurd k
reach_alike set s s' want ea user (replies.Access r) replies.MaskSet e h k m = absurd k
reach_alike set s s' want ea user (replies.Access r) (replies.Device q) e h k m = absurd k
reach_alike set s s' want ea user (replies.Access r) (replies.Dump q) e h k m = absurd k
reach_alike set s s' want ea user (replies.Hcall r) q e h k m = absurd h
reach_alike set s s' want ea user (replies.Segment r) q e h k m = absurd h
reach_alike set s s' want ea user replies.MaskSet q e h k m = absurd h
reach_alike set s s' want ea user (replies.Device r) q e h k m = absurd h
reach_alike set s s' want ea user (replies.Dump r) q e h k m = absurd h

call_alike :
    (set : StoreContext) (number : ℕ) (args : List ℕ) (spelt : Bool) (r q : Reply)
    → IsCallReply set (acts.Call number args spelt) r
    → IsCallReply set (acts.Call number args spelt) q
    → ShowsSame r q
    → AllAlike (LinePairs r q)
call_alike set number args spelt (replies.Hcall h) (replies.Hcall k) a b s =
    let plan = hcall_plan set (hcall_of number) args in
    trial_alike plan.goes_on plan.calls plan.calls h.receipts k.receipts (self_calls plan.calls)
    a.trial b.trial s.marks
call_alike set number args spelt (replies.Hcall h) (replies.Access k) a b s = absurd b
call_alike set number args spelt (replies.Hcall h) (replies.Segment k) a b s = absurd b
call_alike set number args spelt (replies.Hcall h) replies.MaskSet a b s = absurd b
call_alike set number args spelt (replies.Hcall h) (replies.Device k) a b s = absurd b
call_alike set number args spelt (replies.Hcall h) (replies.Dump k) a b s = absurd b
call_alike set number args spelt (replies.Access h) q a b s = absurd a
call_alike set number args spelt (replies.Segment h) q a b s = absurd a
call_alike set number args spelt replies.MaskSet q a b s = absurd a
call_alike set number args spelt (replies.Device h) q a b s = absurd a
call_alike set number args spelt (replies.Dump h) q a b s = absurd a

by_alike :
    (grants : List Grant) (write : Bool) (ioba : ℕ) (entry : Option ℕ) (d e : DeviceReply)
    → IsDeviceReplyBy grants ioba write d entry
    → IsDeviceReplyBy grants ioba write e entry
    → SameMarks d.receipts e.receipts
    → AllAlike (zip d.receipts e.receipts)
by_alike grants write ioba None d e h k m =
    subst (λ (x : DeviceReply). AllAlike (zip x.receipts e.receipts)) (sym h) tt
by_alike grants write ioba (Some entry) d e h k m =
    trial_alike (λ answer. true) (call Read entry ∷ []) (call Read entry ∷ []) d.receipts e.receipts
    (refl, tt) h.trial k.trial m

device_alike :
    (grants : List Grant) (window : Option BusWindow) (write : Bool) (ioba : ℕ) (r q : Reply)
    → IsDeviceLine grants window write ioba r
    → IsDeviceLine grants window write ioba q
    → ShowsSame r q
    → AllAlike (LinePairs r q)
device_alike grants None write ioba r q h k m = subst (λ x. AllAlike (LinePairs x q)) (sym h) tt
device_alike grants (Some w) write ioba (replies.Device d) (replies.Device e) h k m =
    by_alike grants write ioba (entry_at w ioba) d e h k m.marks
device_alike grants (Some w) write ioba (replies.Device d) (replies.Hcall e) h k m = absurd k
device_alike grants (Some w) write ioba (replies.Device d) (replies.Access e) h k m = absurd k
device_alike grants (Some w) write ioba (replies.Device d) (replies.Segment e) h k m = absurd k
device_alike grants (Some w) write ioba (replies.Device d) replies.MaskSet h k m = absurd k
device_alike grants (Some w) write ioba (replies.Device d) (replies.Dump e) h k m = absurd k
device_alike grants (Some w) write ioba (replies.Hcall d) q h k m = absurd h
device_alike grants (Some w) write ioba (replies.Access d) q h k m = absurd h
device_alike grants (Some w) write ioba (replies.Segment d) q h k m = absurd h
device_alike grants (Some w) write ioba replies.MaskSet q h k m = absurd h
device_alike grants (Some w) write ioba (replies.Dump d) q h k m = absurd h

pub line_alike :
    (set : StoreContext) (s s' : Processor) (act : Act) (r q : Reply)
    → is_quiet act ≡ false
    → segments_and_masks s ≡ segments_and_masks s'
    → IsCallReply set act r
    → IsReplyToAccess (access_of set) s act r
    → IsCallReply set act q
    → IsReplyToAccess (access_of set) s' act q
    → ShowsSame r q
    → AllAlike (LinePairs r q)
line_alike set s s' (acts.Call number args spelt) r q n e h h' k k' m =
    call_alike set number args spelt r q h k m
line_alike set s s' (acts.Access want ea user) r q n e h h' k k' m =
    reach_alike (access_of set) s s' want ea user r q e h' k' m
line_alike set s s' (acts.SlbMte rb rs) r q n e h h' k k' m =
    subst (λ x. AllAlike (LinePairs x q)) (sym h) tt
line_alike set s s' acts.SlbClear r q n e h h' k k' m =
    subst (λ x. AllAlike (LinePairs x q)) (sym h) tt
line_alike set s s' (acts.Device write liobn ioba) r q n e h h' k k' m =
    device_alike set.grants set.window write ioba r q h k m
line_alike set s s' (acts.SetMask name value) r q n e h h' k k' m =
    subst (λ x. AllAlike (LinePairs x q)) (sym h) tt
line_alike set s s' acts.Dump r q n e h h' k k' m = absurd (dump_is_quiet acts.Dump refl n)

access_keeps :
    (s : Processor) (want : Want) (ea : ℕ) (user : Bool) (r : Reply)
    → segments_and_masks (processor_after s (acts.Access want ea user) r) ≡ segments_and_masks s
access_keeps s want ea user (replies.Access r) = refl
access_keeps s want ea user (replies.Hcall r) = refl
access_keeps s want ea user (replies.Segment r) = refl
access_keeps s want ea user replies.MaskSet = refl
access_keeps s want ea user (replies.Device r) = refl
access_keeps s want ea user (replies.Dump r) = refl

pub kept_after :
    (s s' : Processor) (act : Act) (r q : Reply)
    → segments_and_masks s ≡ segments_and_masks s'
    → segments_and_masks (processor_after s act r) ≡ segments_and_masks (processor_after s' act q)
kept_after s s' (acts.Call number args spelt) r q e = e
kept_after s s' (acts.Access want ea user) r q e =
    access_keeps s want ea user r ∙ e ∙ sym (access_keeps s' want ea user q)
kept_after s s' (acts.SlbMte rb rs) r q e =
    λ i. (slots_or (mte_refusal rb rs) (buffer.slots_after (e i).0 rb rs) (e i).0, (e i).1)
kept_after s s' acts.SlbClear r q e = λ i. (buffer.no_slots, (e i).1)
kept_after s s' (acts.SetMask name value) r q e = λ i. ((e i).0, with_mask (e i).1 name value)
kept_after s s' acts.Dump r q e = e
kept_after s s' (acts.Device write liobn ioba) r q e = e

-- ---- one line: the same processor and the same states before
hcall_same :
    (plan : Plan) (h k : HReply)
    → IsReplyOf plan h
    → IsReplyOf plan k
    → SameMarks h.receipts k.receipts
    → AllBefore (zip h.receipts k.receipts)
    → h ≡ k
hcall_same plan h k a b m z =
    let e : h.receipts ≡ k.receipts = trial_same plan.goes_on plan.calls h.receipts k.receipts
    a.trial b.trial m z in
    let t : (h.rc, h.words) ≡ (k.rc, k.words) = a.told ∙ ap plan.told e ∙ sym b.told in
    λ i. record { rc = (t i).0; words = (t i).1; receipts = e i }

call_same :
    (set : StoreContext) (number : ℕ) (args : List ℕ) (spelt : Bool) (r q : Reply)
    → IsCallReply set (acts.Call number args spelt) r
    → IsCallReply set (acts.Call number args spelt) q
    → ShowsSame r q
    → AllBefore (LinePairs r q)
    → r ≡ q
call_same set number args spelt (replies.Hcall h) (replies.Hcall k) a b s z =
    ap replies.Hcall (hcall_same (hcall_plan set (hcall_of number) args) h k a b s.marks z)
call_same set number args spelt (replies.Hcall h) (replies.Access k) a b s z = absurd b
call_same set number args spelt (replies.Hcall h) (replies.Segment k) a b s z = absurd b
call_same set number args spelt (replies.Hcall h) replies.MaskSet a b s z = absurd b
call_same set number args spelt (replies.Hcall h) (replies.Device k) a b s z = absurd b
call_same set number args spelt (replies.Hcall h) (replies.Dump k) a b s z = absurd b
call_same set number args spelt (replies.Access h) q a b s z = absurd a
call_same set number args spelt (replies.Segment h) q a b s z = absurd a
call_same set number args spelt replies.MaskSet q a b s z = absurd a
call_same set number args spelt (replies.Device h) q a b s z = absurd a
call_same set number args spelt (replies.Dump h) q a b s z = absurd a

access_same :
    (r q : AccessReply) → r.outcome ≡ q.outcome → r.by ≡ q.by → r.receipts ≡ q.receipts → r ≡ q
access_same r q a b c = λ i. record { outcome = a i; by = b i; receipts = c i }

way_same :
    (set : AccessContext) (seg : Segment) (a : Request) (c : Option Line) (way way' : Option By)
    (r q : AccessReply)
    → r.by ≡ way
    → q.by ≡ way'
    → IsByWay set seg a c way r
    → IsByWay set seg a c way' q
    → SameWay way way'
    → SameMarks r.receipts q.receipts
    → AllBefore (zip r.receipts q.receipts)
    → r ≡ q
way_same set seg a (Some l) (Some Hit) (Some Hit) r q x y h k w m z = let e :
    r.receipts ≡ q.receipts =
    trial_same is_no_match (hit_calls seg a l) r.receipts q.receipts h.trial k.trial m z in
    access_same r q (h.outcome ∙ ap (outcome_of set.grants a.ea) e ∙ sym k.outcome)
    (x ∙ sym y) e
way_same set seg a None (Some Hit) (Some Hit) r q x y h k w m z = absurd h
way_same set seg a c (Some Walk) (Some Walk) r q x y h k w m z =
    let h' = is_walk set seg a c r h in
    let k' = is_walk set seg a c q k in
    let e : r.receipts ≡ q.receipts = trial_same is_no_match (calls_by_walk set seg a) r.receipts
    q.receipts h'.trial k'.trial m z in
    access_same r q (h'.outcome ∙ ap (outcome_of set.grants a.ea) e ∙ sym k'.outcome) (x ∙ sym y) e
way_same set seg a c (Some Hit) (Some Walk) r q x y h k w m z = absurd (hit≢walk w)
way_same set seg a c (Some Walk) (Some Hit) r q x y h k w m z = absurd (hit≢walk (sym w))
way_same set seg a c None way' r q x y h k w m z = absurd (no_way set seg a c r h)
way_same set seg a c (Some way) None r q x y h k w m z = absurd (no_way set seg a c q k)

segment_same :
    (set : AccessContext) (s : VirtualPage → Option Line) (a : Request) (o : Option Segment)
    (r q : AccessReply)
    → IsAccessReply set s a o r
    → IsAccessReply set s a o q
    → SameWay r.by q.by
    → SameMarks r.receipts q.receipts
    → AllBefore (zip r.receipts q.receipts)
    → r ≡ q
segment_same set s a None r q h k w m z = h ∙ sym k
segment_same set s a (Some seg) r q h k w m z =
    way_same set seg a (s seg.page) r.by q.by r q refl refl h k w m z

reach_same :
    (set : AccessContext) (s : Processor) (want : Want) (ea : ℕ) (user : Bool) (r q : Reply)
    → IsReplyToAccess set s (acts.Access want ea user) r
    → IsReplyToAccess set s (acts.Access want ea user) q
    → ShowsSame r q
    → AllBefore (LinePairs r q)
    → r ≡ q
reach_same set s want ea user (replies.Access r) (replies.Access q) h k m z =
    ap replies.Access
    (segment_same set (cached_line s.cache) (request want ea user s.masks)
    (segment_of s.slots ea) r q h k m.way m.marks z)
reach_same set s want ea user (replies.Access r) (replies.Hcall q) h k m z = absurd k
reach_same set s want ea user (replies.Access r) (replies.Segment q) h k m z = absurd k
reach_same set s want ea user (replies.Access r) replies.MaskSet h k m z = absurd k
reach_same set s want ea user (replies.Access r) (replies.Device q) h k m z = absurd k
reach_same set s want ea user (replies.Access r) (replies.Dump q) h k m z = absurd k
reach_same set s want ea user (replies.Hcall r) q h k m z = absurd h
reach_same set s want ea user (replies.Segment r) q h k m z = absurd h
reach_same set s want ea user replies.MaskSet q h k m z = absurd h
reach_same set s want ea user (replies.Device r) q h k m z = absurd h
reach_same set s want ea user (replies.Dump r) q h k m z = absurd h

by_same :
    (grants : List Grant) (write : Bool) (ioba : ℕ) (entry : Option ℕ) (d e : DeviceReply)
    → IsDeviceReplyBy grants ioba write d entry
    → IsDeviceReplyBy grants ioba write e entry
    → SameMarks d.receipts e.receipts
    → AllBefore (zip d.receipts e.receipts)
    → d ≡ e
by_same grants write ioba None d e h k m z = h ∙ sym k
by_same grants write ioba (Some entry) d e h k m z =
    let all : d.receipts ≡ e.receipts = trial_same (λ answer. true) (call Read entry ∷ [])
    d.receipts e.receipts h.trial k.trial m z in
    let end : d.outcome ≡ e.outcome = h.outcome ∙ ap (device_outcome grants ioba write) all ∙ sym
    k.outcome in
    λ i. record { outcome = end i; receipts = all i }

device_same :
    (grants : List Grant) (window : Option BusWindow) (write : Bool) (ioba : ℕ) (r q : Reply)
    → IsDeviceLine grants window write ioba r
    → IsDeviceLine grants window write ioba q
    → ShowsSame r q
    → AllBefore (LinePairs r q)
    → r ≡ q
device_same grants None write ioba r q h k m z = h ∙ sym k
device_same grants (Some w) write ioba (replies.Device d) (replies.Device e) h k m z =
    ap replies.Device (by_same grants write ioba (entry_at w ioba) d e h k m.marks z)
device_same grants (Some w) write ioba (replies.Device d) (replies.Hcall e) h k m z = absurd k
device_same grants (Some w) write ioba (replies.Device d) (replies.Access e) h k m z = absurd k
device_same grants (Some w) write ioba (replies.Device d) (replies.Segment e) h k m z = absurd k
device_same grants (Some w) write ioba (replies.Device d) replies.MaskSet h k m z = absurd k
device_same grants (Some w) write ioba (replies.Device d) (replies.Dump e) h k m z = absurd k
device_same grants (Some w) write ioba (replies.Hcall d) q h k m z = absurd h
device_same grants (Some w) write ioba (replies.Access d) q h k m z = absurd h
device_same grants (Some w) write ioba (replies.Segment d) q h k m z = absurd h
device_same grants (Some w) write ioba replies.MaskSet q h k m z = absurd h
device_same grants (Some w) write ioba (replies.Dump d) q h k m z = absurd h

pub line_same :
    (set : StoreContext) (s : Processor) (act : Act) (r q : Reply)
    → is_quiet act ≡ false
    → IsCallReply set act r
    → IsReplyToAccess (access_of set) s act r
    → IsCallReply set act q
    → IsReplyToAccess (access_of set) s act q
    → ShowsSame r q
    → AllBefore (LinePairs r q)
    → r ≡ q
line_same set s (acts.Call number args spelt) r q n h h' k k' m z =
    call_same set number args spelt r q h k m z
line_same set s (acts.Access want ea user) r q n h h' k k' m z =
    reach_same (access_of set) s want ea user r q h' k' m z
line_same set s (acts.SlbMte rb rs) r q n h h' k k' m z = h ∙ sym k
line_same set s acts.SlbClear r q n h h' k k' m z = h ∙ sym k
line_same set s (acts.Device write liobn ioba) r q n h h' k k' m z =
    device_same set.grants set.window write ioba r q h k m z
line_same set s (acts.SetMask name value) r q n h h' k k' m z = h ∙ sym k
line_same set s acts.Dump r q n h h' k k' m z = absurd (dump_is_quiet acts.Dump refl n)
