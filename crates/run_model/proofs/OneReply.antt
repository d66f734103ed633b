-- On a store that nobody else changes a line has one reply, and so its lines have one run.
use Rattle.std.specs.Prelude.{IfSome, ◌==◌, Bool}
use Rattle.std.proofs.Common.{◌≡◌, ◌<◌, List, [], ◌∷◌, true, false, ap, sym, ◌∙◌, refl, subst, ◌⊎◌, inl, inr, Option, Some, None, arith}
use Rattle.std.specs.List.{AllByRecursion}
use Rattle.std.proofs.lemmas.Bool.{cases_Bool, eq-eqb, eqb-true, and_parts}
use Rattle.papr_codes.specs.Hcalls.{hcall_of}
use Rattle.entry_model.specs.State.{State}
use Rattle.entry_model.specs.declared.line.Line.{Line}
use Rattle.entry_model.specs.declared.access_reply.AccessReply.{AccessReply}
use Rattle.entry_model.specs.declared.access_reply.By.{By}
use Rattle.entry_model.specs.declared.access_reply.By.TheVariants.{Hit, Walk}
use Rattle.entry_model.specs.declared.receipt.Receipt.{Receipt}
use Rattle.entry_model.specs.Receipt.{is_no_match}
use Rattle.entry_model.specs.CachedLines.{IsCurrent}
use Rattle.tlb_model.specs.Cache.{cached_line}
use Rattle.entry_model.specs.Run.{state_at, IsRun}
use Rattle.entry_model.specs.Trial.{Call, IsTrial}
use Rattle.entry_model.proofs.Trials.{trial_is}
use Rattle.entry_model.proofs.Plans.{plan_is}
use Rattle.slb_model.specs.declared.segment.Segment.{Segment}
use Rattle.slb_model.specs.Buffer.{segment_of}
use Rattle.hpt_walk.specs.Walk.{walk_calls}
use Rattle.hpt_walk.specs.Access.{AccessContext, outcome_of, hit_calls, IsByWay, IsAccessReply, request, mode_for}
use Rattle.hpt_walk.specs.declared.request.Request.{Request}
use Rattle.tlb_model.specs.CacheAfter.{gone_by_way, gone_line}
use Rattle.tlb_model.specs.Processor.{Processor}
use Rattle.trace_line.specs.declared.act.Act.{Act}
use Rattle.trace_line.specs.declared.line.TraceLine.{TraceLine}
use Rattle.trace_line.specs.Lines.{is_quiet}
use Rattle.trace_reply.specs.declared.reply.Reply.{Reply}
use Rattle.trace_reply.specs.Replies.{RepliedLine, receipts_in, AreReplies, lines_with_replies}
use Rattle.run_model.specs.Processors.{processor_at, processors_after, gone_line_of}
use Rattle.run_model.specs.LineReplies.{hcall_plan, IsCallReply, IsReplyToAccess}
use Rattle.hpt_resize.specs.TableMemory.{with_states}
use Rattle.run_model.specs.Quiet.{QuietPart, cut, cut_before}
use Rattle.run_model.specs.QuietLines.{run_quiet_line}
use Rattle.run_model.specs.SerialRun.{is_current, current_line, access_result, result_by_line, result_by_segment, call_result, line_result}
use Rattle.run_model.specs.Stores.{Store, context_of, states_of, lines_on}
use Rattle.basics.proofs.Each.{filter_yes, filter_no}
use Rattle.run_model.proofs.SectionGood.{Stands}
use Rattle.run_model.proofs.Undisturbed.{IsUndisturbed}
use Rattle.run_model.proofs.WindowCalls.{device_is}
use Rattle.run_model.specs.StoreContexts.{StoreContext, access_of}
use Rattle.trace_line.specs.declared.act.Act.TheVariants as acts
use Rattle.trace_reply.specs.declared.reply.Reply.TheVariants as replies

-- The line's entry has left its stamp.
abbrev pub IsPassed : List State → Option Line → Type 0
IsPassed states line = IfSome line (λ (l : Line). l.stamp < (state_at states l.entry).stamp)

-- ---- accesses
told_reach :
    (set : AccessContext) (a : Request) (by : By) (r : AccessReply) (b : List State)
    → r.by ≡ Some by
    → r.outcome ≡ outcome_of set.grants a.ea r.receipts
    → (replies.Access r, b) ≡ access_result set a by (r.receipts, b)
told_reach set a by r b e o =
    λ i. (replies.Access (record { outcome = o i; by = e i; receipts = r.receipts }), b)

-- A line with a receipt on its words is current.
current_true : (line : Line) (s : State) → IsCurrent line s → is_current line s ≡ true
current_true line s c =
    let valid : s.valid ≡ true = c.valid in
    rw (valid, eq-eqb s.stamp line.stamp c.stamp) refl

current_some :
    (states : List State) (line : Line)
    → is_current line (state_at states line.entry) ≡ true
    → current_line states (Some line) ≡ Some line
current_some states line h = rw h refl

current_none :
    (states : List State) (line : Line)
    → is_current line (state_at states line.entry) ≡ false
    → current_line states (Some line) ≡ None
current_none states line h = rw h refl

-- A line whose entry left its stamp is not current.
past_false : (line : Line) (s : State) → line.stamp < s.stamp → is_current line s ≡ false
past_false line s h = at (cases_Bool (is_current line s)) where
  at : (is_current line s ≡ true) ⊎ (is_current line s ≡ false) → is_current line s ≡ false
  at (inl on) =
      let same : s.stamp ≡ line.stamp = eqb-true s.stamp line.stamp
      (and_parts s.valid (s.stamp == line.stamp) on).1 in
      absurd (omega arith)
  at (inr off) = off

hit_current :
    (seg : Segment) (a : Request) (line : Line) (rs : List Receipt) (states b : List State)
    → IsTrial is_no_match (hit_calls seg a line) rs
    → AllByRecursion (λ (x : Receipt). IsCurrent line x.before) rs
    → IsRun states rs b
    → IsCurrent line (state_at states line.entry)
hit_current seg a line [] states b trial all run = absurd trial
hit_current seg a line (r ∷ rs) states b trial all run =
    subst (IsCurrent line) (run.1.before ∙ ap (state_at states) trial.0.entry) all.0

-- The calls on entries that a walk makes for a request in this segment.
abbrev pub calls_by_walk : AccessContext → Segment → Request → List Call
calls_by_walk set seg a = walk_calls set.order seg.page (mode_for seg a)

way_is :
    (set : AccessContext) (seg : Segment) (a : Request) (c : Option Line) (by : Option By)
    (r : AccessReply) (states b : List State)
    → r.by ≡ by
    → IsByWay set seg a c by r
    → IsPassed states (gone_by_way by c)
    → IsRun states r.receipts b
    → (replies.Access r, b) ≡ result_by_line set states seg a (current_line states c)
way_is set seg a (Some line) (Some Hit) r states b e h gone run =
    let now : current_line states (Some line) ≡ Some line = current_some states line
    (current_true line (state_at states line.entry)
    (hit_current seg a line r.receipts states b h.trial h.current run)) in
    told_reach set a Hit r b e h.outcome
    ∙ ap (access_result set a Hit)
    (trial_is is_no_match states b (hit_calls seg a line) r.receipts h.trial run)
    ∙ ap (result_by_line set states seg a) (sym now)
way_is set seg a (Some line) (Some Walk) r states b e h gone run =
    let past : current_line states (Some line) ≡ None = current_none states line
    (past_false line (state_at states line.entry) gone) in
    told_reach set a Walk r b e h.outcome
    ∙ ap (access_result set a Walk)
    (trial_is is_no_match states b (calls_by_walk set seg a) r.receipts h.trial run)
    ∙ ap (result_by_line set states seg a) (sym past)
way_is set seg a None (Some Walk) r states b e h gone run =
    told_reach set a Walk r b e h.outcome
    ∙ ap (access_result set a Walk)
    (trial_is is_no_match states b (calls_by_walk set seg a) r.receipts h.trial run)
way_is set seg a None (Some Hit) r states b e h gone run = absurd h
way_is set seg a None None r states b e h gone run = absurd h
way_is set seg a (Some line) None r states b e h gone run = absurd h

segment_is :
    (set : AccessContext) (processor : Processor) (a : Request) (s : Option Segment)
    (r : AccessReply) (states b : List State)
    → IsAccessReply set (cached_line processor.cache) a s r
    → IsPassed states (gone_line processor.cache s r)
    → IsRun states r.receipts b
    → (replies.Access r, b) ≡ result_by_segment set processor states a s
segment_is set processor a None r states b h gone run =
    let stays : b ≡ states = subst (λ (x : AccessReply). IsRun states x.receipts b) h run in
    λ i. (replies.Access (h i), stays i)
segment_is set processor a (Some seg) r states b h gone run =
    way_is set seg a (cached_line processor.cache seg.page) r.by r states b refl h gone run

-- ---- a line
line_is :
    (set : StoreContext) (processor : Processor) (act : Act) (r : Reply) (a b : List State)
    → is_quiet act ≡ false
    → IsCallReply set act r
    → IsReplyToAccess (access_of set) processor act r
    → IsPassed a (gone_line_of processor act r)
    → IsRun a (receipts_in r) b
    → (r, b) ≡ line_result set processor a act
unfolding line_result is_quiet
line_is set processor (acts.Call number args spelt) (replies.Hcall h) a b q call acc gone run =
    ap call_result (plan_is (hcall_plan set (hcall_of number) args) a b h call run)
line_is set processor (acts.Call number args spelt) (replies.Access r) a b q call acc gone run =
    absurd call
line_is set processor (acts.Call number args spelt) (replies.Device r) a b q call acc gone run =
    absurd call
line_is set processor (acts.Call number args spelt) (replies.Segment x) a b q call acc gone run =
    absurd call
line_is set processor (acts.Call number args spelt) replies.MaskSet a b q call acc gone run =
    absurd call
line_is set processor (acts.Call number args spelt) (replies.Dump x) a b q call acc gone run =
    absurd call
line_is set processor (acts.Access want ea user) (replies.Access r) a b q call acc gone run =
    segment_is (access_of set) processor (request want ea user processor.masks)
    (segment_of processor.slots ea) r a b acc gone run
line_is set processor (acts.Access want ea user) (replies.Hcall r) a b q call acc gone run =
    absurd acc
line_is set processor (acts.Access want ea user) (replies.Device r) a b q call acc gone run =
    absurd acc
line_is set processor (acts.Access want ea user) (replies.Segment r) a b q call acc gone run =
    absurd acc
line_is set processor (acts.Access want ea user) replies.MaskSet a b q call acc gone run =
    absurd acc
line_is set processor (acts.Access want ea user) (replies.Dump r) a b q call acc gone run =
    absurd acc
line_is set processor (acts.Device write liobn ioba) r a b q call acc gone run =
    device_is set.grants set.window ioba write r a b call run
line_is set processor (acts.SlbMte rb rs) r a b q call acc gone run =
    let stays : b ≡ a = subst (λ (x : Reply). IsRun a (receipts_in x) b) call run in
    λ i. (call i, stays i)
line_is set processor acts.SlbClear r a b q call acc gone run =
    let stays : b ≡ a = subst (λ (x : Reply). IsRun a (receipts_in x) b) call run in
    λ i. (call i, stays i)
line_is set processor (acts.SetMask name value) r a b q call acc gone run =
    let stays : b ≡ a = subst (λ (x : Reply). IsRun a (receipts_in x) b) call run in
    λ i. (call i, stays i)
line_is set processor acts.Dump r a b q call acc gone run = cc

pub replied_line_is :
    (set : StoreContext) (processor : Processor) (a b : List State) (t : RepliedLine)
    → is_quiet t.line.act ≡ false
    → IsUndisturbed set processor a t b
    → (t.reply, b) ≡ line_result set processor a t.line.act
replied_line_is set processor a b t q h =
    line_is set processor t.line.act t.reply a b q h.call h.access h.gone h.run

-- ---- all lines
-- The state of the run after a line that isn't quiet.
abbrev pub next : Store → RepliedLine → List State → Store
next w t mid =
    record w { memory = with_states w.memory mid; processors = processors_after w.processors t }

-- The first line of a section, which is on the store or not.
rest_on :
    (on : Act → Bool) (s : Store) (t : RepliedLine) (ts : List RepliedLine) (qs : List QuietPart)
    → on t.line.act ≡ true
    → Stands on s (t ∷ ts) qs
    → (mid : List State)
    × IsUndisturbed (context_of s) (processor_at s.processors t.line.cpu) (states_of s) t mid
    × Stands on (next s t mid) ts qs
rest_on on s t ts [] here h = let k = rw here at h in (k.1.0, k.1.1, (k.0, k.1.2))
rest_on on s t ts (q ∷ qs) here h = let k = rw here at h in (k.1.0, k.1.1, (k.0, k.1.2, k.2, k.3))

rest_off :
    (on : Act → Bool) (s : Store) (t : RepliedLine) (ts : List RepliedLine) (qs : List QuietPart)
    → on t.line.act ≡ false
    → Stands on s (t ∷ ts) qs
    → Stands on s ts qs
rest_off on s t ts [] off h = rw off at h
rest_off on s t ts (q ∷ qs) off h = rw off at h

-- The lines after a quiet line, which is on the store or not.
behind_on :
    (on : Act → Bool) (s : Store) (t : RepliedLine) (x : List RepliedLine × List QuietPart)
    → on t.line.act ≡ true
    → Stands on s [] ((t, x.0) ∷ x.1)
    → (t.reply ≡ (run_quiet_line s t.line.act).0)
    × Stands on (run_quiet_line s t.line.act).1 x.0 x.1
behind_on on s t x here h =
    let k = rw here at h in
    subst
    (λ b.
    (t.reply ≡ (run_quiet_line (record s { memory = with_states s.memory b }) t.line.act).0)
    × Stands on (run_quiet_line (record s { memory = with_states s.memory b }) t.line.act).1
    x.0 x.1) k.1 (k.2, k.3)

behind_off :
    (on : Act → Bool) (s : Store) (t : RepliedLine) (x : List RepliedLine × List QuietPart)
    → on t.line.act ≡ false
    → Stands on s [] ((t, x.0) ∷ x.1)
    → Stands on s x.0 x.1
behind_off on s t x off h =
    let k = rw off at h in
    subst (λ b. Stands on (record s { memory = with_states s.memory b }) x.0 x.1) k.1 k.3

-- The lines, cut at the quiet ones, fit the store with their replies, section by section.
abbrev pub Cut : (Act → Bool) → Store → List RepliedLine → Type 0
Cut on s ts = Stands on s (cut ts).0 (cut ts).1

-- ---- one run
-- Two runs that stand alike on a store have the same lines there.
module _ (on : Act → Bool) (l : TraceLine) (r q : Reply) (ts us : List RepliedLine) where
  abbrev one : RepliedLine
  one = record { line = l; reply = r }

  abbrev other : RepliedLine
  other = record { line = l; reply = q }

  off_both :
      on l.act ≡ false
      → lines_on on ts ≡ lines_on on us
      → lines_on on (one ∷ ts) ≡ lines_on on (other ∷ us)
  off_both off e =
      filter_no (λ (z : RepliedLine). on z.line.act) one ts off
      ∙ e
      ∙ sym (filter_no (λ (z : RepliedLine). on z.line.act) other us off)

  on_both :
      on l.act ≡ true
      → r ≡ q
      → lines_on on ts ≡ lines_on on us
      → lines_on on (one ∷ ts) ≡ lines_on on (other ∷ us)
  on_both here f e =
      let heads : one ∷ lines_on on ts ≡ other ∷ lines_on on us = λ i. record {
        line = l;
        reply = f i;
      } ∷ e i in
      filter_yes (λ (z : RepliedLine). on z.line.act) one ts here
      ∙ heads
      ∙ sym (filter_yes (λ (z : RepliedLine). on z.line.act) other us here)

  abbrev Rest : Type 0
  Rest = (v : Store) → Cut on v ts → Cut on v us → lines_on on ts ≡ lines_on on us

  same_first :
      (s : Store)
      → Stands on s (cut_before one (cut ts)).0 (cut_before one (cut ts)).1
      → Stands on s (cut_before other (cut us)).0 (cut_before other (cut us)).1
      → Rest
      → lines_on on (one ∷ ts) ≡ lines_on on (other ∷ us)
  same_first s h m rest = at (cases_Bool (is_quiet l.act)) (cases_Bool (on l.act)) where
    at :
        (is_quiet l.act ≡ true) ⊎ (is_quiet l.act ≡ false)
        → (on l.act ≡ true) ⊎ (on l.act ≡ false)
        → lines_on on (one ∷ ts) ≡ lines_on on (other ∷ us)
    at (inl quiet) (inl here) =
        let a : Stands on s [] ((one, (cut ts).0) ∷ (cut ts).1) = rw quiet at h in
        let b : Stands on s [] ((other, (cut us).0) ∷ (cut us).1) = rw quiet at m in
        let j = behind_on on s one (cut ts) here a in
        let k = behind_on on s other (cut us) here b in
        on_both here (j.0 ∙ sym k.0) (rest (run_quiet_line s l.act).1 j.1 k.1)
    at (inl quiet) (inr off) =
        let a : Stands on s [] ((one, (cut ts).0) ∷ (cut ts).1) = rw quiet at h in
        let b : Stands on s [] ((other, (cut us).0) ∷ (cut us).1) = rw quiet at m in
        off_both off
        (rest s (behind_off on s one (cut ts) off a) (behind_off on s other (cut us) off b))
    at (inr plain) (inl here) =
        let a : Stands on s (one ∷ (cut ts).0) (cut ts).1 = rw plain at h in
        let b : Stands on s (other ∷ (cut us).0) (cut us).1 = rw plain at m in
        let j = rest_on on s one (cut ts).0 (cut ts).1 here a in
        let k = rest_on on s other (cut us).0 (cut us).1 here b in
        let p = processor_at s.processors l.cpu in
        let same : (r, j.0) ≡ (q, k.0) = replied_line_is (context_of s) p (states_of s) j.0 one
        plain j.1 ∙ sym (replied_line_is (context_of s) p (states_of s) k.0 other plain k.1) in
        let e : next s one j.0 ≡ next s other k.0 = ap
        (λ (z : Reply × List State). next s (record { line = l; reply = z.0 }) z.1) same in
        on_both here (ap (λ (z : Reply × List State). z.0) same)
        (rest (next s other k.0) (subst (λ v. Cut on v ts) e j.2) k.2)
    at (inr plain) (inr off) =
        let a : Stands on s (one ∷ (cut ts).0) (cut ts).1 = rw plain at h in
        let b : Stands on s (other ∷ (cut us).0) (cut us).1 = rw plain at m in
        off_both off
        (rest s (rest_off on s one (cut ts).0 (cut ts).1 off a)
        (rest_off on s other (cut us).0 (cut us).1 off b))

pub same_lines :
    (on : Act → Bool) (s : Store) (ls : List TraceLine) (rs qs : List Reply)
    → AreReplies ls rs
    → AreReplies ls qs
    → Cut on s (lines_with_replies ls rs)
    → Cut on s (lines_with_replies ls qs)
    → lines_on on (lines_with_replies ls rs) ≡ lines_on on (lines_with_replies ls qs)
same_lines on s [] rs qs j k h m = refl
same_lines on s (l ∷ ls) [] qs j k h m = absurd j
same_lines on s (l ∷ ls) (r ∷ rs) [] j k h m = absurd k
same_lines on s (l ∷ ls) (r ∷ rs) (q ∷ qs) j k h m =
    same_first on l r q (lines_with_replies ls rs) (lines_with_replies ls qs) s h m
    (λ v. same_lines on v ls rs qs j.1 k.1)
