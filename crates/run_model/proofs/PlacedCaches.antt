-- Each cached translation's entry is in its page's group, and each access lands where its entry
-- maps the page.
use Rattle.std.specs.Prelude.{IfSome, IsTrue, find, if◌then◌else◌}
use Rattle.std.proofs.Common.{◌≡◌, ℕ, zero, suc, List, [], ◌∷◌, Bool, true, false, not, ap, sym, ◌∙◌, refl, subst, ◌⊎◌, inl, inr, arith, map, replicate, Option, Some, None}
use Rattle.std.specs.List.{AllByRecursion}
use Rattle.std.specs.Option.{option_and_then, option_map}
use Rattle.std.proofs.lemmas.Bool.{cases_Bool}
use Rattle.power_addr.specs.Pages.{VirtualPage, IsPage, page_of_address}
use Rattle.power_addr.proofs.Ranges.{page_of_address-some}
use Rattle.papr_codes.specs.declared.calls.Hcall.{Hcall}
use Rattle.papr_codes.specs.Hcalls.{hcall_of}
use Rattle.frame_grants.specs.declared.grant.Grant.{Grant}
use Rattle.frame_grants.specs.Grants.{GrantedMemory, AreApart, machine_range}
use Rattle.frame_grants.proofs.Landing.{lands_off_pool}
use Rattle.slb_model.specs.declared.segment.Segment.{Segment}
use Rattle.slb_model.specs.declared.slot.Slot.{Slot}
use Rattle.slb_model.specs.Slots.{covers, segment_by, segment_with}
use Rattle.slb_model.specs.Buffer.{segment_of, valid_slots}
use Rattle.authority_mask.specs.declared.masks.MaskName.{MaskName}
use Rattle.entry_model.specs.State.{State}
use Rattle.entry_model.specs.declared.line.Line.{Line}
use Rattle.entry_model.specs.declared.operation.Answer.{Answer}
use Rattle.entry_model.specs.declared.access_reply.AccessReply.{AccessReply}
use Rattle.entry_model.specs.declared.access_reply.By.{By}
use Rattle.entry_model.specs.declared.access_reply.By.TheVariants.{Hit, Walk}
use Rattle.entry_model.specs.declared.access_reply.Outcome.{Outcome}
use Rattle.entry_model.specs.declared.receipt.Receipt.{Receipt}
use Rattle.entry_model.specs.Receipt.{is_at, is_decided, is_no_match, found_of}
use Rattle.entry_model.proofs.Heights.{at_valid}
use Rattle.tlb_model.specs.Cache.{is_of, set_of, set_number, cached_line, without_page, AllInSet, AllCached}
use Rattle.tlb_model.specs.CacheAfter.{kept_line, set_with, after_walk, cache_after}
use Rattle.tlb_model.specs.Processor.{Processor, new_processor, without_cache}
use Rattle.tlb_model.proofs.CachedPages.{all_put_last, all_in_set_of, all_cached, all_empty, cached_is_of}
use Rattle.hpt_walk.specs.Access.{AccessContext, logical_of, landing_at, outcome_by, outcome_of, refused_by, refusing_mask, IsByWay, IsAccessReply, request, mode_for}
use Rattle.hpt_walk.specs.declared.request.Request.{Request}
use Rattle.hpt_walk.specs.Laws.{WasOfPage, HasFirstWord}
use Rattle.hpt_walk.specs.Translations.{StandsInItsGroup}
use Rattle.hpt_walk.proofs.Found.{found-on, found-off}
use Rattle.hpt_walk.proofs.Granted.{access_lands}
use Rattle.hpt_walk.proofs.PageUses.{walks_use, hits_use}
use Rattle.trace_line.specs.declared.act.Act.{Act}
use Rattle.trace_reply.specs.declared.reply.Reply.{Reply}
use Rattle.trace_reply.specs.Replies.{RepliedLine, receipts_in}
use Rattle.hpt_resize.specs.TableMemory.{TableMemory, commit_result}
use Rattle.run_model.specs.StoreContexts.{access_of}
use Rattle.run_model.specs.Processors.{processor_at, processor_after}
use Rattle.run_model.specs.LineReplies.{IsReplyToAccess}
use Rattle.run_model.specs.Stores.{Store, context_of}
use Rattle.run_model.specs.QuietLines.{run_resize, run_quiet_line}
use Rattle.run_model.specs.Histories.{lines_of_processor, receipts_by}
use Rattle.run_model.specs.Sections.{processor_after_lines, processors_after_lines}
use Rattle.run_model.specs.GoodRun.{EachLineOfProcessor, IsAccessLine}
use Rattle.run_model.specs.Landings.{IsLanding, Lands, LandsByItsEntry}
use Rattle.run_model.proofs.ProcessorLists.{after_each}
use Rattle.basics.proofs.Each.{each_map, each_at, each_filter, each_of_map, each_set}
use Rattle.run_model.proofs.LineReceipts.{receipts_of_each}
use Rattle.run_model.proofs.LowStamps.{IsLowStamp, top, FromLowStamp}
use Rattle.run_model.proofs.Memories.{prepare_table}
use Rattle.run_model.proofs.Resized.{memory_moves, Moves}
use Rattle.papr_codes.specs.declared.calls.Hcall.TheVariants as calls
use Rattle.entry_model.specs.declared.operation.Answer.TheVariants as answers
use Rattle.entry_model.specs.declared.access_reply.Outcome.TheVariants as outcomes
use Rattle.trace_line.specs.declared.act.Act.TheVariants as acts
use Rattle.trace_reply.specs.declared.reply.Reply.TheVariants as replies

-- ---- the page of a segment
page_in_range :
    (slot : Slot) (ea : ℕ) (o : Option VirtualPage)
    → page_of_address slot.one_tb slot.vsid slot.shift ea ≡ o
    → IfSome (option_map (segment_with slot) o) (λ seg. IsPage seg.page)
page_in_range slot ea None e = tt
page_in_range slot ea (Some page) e =
    (page_of_address-some slot.one_tb slot.vsid slot.shift ea page e).0

slot_page :
    (ea : ℕ) (o : Option Slot) → IfSome (option_and_then (segment_by ea) o) (λ seg. IsPage seg.page)
slot_page ea None = tt
slot_page ea (Some slot) =
    page_in_range slot ea (page_of_address slot.one_tb slot.vsid slot.shift ea) refl

pub segment_page :
    (slots : List (Option Slot)) (ea : ℕ) → IfSome (segment_of slots ea) (λ seg. IsPage seg.page)
unfolding segment_of
segment_page slots ea = slot_page ea (find (covers ea) (valid_slots slots))

-- ---- where an access lands
landing :
    (granted : GrantedMemory) (order ea : ℕ) (page : VirtualPage) (r : Receipt)
    → AreApart granted
    → IsLowStamp granted.grants top r.before
    → is_at r.answer ≡ true
    → WasOfPage order page r
    → (seg : Segment)
    → seg.page ≡ page
    → Lands granted order ea (Some seg) (Some r)
    (landing_at (machine_range granted.grants (logical_of ea r.before) 1)
    (logical_of ea r.before))
landing granted order ea page r apart low_stamp on was seg same =
    let (x, found) = access_lands granted.grants ea r.before low_stamp.granted
    (at_valid r.before r.op (ap is_at (sym r.lawful) ∙ on)) in
    let at : IsLanding granted order ea seg.page r x.0 = record {
      allowed = on;
      of_page = subst (λ p. WasOfPage order p r) (sym same) was;
      kind = x.1;
      in_grant = found;
      off_pool =
          λ inside.
          lands_off_pool granted (logical_of ea r.before) x apart found inside.from_base
          inside.to_end;
    } in
    rw found at

at_decided : (a : Answer) → is_at a ≡ true → is_decided a ≡ true
at_decided answers.At h = refl
at_decided other h = cc

refused_lands :
    (granted : GrantedMemory) (order ea : ℕ) (seg : Segment) (found : Option Receipt)
    (mask : Option MaskName)
    → Lands granted order ea (Some seg) found (refused_by mask)
refused_lands granted order ea seg None None = tt
refused_lands granted order ea seg None (Some name) = tt
refused_lands granted order ea seg (Some r) None = tt
refused_lands granted order ea seg (Some r) (Some name) = tt

found_lands :
    (granted : GrantedMemory) (order ea : ℕ) (seg : Segment) (found : Option Receipt)
    → AreApart granted
    → IfSome found (λ r. IsLowStamp granted.grants top r.before)
    → IfSome found (λ r. IsTrue (is_decided r.answer) → WasOfPage order seg.page r)
    → Lands granted order ea (Some seg) found (outcome_by granted.grants ea found)
found_lands granted order ea seg None apart low_stamp used = tt
found_lands granted order ea seg (Some r) apart low_stamp used =
    at (cases_Bool (is_at r.answer)) where
      at :
          (is_at r.answer ≡ true) ⊎ (is_at r.answer ≡ false)
          → Lands granted order ea (Some seg) (Some r) (outcome_by granted.grants ea (Some r))
      at (inl on) =
          rw on
          (landing granted order ea seg.page r apart low_stamp on (used (at_decided r.answer on))
          seg refl)
      at (inr off) = rw off (refused_lands granted order ea seg (Some r) (refusing_mask r))

each_found :
    (P : Receipt → Type 0) (rs : List Receipt) → AllByRecursion P rs → IfSome (found_of rs) P
each_found P [] h = tt
each_found P (r ∷ rs) h = at (cases_Bool (is_no_match r.answer)) (each_found P rs h.1) where
  at :
      (is_no_match r.answer ≡ true) ⊎ (is_no_match r.answer ≡ false)
      → IfSome (found_of rs) P
      → IfSome (found_of (r ∷ rs)) P
  at (inl on) rest = rw (found-on r rs on) rest
  at (inr off) rest = rw (found-off r rs off) h.0

outcome_lands :
    (granted : GrantedMemory) (set : AccessContext) (ea : ℕ) (seg : Segment) (o : Outcome)
    (rs : List Receipt)
    → AreApart granted
    → set.grants ≡ granted.grants
    → o ≡ outcome_of set.grants ea rs
    → FromLowStamp granted.grants top rs
    → AllByRecursion
    (λ (r : Receipt). IsTrue (is_decided r.answer) → WasOfPage set.order seg.page r) rs
    → Lands granted set.order ea (Some seg) (found_of rs) o
unfolding outcome_of
outcome_lands granted set ea seg o rs apart same e low_stamp used =
    subst (Lands granted set.order ea (Some seg) (found_of rs))
    (sym (e ∙ ap (λ g. outcome_by g ea (found_of rs)) same))
    (found_lands granted set.order ea seg (found_of rs) apart
    (each_found (λ (r : Receipt). IsLowStamp granted.grants top r.before) rs low_stamp)
    (each_found
    (λ (r : Receipt). IsTrue (is_decided r.answer) → WasOfPage set.order seg.page r) rs
    used))

first_words :
    (grants : List Grant) (rs : List Receipt)
    → FromLowStamp grants top rs
    → AllByRecursion HasFirstWord rs
first_words grants rs low =
    each_map (λ (r : Receipt). IsLowStamp grants top r.before) HasFirstWord rs
    (λ r h valid. (h.granted valid).fits) low

way_lands :
    (granted : GrantedMemory) (set : AccessContext) (seg : Segment) (a : Request) (c : Option Line)
    (by : Option By) (r : AccessReply)
    → AreApart granted
    → set.grants ≡ granted.grants
    → IsPage seg.page
    → IfSome c (λ line. line.page ≡ seg.page)
    → IfSome c (StandsInItsGroup set.order)
    → FromLowStamp granted.grants top r.receipts
    → IsByWay set seg a c by r
    → Lands granted set.order a.ea (Some seg) (found_of r.receipts) r.outcome
way_lands granted set seg a (Some line) (Some Hit) r apart same is of group low h =
    let used = hits_use set seg a line r is of group (first_words granted.grants r.receipts low) h
    in
    outcome_lands granted set a.ea seg r.outcome r.receipts apart same h.outcome low
    (each_map (WasOfPage set.order seg.page)
    (λ (x : Receipt). IsTrue (is_decided x.answer) → WasOfPage set.order seg.page x)
    r.receipts (λ x was decided. was) used)
way_lands granted set seg a (Some line) (Some Walk) r apart same is of group low h =
    outcome_lands granted set a.ea seg r.outcome r.receipts apart same h.outcome low
    (walks_use set.order seg.page (mode_for seg a) r.receipts is
    (first_words granted.grants r.receipts low) h.trial)
way_lands granted set seg a None (Some Walk) r apart same is of group low h =
    outcome_lands granted set a.ea seg r.outcome r.receipts apart same h.outcome low
    (walks_use set.order seg.page (mode_for seg a) r.receipts is
    (first_words granted.grants r.receipts low) h.trial)
way_lands granted set seg a None (Some Hit) r apart same is of group low h = absurd h
way_lands granted set seg a None None r apart same is of group low h = absurd h
way_lands granted set seg a (Some line) None r apart same is of group low h = absurd h

-- ---- the cache after it
-- Each line that the processor has cached is of an entry in its page's group of a table of this
-- order.
abbrev pub ProcessorPlaced : ℕ → Processor → Type 0
ProcessorPlaced order processor = AllCached (StandsInItsGroup order) processor.cache

kept_placed :
    (granted : GrantedMemory) (order ea : ℕ) (seg : Segment) (o : Outcome) (found : Option Receipt)
    (lines : List Line)
    → Lands granted order ea (Some seg) found o
    → AllInSet (StandsInItsGroup order) lines
    → AllInSet (StandsInItsGroup order) (set_with (kept_line seg.page o found) lines)
kept_placed granted order ea seg (outcomes.At x) (Some r) lines h k =
    all_put_last (StandsInItsGroup order) lines _ k h.of_page.group
kept_placed granted order ea seg (outcomes.At x) None lines h k = k
kept_placed granted order ea seg outcomes.Denied found lines h k = k
kept_placed granted order ea seg (outcomes.Masked name) found lines h k = k
kept_placed granted order ea seg outcomes.NoPage found lines h k = k
kept_placed granted order ea seg outcomes.NoSegment found lines h k = k
kept_placed granted order ea seg (outcomes.Ungranted x) found lines h k = k

walk_placed :
    (granted : GrantedMemory) (order ea : ℕ) (seg : Segment) (r : AccessReply)
    (cache : List (List Line))
    → Lands granted order ea (Some seg) (found_of r.receipts) r.outcome
    → AllCached (StandsInItsGroup order) cache
    → AllCached (StandsInItsGroup order) (after_walk cache seg.page r)
unfolding after_walk
walk_placed granted order ea seg r cache lands h =
    let left : AllInSet (StandsInItsGroup order) (without_page seg.page (set_of cache seg.page)) =
    each_filter (StandsInItsGroup order) (λ line. not (is_of seg.page line))
    (set_of cache seg.page) (all_in_set_of (StandsInItsGroup order) cache seg.page h) in
    each_set (AllInSet (StandsInItsGroup order)) cache (set_number seg.page) _
    (kept_placed granted order ea seg r.outcome (found_of r.receipts)
    (without_page seg.page (set_of cache seg.page)) lands left) h

way_placed :
    (granted : GrantedMemory) (order ea : ℕ) (seg : Segment) (by : Option By) (r : AccessReply)
    (cache : List (List Line))
    → Lands granted order ea (Some seg) (found_of r.receipts) r.outcome
    → AllCached (StandsInItsGroup order) cache
    → AllCached (StandsInItsGroup order) (cache_after cache (Some seg) by r)
way_placed granted order ea seg (Some Walk) r cache lands h =
    walk_placed granted order ea seg r cache lands h
way_placed granted order ea seg (Some Hit) r cache lands h = h
way_placed granted order ea seg None r cache lands h = h

-- ---- a line
-- It lands, and the entries of the processor's lines are in their groups then.
abbrev LandsAndPlaces : GrantedMemory → ℕ → Processor → Act → Reply → Type 0
LandsAndPlaces granted order p act reply =
    LandsByItsEntry granted order p act reply × ProcessorPlaced order (processor_after p act reply)

no_segment_lands :
    (granted : GrantedMemory) (order ea : ℕ) (o : Outcome) (found : Option Receipt)
    → o ≡ outcomes.NoSegment
    → Lands granted order ea None found o
no_segment_lands granted order ea o found e = subst (Lands granted order ea None found) (sym e) tt

segment_lands :
    (granted : GrantedMemory) (set : AccessContext) (p : Processor) (a : Request)
    (s : Option Segment) (r : AccessReply)
    → AreApart granted
    → set.grants ≡ granted.grants
    → IfSome s (λ seg. IsPage seg.page)
    → ProcessorPlaced set.order p
    → FromLowStamp granted.grants top r.receipts
    → IsAccessReply set (cached_line p.cache) a s r
    → Lands granted set.order a.ea s (found_of r.receipts) r.outcome
    × AllCached (StandsInItsGroup set.order) (cache_after p.cache s r.by r)
segment_lands granted set p a None r apart same is placed low h = (
  no_segment_lands granted set.order a.ea r.outcome (found_of r.receipts)
      (ap (λ (x : AccessReply). x.outcome) h),
  placed,
)
segment_lands granted set p a (Some seg) r apart same is placed low h =
    let lands = way_lands granted set seg a (cached_line p.cache seg.page) r.by r apart same is
    (cached_is_of p.cache seg.page)
    (all_cached (StandsInItsGroup set.order) p.cache seg.page placed) low h in
    (lands, way_placed granted set.order a.ea seg r.by r p.cache lands placed)

line_lands :
    (granted : GrantedMemory) (set : AccessContext) (p : Processor) (act : Act) (reply : Reply)
    → AreApart granted
    → set.grants ≡ granted.grants
    → ProcessorPlaced set.order p
    → FromLowStamp granted.grants top (receipts_in reply)
    → IsReplyToAccess set p act reply
    → LandsAndPlaces granted set.order p act reply
line_lands granted set p (acts.Access want ea user) (replies.Access r) apart same placed low h =
    segment_lands granted set p (request want ea user p.masks) (segment_of p.slots ea) r apart same
    (segment_page p.slots ea) placed low h
line_lands granted set p (acts.Access want ea user) (replies.Hcall r) apart same placed low h =
    absurd h
line_lands granted set p (acts.Access want ea user) (replies.Device r) apart same placed low h =
    absurd h
line_lands granted set p (acts.Access want ea user) (replies.Segment r) apart same placed low h =
    absurd h
line_lands granted set p (acts.Access want ea user) replies.MaskSet apart same placed low h =
    absurd h
line_lands granted set p (acts.Access want ea user) (replies.Dump r) apart same placed low h =
    absurd h
line_lands granted set p (acts.Call number args spelt) reply apart same placed low h = (tt, placed)
line_lands granted set p (acts.SlbMte rb rs) reply apart same placed low h = (tt, placed)
line_lands granted set p acts.SlbClear reply apart same placed low h = (tt, placed)
line_lands granted set p (acts.Device write liobn ioba) reply apart same placed low h = (tt, placed)
line_lands granted set p (acts.SetMask name value) reply apart same placed low h = (tt, placed)
line_lands granted set p acts.Dump reply apart same placed low h = (tt, placed)

-- ---- the lines of a processor
-- Each receipt of these lines found a state with a low stamp.
abbrev pub LinesFromLowStamp : GrantedMemory → List RepliedLine → Type 0
LinesFromLowStamp granted ts =
    AllByRecursion (λ (t : RepliedLine). FromLowStamp granted.grants top (receipts_in t.reply)) ts

lines_land :
    (granted : GrantedMemory) (set : AccessContext) (b : List State) (p : Processor)
    (ts : List RepliedLine)
    → AreApart granted
    → set.grants ≡ granted.grants
    → ProcessorPlaced set.order p
    → LinesFromLowStamp granted ts
    → EachLineOfProcessor (IsAccessLine set b) p ts
    → EachLineOfProcessor (λ q t. LandsByItsEntry granted set.order q t.line.act t.reply) p ts
    × ProcessorPlaced set.order (processor_after_lines p ts)
lines_land granted set b p [] apart same placed low h = (tt, placed)
lines_land granted set b p (t ∷ ts) apart same placed low h =
    let here = line_lands granted set p t.line.act t.reply apart same placed low.0 h.0.reply in
    let rest = lines_land granted set b (processor_after p t.line.act t.reply) ts apart same here.1
    low.1 h.1 in
    ((here.0, rest.0), rest.1)

-- ---- all processors
-- Each line that a processor of the store has cached is of an entry in its page's group.
abbrev pub AllPlaced : Store → Type 0
AllPlaced w = AllByRecursion (ProcessorPlaced w.memory.table.order) w.processors

pub empty_placed : (order : ℕ) → ProcessorPlaced order new_processor
unfolding new_processor
empty_placed order = all_empty (StandsInItsGroup order)

pub section_lands :
    (granted : GrantedMemory) (w : Store) (b : List State) (ts : List RepliedLine)
    → AreApart granted
    → w.grants ≡ granted.grants
    → AllPlaced w
    → FromLowStamp granted.grants top (receipts_by ts)
    →
    ((cpu : ℕ)
    → EachLineOfProcessor (IsAccessLine (access_of (context_of w)) b)
    (processor_at w.processors cpu) (lines_of_processor cpu ts))
    →
    ((cpu : ℕ)
    → EachLineOfProcessor
    (λ p t. LandsByItsEntry granted w.memory.table.order p t.line.act t.reply)
    (processor_at w.processors cpu) (lines_of_processor cpu ts))
    × AllByRecursion (ProcessorPlaced w.memory.table.order)
    (processors_after_lines 0 w.processors ts)
section_lands granted w b ts apart same placed low h = (
  λ cpu.
      (one cpu).0,
  after_each (ProcessorPlaced w.memory.table.order) 0 w.processors ts
      (λ k within.
      subst
      (λ n.
      ProcessorPlaced w.memory.table.order
      (processor_after_lines (processor_at w.processors k) (lines_of_processor n ts)))
      (omega arith) (one k).1),
) where
  one :
      (cpu : ℕ)
      → EachLineOfProcessor
      (λ p t. LandsByItsEntry granted w.memory.table.order p t.line.act t.reply)
      (processor_at w.processors cpu) (lines_of_processor cpu ts)
      × ProcessorPlaced w.memory.table.order
      (processor_after_lines (processor_at w.processors cpu) (lines_of_processor cpu ts))
  one cpu =
      lines_land granted (access_of (context_of w)) b (processor_at w.processors cpu)
      (lines_of_processor cpu ts) apart same
      (each_at (ProcessorPlaced w.memory.table.order) w.processors cpu new_processor
      (empty_placed w.memory.table.order) placed)
      (each_filter (λ (t : RepliedLine). FromLowStamp granted.grants top (receipts_in t.reply)) _ ts
      (receipts_of_each (λ (r : Receipt). IsLowStamp granted.grants top r.before) ts low))
      (h cpu)

-- ---- quiet lines
cleared_placed :
    (order : ℕ) (ps : List Processor)
    → AllByRecursion (ProcessorPlaced order) (map without_cache ps)
cleared_placed order ps =
    each_of_map (ProcessorPlaced order) without_cache ps (λ p. all_empty (StandsInItsGroup order))

committed_placed :
    (done : Bool) (w : Store) (memory : TableMemory)
    → Moves done w.memory.table memory.table
    → AllPlaced w
    → AllByRecursion (ProcessorPlaced memory.table.order)
    (if done then map without_cache w.processors else w.processors)
committed_placed true w memory moves h = cleared_placed memory.table.order w.processors
committed_placed false w memory moves h =
    subst (λ n. AllByRecursion (ProcessorPlaced n) w.processors) (sym (ap (λ t. t.order) moves)) h

resize_placed :
    (w : Store) (call : Hcall) (args : List ℕ) → AllPlaced w → AllPlaced (run_resize w call args).1
unfolding run_resize
resize_placed w calls.Prepare args h =
    subst (λ n. AllByRecursion (ProcessorPlaced n) w.processors)
    (sym (ap (λ t. t.order) (prepare_table w.memory _ _))) h
resize_placed w calls.Commit args h =
    committed_placed _ w (commit_result w.memory _ _).1 (memory_moves w.memory _ _) h
resize_placed w other args h = h

pub quiet_placed : (w : Store) (act : Act) → AllPlaced w → AllPlaced (run_quiet_line w act).1
unfolding run_quiet_line
quiet_placed w (acts.Call number args spelt) h = resize_placed w (hcall_of number) args h
quiet_placed w other h = h

-- ---- the beginning
pub all_new_placed :
    (order count : ℕ) → AllByRecursion (ProcessorPlaced order) (replicate count new_processor)
all_new_placed order zero = tt
all_new_placed order (suc count) = (empty_placed order, all_new_placed order count)
