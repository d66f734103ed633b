-- In a good run a line that is refused leaves the entries of its receipts, its processor's
-- segments, and its cache except for a line that was gone.
use Rattle.std.specs.Prelude.{is_none}
use Rattle.std.proofs.Common.{◌≡◌, ℕ, List, [], ◌∷◌, Bool, true, false, ap, sym, ◌∙◌, refl, subst, ◌⊎◌, inl, inr, Option, Some, None}
use Rattle.std.specs.List.{AllByRecursion}
use Rattle.std.proofs.lemmas.Bool.{cases_Bool, false≢true, not-true}
use Rattle.std.proofs.lemmas.List.{set-get_or}
use Rattle.power_addr.specs.Pages.{VirtualPage}
use Rattle.power_addr.proofs.SamePages.{page_same}
use Rattle.frame_grants.specs.declared.grant.Grant.{Grant}
use Rattle.frame_grants.specs.declared.grant.Kind.{Kind}
use Rattle.frame_grants.specs.Grants.{GrantedMemory, machine_range}
use Rattle.papr_codes.specs.Hcalls.{hcall_of}
use Rattle.slb_model.specs.declared.error.BadSlb.{BadSlb}
use Rattle.slb_model.specs.declared.segment.Segment.{Segment}
use Rattle.slb_model.specs.declared.slot.Slot.{Slot}
use Rattle.slb_model.specs.Refusals.{mte_refusal}
use Rattle.slb_model.specs.Buffer.{segment_of, slots_after}
use Rattle.entry_model.specs.declared.access_reply.AccessReply.{AccessReply}
use Rattle.entry_model.specs.declared.access_reply.By.{By}
use Rattle.entry_model.specs.declared.access_reply.By.TheVariants.{Hit, Walk}
use Rattle.entry_model.specs.declared.access_reply.Outcome.{Outcome}
use Rattle.entry_model.specs.declared.access_reply.Outcome.TheVariants as outcomes
use Rattle.entry_model.specs.declared.line.Line.{Line}
use Rattle.entry_model.specs.declared.receipt.Receipt.{Receipt}
use Rattle.entry_model.specs.Receipt.{is_no_match, is_at, found_of}
use Rattle.entry_model.specs.Trial.{Call, IsTrial}
use Rattle.entry_model.proofs.OperationLaws.{access_undone}
use Rattle.hpt_walk.specs.Access.{AccessContext, IsAccessReply, IsByWay, hit_calls, landing_at, outcome_by, outcome_of, logical_of, mode_for, request}
use Rattle.hpt_walk.specs.declared.request.Request.{Request}
use Rattle.hpt_walk.specs.Walk.{walk_calls}
use Rattle.hpt_walk.proofs.Unchanged.{AreAccesses, reply_accesses}
use Rattle.tlb_model.specs.Cache.{is_of, line_of_page, without_page, set_number, set_of, cached_line}
use Rattle.tlb_model.specs.CacheAfter.{kept_line, after_walk, cache_after, gone_by_way}
use Rattle.tlb_model.specs.Processor.{Processor}
use Rattle.tlb_model.specs.Sets.{with_set}
use Rattle.trace_line.specs.declared.act.Act.{Act}
use Rattle.trace_read.specs.Trace.{AcceptedTrace, IsAccepted}
use Rattle.trace_reply.specs.declared.reply.Reply.{Reply}
use Rattle.trace_reply.specs.Replies.{RepliedLine}
use Rattle.run_model.proofs.TableNamed.{IsTable, table_is, all_table}
use Rattle.run_model.specs.StoreContexts.{access_of, table_context}
use Rattle.run_model.specs.Processors.{processor_after, processor_at, slots_or}
use Rattle.run_model.specs.Histories.{lines_of_processor}
use Rattle.run_model.specs.LineReplies.{IsCallReply, IsReplyToAccess}
use Rattle.run_model.specs.Stores.{context_of, states_of}
use Rattle.run_model.specs.Sections.{Section, closing, section_end, sections_of}
use Rattle.run_model.specs.GoodRun.{EachLineOfProcessor, IsAccessLine, CallsAreReplied, AccessesAreReplied, IsGoodSection, IsGoodRun}
use Rattle.run_model.specs.Landings.{Lands, LandsByItsEntry, AccessesLand}
use Rattle.run_model.specs.RefusedCalls.{ends_at, is_refused, LeavesEntry, LeavesAll, RefusedLinesLeave, cache_without}
use Rattle.run_model.proofs.AllSafe.{accesses_land}
use Rattle.run_model.proofs.Refusals.{hcall_leaves}
use Rattle.trace_line.specs.declared.act.Act.TheVariants as acts
use Rattle.trace_reply.specs.declared.reply.Reply.TheVariants as replies
use Rattle.entry_model.proofs.Trials.{no_match_not_at}

-- ---- the receipts of an access
-- The access ended neither At nor outside the grants.
record IsNowhere (outcome : Outcome) : Type 0 where
  off : ends_at outcome ≡ false
  granted : (address : ℕ) → outcome ≡ outcomes.Ungranted address → ⊥

abbrev NoneAt : List Receipt → Type 0
NoneAt rs = AllByRecursion (λ (r : Receipt). is_at r.answer ≡ false) rs

landed : (x : Option (ℕ × Kind)) (logical : ℕ) → IsNowhere (landing_at x logical) → ⊥
landed None logical h = h.granted logical refl
landed (Some x) logical h = false≢true (sym h.off)

found_not_at :
    (grants : List Grant) (ea : ℕ) (r : Receipt)
    → IsNowhere (outcome_by grants ea (Some r))
    → is_at r.answer ≡ false
found_not_at grants ea r h = at (cases_Bool (is_at r.answer)) where
  at : (is_at r.answer ≡ true) ⊎ (is_at r.answer ≡ false) → is_at r.answer ≡ false
  at (inl on) =
      absurd
      (landed (machine_range grants (logical_of ea r.before) 1) (logical_of ea r.before)
      (rw on at h))
  at (inr off) = off

tried_not_at :
    (grants : List Grant) (ea : ℕ) (cs : List Call) (rs : List Receipt)
    → IsTrial is_no_match cs rs
    → IsNowhere (outcome_by grants ea (found_of rs))
    → NoneAt rs
tried_not_at grants ea cs [] trial h = tt
tried_not_at grants ea [] (r ∷ rs) trial h = absurd trial
tried_not_at grants ea (c ∷ cs) (r ∷ rs) trial h =
    elim (cases_Bool (is_no_match r.answer)) [
      | inl on ↦ (
        no_match_not_at r.answer on,
        tried_not_at grants ea cs rs (rw on at trial.1) (rw on at h),
      )
      | inr ended ↦
          (let none : rs ≡ [] = rw ended at trial.1 in
          (found_not_at grants ea r (rw ended at h), subst NoneAt (sym none) tt))
    ]

told_not_at :
    (context : AccessContext) (ea : ℕ) (cs : List Call) (r : AccessReply)
    → IsTrial is_no_match cs r.receipts
    → r.outcome ≡ outcome_of context.grants ea r.receipts
    → IsNowhere r.outcome
    → NoneAt r.receipts
unfolding outcome_of
told_not_at context ea cs r trial told h =
    tried_not_at context.grants ea cs r.receipts trial (subst IsNowhere told h)

way_not_at :
    (context : AccessContext) (seg : Segment) (a : Request) (line : Option Line) (way : Option By)
    (r : AccessReply)
    → IsByWay context seg a line way r
    → IsNowhere r.outcome
    → NoneAt r.receipts
way_not_at context seg a (Some line) (Some Hit) r is h =
    told_not_at context a.ea (hit_calls seg a line) r is.trial is.outcome h
way_not_at context seg a (Some line) (Some Walk) r is h =
    told_not_at context a.ea (walk_calls context.order seg.page (mode_for seg a)) r is.trial
    is.outcome h
way_not_at context seg a (Some line) None r is h = absurd is
way_not_at context seg a None (Some Walk) r is h =
    told_not_at context a.ea (walk_calls context.order seg.page (mode_for seg a)) r is.trial
    is.outcome h
way_not_at context seg a None (Some Hit) r is h = absurd is
way_not_at context seg a None None r is h = absurd is

reply_not_at :
    (context : AccessContext) (cached : VirtualPage → Option Line) (a : Request)
    (segment : Option Segment) (r : AccessReply)
    → IsAccessReply context cached a segment r
    → IsNowhere r.outcome
    → NoneAt r.receipts
reply_not_at context cached a None r is h =
    subst (λ (x : AccessReply). NoneAt x.receipts) (sym is) tt
reply_not_at context cached a (Some seg) r is h =
    way_not_at context seg a (cached seg.page) r.by r is h

accesses_leave :
    (rs : List Receipt) → AreAccesses rs → NoneAt rs → AllByRecursion (LeavesEntry false) rs
accesses_leave [] access off = tt
accesses_leave (r ∷ rs) access off = (
  access_undone r.before r.op access.0 (ap is_at (sym r.lawful) ∙ off.0),
  accesses_leave rs access.1 off.1,
)

access_leaves :
    (context : AccessContext) (cached : VirtualPage → Option Line) (a : Request)
    (segment : Option Segment) (r : AccessReply)
    → IsAccessReply context cached a segment r
    → IsNowhere r.outcome
    → AllByRecursion (LeavesEntry false) r.receipts
access_leaves context cached a segment r is h =
    accesses_leave r.receipts (reply_accesses context cached a segment r is)
    (reply_not_at context cached a segment r is h)

-- No access ends outside the grants.
ungranted :
    (granted : GrantedMemory) (order ea : ℕ) (segment : Option Segment) (found : Option Receipt)
    (address : ℕ)
    → Lands granted order ea segment found (outcomes.Ungranted address)
    → ⊥
ungranted granted order ea None None address h = h
ungranted granted order ea None (Some r) address h = h
ungranted granted order ea (Some seg) None address h = h
ungranted granted order ea (Some seg) (Some r) address h = h

lands_nowhere :
    (granted : GrantedMemory) (order ea : ℕ) (segment : Option Segment) (found : Option Receipt)
    (outcome : Outcome)
    → Lands granted order ea segment found outcome
    → ends_at outcome ≡ false
    → IsNowhere outcome
lands_nowhere granted order ea segment found outcome h off =
    record {
      off = off;
      granted =
          λ address is.
          ungranted granted order ea segment found address
          (subst (Lands granted order ea segment found) is h);
    }

-- ---- the cache
none_out :
    (page : VirtualPage) (lines : List Line)
    → line_of_page page lines ≡ None
    → without_page page lines ≡ lines
none_out page [] none = refl
none_out page (l ∷ ls) none =
    elim (cases_Bool (is_of page l)) [
      | inl here ↦ (let wrong : Some l ≡ None = rw here at none in absurd (cc))
      | inr there ↦ rw there (ap (λ zs. l ∷ zs) (none_out page ls (rw there at none)))
    ]

found_of_page :
    (page : VirtualPage) (lines : List Line) (line : Line)
    → line_of_page page lines ≡ Some line
    → line.page ≡ page
found_of_page page [] line found = absurd (cc)
found_of_page page (l ∷ ls) line found =
    elim (cases_Bool (is_of page l)) [
      | inl here ↦
          (let same : Some l ≡ Some line = rw here at found in
          let this : l ≡ line = cc in
          subst (λ (x : Line). x.page ≡ page) this (page_same l.page page here))
      | inr there ↦ found_of_page page ls line (rw there at found)
    ]

no_line_kept :
    (page : VirtualPage) (outcome : Outcome) (found : Option Receipt)
    → ends_at outcome ≡ false
    → kept_line page outcome found ≡ None
no_line_kept page (outcomes.At address) found off = cc
no_line_kept page outcomes.Denied found off = refl
no_line_kept page (outcomes.Masked name) found off = refl
no_line_kept page outcomes.NoPage found off = refl
no_line_kept page outcomes.NoSegment found off = refl
no_line_kept page (outcomes.Ungranted address) found off = refl

taken_out :
    (cache : List (List Line)) (page : VirtualPage) (line : Option Line)
    → line_of_page page (set_of cache page) ≡ line
    → with_set page (without_page page (set_of cache page)) cache ≡ cache_without line cache
taken_out cache page None none =
    ap (λ lines. with_set page lines cache) (none_out page (set_of cache page) none)
    ∙ set-get_or cache (set_number page) []
taken_out cache page (Some line) found =
    subst
    (λ p.
    with_set page (without_page page (set_of cache page)) cache
    ≡ with_set p (without_page p (set_of cache p)) cache)
    (sym (found_of_page page (set_of cache page) line found)) refl

walk_leaves :
    (cache : List (List Line)) (page : VirtualPage) (r : AccessReply)
    → ends_at r.outcome ≡ false
    → after_walk cache page r ≡ cache_without (cached_line cache page) cache
unfolding after_walk cached_line
walk_leaves cache page r off =
    rw (no_line_kept page r.outcome (found_of r.receipts) off)
    (taken_out cache page (line_of_page page (set_of cache page)) refl)

way_cache :
    (cache : List (List Line)) (seg : Segment) (way : Option By) (r : AccessReply)
    → ends_at r.outcome ≡ false
    → cache_after cache (Some seg) way r
    ≡ cache_without (gone_by_way way (cached_line cache seg.page)) cache
way_cache cache seg (Some Walk) r off = walk_leaves cache seg.page r off
way_cache cache seg (Some Hit) r off = refl
way_cache cache seg None r off = refl

-- ---- each line
access_all :
    (context : AccessContext) (p : Processor) (want : _) (ea : ℕ) (user : Bool)
    (segment : Option Segment) (r : AccessReply)
    → segment_of p.slots ea ≡ segment
    → IsAccessReply context (cached_line p.cache) (request want ea user p.masks) segment r
    → IsNowhere r.outcome
    → LeavesAll p (acts.Access want ea user) (replies.Access r)
access_all context p want ea user None r e is h = record {
  entries = access_leaves context (cached_line p.cache) (request want ea user p.masks) None r is h;
  slots = refl;
  cache = rw e refl;
}
access_all context p want ea user (Some seg) r e is h = record {
  entries =
      access_leaves context (cached_line p.cache) (request want ea user p.masks) (Some seg) r is h;
  slots = refl;
  cache = rw e (way_cache p.cache seg r.by r h.off);
}

refused_slots :
    (refusal : Option BadSlb) (slots old : List (Option Slot))
    → is_none refusal ≡ false
    → slots_or refusal slots old ≡ old
refused_slots None slots old h = cc
refused_slots (Some error) slots old h = refl

mte_all :
    (p : Processor) (rb rs : ℕ) (accepted : Bool)
    → accepted ≡ is_none (mte_refusal rb rs)
    → accepted ≡ false
    → LeavesAll p (acts.SlbMte rb rs) (replies.Segment accepted)
mte_all p rb rs accepted told off = record {
  entries = tt;
  slots = refused_slots (mte_refusal rb rs) (slots_after p.slots rb rs) p.slots (sym told ∙ off);
  cache = refl;
}

line_leaves :
    (granted : GrantedMemory) (context : AccessContext) (p : Processor) (act : Act) (reply : Reply)
    → IsCallReply (table_context context) act reply
    → IsReplyToAccess context p act reply
    → LandsByItsEntry granted context.order p act reply
    → is_refused act reply ≡ true
    → LeavesAll p act reply
line_leaves granted context p (acts.Call number args spelt) (replies.Hcall h) call access lands
    refused =
    record {
      entries = hcall_leaves (table_context context) (hcall_of number) args h call refused;
      slots = refl;
      cache = refl;
    }
line_leaves granted context p (acts.Access want ea user) (replies.Access r) call access lands
    refused =
    access_all context p want ea user (segment_of p.slots ea) r refl access
    (lands_nowhere granted context.order ea (segment_of p.slots ea) (found_of r.receipts)
    r.outcome lands (not-true (ends_at r.outcome) refused))
line_leaves granted context p (acts.Device write liobn ioba) (replies.Device r) call access lands
    refused =
    subst (λ (x : Reply). LeavesAll p (acts.Device write liobn ioba) x) (sym call)
    (record { entries = tt; slots = refl; cache = refl })
line_leaves granted context p (acts.SlbMte rb rs) (replies.Segment accepted) call access lands
    refused =
    let told : accepted ≡ is_none (mte_refusal rb rs) = cc in
    mte_all p rb rs accepted told (not-true accepted refused)
line_leaves granted context p act reply call access lands refused = absurd (false≢true refused)

-- ---- a run
lines_leave :
    (granted : GrantedMemory) (context : AccessContext) (b : _) (p : Processor)
    (ts : List RepliedLine)
    → EachLineOfProcessor (λ q t. IsCallReply (table_context context) t.line.act t.reply) p ts
    → EachLineOfProcessor (IsAccessLine context b) p ts
    → EachLineOfProcessor (λ q t. LandsByItsEntry granted context.order q t.line.act t.reply) p ts
    → EachLineOfProcessor
    (λ q t. is_refused t.line.act t.reply ≡ true → LeavesAll q t.line.act t.reply) p ts
lines_leave granted context b p [] calls accesses lands = tt
lines_leave granted context b p (t ∷ ts) calls accesses lands = (
  line_leaves granted context p t.line.act t.reply calls.0 accesses.0.reply lands.0,
  lines_leave granted context b (processor_after p t.line.act t.reply) ts calls.1 accesses.1
      lands.1,
)

section_leaves :
    (granted : GrantedMemory) (s : Section)
    → IsTable s.before
    → CallsAreReplied s
    → AccessesAreReplied s
    → AccessesLand granted s
    → RefusedLinesLeave s
unfolding section_end
section_leaves granted s table calls accesses lands = record {
  lines =
      λ cpu.
      lines_leave granted (access_of (context_of s.before)) (states_of (closing s)) _ _
      (subst
      (λ set.
      EachLineOfProcessor (λ q t. IsCallReply set t.line.act t.reply)
      (processor_at s.before.processors cpu) (lines_of_processor cpu s.replied_lines))
      (table_is s.before table) (calls cpu)) (accesses cpu) (lands cpu);
  grants = refl;
  memory = refl;
}

sections_leave :
    (granted : GrantedMemory) (ss : List Section)
    → AllByRecursion (λ (s : Section). IsTable s.before) ss
    → AllByRecursion IsGoodSection ss
    → AllByRecursion (AccessesLand granted) ss
    → AllByRecursion RefusedLinesLeave ss
sections_leave granted [] table good lands = tt
sections_leave granted (s ∷ ss) table good lands = (
  section_leaves granted s table.0 good.0.calls good.0.accesses lands.0,
  sections_leave granted ss table.1 good.1 lands.1,
)

pub refused_lines_leave :
    (t : AcceptedTrace) (rs : List Reply)
    → IsAccepted t
    → IsGoodRun t rs
    → AllByRecursion RefusedLinesLeave (sections_of t rs)
refused_lines_leave t rs is good =
    sections_leave t.config.granted (sections_of t rs) (all_table t rs) good.stores.0
    (accesses_land t rs is good)
