-- Each cached translation holds of its entry's state, and each line that is run with nobody else at
-- the table keeps this.
use Rattle.std.specs.Prelude.{IfSome}
use Rattle.std.proofs.Common.{◌≡◌, ℕ, ◌<◌, ◌≤◌, ◌-◌, ◌^◌, List, [], ◌∷◌, true, false, sym, ◌∙◌, refl, subst, ◌⊎◌, inl, inr, not, length, Option, Some, None}
use Rattle.std.specs.List.{AllByRecursion}
use Rattle.std.proofs.lemmas.Bool.{cases_Bool}
use Rattle.power_addr.specs.Pages.{VirtualPage}
use Rattle.slb_model.specs.declared.segment.Segment.{Segment}
use Rattle.slb_model.specs.Buffer.{segment_of}
use Rattle.entry_model.specs.State.{State}
use Rattle.entry_model.specs.declared.line.Line.{Line}
use Rattle.entry_model.specs.declared.access_reply.AccessReply.{AccessReply}
use Rattle.entry_model.specs.declared.access_reply.Outcome.{Outcome}
use Rattle.entry_model.specs.declared.access_reply.By.{By}
use Rattle.entry_model.specs.declared.access_reply.By.TheVariants.{Hit, Walk}
use Rattle.entry_model.specs.declared.receipt.Receipt.{Receipt}
use Rattle.entry_model.specs.Receipt.{is_no_match, found_of}
use Rattle.entry_model.specs.CachedLines.{Holds, ShowsLine, line_of}
use Rattle.tlb_model.specs.Cache.{is_of, set_of, set_number, cached_line, without_page, empty_cache, AllInSet, AllCached}
use Rattle.entry_model.specs.Run.{state_at, IsRun}
use Rattle.entry_model.proofs.Runs.{run-length}
use Rattle.entry_model.specs.Trial.{IsTrial}
use Rattle.entry_model.proofs.LineLaws.{run_holds, run_shows}
use Rattle.tlb_model.proofs.CachedPages.{all_put_last, all_in_set_of, all_cached_weaker, all_empty}
use Rattle.hpt_walk.specs.Walk.{walk_calls}
use Rattle.hpt_walk.specs.Translations.{TranslatesItsPage}
use Rattle.run_model.specs.StoreContexts.{StoreContext, access_of}
use Rattle.hpt_walk.specs.Access.{AccessContext, IsWalk, IsByWay, IsAccessReply, request, mode_for}
use Rattle.hpt_walk.specs.declared.request.Request.{Request}
use Rattle.tlb_model.specs.CacheAfter.{kept_line, set_with, after_walk, cache_after}
use Rattle.tlb_model.specs.Processor.{Processor, new_processor}
use Rattle.hpt_walk.proofs.Found.{found-on, found-off}
use Rattle.hpt_walk.proofs.Walks.{walk_shown, walk_translates}
use Rattle.trace_line.specs.declared.act.Act.{Act}
use Rattle.trace_reply.specs.declared.reply.Reply.{Reply}
use Rattle.trace_reply.specs.Replies.{RepliedLine, receipts_in}
use Rattle.run_model.specs.Processors.{processor_at, processor_after, processors_after}
use Rattle.run_model.specs.LineReplies.{IsReplyToAccess}
use Rattle.run_model.proofs.Undisturbed.{IsUndisturbed}
use Rattle.basics.proofs.Each.{each_map, each_set, each_at, each_filter}
use Rattle.entry_model.specs.Reply.{AccessMode}
use Rattle.entry_model.specs.declared.access_reply.Outcome.TheVariants as outcomes
use Rattle.trace_line.specs.declared.act.Act.TheVariants as acts
use Rattle.trace_reply.specs.declared.reply.Reply.TheVariants as replies
use Rattle.hpte_fields.specs.TableSize.{least_order}

-- The line is of an entry of the table, its words translate its page, and it holds of the entry's
-- state.
pub record IsFresh (states : List State) (line : Line) : Type 0 where
  pub translates : TranslatesItsPage line
  pub in_table : line.entry < length states
  pub holds : Holds line (state_at states line.entry)

-- Each line that the processor has cached is fresh in these states.
abbrev pub ProcessorFresh : List State → Processor → Type 0
ProcessorFresh states processor = AllCached (IsFresh states) processor.cache

-- The table has as many entries as its order says, and each processor's cached translations are
-- fresh.
pub record IsSound (order : ℕ) (processors : List Processor) (states : List State) : Type 0 where
  pub size : length states ≡ 2 ^ (order - 4)
  pub low : least_order ≤ order
  pub fresh : AllByRecursion (ProcessorFresh states) processors

-- ---- the states go on
fresh_on :
    (a b : List State) (rs : List Receipt)
    → IsRun a rs b
    → (line : Line)
    → IsFresh a line
    → IsFresh b line
fresh_on a b rs run line h =
    record {
      translates = h.translates;
      in_table = subst (λ n. line.entry < n) (sym (run-length a b rs run)) h.in_table;
      holds = run_holds a b rs line run h.holds;
    }

processor_on :
    (a b : List State) (rs : List Receipt)
    → IsRun a rs b
    → (processor : Processor)
    → ProcessorFresh a processor
    → ProcessorFresh b processor
processor_on a b rs run processor h =
    all_cached_weaker (IsFresh a) (IsFresh b) (fresh_on a b rs run) processor.cache h

-- ---- what a walk puts in
-- The receipt found is of an entry of the table.
found_within :
    (a b : List State) (rs : List Receipt)
    → IsRun a rs b
    → IfSome (found_of rs) (λ r. r.entry < length b)
found_within a b [] run = tt
found_within a b (r ∷ rs) run =
    at (cases_Bool (is_no_match r.answer)) (found_within run.0 b rs run.2) where
      at :
          (is_no_match r.answer ≡ true) ⊎ (is_no_match r.answer ≡ false)
          → IfSome (found_of rs) (λ x. x.entry < length b)
          → IfSome (found_of (r ∷ rs)) (λ x. x.entry < length b)
      at (inl on) rest = rw (found-on r rs on) rest
      at (inr off) rest =
          rw (found-off r rs off)
          (subst (λ n. r.entry < n) (sym (run-length a b (r ∷ rs) run)) run.1.in_table)

found_fresh :
    (order : ℕ) (page : VirtualPage) (mode : AccessMode) (a b : List State) (rs : List Receipt)
    → IsTrial is_no_match (walk_calls order page mode) rs
    → IsRun a rs b
    → IfSome (found_of rs) (λ r. IsFresh b (line_of page r))
found_fresh order page mode a b rs trial run =
    at (found_of rs) (found_within a b rs run)
    (walk_shown order page mode rs (found_of rs) trial refl)
    (walk_translates order page mode rs (found_of rs) trial refl) where
      at :
          (o : Option Receipt)
          → IfSome o (λ r. r.entry < length b)
          → IfSome o (λ r. ShowsLine (line_of page r) rs)
          → IfSome o (λ r. TranslatesItsPage (line_of page r))
          → IfSome o (λ r. IsFresh b (line_of page r))
      at None h k m = tt
      at (Some r) h k m =
          record { translates = m; in_table = h; holds = run_shows a b rs (line_of page r) run k }

kept_fresh :
    (b : List State) (page : VirtualPage) (o : Outcome) (found : Option Receipt) (lines : List Line)
    → IfSome found (λ r. IsFresh b (line_of page r))
    → AllInSet (IsFresh b) lines
    → AllInSet (IsFresh b) (set_with (kept_line page o found) lines)
kept_fresh b page (outcomes.At x) (Some r) lines h k =
    all_put_last (IsFresh b) lines (line_of page r) k h
kept_fresh b page (outcomes.At x) None lines h k = k
kept_fresh b page outcomes.Denied found lines h k = k
kept_fresh b page (outcomes.Masked name) found lines h k = k
kept_fresh b page outcomes.NoPage found lines h k = k
kept_fresh b page outcomes.NoSegment found lines h k = k
kept_fresh b page (outcomes.Ungranted x) found lines h k = k

walk_fresh :
    (set : AccessContext) (seg : Segment) (x : Request) (r : AccessReply) (a b : List State)
    (cache : List (List Line))
    → IsWalk set seg x r
    → IsRun a r.receipts b
    → AllCached (IsFresh b) cache
    → AllCached (IsFresh b) (after_walk cache seg.page r)
unfolding after_walk
walk_fresh set seg x r a b cache w run h =
    let kept : AllInSet (IsFresh b) (without_page seg.page (set_of cache seg.page)) = each_filter
    (IsFresh b) (λ line. not (is_of seg.page line)) (set_of cache seg.page)
    (all_in_set_of (IsFresh b) cache seg.page h) in
    each_set (AllInSet (IsFresh b)) cache (set_number seg.page) _
    (kept_fresh b seg.page r.outcome (found_of r.receipts)
    (without_page seg.page (set_of cache seg.page))
    (found_fresh set.order seg.page (mode_for seg x) a b r.receipts w.trial run) kept) h

-- ---- a processor after its line
way_fresh :
    (set : AccessContext) (seg : Segment) (x : Request) (c : Option Line) (by : Option By)
    (r : AccessReply) (a b : List State) (cache : List (List Line))
    → IsByWay set seg x c by r
    → IsRun a r.receipts b
    → AllCached (IsFresh b) cache
    → AllCached (IsFresh b) (cache_after cache (Some seg) by r)
way_fresh set seg x (Some line) (Some Hit) r a b cache w run h = h
way_fresh set seg x (Some line) (Some Walk) r a b cache w run h =
    walk_fresh set seg x r a b cache w run h
way_fresh set seg x (Some line) None r a b cache w run h = absurd w
way_fresh set seg x None (Some Hit) r a b cache w run h = absurd w
way_fresh set seg x None (Some Walk) r a b cache w run h = walk_fresh set seg x r a b cache w run h
way_fresh set seg x None None r a b cache w run h = absurd w

segment_fresh :
    (set : AccessContext) (processor : Processor) (x : Request) (s : Option Segment)
    (r : AccessReply) (a b : List State)
    → IsAccessReply set (cached_line processor.cache) x s r
    → IsRun a r.receipts b
    → ProcessorFresh b processor
    → AllCached (IsFresh b) (cache_after processor.cache s r.by r)
segment_fresh set processor x None r a b w run h = h
segment_fresh set processor x (Some seg) r a b w run h =
    way_fresh set seg x (cached_line processor.cache seg.page) r.by r a b processor.cache w run h

line_fresh :
    (set : AccessContext) (processor : Processor) (act : Act) (r : Reply) (a b : List State)
    → IsReplyToAccess set processor act r
    → IsRun a (receipts_in r) b
    → ProcessorFresh b processor
    → ProcessorFresh b (processor_after processor act r)
line_fresh set processor (acts.Call number args spelt) r a b w run h = h
line_fresh set processor (acts.SlbMte rb rs) r a b w run h = h
line_fresh set processor acts.SlbClear r a b w run h = h
line_fresh set processor (acts.Device write liobn ioba) r a b w run h = h
line_fresh set processor (acts.SetMask name value) r a b w run h = h
line_fresh set processor acts.Dump r a b w run h = h
line_fresh set processor (acts.Access want ea user) (replies.Access r) a b w run h =
    segment_fresh set processor (request want ea user processor.masks)
    (segment_of processor.slots ea) r a b w run h
line_fresh set processor (acts.Access want ea user) (replies.Hcall r) a b w run h = h
line_fresh set processor (acts.Access want ea user) (replies.Device r) a b w run h = h
line_fresh set processor (acts.Access want ea user) (replies.Segment r) a b w run h = h
line_fresh set processor (acts.Access want ea user) replies.MaskSet a b w run h = h
line_fresh set processor (acts.Access want ea user) (replies.Dump r) a b w run h = h

pub no_cache : (states : List State) → AllCached (IsFresh states) empty_cache
no_cache states = all_empty (IsFresh states)

pub empty_fresh : (states : List State) → ProcessorFresh states new_processor
unfolding new_processor
empty_fresh states = no_cache states

pub processor_fresh :
    (states : List State) (processors : List Processor) (cpu : ℕ)
    → AllByRecursion (ProcessorFresh states) processors
    → ProcessorFresh states (processor_at processors cpu)
processor_fresh states processors cpu h =
    each_at (ProcessorFresh states) processors cpu new_processor (empty_fresh states) h

pub sound_on :
    (set : StoreContext) (processors : List Processor) (a b : List State) (t : RepliedLine)
    → IsSound set.order processors a
    → IsUndisturbed set (processor_at processors t.line.cpu) a t b
    → IsSound set.order (processors_after processors t) b
sound_on set processors a b t h replied_line =
    let on : AllByRecursion (ProcessorFresh b) processors = each_map (ProcessorFresh a)
    (ProcessorFresh b) processors (processor_on a b (receipts_in t.reply) replied_line.run)
    h.fresh in
    record {
      size = run-length a b (receipts_in t.reply) replied_line.run ∙ h.size;
      low = h.low;
      fresh =
          each_set (ProcessorFresh b) processors t.line.cpu _
          (line_fresh (access_of set) (processor_at processors t.line.cpu) t.line.act t.reply
          a b replied_line.access replied_line.run
          (processor_fresh b processors t.line.cpu on)) on;
    }
