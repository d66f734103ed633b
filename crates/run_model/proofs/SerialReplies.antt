-- The serial run's reply is a reply of its line, with nobody else at the table.
use Rattle.std.specs.Prelude.{IfSome, ◌==◌}
use Rattle.std.proofs.Common.{◌≡◌, ℕ, zero, suc, ◌<◌, ◌≤◌, ◌+◌, ◌*◌, ◌-◌, ◌^◌, List, [], ◌∷◌, Bool, true, false, sym, ◌∙◌, refl, subst, ◌⊎◌, inl, inr, map, length, get_or, arith, Option, Some, None}
use Rattle.std.specs.List.{AllByRecursion, range_with_len}
use Rattle.std.proofs.lemmas.Bool.{cases_Bool, eq-eqb, eqb-true, and_parts}
use Rattle.power_addr.specs.Pages.{VirtualPage}
use Rattle.papr_codes.specs.declared.calls.Hcall.{Hcall}
use Rattle.papr_codes.specs.Hcalls.{hcall_of}
use Rattle.hpt_hash.specs.Hash.{group_of}
use Rattle.hpt_hash.proofs.GroupBits.{group_of-lt}
use Rattle.entry_model.specs.State.{State}
use Rattle.entry_model.specs.declared.operation.Op.{Op}
use Rattle.entry_model.specs.declared.line.Line.{Line}
use Rattle.entry_model.specs.declared.access_reply.AccessReply.{AccessReply}
use Rattle.entry_model.specs.declared.access_reply.By.TheVariants.{Walk}
use Rattle.entry_model.specs.declared.receipt.Receipt.{Receipt}
use Rattle.entry_model.specs.Receipt.{is_no_match, is_decided}
use Rattle.entry_model.specs.Reply.{reply_of, AccessMode}
use Rattle.entry_model.specs.CachedLines.{IsCurrent, Holds}
use Rattle.tlb_model.specs.Cache.{cached_line}
use Rattle.entry_model.specs.Run.{state_at, IsRun}
use Rattle.entry_model.specs.Trial.{Call, call, trial_run, receipt_at}
use Rattle.entry_model.proofs.Trials.{trial_meets, Within}
use Rattle.entry_model.proofs.Plans.{plan_meets}
use Rattle.entry_model.proofs.LineLaws.{known_is_decided}
use Rattle.tlb_model.proofs.CachedPages.{all_cached, cached_is_of}
use Rattle.slb_model.specs.declared.segment.Segment.{Segment}
use Rattle.slb_model.specs.Buffer.{segment_of}
use Rattle.call_plan.proofs.EachCall.{each_within}
use Rattle.hpte_fields.specs.Fields.{is_secondary}
use Rattle.hpt_walk.specs.Walk.{access_op, group_calls, walk_calls}
use Rattle.hpt_walk.specs.Translations.{TranslatesItsPage}
use Rattle.hpt_walk.specs.Access.{AccessContext, outcome_of, hit_calls, no_segment_reply, IsWalk, IsByWay, IsAccessReply, request, mode_for}
use Rattle.hpt_walk.specs.declared.request.Request.{Request}
use Rattle.storage_prot.specs.declared.want.Want.{Want}
use Rattle.tlb_model.specs.CacheAfter.{gone_by_way, gone_line}
use Rattle.tlb_model.specs.Processor.{Processor}
use Rattle.hpt_walk.proofs.Walks.{group_in_table}
use Rattle.hpt_walk.proofs.Decided.{line_matches}
use Rattle.trace_line.specs.declared.act.Act.{Act}
use Rattle.trace_line.specs.declared.line.TraceLine.{TraceLine}
use Rattle.trace_line.specs.Lines.{is_quiet}
use Rattle.trace_reply.specs.declared.reply.Reply.{Reply}
use Rattle.trace_reply.specs.Replies.{receipts_in}
use Rattle.run_model.specs.Processors.{processor_at, gone_line_of}
use Rattle.run_model.specs.LineReplies.{hcall_plan, IsReplyToAccess}
use Rattle.run_model.specs.SerialRun.{is_current, current_line, result_by_line, result_by_segment, line_result}
use Rattle.run_model.proofs.Undisturbed.{IsUndisturbed}
use Rattle.basics.proofs.Each.{each_append}
use Rattle.run_model.proofs.CachesHold.{IsFresh, ProcessorFresh, IsSound, processor_fresh}
use Rattle.run_model.proofs.OneReply.{IsPassed}
use Rattle.run_model.proofs.WindowCalls.{window_room, put_within, get_within, device_meets}
use Rattle.bus_window.specs.Windows.{IsWindow}
use Rattle.run_model.specs.StoreContexts.{StoreContext, access_of}
use Rattle.papr_codes.specs.declared.calls.Hcall.TheVariants as calls
use Rattle.trace_line.specs.declared.act.Act.TheVariants as acts
use Rattle.trace_reply.specs.declared.reply.Reply.TheVariants as replies
use Rattle.hpte_fields.specs.TableSize.{least_order}

-- ---- each line's calls are of entries of the table
hcall_within :
    (set : StoreContext) (h : Hcall) (args : List ℕ)
    → least_order ≤ set.order
    → IfSome set.window IsWindow
    → Within (2 ^ (set.order - 4)) (hcall_plan set h args).calls
unfolding hcall_plan
hcall_within set calls.GetTce args low is =
    get_within set.window (get_or args 1 0) (2 ^ (set.order - 4)) (window_room set.order low) is
hcall_within set calls.PutTce args low is =
    put_within set.grants set.window (get_or args 1 0) (get_or args 2 0) (2 ^ (set.order - 4))
    (window_room set.order low) is
hcall_within set other args low is = each_within set.order set.grants other args low

entries_within :
    (op : Op) (first n m : ℕ) → first + n ≤ m → Within m (map (call op) (range_with_len first n))
entries_within op first zero m h = tt
entries_within op first (suc n) m h = (omega arith, entries_within op (first + 1) n m (omega arith))

group_within :
    (op : Op) (order : ℕ) (page : VirtualPage) (secondary : Bool)
    → least_order ≤ order
    → Within (2 ^ (order - 4)) (group_calls op (group_of page order secondary))
group_within op order page secondary low =
    entries_within op (group_of page order secondary * 8) 8 (2 ^ (order - 4))
    (group_in_table order (group_of page order secondary) low
    (group_of-lt page order secondary))

walk_within :
    (order : ℕ) (page : VirtualPage) (mode : AccessMode)
    → least_order ≤ order
    → Within (2 ^ (order - 4)) (walk_calls order page mode)
unfolding walk_calls
walk_within order page mode low =
    each_append (λ (c : Call). c.entry < 2 ^ (order - 4))
    (group_calls (access_op page mode false) (group_of page order false))
    (group_calls (access_op page mode true) (group_of page order true))
    (group_within (access_op page mode false) order page false low)
    (group_within (access_op page mode true) order page true low)

-- ---- lines that are current
-- A line that holds of a state and is current has the state's words.
holds_current :
    (line : Line) (s : State) → Holds line s → is_current line s ≡ true → IsCurrent line s
holds_current line s (inl past) on =
    let same : s.stamp ≡ line.stamp = eqb-true s.stamp line.stamp
    (and_parts s.valid (s.stamp == line.stamp) on).1 in
    absurd (omega arith)
holds_current line s (inr now) on = now

holds_past :
    (line : Line) (s : State) → Holds line s → is_current line s ≡ false → line.stamp < s.stamp
holds_past line s (inl past) off = past
holds_past line s (inr now) off =
    let valid : s.valid ≡ true = now.valid in
    let on : is_current line s ≡ true = rw (valid, eq-eqb s.stamp line.stamp now.stamp) refl in
    let both : true ≡ false = sym on ∙ off in
    cc

-- One call gives one receipt, on the entry as it is.
one_receipt :
    (P : Receipt → Type 0) (states : List State) (c : Call)
    → P (receipt_at states c)
    → AllByRecursion P (trial_run is_no_match states (c ∷ [])).0
unfolding trial_run
one_receipt P states c h = at (cases_Bool (is_no_match (receipt_at states c).answer)) where
  at :
      (is_no_match (receipt_at states c).answer ≡ true)
      ⊎ (is_no_match (receipt_at states c).answer ≡ false)
      → AllByRecursion P (trial_run is_no_match states (c ∷ [])).0
  at (inl on) = rw on (h, tt)
  at (inr off) = rw off (h, tt)

-- An access by a current line of the segment's page is decided.
hit_decided :
    (seg : Segment) (a : Request) (line : Line) (s : State)
    → line.page ≡ seg.page
    → IsCurrent line s
    → TranslatesItsPage line
    → is_decided (reply_of s (access_op seg.page (mode_for seg a) (is_secondary line.dword0))).0
    ≡ true
hit_decided seg a line s of now words =
    subst
    (λ p.
    is_decided (reply_of s (access_op p (mode_for seg a) (is_secondary line.dword0))).0 ≡ true)
    of
    (known_is_decided line s (access_op line.page (mode_for seg a) (is_secondary line.dword0))
    (line_matches line (mode_for seg a) words) now)

-- ---- accesses
-- The reply of an access of this processor.
abbrev IsAnswer : AccessContext → Processor → Request → Reply → Type 0
IsAnswer set processor a (replies.Access r) =
    IsAccessReply set (cached_line processor.cache) a (segment_of processor.slots a.ea) r
IsAnswer set processor a other = ⊥

answers :
    (set : AccessContext) (processor : Processor) (want : Want) (ea : ℕ) (user : Bool)
    (reply : Reply)
    → IsAnswer set processor (request want ea user processor.masks) reply
    → IsReplyToAccess set processor (acts.Access want ea user) reply
answers set processor want ea user (replies.Access r) h = h
answers set processor want ea user (replies.Hcall r) h = absurd h
answers set processor want ea user (replies.Device r) h = absurd h
answers set processor want ea user (replies.Segment accepted) h = absurd h
answers set processor want ea user replies.MaskSet h = absurd h
answers set processor want ea user (replies.Dump shown) h = absurd h

-- An access that was answered on these states.
pub record Reached (set : AccessContext) (processor : Processor) (a : Request) (states : List State)
    (x : Reply × List State) :
    Type 0 where
  pub reply : IsAnswer set processor a x.0
  pub gone : IsPassed states (gone_line_of processor (acts.Access a.want a.ea a.user) x.0)
  pub run : IsRun states (receipts_in x.0) x.1

module _ (set : AccessContext) (a : Request) (states : List State) (seg : Segment)
    (size : length states ≡ 2 ^ (set.order - 4)) (low : least_order ≤ set.order) where
  walk_meets :
      IsWalk set seg a
      (record {
        outcome =
            outcome_of set.grants a.ea
            (trial_run is_no_match states
            (walk_calls set.order seg.page (mode_for seg a))).0;
        by = Some Walk;
        receipts =
            (trial_run is_no_match states
            (walk_calls set.order seg.page (mode_for seg a))).0;
      })
      × IsRun states
      (trial_run is_no_match states (walk_calls set.order seg.page (mode_for seg a))).0
      (trial_run is_no_match states (walk_calls set.order seg.page (mode_for seg a))).1
  walk_meets =
      let m = trial_meets is_no_match states (walk_calls set.order seg.page (mode_for seg a))
      (subst (λ n. Within n (walk_calls set.order seg.page (mode_for seg a))) (sym size)
      (walk_within set.order seg.page (mode_for seg a) low)) in
      (record { trial = m.0; outcome = refl }, m.1)

-- By the segment and the cached translation that there are.
segment_meets :
    (set : AccessContext) (processor : Processor) (a : Request) (states : List State)
    (s : Option Segment)
    → segment_of processor.slots a.ea ≡ s
    → length states ≡ 2 ^ (set.order - 4)
    → least_order ≤ set.order
    → ProcessorFresh states processor
    → Reached set processor a states (result_by_segment set processor states a s)
segment_meets set processor a states None e size low fresh =
    record {
      reply =
          subst (λ s. IsAccessReply set (cached_line processor.cache) a s no_segment_reply)
          (sym e) refl;
      gone =
          subst (λ s. IsPassed states (gone_line processor.cache s no_segment_reply)) (sym e) tt;
      run = refl;
    }
segment_meets set processor a states (Some seg) e size low fresh =
    at (cached_line processor.cache seg.page) refl
    (all_cached (IsFresh states) processor.cache seg.page fresh)
    (cached_is_of processor.cache seg.page) where
      -- For any reply whose way is the one taken.
      whole :
          (c : Option Line)
          → cached_line processor.cache seg.page ≡ c
          → (r : AccessReply) (b : List State)
          → IsByWay set seg a c r.by r
          → IsPassed states (gone_by_way r.by c)
          → IsRun states r.receipts b
          → Reached set processor a states (replies.Access r, b)
      whole c f r b h gone run = record {
        reply =
            subst (λ s. IsAccessReply set (cached_line processor.cache) a s r) (sym e)
            (subst (λ o. IsByWay set seg a o r.by r) (sym f) h);
        gone =
            subst (λ s. IsPassed states (gone_line processor.cache s r)) (sym e)
            (subst (λ o. IsPassed states (gone_by_way r.by o)) (sym f) gone);
        run = run;
      }

      test :
          (line : Line)
          → cached_line processor.cache seg.page ≡ Some line
          → IsFresh states line
          → line.page ≡ seg.page
          → (is_current line (state_at states line.entry) ≡ true)
          ⊎ (is_current line (state_at states line.entry) ≡ false)
          → Reached set processor a states
          (result_by_line set states seg a (current_line states (Some line)))
      test line f h of (inl on) =
          let m = trial_meets is_no_match states (hit_calls seg a line) (h.in_table, tt) in
          let now : IsCurrent line (state_at states line.entry) = holds_current line
          (state_at states line.entry) h.holds on in
          rw on
          (whole (Some line) f _ _
          (record {
            trial = m.0;
            current = one_receipt (λ x. IsCurrent line x.before) states _ now;
            decided =
                one_receipt (λ x. is_decided x.answer ≡ true) states _
                (hit_decided seg a line (state_at states line.entry) of now
                h.translates);
            outcome = refl;
          }) tt m.1)
      test line f h of (inr off) =
          let m = walk_meets set a states seg size low in
          rw off
          (whole (Some line) f _ _ m.0 (holds_past line (state_at states line.entry) h.holds off)
          m.1)

      at :
          (c : Option Line)
          → cached_line processor.cache seg.page ≡ c
          → IfSome c (IsFresh states)
          → IfSome c (λ line. line.page ≡ seg.page)
          → Reached set processor a states
          (result_by_line set states seg a
          (current_line states (cached_line processor.cache seg.page)))
      at None f h of =
          let m = walk_meets set a states seg size low in
          subst
          (λ o.
          Reached set processor a states (result_by_line set states seg a (current_line states o)))
          (sym f) (whole None f _ _ m.0 tt m.1)
      at (Some line) f h of =
          subst
          (λ o.
          Reached set processor a states (result_by_line set states seg a (current_line states o)))
          (sym f) (test line f h of (cases_Bool (is_current line (state_at states line.entry))))

-- ---- a line
line_meets :
    (set : StoreContext) (processor : Processor) (l : TraceLine) (states : List State) (act : Act)
    → l.act ≡ act
    → is_quiet act ≡ false
    → length states ≡ 2 ^ (set.order - 4)
    → least_order ≤ set.order
    → IfSome set.window IsWindow
    → ProcessorFresh states processor
    → IsUndisturbed set processor states
    (record { line = record l { act = act }; reply = (line_result set processor states act).0 })
    (line_result set processor states act).1
unfolding line_result is_quiet
line_meets set processor l states (acts.Call number args spelt) e q size low is fresh =
    let m = plan_meets (hcall_plan set (hcall_of number) args) states
    (subst (λ n. Within n (hcall_plan set (hcall_of number) args).calls) (sym size)
    (hcall_within set (hcall_of number) args low is)) in
    record { call = m.0; access = tt; gone = tt; run = m.1 }
line_meets set processor l states (acts.SlbMte rb rs) e q size low is fresh =
    record { call = refl; access = tt; gone = tt; run = refl }
line_meets set processor l states acts.SlbClear e q size low is fresh =
    record { call = refl; access = tt; gone = tt; run = refl }
line_meets set processor l states (acts.Device write liobn ioba) e q size low is fresh =
    let room : 2 ^ 14 ≤ length states = subst (λ n. 2 ^ 14 ≤ n) (sym size)
    (window_room set.order low) in
    let m = device_meets set.grants set.window ioba write states room is in
    record { call = m.0; access = tt; gone = tt; run = m.1 }
line_meets set processor l states (acts.SetMask name value) e q size low is fresh =
    record { call = refl; access = tt; gone = tt; run = refl }
line_meets set processor l states (acts.Access want ea user) e q size low is fresh =
    let m = segment_meets (access_of set) processor (request want ea user processor.masks) states
    (segment_of processor.slots ea) refl size low fresh in
    record {
      call = tt;
      access = answers (access_of set) processor want ea user _ m.reply;
      gone = m.gone;
      run = m.run;
    }
line_meets set processor l states acts.Dump e q size low is fresh = cc

pub replied_line_meets :
    (set : StoreContext) (processors : List Processor) (states : List State) (l : TraceLine)
    → is_quiet l.act ≡ false
    → IfSome set.window IsWindow
    → IsSound set.order processors states
    → IsUndisturbed set (processor_at processors l.cpu) states
    (record {
      line = l;
      reply = (line_result set (processor_at processors l.cpu) states l.act).0;
    }) (line_result set (processor_at processors l.cpu) states l.act).1
replied_line_meets set processors states l q is h =
    line_meets set (processor_at processors l.cpu) l states l.act refl q h.size h.low is
    (processor_fresh states processors l.cpu h.fresh)
