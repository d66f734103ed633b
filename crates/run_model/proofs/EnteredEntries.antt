-- Each valid entry of each state that a serial run reaches has words that H_ENTER would store as
-- they are.
use Rattle.std.specs.Prelude.{slice_index}
use Rattle.std.proofs.Common.{◌≡◌, ℕ, List, [], ◌∷◌, Bool, true, false, Option, Some, None, refl, sym, subst, ◌⊎◌, inl, inr}
use Rattle.std.specs.List.{AllByRecursion}
use Rattle.std.proofs.lemmas.Bool.{cases_Bool, cond_both}
use Rattle.papr_codes.specs.declared.calls.Hcall.{Hcall}
use Rattle.papr_codes.specs.Hcalls.{hcall_of}
use Rattle.frame_grants.specs.declared.grant.Grant.{Grant}
use Rattle.trace_read.specs.Configuration.{Configuration, IsOpeningEntry, AreOpeningEntries}
use Rattle.trace_read.proofs.StoredWords.{AreStored, stored_parts, stored_whole, entered_again}
use Rattle.table_image.specs.declared.entry.ImageEntry.{ImageEntry}
use Rattle.entry_model.specs.State.{State, IsCanonicalState, empty_state}
use Rattle.entry_model.specs.Reply.{entered_state, reply_of}
use Rattle.entry_model.specs.Run.{state_at, states_after}
use Rattle.entry_model.specs.declared.operation.Answer.{Answer}
use Rattle.entry_model.specs.declared.operation.Op.{Op}
use Rattle.entry_model.specs.declared.receipt.Receipt.{Receipt}
use Rattle.entry_model.specs.declared.line.Line.{Line}
use Rattle.entry_model.specs.Receipt.{is_no_match}
use Rattle.entry_model.specs.Trial.{Call, Plan, plan_run, receipt_at, trial_run}
use Rattle.entry_model.proofs.OperationLaws.{reply_canonical}
use Rattle.entry_model.proofs.PlanBounds.{EntersOnly}
use Rattle.entry_model.proofs.KeptWords.{HasWords, empty_words, reply_words}
use Rattle.call_plan.proofs.EachCall.{each_tame}
use Rattle.slb_model.specs.declared.segment.Segment.{Segment}
use Rattle.slb_model.specs.Buffer.{segment_of}
use Rattle.hpt_walk.specs.Walk.{walk_calls}
use Rattle.hpt_walk.specs.Access.{AccessContext, hit_calls, request, mode_for}
use Rattle.hpt_walk.specs.declared.request.Request.{Request}
use Rattle.tlb_model.specs.Cache.{cached_line}
use Rattle.tlb_model.specs.Processor.{Processor}
use Rattle.trace_line.specs.declared.act.Act.{Act}
use Rattle.trace_line.specs.declared.line.TraceLine.{TraceLine}
use Rattle.trace_line.specs.Lines.{is_quiet}
use Rattle.trace_reply.specs.declared.reply.Reply.{Reply}
use Rattle.run_model.proofs.TableNamed.{IsTable, table_is}
use Rattle.run_model.specs.StoreContexts.{access_of, table_context}
use Rattle.run_model.specs.EnteredEntries.{CanBeEntered}
use Rattle.run_model.specs.Laws.{EntriesCanBeEntered}
use Rattle.run_model.specs.LineReplies.{hcall_plan}
use Rattle.run_model.specs.Processors.{processor_at}
use Rattle.run_model.specs.Stores.{Store, context_of, states_of, page_table}
use Rattle.run_model.specs.QuietLines.{run_resize, run_quiet_line}
use Rattle.run_model.proofs.FirstStore.{first_after}
use Rattle.run_model.specs.SerialRun.{current_line, result_by_line, result_by_segment, line_result, with_result, run_on, table_after}
use Rattle.basics.proofs.Each.{each_map, each_at, each_set}
use Rattle.run_model.proofs.OpeningEntries.{each_opening}
use Rattle.run_model.proofs.LowStampRuns.{opening_grants}
use Rattle.run_model.proofs.Memories.{prepare_table}
use Rattle.run_model.proofs.RehashedStates.{committed_each}
use Rattle.run_model.proofs.SafeReplies.{walk_enters}
use Rattle.run_model.proofs.StoredReplies.{stored_stay}
use Rattle.papr_codes.specs.declared.calls.Hcall.TheVariants as calls
use Rattle.entry_model.specs.declared.operation.Op.TheVariants as ops
use Rattle.trace_line.specs.declared.act.Act.TheVariants as acts

-- ---- states
-- The state is written in the one way, and has such words where it is valid.
abbrev IsKept : List Grant → State → Type 0
IsKept grants s = HasWords (AreStored grants) s × IsCanonicalState s

abbrev AreKept : List Grant → List State → Type 0
AreKept grants states = AllByRecursion (IsKept grants) states

empty_kept : (grants : List Grant) → IsKept grants (empty_state 0)
empty_kept grants = (
  empty_words (AreStored grants) 0,
  record {
    apart = refl;
    no_first = λ e. refl;
    no_second = λ e. refl;
    no_reference = λ e. refl;
    no_change = λ e. refl;
  },
)

reply_kept :
    (grants : List Grant) (s : State) (op : Op)
    → EntersOnly (AreStored grants) op
    → IsKept grants s
    → IsKept grants (reply_of s op).1
reply_kept grants s op enters h = (
  reply_words (AreStored grants) s op (stored_stay grants) enters h.0,
  reply_canonical s op h.1,
)

-- ---- calls on entries
abbrev EnterStored : List Grant → List Call → Type 0
EnterStored grants cs = AllByRecursion (λ (c : Call). EntersOnly (AreStored grants) c.op) cs

trial_kept :
    (grants : List Grant) (goes : Answer → Bool) (states : List State) (cs : List Call)
    → EnterStored grants cs
    → AreKept grants states
    → AreKept grants (trial_run goes states cs).1
unfolding trial_run
trial_kept grants goes states [] enters h = h
trial_kept grants goes states (c ∷ cs) enters h =
    let r = receipt_at states c in
    let before : IsKept grants (state_at states c.entry) = each_at (IsKept grants) states c.entry
    (empty_state 0) (empty_kept grants) h in
    let after : AreKept grants (states_after states r) = each_set (IsKept grants) states c.entry
    (reply_of (state_at states c.entry) c.op).1
    (reply_kept grants (state_at states c.entry) c.op enters.0 before) h in
    let rest = trial_run goes (states_after states r) cs in
    cond_both (goes r.answer) (r ∷ rest.0, rest.1) (r ∷ [], states_after states r)
    (λ (x : List Receipt × List State). AreKept grants x.1)
    (λ _. trial_kept grants goes (states_after states r) cs enters.1 after) (λ _. after)

-- ---- hypervisor calls
hcall_enters :
    (set : AccessContext) (h : Hcall) (args : List ℕ)
    → EnterStored set.grants (hcall_plan (table_context set) h args).calls
unfolding hcall_plan
hcall_enters set calls.GetTce args = tt
hcall_enters set calls.PutTce args = tt
hcall_enters set other args =
    let each = each_tame (AreStored set.grants) set.order set.grants other args
    (entered_again set.grants) in
    each.enters

-- ---- lines
-- The states after a line.
abbrev Keeps : List Grant → Reply × List State → Type 0
Keeps grants x = AreKept grants x.1

plan_kept :
    (grants : List Grant) (plan : Plan) (states : List State)
    → EnterStored grants plan.calls
    → AreKept grants states
    → AreKept grants (plan_run plan states).1
unfolding plan_run
plan_kept grants plan states enters h = trial_kept grants plan.goes_on states plan.calls enters h

line_kept :
    (set : AccessContext) (states : List State) (seg : Segment) (a : Request) (c : Option Line)
    → AreKept set.grants states
    → Keeps set.grants (result_by_line set states seg a c)
line_kept set states seg a (Some line) h =
    trial_kept set.grants is_no_match states (hit_calls seg a line) (tt, tt) h
line_kept set states seg a None h =
    trial_kept set.grants is_no_match states (walk_calls set.order seg.page (mode_for seg a))
    (walk_enters (AreStored set.grants) set.order seg a) h

segment_kept :
    (set : AccessContext) (p : Processor) (states : List State) (a : Request) (s : Option Segment)
    → AreKept set.grants states
    → Keeps set.grants (result_by_segment set p states a s)
segment_kept set p states a None h = h
segment_kept set p states a (Some seg) h =
    line_kept set states seg a (current_line states (cached_line p.cache seg.page)) h

result_kept :
    (set : AccessContext) (p : Processor) (states : List State) (act : Act)
    → AreKept set.grants states
    → Keeps set.grants (line_result (table_context set) p states act)
unfolding line_result
result_kept set p states (acts.Call number args spelt) h =
    plan_kept set.grants (hcall_plan (table_context set) (hcall_of number) args) states
    (hcall_enters set (hcall_of number) args) h
result_kept set p states (acts.Access want ea user) h =
    segment_kept set p states (request want ea user p.masks) (segment_of p.slots ea) h
result_kept set p states (acts.SlbMte rb rs) h = h
result_kept set p states acts.SlbClear h = h
result_kept set p states (acts.Device write liobn ioba) h = h
result_kept set p states (acts.SetMask name value) h = h
result_kept set p states acts.Dump h = h

-- ---- runs
-- The grants are these, and each state is kept.
record IsKeptRun (grants : List Grant) (w : Store) : Type 0 where
  same : w.grants ≡ grants
  table : IsTable w
  states : AreKept grants (states_of w)

resize_kept :
    (grants : List Grant) (w : Store) (call : Hcall) (args : List ℕ)
    → IsKeptRun grants w
    → IsKeptRun grants (run_resize w call args).1
unfolding run_resize
resize_kept grants w calls.Prepare args h =
    let table = prepare_table w.memory (slice_index args 0) (slice_index args 1) in
    record {
      same = h.same;
      table = h.table;
      states = subst (λ t. AreKept grants t.states) (sym table) h.states;
    }
resize_kept grants w calls.Commit args h =
    record {
      same = h.same;
      table = h.table;
      states =
          committed_each (IsKept grants) (empty_kept grants) (λ s k. k) w.memory
          (slice_index args 0) (slice_index args 1) h.states;
    }
resize_kept grants w other args h = h

quiet_kept :
    (grants : List Grant) (w : Store) (act : Act)
    → IsKeptRun grants w
    → IsKeptRun grants (run_quiet_line w act).1
unfolding run_quiet_line
quiet_kept grants w (acts.Call number args spelt) h = resize_kept grants w (hcall_of number) args h
quiet_kept grants w other h = h

plain_kept :
    (grants : List Grant) (w : Store) (l : TraceLine)
    → IsKeptRun grants w
    → IsKeptRun grants
    (with_result w l
    (line_result (context_of w) (processor_at w.processors l.cpu) (states_of w) l.act)).1
plain_kept grants w l h =
    let own : AreKept w.grants (states_of w) = subst (λ g. AreKept g (states_of w)) (sym h.same)
    h.states in
    record {
      same = h.same;
      table = h.table;
      states =
          subst
          (λ g.
          AreKept g
          (line_result (context_of w) (processor_at w.processors l.cpu) (states_of w)
          l.act).1) h.same
          (subst
          (λ set.
          AreKept w.grants
          (line_result set (processor_at w.processors l.cpu) (states_of w) l.act).1)
          (sym (table_is w h.table))
          (result_kept (access_of (context_of w)) (processor_at w.processors l.cpu)
          (states_of w) l.act own));
    }

one_kept :
    (grants : List Grant) (w : Store) (l : TraceLine)
    → IsKeptRun grants w
    → IsKeptRun grants (run_on w l).1
unfolding run_on
one_kept grants w l h = at (cases_Bool (is_quiet l.act)) where
  at : (is_quiet l.act ≡ true) ⊎ (is_quiet l.act ≡ false) → IsKeptRun grants (run_on w l).1
  at (inl q) = rw q (quiet_kept grants w l.act h)
  at (inr q) = rw q (plain_kept grants w l h)

-- ---- the beginning
-- What opens is what H_ENTER makes of an empty entry, except for the stamp.
entered_kept :
    (order : ℕ) (grants : List Grant) (e : ImageEntry)
    → IsOpeningEntry order grants e
    → IsKept grants (entered_state e.dword0 e.dword1)
entered_kept order grants e h =
    reply_kept grants (empty_state 0) (ops.Enter e.dword0 e.dword1)
    (stored_parts grants e.dword0 e.dword1 h.stored) (empty_kept grants)

opening_is : (c : Configuration) → IsTable (page_table c)
unfolding page_table
opening_is c = refl

opening_kept :
    (c : Configuration)
    → AreOpeningEntries c.order c.granted.grants c.entries
    → IsKeptRun c.granted.grants (page_table c)
opening_kept c is =
    record {
      same = opening_grants c;
      table = opening_is c;
      states =
          each_opening (IsKept c.granted.grants) c (empty_kept c.granted.grants)
          (entered_kept c.order c.granted.grants) is;
    }

can_be_entered : (grants : List Grant) (s : State) → IsKept grants s → CanBeEntered grants s
can_be_entered grants s h =
    record { canonical = h.1; stored = λ valid. stored_whole grants s.dword0 s.dword1 (h.0 valid) }

pub entries_can_be_entered : EntriesCanBeEntered
entries_can_be_entered t lines is =
    let grants = t.config.granted.grants in
    let after = table_after t.config lines in
    let kept = first_after (IsKeptRun grants) t.config lines (one_kept grants)
    (opening_kept t.config is.entries) in
    each_map (IsKept grants) (CanBeEntered grants) (states_of after) (can_be_entered grants)
    kept.states
