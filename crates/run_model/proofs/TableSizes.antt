-- A table has as many entries as its order says, and one of the orders that the project allows,
-- after each line of a serial run.
use Rattle.std.specs.Prelude.{slice_index, IfSome}
use Rattle.std.proofs.Common.{◌≡◌, ℕ, ◌^◌, ◌<◌, ◌≤◌, List, [], ◌∷◌, Bool, true, false, Option, Some, None, length, refl, sym, ◌∙◌, subst, arith, ◌⊎◌, inl, inr}
use Rattle.hpte_fields.proofs.TableSizes.{entries_few}
use Rattle.std.proofs.lemmas.Bool.{cases_Bool, cond_both}
use Rattle.std.proofs.lemmas.List.{length-set}
use Rattle.papr_codes.specs.declared.calls.Hcall.{Hcall}
use Rattle.papr_codes.specs.declared.codes.Rc.{Rc}
use Rattle.papr_codes.specs.Hcalls.{hcall_of}
use Rattle.hpt_pool.specs.Pool.{PoolState}
use Rattle.entry_model.specs.State.{State}
use Rattle.entry_model.specs.declared.operation.Answer.{Answer}
use Rattle.entry_model.specs.declared.receipt.Receipt.{Receipt}
use Rattle.entry_model.specs.declared.line.Line.{Line}
use Rattle.entry_model.specs.Receipt.{is_no_match, after_of}
use Rattle.entry_model.specs.Run.{states_after}
use Rattle.entry_model.specs.declared.operation.Op.TheVariants.{Read}
use Rattle.frame_grants.specs.declared.grant.Grant.{Grant}
use Rattle.bus_window.specs.Windows.{BusWindow, entry_at}
use Rattle.entry_model.specs.Trial.{Call, call, Plan, plan_run, receipt_at, trial_run}
use Rattle.hpt_resize.specs.declared.carry.Collision.{Collision}
use Rattle.hpt_resize.specs.Rehash.{collision_of}
use Rattle.hpt_resize.specs.Pending.{PendingTable}
use Rattle.hpt_resize.specs.Resize.{Table, commit_refusal, carry_outcome, complete_outcome, answer_outcome, outcome_of_commit}
use Rattle.hpt_resize.specs.TableMemory.{TableMemory, opening_memory, commit_result, with_states}
use Rattle.slb_model.specs.declared.segment.Segment.{Segment}
use Rattle.slb_model.specs.Buffer.{segment_of}
use Rattle.hpt_walk.specs.Walk.{walk_calls}
use Rattle.hpt_walk.specs.Access.{AccessContext, hit_calls, request, mode_for}
use Rattle.hpt_walk.specs.declared.request.Request.{Request}
use Rattle.tlb_model.specs.Cache.{cached_line}
use Rattle.tlb_model.specs.Processor.{Processor}
use Rattle.trace_line.specs.declared.act.Act.{Act}
use Rattle.trace_line.specs.declared.line.TraceLine.{TraceLine}
use Rattle.trace_line.specs.Lines.{is_quiet}
use Rattle.trace_read.specs.Trace.{AcceptedTrace, IsAccepted}
use Rattle.run_model.specs.StoreContexts.{StoreContext, access_of}
use Rattle.run_model.specs.LineReplies.{hcall_plan}
use Rattle.run_model.specs.Processors.{processor_at}
use Rattle.run_model.specs.Stores.{Store, context_of, states_of, page_table}
use Rattle.run_model.specs.QuietLines.{run_resize, run_quiet_line}
use Rattle.run_model.specs.OpeningAgain.{memory_after}
use Rattle.run_model.proofs.FirstStore.{first_after}
use Rattle.run_model.specs.SerialRun.{current_line, result_by_line, result_by_segment, device_by_entry, device_by_window, line_result, run_on}
use Rattle.run_model.proofs.Memories.{IsAllowed, MemoryStands, memory_prepared, prepare_table, memory_committed, opening_stands}
use Rattle.papr_codes.specs.declared.calls.Hcall.TheVariants as calls
use Rattle.trace_line.specs.declared.act.Act.TheVariants as acts
use Rattle.hpte_fields.specs.TableSize.{greatest_order}

-- The order is one of those allowed, and what is at memory stands.
pub record IsSized (memory : TableMemory) : Type 0 where
  pub stands : MemoryStands memory
  pub high : memory.table.order ≤ greatest_order

-- An index of the table is a small number.
pub small_index :
    (memory : TableMemory) (index : ℕ)
    → IsSized memory
    → index < length memory.table.states
    → index < 2 ^ 32
small_index memory index h within =
    omega (
      arith,
      entries_few (length memory.table.states) memory.table.order h.stands.size
          (h.stands.low, h.high),
      within,
    )

-- ---- a line that isn't quiet
trial_length :
    (goes : Answer → Bool) (states : List State) (cs : List Call)
    → length (trial_run goes states cs).1 ≡ length states
unfolding trial_run
trial_length goes states [] = refl
trial_length goes states (c ∷ cs) =
    let r = receipt_at states c in
    let rest = trial_run goes (states_after states r) cs in
    let one : length (states_after states r) ≡ length states = length-set states r.entry
    (after_of r) in
    cond_both (goes r.answer) (r ∷ rest.0, rest.1) (r ∷ [], states_after states r)
    (λ (x : List Receipt × List State). length x.1 ≡ length states)
    (λ _. trial_length goes (states_after states r) cs ∙ one) (λ _. one)

plan_length : (plan : Plan) (states : List State) → length (plan_run plan states).1 ≡ length states
unfolding plan_run
plan_length plan states = trial_length plan.goes_on states plan.calls

line_length :
    (set : AccessContext) (states : List State) (seg : Segment) (a : Request) (c : Option Line)
    → length (result_by_line set states seg a c).1 ≡ length states
line_length set states seg a (Some line) = trial_length is_no_match states (hit_calls seg a line)
line_length set states seg a None =
    trial_length is_no_match states (walk_calls set.order seg.page (mode_for seg a))

segment_length :
    (set : AccessContext) (p : Processor) (states : List State) (a : Request) (s : Option Segment)
    → length (result_by_segment set p states a s).1 ≡ length states
segment_length set p states a None = refl
segment_length set p states a (Some seg) =
    line_length set states seg a (current_line states (cached_line p.cache seg.page))

entry_length :
    (grants : List Grant) (ioba : ℕ) (write : Bool) (states : List State) (entry : Option ℕ)
    → length (device_by_entry grants ioba write states entry).1 ≡ length states
entry_length grants ioba write states None = refl
entry_length grants ioba write states (Some entry) = trial_length _ states (call Read entry ∷ [])

device_length :
    (grants : List Grant) (window : Option BusWindow) (ioba : ℕ) (write : Bool)
    (states : List State)
    → length (device_by_window grants window ioba write states).1 ≡ length states
device_length grants None ioba write states = refl
device_length grants (Some w) ioba write states =
    entry_length grants ioba write states (entry_at w ioba)

result_length :
    (set : StoreContext) (p : Processor) (states : List State) (act : Act)
    → length (line_result set p states act).1 ≡ length states
unfolding line_result
result_length set p states (acts.Call number args spelt) =
    plan_length (hcall_plan set (hcall_of number) args) states
result_length set p states (acts.Access want ea user) =
    segment_length (access_of set) p states (request want ea user p.masks) (segment_of p.slots ea)
result_length set p states (acts.SlbMte rb rs) = refl
result_length set p states acts.SlbClear = refl
result_length set p states (acts.Device write liobn ioba) =
    device_length set.grants set.window ioba write states
result_length set p states (acts.SetMask name value) = refl
result_length set p states acts.Dump = refl

same_size :
    (memory : TableMemory) (states : List State)
    → length states ≡ length memory.table.states
    → IsSized memory
    → IsSized (with_states memory states)
same_size memory states same h = record {
  stands =
      record {
        limited = h.stands.limited;
        low = h.stands.low;
        size = same ∙ h.stands.size;
        allowed = h.stands.allowed;
      };
  high = h.high;
}

-- ---- a quiet line
carried_high :
    (pending : PendingTable) (pool : PoolState) (table : Table) (collision : Option Collision)
    → pending.order ≤ greatest_order
    → table.order ≤ greatest_order
    → (carry_outcome pending pool table collision).table.order ≤ greatest_order
carried_high pending pool table (Some collision) next h = h
carried_high pending pool table None next h = next

completed_high :
    (pending : Option PendingTable) (pool : PoolState) (table : Table)
    → IfSome pending IsAllowed
    → table.order ≤ greatest_order
    → (complete_outcome pending pool table).table.order ≤ greatest_order
completed_high None pool table allowed h = h
completed_high (Some pending) pool table allowed h =
    carried_high pending pool table (collision_of table.order pending.order table.states) allowed.1
    h

answered_high :
    (refusal : Option Rc) (pending : Option PendingTable) (pool : PoolState) (table : Table)
    → IfSome pending IsAllowed
    → table.order ≤ greatest_order
    → (answer_outcome refusal pending pool table).table.order ≤ greatest_order
answered_high (Some code) pending pool table allowed h = h
answered_high None pending pool table allowed h = completed_high pending pool table allowed h

committed_high :
    (memory : TableMemory) (flags shift : ℕ)
    → IsSized memory
    → (commit_result memory flags shift).1.table.order ≤ greatest_order
unfolding commit_result outcome_of_commit
committed_high memory flags shift h =
    answered_high (commit_refusal flags shift memory.pending) memory.pending memory.pool
    memory.table h.stands.allowed h.high

resize_sized :
    (w : Store) (call : Hcall) (args : List ℕ)
    → IsSized w.memory
    → IsSized (run_resize w call args).1.memory
unfolding run_resize
resize_sized w calls.Prepare args h =
    record {
      stands = memory_prepared w.memory (slice_index args 0) (slice_index args 1) h.stands;
      high =
          subst (λ (t : Table). t.order ≤ greatest_order)
          (sym (prepare_table w.memory (slice_index args 0) (slice_index args 1))) h.high;
    }
resize_sized w calls.Commit args h =
    record {
      stands = memory_committed w.memory (slice_index args 0) (slice_index args 1) h.stands;
      high = committed_high w.memory (slice_index args 0) (slice_index args 1) h;
    }
resize_sized w other args h = h

quiet_sized : (w : Store) (act : Act) → IsSized w.memory → IsSized (run_quiet_line w act).1.memory
unfolding run_quiet_line
quiet_sized w (acts.Call number args spelt) h = resize_sized w (hcall_of number) args h
quiet_sized w other h = h

-- ---- all lines
pub one_sized : (w : Store) (l : TraceLine) → IsSized w.memory → IsSized (run_on w l).1.memory
unfolding run_on
one_sized w l h = at (cases_Bool (is_quiet l.act)) where
  at : (is_quiet l.act ≡ true) ⊎ (is_quiet l.act ≡ false) → IsSized (run_on w l).1.memory
  at (inl q) = rw q (quiet_sized w l.act h)
  at (inr q) =
      rw q
      (same_size w.memory _
      (result_length (context_of w) (processor_at w.processors l.cpu) (states_of w) l.act)
      h)

opening_sized : (t : AcceptedTrace) → IsAccepted t → IsSized (page_table t.config).memory
unfolding page_table opening_memory
opening_sized t is =
    let c = t.config in
    let settings = is.configured.settings in
    record {
      stands =
          opening_stands c.limit c.order c.granted.pool_base c.granted.pool_order c.entries
          (omega (arith, settings.at_most)) settings.at_least;
      high = let below :
          c.order ≤ c.limit = settings.within in let most :
          c.limit ≤ greatest_order = omega (arith, settings.at_most) in omega arith;
    }

pub serial_sized :
    (t : AcceptedTrace) (ls : List TraceLine) → IsAccepted t → IsSized (memory_after t ls)
serial_sized t ls is =
    first_after (λ (s : Store). IsSized s.memory) t.config ls one_sized (opening_sized t is)
