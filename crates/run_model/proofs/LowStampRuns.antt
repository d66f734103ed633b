-- Runs whose stamps are low, and what quiet lines keep of them.
use Rattle.std.specs.Prelude.{◌≢◌, ◌==◌, nat_lt, if◌then◌else◌, slice_index}
use Rattle.std.proofs.Common.{◌≡◌, ℕ, suc, ◌≤◌, List, [], ◌∷◌, not, ap, ◌∙◌, refl, length, Option, Some, None, arith}
use Rattle.std.specs.List.{AllByRecursion}
use Rattle.std.proofs.lemmas.Bool.{cond_both}
use Rattle.papr_codes.specs.declared.calls.Hcall.{Hcall}
use Rattle.papr_codes.specs.declared.codes.Rc.{Rc}
use Rattle.papr_codes.specs.Hcalls.{hcall_of}
use Rattle.frame_grants.specs.declared.grant.Grant.{Grant}
use Rattle.frame_grants.specs.Grants.{GrantedMemory}
use Rattle.hpt_pool.specs.Pool.{PoolState, lowest_place}
use Rattle.entry_model.specs.State.{State}
use Rattle.entry_model.specs.Reply.{entered_state}
use Rattle.entry_model.proofs.Heights.{height}
use Rattle.hpt_resize.specs.declared.carry.Collision.{Collision}
use Rattle.hpt_resize.specs.Rehash.{at_stamp_0, collision_of, rehashed_states}
use Rattle.hpt_resize.specs.Pending.{PendingTable, is_ready, with_more_ready}
use Rattle.hpt_resize.specs.Resize.{Table, PrepareOutcome, prepare_outcome, is_prepare_request, is_commit_request, pool_without, is_pending, new_table_outcome, start_outcome, advance_outcome, outcome_of_prepare, CommitOutcome, pending_refusal, commit_refusal, carry_outcome, complete_outcome, answer_outcome, outcome_of_commit}
use Rattle.hpt_resize.specs.TableMemory.{TableMemory, prepare_result, commit_result}
use Rattle.table_image.specs.declared.entry.ImageEntry.{ImageEntry}
use Rattle.tlb_model.specs.Processor.{Processor}
use Rattle.trace_read.specs.Configuration.{Configuration, IsOpeningEntry, AreOpeningEntries}
use Rattle.trace_line.specs.declared.act.Act.{Act}
use Rattle.trace_reply.specs.declared.reply.Reply.{Reply}
use Rattle.trace_reply.specs.Replies.{RepliedLine}
use Rattle.run_model.proofs.TableNamed.{IsTable, quiet_window}
use Rattle.run_model.specs.Stores.{Store, states_of, page_table}
use Rattle.run_model.specs.QuietLines.{run_resize, run_quiet_line}
use Rattle.run_model.specs.Sections.{processors_after_lines, section_end}
use Rattle.run_model.specs.Landings.{IsUnworn}
use Rattle.run_model.proofs.LowStamps.{IsLowStamp, empty_low_stamp}
use Rattle.run_model.proofs.OpeningEntries.{each_opening, entered_granted}
use Rattle.run_model.proofs.RehashedStates.{rehashed_each}
use Rattle.run_model.proofs.SectionGood.{quiet_size}
use Rattle.run_model.proofs.PlacedCaches.{ProcessorPlaced, AllPlaced, quiet_placed, all_new_placed}
use Rattle.papr_codes.specs.declared.calls.Hcall.TheVariants as calls
use Rattle.papr_codes.specs.declared.codes.Rc.TheVariants as rc
use Rattle.trace_line.specs.declared.act.Act.TheVariants as acts

-- Each state's stamp is low, by this bound, and its page is granted where it is valid.
abbrev pub AreLowStamp : GrantedMemory → ℕ → List State → Type 0
AreLowStamp granted n states = AllByRecursion (IsLowStamp granted.grants n) states

-- The memory that is granted stays, and so does the number of processors; the stamps are low, and
-- the entries of cached translations are in their pages' groups.
pub record IsLowStampRun (granted : GrantedMemory) (n cpus : ℕ) (w : Store) : Type 0 where
  pub grants : w.grants ≡ granted.grants
  pub processors : length w.processors ≡ cpus
  pub states : AreLowStamp granted n (states_of w)
  pub placed : AllPlaced w
  pub table : IsTable w

-- ---- a committed resize
restamped_low_stamp :
    (grants : List Grant) (n : ℕ) (s : State)
    → IsLowStamp grants n s
    → IsLowStamp grants n (at_stamp_0 s)
restamped_low_stamp grants n s h =
    record { low = let low : height s ≤ n = h.low in omega arith; granted = h.granted }

rehashed_low_stamp :
    (granted : GrantedMemory) (n from to : ℕ) (states : List State)
    → AreLowStamp granted n states
    → AreLowStamp granted n (rehashed_states from to states)
rehashed_low_stamp granted n =
    rehashed_each (IsLowStamp granted.grants n) (empty_low_stamp granted.grants n)
    (restamped_low_stamp granted.grants n)

-- The code is not H_HARDWARE, and the stamps stay low.
pub record CommitsLowStamp (granted : GrantedMemory) (n : ℕ) (c : CommitOutcome) : Type 0 where
  pub code : c.rc ≢ rc.Hardware
  pub states : AreLowStamp granted n c.table.states

over_low_stamp :
    (granted : GrantedMemory) (n : ℕ) (pending : PendingTable) (pool : PoolState) (table : Table)
    (collision : Option Collision)
    → AreLowStamp granted n table.states
    → CommitsLowStamp granted n (carry_outcome pending pool table collision)
over_low_stamp granted n pending pool table (Some collision) h =
    record { code = λ e. cc; states = h }
over_low_stamp granted n pending pool table None h =
    record {
      code = λ e. cc;
      states = rehashed_low_stamp granted n table.order pending.order table.states h;
    }

completed_low_stamp :
    (granted : GrantedMemory) (n : ℕ) (pending : Option PendingTable) (pool : PoolState)
    (table : Table)
    → AreLowStamp granted n table.states
    → CommitsLowStamp granted n (complete_outcome pending pool table)
completed_low_stamp granted n None pool table h = record { code = λ e. cc; states = h }
completed_low_stamp granted n (Some pending) pool table h =
    over_low_stamp granted n pending pool table
    (collision_of table.order pending.order table.states) h

-- A refusal is no H_HARDWARE.
abbrev IsFine : Option Rc → Type 0
IsFine None = Unit {0}
IsFine (Some code) = code ≢ rc.Hardware

pending_fine : (shift : ℕ) (pending : Option PendingTable) → IsFine (pending_refusal shift pending)
pending_fine shift None = λ e. cc
pending_fine shift (Some table) =
    cond_both (not (table.order == shift)) (Some rc.Closed)
    (if is_ready table then None else Some rc.Busy) IsFine (λ _ e. cc)
    (λ _. cond_both (is_ready table) None (Some rc.Busy) IsFine (λ _. tt) (λ _ e. cc))

refusal_fine :
    (flags shift : ℕ) (pending : Option PendingTable) → IsFine (commit_refusal flags shift pending)
refusal_fine flags shift pending =
    cond_both (is_commit_request flags shift) (pending_refusal shift pending) (Some rc.Parameter)
    IsFine (λ _. pending_fine shift pending) (λ _ e. cc)

answered_low_stamp :
    (granted : GrantedMemory) (n : ℕ) (refusal : Option Rc) (pending : Option PendingTable)
    (pool : PoolState) (table : Table)
    → IsFine refusal
    → AreLowStamp granted n table.states
    → CommitsLowStamp granted n (answer_outcome refusal pending pool table)
answered_low_stamp granted n (Some code) pending pool table fine h =
    record { code = fine; states = h }
answered_low_stamp granted n None pending pool table fine h =
    completed_low_stamp granted n pending pool table h

committed_low_stamp :
    (granted : GrantedMemory) (n flags shift : ℕ) (memory : TableMemory)
    → AreLowStamp granted n memory.table.states
    → CommitsLowStamp granted n
    (outcome_of_commit flags shift memory.pending memory.pool memory.table)
unfolding outcome_of_commit
committed_low_stamp granted n flags shift memory h =
    answered_low_stamp granted n (commit_refusal flags shift memory.pending) memory.pending
    memory.pool memory.table (refusal_fine flags shift memory.pending) h

-- ---- prepare
-- The code is no H_HARDWARE.
abbrev IsFinePrepared : PrepareOutcome → Type 0
IsFinePrepared p = p.rc ≢ rc.Hardware

placed_fine :
    (order : ℕ) (pool : PoolState) (place : Option ℕ)
    → IsFinePrepared (new_table_outcome order pool place)
placed_fine order pool None = λ e. cc
placed_fine order pool (Some place) = λ e. cc

success_fine : rc.Success ≢ rc.Hardware
success_fine = λ e. cc

started_fine :
    (order : ℕ) (pending : Option PendingTable) (pool : PoolState)
    → IsFinePrepared (start_outcome order pending pool)
started_fine order pending pool =
    cond_both (is_pending order pending) (prepare_outcome rc.Success pending pool)
    (new_table_outcome order (pool_without pending pool)
    (lowest_place (pool_without pending pool) order)) IsFinePrepared (λ _. success_fine)
    (λ _.
    placed_fine order (pool_without pending pool)
    (lowest_place (pool_without pending pool) order))

continued_fine :
    (start : PrepareOutcome) (pending : Option PendingTable)
    → IsFinePrepared start
    → IsFinePrepared (advance_outcome start pending)
continued_fine start None h = h
continued_fine start (Some table) h =
    cond_both (is_ready (with_more_ready table)) rc.Success rc.LongBusy (λ code. code ≢ rc.Hardware)
    (λ _. success_fine) (λ _ e. cc)

prepared_fine :
    (limit flags shift : ℕ) (pending : Option PendingTable) (pool : PoolState)
    → IsFinePrepared (outcome_of_prepare limit flags shift pending pool)
unfolding outcome_of_prepare
prepared_fine limit flags shift pending pool =
    cond_both (not (is_prepare_request flags shift)) _ _ IsFinePrepared (λ _ e. cc)
    (λ _.
    cond_both (nat_lt limit shift) _ _ IsFinePrepared (λ _ e. cc)
    (λ _.
    cond_both (shift == 0) _ _ IsFinePrepared (λ _. success_fine)
    (λ _.
    continued_fine (start_outcome shift pending pool)
    (start_outcome shift pending pool).pending
    (started_fine shift pending pool))))

-- ---- quiet lines
-- The reply is safe, and the stamps stay low.
abbrev KeepsLowStamp : GrantedMemory → ℕ → Reply × Store → Type 0
KeepsLowStamp granted n x =
    IsUnworn x.0 × (x.1.grants ≡ granted.grants) × AreLowStamp granted n (states_of x.1)

resize_keeps :
    (granted : GrantedMemory) (n : ℕ) (w : Store) (call : Hcall) (args : List ℕ)
    → w.grants ≡ granted.grants
    → AreLowStamp granted n (states_of w)
    → KeepsLowStamp granted n (run_resize w call args)
unfolding run_resize prepare_result commit_result
resize_keeps granted n w calls.Prepare args g h = (
  prepared_fine w.memory.limit (slice_index args 0) (slice_index args 1) w.memory.pending
      w.memory.pool,
  g,
  h,
)
resize_keeps granted n w calls.Commit args g h =
    let done = committed_low_stamp granted n (slice_index args 0) (slice_index args 1) w.memory h in
    (done.code, g, done.states)
resize_keeps granted n w other args g h = ((λ e. cc), g, h)

quiet_keeps :
    (granted : GrantedMemory) (n : ℕ) (w : Store) (act : Act)
    → w.grants ≡ granted.grants
    → AreLowStamp granted n (states_of w)
    → KeepsLowStamp granted n (run_quiet_line w act)
unfolding run_quiet_line
quiet_keeps granted n w (acts.Call number args spelt) g h =
    resize_keeps granted n w (hcall_of number) args g h
quiet_keeps granted n w other g h = (tt, g, h)

pub quiet_safe :
    (granted : GrantedMemory) (n cpus : ℕ) (w : Store) (act : Act)
    → IsLowStampRun granted n cpus w
    → IsUnworn (run_quiet_line w act).0 × IsLowStampRun granted n cpus (run_quiet_line w act).1
quiet_safe granted n cpus w act h =
    let kept = quiet_keeps granted n w act h.grants h.states in (
      kept.0,
      record {
        grants = kept.1;
        processors = quiet_size w act ∙ h.processors;
        states = kept.2;
        placed = quiet_placed w act h.placed;
        table = quiet_window w act ∙ h.table;
      },
    )

-- ---- the ends of sections
pub processors_by_size :
    (cpu : ℕ) (processors : List Processor) (ts : List RepliedLine)
    → length (processors_after_lines cpu processors ts) ≡ length processors
processors_by_size cpu [] ts = refl
processors_by_size cpu (s ∷ ss) ts = ap suc (processors_by_size (suc cpu) ss ts)

pub closed_run_state :
    (granted : GrantedMemory) (n m cpus : ℕ) (w : Store) (ts : List RepliedLine)
    → IsLowStampRun granted n cpus w
    → AreLowStamp granted m (states_of (section_end w ts))
    → AllByRecursion (ProcessorPlaced w.memory.table.order)
    (processors_after_lines 0 w.processors ts)
    → IsLowStampRun granted m cpus (section_end w ts)
unfolding section_end
closed_run_state granted n m cpus w ts h states placed =
    record {
      grants = h.grants;
      processors = processors_by_size 0 w.processors ts ∙ h.processors;
      states = states;
      placed = placed;
      table = h.table;
    }

-- ---- the beginning
-- An entry that is valid at first has stamp 0, and a granted page.
entered_low_stamp :
    (order : ℕ) (grants : List Grant) (e : ImageEntry)
    → IsOpeningEntry order grants e
    → IsLowStamp grants 1 (entered_state e.dword0 e.dword1)
entered_low_stamp order grants e h =
    record { low = omega arith; granted = entered_granted grants e.dword0 e.dword1 h.stored }

pub opening_states :
    (c : Configuration)
    → AreOpeningEntries c.order c.granted.grants c.entries
    → AreLowStamp c.granted 1 (states_of (page_table c))
opening_states c =
    each_opening (IsLowStamp c.granted.grants 1) c (empty_low_stamp c.granted.grants 1)
    (entered_low_stamp c.order c.granted.grants)

pub opening_placed : (c : Configuration) → AllPlaced (page_table c)
unfolding page_table
opening_placed c = all_new_placed _ c.cpus

pub opening_grants : (c : Configuration) → (page_table c).grants ≡ c.granted.grants
unfolding page_table
opening_grants c = refl
