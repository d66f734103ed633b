-- In a good run entries and stamps are numbers that a text can show.
use Rattle.std.proofs.Common.{◌≡◌, ℕ, ◌<◌, ◌≤◌, ◌-◌, ◌^◌, List, [], ◌∷◌, sym, ◌∙◌, subst, length, arith, Option, Some, None}
use Rattle.std.specs.Prelude.{slice_index, IfSome}
use Rattle.std.specs.List.{AllByRecursion, range_with_len}
use Rattle.std.specs.Option.{option_map_or}
use Rattle.std.proofs.Math.Pow.{pow_mono}
use Rattle.papr_codes.specs.declared.calls.Hcall.{Hcall}
use Rattle.papr_codes.specs.declared.calls.Hcall.TheVariants as calls
use Rattle.papr_codes.specs.declared.codes.Rc.{Rc}
use Rattle.papr_codes.specs.Hcalls.{hcall_of}
use Rattle.hpt_pool.specs.Pool.{PoolState}
use Rattle.entry_model.specs.State.{State, empty_state}
use Rattle.entry_model.specs.declared.receipt.Receipt.{Receipt}
use Rattle.entry_model.specs.Receipt.{after_of}
use Rattle.entry_model.specs.Run.{state_at}
use Rattle.entry_model.specs.History.{IsLegal, history}
use Rattle.entry_model.proofs.OperationLaws.{stamp_fits}
use Rattle.hpt_resize.specs.declared.carry.Collision.{Collision}
use Rattle.hpte_fields.specs.TableSize.{entry_count, greatest_order}
use Rattle.hpt_resize.specs.Rehash.{at_stamp_0, first_with, entry_at, collision_of, rehashed_states}
use Rattle.hpt_resize.specs.Pending.{PendingTable}
use Rattle.hpt_resize.specs.Resize.{Table, CommitOutcome, commit_refusal, carry_outcome, complete_outcome, answer_outcome, outcome_of_commit}
use Rattle.hpt_resize.specs.TableMemory.{TableMemory, opening_memory, prepare_result, commit_result}
use Rattle.trace_line.specs.declared.act.Act.{Act}
use Rattle.trace_line.specs.declared.act.Act.TheVariants as acts
use Rattle.trace_read.specs.Trace.{AcceptedTrace, IsAccepted}
use Rattle.trace_reply.specs.Replies.{RepliedLine, receipts_in}
use Rattle.run_model.specs.Stores.{Store, states_of, page_table}
use Rattle.run_model.specs.QuietLines.{run_resize, run_quiet_line}
use Rattle.run_model.specs.Histories.{receipts_by}
use Rattle.run_model.specs.Sections.{AreLegalTo, section_end}
use Rattle.run_model.specs.Sections.{Section, made_in}
use Rattle.basics.proofs.Each.{each_map, each_at, each_both, each_of_map, each_front, each_back}
use Rattle.run_model.proofs.Memories.{IsAllowed, MemoryStands, memory_prepared, memory_committed, opening_stands}
use Rattle.run_model.proofs.OpeningEntries.{each_opening}
use Rattle.run_model.proofs.LowStamps.{each_from_histories, each_state, closed_size}
use Rattle.run_model.proofs.LinesByProcessor.{file_listed}
use Rattle.run_model.proofs.OneProcessor.{closing_size}
use Rattle.run_model.proofs.SectionGood.{OnCpus, each_regrouped}
use Rattle.entry_model.proofs.Regroup.{regrouped_back}
use Rattle.history_check.proofs.TextMarks.{IsShort, AreShort}
use Rattle.history_check.specs.FoundSection.{closing_of}

-- The state's stamp fits in 32 bits.
abbrev pub IsLow : State → Type 0
IsLow s = s.stamp < 2 ^ 32

-- The stamps of these states fit in 32 bits.
abbrev pub LowStates : List State → Type 0
LowStates states = AllByRecursion IsLow states

-- The store's tables have sizes that tables may have, and the stamps of its entries fit in 32 bits.
pub record IsPlain (w : Store) : Type 0 where
  pub memory : MemoryStands w.memory
  pub high : w.memory.table.order ≤ greatest_order
  pub low : LowStates (states_of w)

-- ---- a section
legal_low :
    (a b : State) (rs : List Receipt)
    → IsLegal a rs b
    → IsLow a
    → AllByRecursion (λ (r : Receipt). IsLow r.before) rs × IsLow b
legal_low a b [] h k = (tt, subst IsLow (sym h) k)
legal_low a b (r ∷ rs) h k =
    let here : IsLow r.before = subst IsLow (sym h.0) k in
    let rest = legal_low (after_of r) b rs h.1 (stamp_fits r.before r.op here) in
    ((here, rest.0), rest.1)

pub small_table : (w : Store) → IsPlain w → length (states_of w) ≤ entry_count greatest_order
small_table w h =
    let size : length (states_of w) ≡ 2 ^ (w.memory.table.order - 4) = h.memory.size in
    let high : w.memory.table.order ≤ greatest_order = h.high in
    let less : w.memory.table.order - 4 ≤ greatest_order - 4 = omega arith in
    subst (λ n. n ≤ entry_count greatest_order) (sym size) (pow_mono less)

pub section_low :
    (s : Section) (closing : List State)
    → length closing ≡ length (states_of s.before)
    → length (states_of s.before) ≤ entry_count greatest_order
    → LowStates (states_of s.before)
    → AreLegalTo s closing
    → AreShort (made_in s) × LowStates closing
section_low s closing size few low g =
    let n = length (states_of s.before) in
    let along : (e : ℕ) → e < n → AllByRecursion (λ (r : Receipt). IsLow r.before)
    (history e (made_in s)) × IsLow (state_at closing e) = λ e k. legal_low
    (state_at (states_of s.before) e) (state_at closing e) (history e (made_in s)) (g.legal e k)
    (each_at IsLow (states_of s.before) e (empty_state 0) (omega arith) low) in
    let stamps = each_from_histories (λ (r : Receipt). IsLow r.before) n (made_in s) g.in_table
    (λ e k. (along e k).0) in
    let both = each_both (λ (r : Receipt). r.entry < n) (λ (r : Receipt). IsLow r.before)
    (made_in s) g.in_table stamps in (
      each_map (λ (r : Receipt). (r.entry < n) × IsLow r.before) IsShort (made_in s)
          (λ r x. record { entry = omega (arith, x.0); stamp = omega (arith, x.1) }) both,
      each_state IsLow closing (λ e k. (along e (subst (λ l. e < l) size k)).1),
    )

-- The receipts of each line of a section.
abbrev pub ShortLines : List RepliedLine → Type 0
ShortLines ts = AllByRecursion (λ (t : RepliedLine). AreShort (receipts_in t.reply)) ts

short_lines : (ts : List RepliedLine) → AreShort (receipts_by ts) → ShortLines ts
short_lines [] h = tt
short_lines (t ∷ ts) h = (
  each_front IsShort (receipts_in t.reply) (receipts_by ts) h,
  short_lines ts (each_back IsShort (receipts_in t.reply) (receipts_by ts) h),
)

closed_by :
    (w : Store) (ts : List RepliedLine)
    → IsPlain w
    → length (states_of (section_end w ts)) ≡ length (states_of w)
    → LowStates (states_of (section_end w ts))
    → IsPlain (section_end w ts)
unfolding section_end
closed_by w ts h size low =
    record {
      memory =
          record {
            limited = h.memory.limited;
            low = h.memory.low;
            size = size ∙ h.memory.size;
            allowed = h.memory.allowed;
          };
      high = h.high;
      low = low;
    }

pub closed_plain :
    (w : Store) (ts : List RepliedLine)
    → IsPlain w
    → LowStates (states_of (section_end w ts))
    → IsPlain (section_end w ts)
closed_plain w ts h low = closed_by w ts h (closed_size w ts) low

-- The receipts of a good section on a small store with low stamps have marks.
pub lines_short :
    (s : Section)
    → OnCpus s
    → length (states_of s.before) ≤ entry_count greatest_order
    → LowStates (states_of s.before)
    → AreLegalTo s (closing_of s)
    → ShortLines s.replied_lines
lines_short s within few low g =
    short_lines s.replied_lines
    (each_regrouped IsShort
    (regrouped_back (file_listed (length s.before.processors) s.replied_lines within))
    (section_low s (closing_of s) (closing_size (states_of s.before) (made_in s)) few low
    g).0)

-- ---- quiet lines
abbrev CommitsLow : CommitOutcome → Type 0
CommitsLow c = (c.table.order ≤ greatest_order) × LowStates c.table.states

carried_low :
    (states : List State) (index : Option ℕ)
    → IsLow (option_map_or (λ i. at_stamp_0 (state_at states i)) index (empty_state 0))
carried_low states None = omega arith
carried_low states (Some i) = omega arith

entry_low :
    (from to : ℕ) (states : List State) (target : ℕ) → IsLow (entry_at from to states target)
unfolding entry_at
entry_low from to states target =
    carried_low states (first_with from to states (length states) target)

rehashed_low : (from to : ℕ) (states : List State) → LowStates (rehashed_states from to states)
unfolding rehashed_states
rehashed_low from to states =
    each_of_map IsLow (entry_at from to states) (range_with_len 0 (entry_count to))
    (λ e. entry_low from to states e)

over_low :
    (pending : PendingTable) (pool : PoolState) (table : Table) (collision : Option Collision)
    → IsAllowed pending
    → table.order ≤ greatest_order
    → LowStates table.states
    → CommitsLow (carry_outcome pending pool table collision)
over_low pending pool table (Some collision) a o h = (o, h)
over_low pending pool table None a o h = (a.1, rehashed_low table.order pending.order table.states)

completed_low :
    (pending : Option PendingTable) (pool : PoolState) (table : Table)
    → IfSome pending IsAllowed
    → table.order ≤ greatest_order
    → LowStates table.states
    → CommitsLow (complete_outcome pending pool table)
completed_low None pool table a o h = (o, h)
completed_low (Some pending) pool table a o h =
    over_low pending pool table (collision_of table.order pending.order table.states) a o h

answered_low :
    (refusal : Option Rc) (pending : Option PendingTable) (pool : PoolState) (table : Table)
    → IfSome pending IsAllowed
    → table.order ≤ greatest_order
    → LowStates table.states
    → CommitsLow (answer_outcome refusal pending pool table)
answered_low (Some code) pending pool table a o h = (o, h)
answered_low None pending pool table a o h = completed_low pending pool table a o h

committed_low :
    (memory : TableMemory) (flags shift : ℕ)
    → MemoryStands memory
    → memory.table.order ≤ greatest_order
    → LowStates memory.table.states
    → ((commit_result memory flags shift).1.table.order ≤ greatest_order)
    × LowStates (commit_result memory flags shift).1.table.states
unfolding commit_result outcome_of_commit
committed_low memory flags shift a o h =
    answered_low (commit_refusal flags shift memory.pending) memory.pending memory.pool memory.table
    a.allowed o h

prepared_low :
    (memory : TableMemory) (flags shift : ℕ)
    → memory.table.order ≤ greatest_order
    → LowStates memory.table.states
    → ((prepare_result memory flags shift).1.table.order ≤ greatest_order)
    × LowStates (prepare_result memory flags shift).1.table.states
unfolding prepare_result
prepared_low memory flags shift o h = (o, h)

resize_plain :
    (w : Store) (call : Hcall) (args : List ℕ) → IsPlain w → IsPlain (run_resize w call args).1
unfolding run_resize
resize_plain w calls.Prepare args h =
    let next = prepared_low w.memory (slice_index args 0) (slice_index args 1) h.high h.low in
    record {
      memory = memory_prepared w.memory (slice_index args 0) (slice_index args 1) h.memory;
      high = next.0;
      low = next.1;
    }
resize_plain w calls.Commit args h =
    let next = committed_low w.memory (slice_index args 0) (slice_index args 1) h.memory h.high
    h.low in
    record {
      memory = memory_committed w.memory (slice_index args 0) (slice_index args 1) h.memory;
      high = next.0;
      low = next.1;
    }
resize_plain w other args h = h

pub quiet_plain : (w : Store) (act : Act) → IsPlain w → IsPlain (run_quiet_line w act).1
unfolding run_quiet_line
quiet_plain w (acts.Call number args spelt) h = resize_plain w (hcall_of number) args h
quiet_plain w other h = h

-- ---- the beginning
pub opening_plain : (t : AcceptedTrace) → IsAccepted t → IsPlain (page_table t.config)
unfolding page_table opening_memory
opening_plain t is =
    let c = t.config in
    let below : c.order ≤ c.limit = is.configured.settings.within in
    let most : c.limit ≤ greatest_order = omega (arith, is.configured.settings.at_most) in
    record {
      memory =
          opening_stands c.limit c.order c.granted.pool_base c.granted.pool_order c.entries
          most is.configured.settings.at_least;
      high = omega arith;
      low = each_opening IsLow c (omega arith) (λ e h. omega arith) is.entries;
    }
