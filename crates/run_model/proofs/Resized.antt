-- What a quiet line leaves of the table, and what a committed resize carries.
use Rattle.std.specs.Prelude.{◌==◌, slice_index, IfSome, not}
use Rattle.std.proofs.Common.{◌≡◌, ℕ, ◌+◌, ◌≤◌, List, Bool, true, false, ap, sym, ◌∙◌, refl, subst, length, Option, Some, None}
use Rattle.std.proofs.lemmas.Bool.{cond_both}
use Rattle.papr_codes.specs.Hcalls.{hcall_of}
use Rattle.papr_codes.specs.declared.calls.Hcall.{Hcall}
use Rattle.papr_codes.specs.declared.codes.Rc.{Rc}
use Rattle.power_addr.specs.Pages.{VirtualPage}
use Rattle.hpt_hash.specs.Entries.{page_at}
use Rattle.hpt_pool.specs.Pool.{PoolState}
use Rattle.entry_model.specs.State.{State}
use Rattle.entry_model.specs.Run.{state_at}
use Rattle.hpt_resize.specs.declared.carry.Collision.{Collision}
use Rattle.hpt_resize.specs.Rehash.{collision_of, rehashed_states, carried_page, target_at, at_stamp_0, IsPlacedBelow}
use Rattle.hpt_resize.specs.Pending.{PendingTable, is_ready}
use Rattle.hpt_resize.specs.Resize.{Table, is_commit_request, pending_refusal, commit_refusal, carry_outcome, complete_outcome, answer_outcome, outcome_of_commit}
use Rattle.hpt_resize.specs.TableMemory.{TableMemory, commit_result}
use Rattle.hpt_resize.proofs.Groups.{carried_is, page_goes, target_page}
use Rattle.hpt_resize.proofs.Rehashed.{rehashed_placed, source_in_table, source_of}
use Rattle.trace_line.specs.declared.act.Act.{Act}
use Rattle.run_model.specs.Stores.{Store}
use Rattle.run_model.specs.QuietLines.{is_success, run_resize, run_quiet_line}
use Rattle.run_model.specs.CommittedResizes.{commits_call, commits_by}
use Rattle.hpt_resize.specs.Translations.{KeepsTranslations}
use Rattle.run_model.proofs.Memories.{MemoryStands, memory_prepared, prepare_table, memory_committed}
use Rattle.papr_codes.specs.declared.calls.Hcall.TheVariants as calls
use Rattle.trace_line.specs.declared.act.Act.TheVariants as acts
use Rattle.hpte_fields.specs.TableSize.{least_order}

-- ---- a committed resize
-- The new table has the next number, no two entries met, and it holds what was carried.
pub record IsResized (old new : Table) : Type 0 where
  pub number : new.number ≡ old.number + 1
  pub apart : collision_of old.order new.order old.states ≡ None
  pub states : new.states ≡ rehashed_states old.order new.order old.states

-- Where a resize was committed the table is resized, and else it stays.
abbrev pub Moves : Bool → Table → Table → Type 0
Moves true old new = IsResized old new
Moves false old new = new ≡ old

carried_moves :
    (pending : PendingTable) (pool : PoolState) (table : Table) (collision : Option Collision)
    → collision_of table.order pending.order table.states ≡ collision
    → Moves (is_success (carry_outcome pending pool table collision).rc) table
    (carry_outcome pending pool table collision).table
carried_moves pending pool table (Some collision) e = refl
carried_moves pending pool table None e = record { number = refl; apart = e; states = refl }

completed_moves :
    (pending : Option PendingTable) (pool : PoolState) (table : Table)
    → Moves (is_success (complete_outcome pending pool table).rc) table
    (complete_outcome pending pool table).table
completed_moves None pool table = refl
completed_moves (Some pending) pool table =
    carried_moves pending pool table (collision_of table.order pending.order table.states) refl

-- A refusal is no success.
abbrev Fails : Option Rc → Type 0
Fails refusal = IfSome refusal (λ rc. is_success rc ≡ false)

pending_fails : (shift : ℕ) (pending : Option PendingTable) → Fails (pending_refusal shift pending)
pending_fails shift None = refl
pending_fails shift (Some table) =
    cond_both (not (table.order == shift)) _ _ Fails (λ _. refl)
    (λ _. cond_both (is_ready table) _ _ Fails (λ _. tt) (λ _. refl))

commit_fails :
    (flags shift : ℕ) (pending : Option PendingTable) → Fails (commit_refusal flags shift pending)
commit_fails flags shift pending =
    cond_both (is_commit_request flags shift) _ _ Fails (λ _. pending_fails shift pending)
    (λ _. refl)

answered_moves :
    (refusal : Option Rc) (pending : Option PendingTable) (pool : PoolState) (table : Table)
    → Fails refusal
    → Moves (is_success (answer_outcome refusal pending pool table).rc) table
    (answer_outcome refusal pending pool table).table
answered_moves (Some rc) pending pool table fails = rw fails refl
answered_moves None pending pool table fails = completed_moves pending pool table

pub memory_moves :
    (memory : TableMemory) (flags shift : ℕ)
    → Moves (is_success (commit_result memory flags shift).0) memory.table
    (commit_result memory flags shift).1.table
unfolding commit_result outcome_of_commit
memory_moves memory flags shift =
    answered_moves (commit_refusal flags shift memory.pending) memory.pending memory.pool
    memory.table (commit_fails flags shift memory.pending)

-- ---- quiet lines
-- What is at memory after a quiet line.
pub record IsAfter (outcome_of_commit : Bool) (old new : TableMemory) : Type 0 where
  pub stands : MemoryStands new
  pub moves : Moves outcome_of_commit old.table new.table

pub same_after : (memory : TableMemory) → MemoryStands memory → IsAfter false memory memory
same_after memory h = record { stands = h; moves = refl }

resize_after :
    (w : Store) (call : Hcall) (args : List ℕ)
    → MemoryStands w.memory
    → IsAfter (commits_call call (run_resize w call args).0) w.memory
    (run_resize w call args).1.memory
unfolding run_resize
resize_after w calls.Prepare args h =
    record {
      stands = memory_prepared w.memory (slice_index args 0) (slice_index args 1) h;
      moves = prepare_table w.memory (slice_index args 0) (slice_index args 1);
    }
resize_after w calls.Commit args h =
    record {
      stands = memory_committed w.memory (slice_index args 0) (slice_index args 1) h;
      moves = memory_moves w.memory (slice_index args 0) (slice_index args 1);
    }
resize_after w other args h = same_after w.memory h

pub quiet_after :
    (w : Store) (act : Act)
    → MemoryStands w.memory
    → IsAfter (commits_by act (run_quiet_line w act).0) w.memory (run_quiet_line w act).1.memory
unfolding run_quiet_line
quiet_after w (acts.Call number args spelt) h = resize_after w (hcall_of number) args h
quiet_after w (acts.Access want ea user) h = same_after w.memory h
quiet_after w (acts.Device write liobn ioba) h = same_after w.memory h
quiet_after w (acts.SlbMte rb rs) h = same_after w.memory h
quiet_after w acts.SlbClear h = same_after w.memory h
quiet_after w (acts.SetMask name value) h = same_after w.memory h
quiet_after w acts.Dump h = same_after w.memory h

-- ---- what is carried
-- All entries of the old table are carried.
pub resized_placed :
    (old new : Table)
    → least_order ≤ new.order
    → IsResized old new
    → IsPlacedBelow old.order new.order old.states new.states (length old.states)
resized_placed old new low r =
    subst
    (λ (states : List State).
    IsPlacedBelow old.order new.order old.states states (length old.states)) (sym r.states)
    (rehashed_placed old.order new.order old.states low r.apart)

pub resized_at :
    (old new : Table) (entry index : ℕ)
    → least_order ≤ new.order
    → IsResized old new
    → target_at old.order new.order old.states entry ≡ Some index
    → state_at new.states index ≡ at_stamp_0 (state_at old.states entry)
resized_at old new entry index low r goes =
    (resized_placed old new low r).carried entry index
    (source_in_table old.order new.order old.states entry index goes) goes

-- The page of an entry is its page at its target.
record IsPageThere (old new : Table) (entry index : ℕ) : Type 0 where
  page : VirtualPage
  before : carried_page old.order (state_at old.states entry) entry ≡ Some page
  after :
      page_at new.order index (state_at new.states index).dword0 (state_at new.states index).dword1
      ≡ Some page

page_there :
    (old new : Table) (entry index : ℕ)
    → least_order ≤ old.order
    → least_order ≤ new.order
    → IsResized old new
    → target_at old.order new.order old.states entry ≡ Some index
    → IsPageThere old new entry index
page_there old new entry index low low' r goes =
    let state : State = state_at old.states entry in
    let is = carried_is old.order new.order state entry index goes in
    let found = target_page old.order new.order state entry index low low' goes in
    record {
      page = is.page;
      before = is.carried;
      after =
          ap (λ (s : State). page_at new.order index s.dword0 s.dword1)
          (resized_at old new entry index low' r goes)
          ∙ found;
    }

one_page : (o : Option VirtualPage) (p q : VirtualPage) → o ≡ Some p → o ≡ Some q → p ≡ q
one_page o p q e f = cc

pub keeps_translations :
    (old new : Table)
    → least_order ≤ old.order
    → least_order ≤ new.order
    → IsResized old new
    → KeepsTranslations old new
keeps_translations old new low low' r = record {
  carried = λ entry page of_page.
      let goes = page_goes old.order new.order (state_at old.states entry) entry page of_page in
      let there = page_there old new entry _ low low' r goes in
      record {
        index = _;
        goes = goes;
        kept = resized_at old new entry _ low' r goes;
        found = there.after ∙ ap Some (one_page _ there.page page there.before of_page);
      };
  from_old = λ index valid.
      let source = source_of old.order new.order old.states new.states index
      (resized_placed old new low' r) valid in
      let there = page_there old new source.index index low low' r source.goes in
      record {
        entry = source.index;
        page = there.page;
        in_table = source_in_table old.order new.order old.states source.index index source.goes;
        carried = there.before;
        goes = source.goes;
      };
}
