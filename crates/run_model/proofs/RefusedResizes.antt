-- In a good run a resize call that is refused leaves all that the run carries, except for the
-- pending table in two cases.
use Rattle.std.specs.Prelude.{◌==◌, nat_lt, not, slice_index, IfSome}
use Rattle.std.proofs.Common.{◌≡◌, ℕ, List, [], ◌∷◌, Bool, true, false, ap, sym, ◌∙◌, refl, subst, Option, Some, None}
use Rattle.std.specs.List.{AllByRecursion}
use Rattle.std.proofs.lemmas.Bool.{cond_both, false≢true}
use Rattle.papr_codes.specs.declared.calls.Hcall.{Hcall}
use Rattle.papr_codes.specs.declared.codes.Rc.{Rc}
use Rattle.papr_codes.specs.Hcalls.{hcall_of}
use Rattle.hpt_pool.specs.Pool.{PoolState, lowest_place}
use Rattle.hpt_resize.specs.declared.carry.Collision.{Collision}
use Rattle.hpt_resize.specs.Rehash.{collision_of}
use Rattle.hpt_resize.specs.Pending.{PendingTable, no_entries, is_ready, with_more_ready}
use Rattle.hpt_resize.specs.Resize.{PrepareOutcome, prepare_outcome, is_prepare_request, pool_without, is_pending, new_table_outcome, start_outcome, advance_outcome, outcome_of_prepare, CommitOutcome, is_commit_request, pending_refusal, commit_refusal, carry_outcome, complete_outcome, answer_outcome, outcome_of_commit}
use Rattle.hpt_resize.specs.TableMemory.{TableMemory, prepare_result, commit_result}
use Rattle.trace_line.specs.declared.act.Act.{Act}
use Rattle.trace_read.specs.Trace.{AcceptedTrace}
use Rattle.trace_reply.specs.declared.reply.Reply.{Reply}
use Rattle.trace_reply.specs.Replies.{RepliedLine, lines_with_replies}
use Rattle.run_model.specs.Stores.{Store, page_table, is_on}
use Rattle.run_model.specs.QuietLines.{is_success, run_resize, run_quiet_line}
use Rattle.run_model.specs.Quiet.{QuietPart, cut}
use Rattle.run_model.specs.Sections.{closing, after_quiet, quiet_on, section_of, sections_from, sections_of}
use Rattle.run_model.specs.GoodRun.{IsGoodSection, IsGoodRun}
use Rattle.run_model.specs.RefusedCalls.{is_refusal, is_refused, drops_pending, memory_left, FoundNone, LeavesRun, RefusedQuietLinesLeave}
use Rattle.papr_codes.specs.declared.calls.Hcall.TheVariants as calls
use Rattle.papr_codes.specs.declared.codes.Rc.TheVariants as rc
use Rattle.trace_line.specs.declared.act.Act.TheVariants as acts

-- ---- prepare
-- The outcome at memory: where it is a refusal, what is left, and that a table was dropped only for
-- one of another order.
record PrepareLeaves (memory : TableMemory) (shift : ℕ) (p : PrepareOutcome) : Type 0 where
  left :
      is_refusal p.rc ≡ true
      → record memory { pool = p.pool; pending = p.pending }
      ≡ memory_left (drops_pending calls.Prepare p.rc) memory
  another : p.rc ≡ rc.NoMem → is_pending shift memory.pending ≡ false

no_refusal : (code : Rc) {P : Type 0} → is_refusal code ≡ false → is_refusal code ≡ true → P
no_refusal code off on = absurd (false≢true (sym off ∙ on))

advanced :
    (memory : TableMemory) (shift : ℕ) (start : PrepareOutcome) (table : PendingTable)
    → PrepareLeaves memory shift (advance_outcome start (Some table))
advanced memory shift start table =
    cond_both (is_ready (with_more_ready table)) rc.Success rc.LongBusy
    (λ code.
    PrepareLeaves memory shift
    (prepare_outcome code (Some (with_more_ready table)) start.pool))
    (λ _. record { left = no_refusal rc.Success refl; another = λ e. cc })
    (λ _. record { left = no_refusal rc.LongBusy refl; another = λ e. cc })

kept_advances :
    (memory : TableMemory) (shift : ℕ) (pending : Option PendingTable) (pool : PoolState)
    → is_pending shift pending ≡ true
    → PrepareLeaves memory shift (advance_outcome (prepare_outcome rc.Success pending pool) pending)
kept_advances memory shift None pool kept = absurd (false≢true kept)
kept_advances memory shift (Some table) pool kept =
    advanced memory shift (prepare_outcome rc.Success (Some table) pool) table

placed_advances :
    (memory : TableMemory) (shift : ℕ) (place : Option ℕ)
    → is_pending shift memory.pending ≡ false
    → PrepareLeaves memory shift
    (advance_outcome (new_table_outcome shift (pool_without memory.pending memory.pool) place)
    (new_table_outcome shift (pool_without memory.pending memory.pool) place).pending)
placed_advances memory shift None other = record { left = λ _. refl; another = λ _. other }
placed_advances memory shift (Some place) other =
    advanced memory shift
    (new_table_outcome shift (pool_without memory.pending memory.pool) (Some place))
    (no_entries shift place)

started_advances :
    (memory : TableMemory) (shift : ℕ)
    → PrepareLeaves memory shift
    (advance_outcome (start_outcome shift memory.pending memory.pool)
    (start_outcome shift memory.pending memory.pool).pending)
started_advances memory shift =
    cond_both (is_pending shift memory.pending)
    (prepare_outcome rc.Success memory.pending memory.pool)
    (new_table_outcome shift (pool_without memory.pending memory.pool)
    (lowest_place (pool_without memory.pending memory.pool) shift))
    (λ (start : PrepareOutcome).
    PrepareLeaves memory shift (advance_outcome start start.pending))
    (λ kept. kept_advances memory shift memory.pending memory.pool kept)
    (λ other.
    placed_advances memory shift (lowest_place (pool_without memory.pending memory.pool) shift)
    other)

outcome_leaves :
    (memory : TableMemory) (flags shift : ℕ)
    → PrepareLeaves memory shift
    (outcome_of_prepare memory.limit flags shift memory.pending memory.pool)
unfolding outcome_of_prepare
outcome_leaves memory flags shift =
    cond_both (not (is_prepare_request flags shift))
    (prepare_outcome rc.Parameter memory.pending memory.pool) _ (PrepareLeaves memory shift)
    (λ _. record { left = λ _. refl; another = λ e. cc })
    (λ _.
    cond_both (nat_lt memory.limit shift) (prepare_outcome rc.Resource memory.pending memory.pool)
    _ (PrepareLeaves memory shift) (λ _. record { left = λ _. refl; another = λ e. cc })
    (λ _.
    cond_both (shift == 0)
    (prepare_outcome rc.Success None (pool_without memory.pending memory.pool)) _
    (PrepareLeaves memory shift)
    (λ _. record { left = no_refusal rc.Success refl; another = λ e. cc })
    (λ _. started_advances memory shift)))

prepare_leaves :
    (memory : TableMemory) (flags shift : ℕ)
    → is_refusal (prepare_result memory flags shift).0 ≡ true
    → (prepare_result memory flags shift).1
    ≡ memory_left (drops_pending calls.Prepare (prepare_result memory flags shift).0) memory
unfolding prepare_result
prepare_leaves memory flags shift = (outcome_leaves memory flags shift).left

none_found :
    (code : Rc) (args : List ℕ) (memory : TableMemory)
    → (code ≡ rc.NoMem → is_pending (slice_index args 1) memory.pending ≡ false)
    → FoundNone calls.Prepare code args memory
none_found rc.NoMem args memory h = h refl
none_found other args memory h = tt

prepare_finds :
    (memory : TableMemory) (args : List ℕ)
    → FoundNone calls.Prepare (prepare_result memory (slice_index args 0) (slice_index args 1)).0
    args memory
unfolding prepare_result
prepare_finds memory args =
    none_found _ args memory
    (outcome_leaves memory (slice_index args 0) (slice_index args 1)).another

-- ---- commit
abbrev CommitLeaves : TableMemory → CommitOutcome → Type 0
CommitLeaves memory c =
    is_refusal c.rc ≡ true
    → record memory { pool = c.pool; pending = c.pending; table = c.table }
    ≡ memory_left (drops_pending calls.Commit c.rc) memory

carried_leaves :
    (memory : TableMemory) (pending : PendingTable) (collision : Option Collision)
    → memory.pending ≡ Some pending
    → CommitLeaves memory (carry_outcome pending memory.pool memory.table collision)
carried_leaves memory pending None e = no_refusal rc.Success refl
carried_leaves memory pending (Some collision) e = λ _. rw e refl

completed_leaves :
    (memory : TableMemory) (pending : Option PendingTable)
    → memory.pending ≡ pending
    → CommitLeaves memory (complete_outcome pending memory.pool memory.table)
completed_leaves memory None e = λ _. rw e refl
completed_leaves memory (Some pending) e =
    carried_leaves memory pending
    (collision_of memory.table.order pending.order memory.table.states) e

-- A code with which nothing is tried drops nothing.
abbrev Keeps : Option Rc → Type 0
Keeps refusal = IfSome refusal (λ code. drops_pending calls.Commit code ≡ false)

pending_keeps : (shift : ℕ) (pending : Option PendingTable) → Keeps (pending_refusal shift pending)
pending_keeps shift None = refl
pending_keeps shift (Some table) =
    cond_both (not (table.order == shift)) _ _ Keeps (λ _. refl)
    (λ _. cond_both (is_ready table) _ _ Keeps (λ _. tt) (λ _. refl))

commit_keeps :
    (flags shift : ℕ) (pending : Option PendingTable) → Keeps (commit_refusal flags shift pending)
commit_keeps flags shift pending =
    cond_both (is_commit_request flags shift) _ _ Keeps (λ _. pending_keeps shift pending)
    (λ _. refl)

answered_leaves :
    (memory : TableMemory) (refusal : Option Rc)
    → Keeps refusal
    → CommitLeaves memory (answer_outcome refusal memory.pending memory.pool memory.table)
answered_leaves memory None keeps = completed_leaves memory memory.pending refl
answered_leaves memory (Some code) keeps = λ _. rw keeps refl

commit_leaves :
    (memory : TableMemory) (flags shift : ℕ)
    → is_refusal (commit_result memory flags shift).0 ≡ true
    → (commit_result memory flags shift).1
    ≡ memory_left (drops_pending calls.Commit (commit_result memory flags shift).0) memory
unfolding commit_result outcome_of_commit
commit_leaves memory flags shift =
    answered_leaves memory (commit_refusal flags shift memory.pending)
    (commit_keeps flags shift memory.pending)

not_success : (code : Rc) → is_refusal code ≡ true → is_success code ≡ false
not_success rc.Success h = cc
not_success other h = refl

-- ---- quiet lines
resize_leaves :
    (w : Store) (number : ℕ) (args : List ℕ) (spelt : Bool) (h : Hcall)
    → hcall_of number ≡ h
    → is_refused (acts.Call number args spelt) (run_resize w h args).0 ≡ true
    → LeavesRun (acts.Call number args spelt) (run_resize w h args).0 w (run_resize w h args).1
unfolding run_resize
resize_leaves w number args spelt calls.Prepare e refused = record {
  left =
      rw e
      (ap (λ (memory : TableMemory). record w { memory = memory })
      (prepare_leaves w.memory (slice_index args 0) (slice_index args 1) refused));
  another = rw e (prepare_finds w.memory args);
}
resize_leaves w number args spelt calls.Commit e refused = record {
  left =
      rw (
        e,
        not_success (commit_result w.memory (slice_index args 0) (slice_index args 1)).0 refused,
      )
      (ap (λ (memory : TableMemory). record w { memory = memory })
      (commit_leaves w.memory (slice_index args 0) (slice_index args 1) refused));
  another = rw e tt;
}
resize_leaves w number args spelt other e refused = record { left = rw e refl; another = rw e tt }

quiet_leaves :
    (w : Store) (act : Act)
    → is_refused act (run_quiet_line w act).0 ≡ true
    → LeavesRun act (run_quiet_line w act).0 w (run_quiet_line w act).1
unfolding run_quiet_line
quiet_leaves w (acts.Call number args spelt) refused =
    resize_leaves w number args spelt (hcall_of number) refl refused
quiet_leaves w (acts.Access want ea user) refused = absurd (false≢true refused)
quiet_leaves w (acts.SlbMte rb rs) refused = absurd (false≢true refused)
quiet_leaves w acts.SlbClear refused = absurd (false≢true refused)
quiet_leaves w (acts.Device write liobn ioba) refused = absurd (false≢true refused)
quiet_leaves w (acts.SetMask name value) refused = absurd (false≢true refused)
quiet_leaves w acts.Dump refused = absurd (false≢true refused)

-- ---- a run
replied_leaves :
    (w : Store) (q : RepliedLine)
    → q.reply ≡ (run_quiet_line w q.line.act).0
    → is_refused q.line.act q.reply ≡ true
    → LeavesRun q.line.act q.reply w (run_quiet_line w q.line.act).1
replied_leaves w q said =
    subst
    (λ r.
    is_refused q.line.act r ≡ true → LeavesRun q.line.act r w (run_quiet_line w q.line.act).1)
    (sym said) (quiet_leaves w q.line.act)

opens_on_rest :
    (s : Store) (quiet : Option RepliedLine)
    → IfSome quiet (λ q. q.reply ≡ (run_quiet_line s q.line.act).0)
    → IfSome quiet
    (λ q.
    is_refused q.line.act q.reply ≡ true
    → LeavesRun q.line.act q.reply s (after_quiet s quiet))
opens_on_rest s None said = tt
opens_on_rest s (Some q) said = replied_leaves s q said

sections_leave :
    (on : Act → Bool) (s : Store) (ts : List RepliedLine) (qs : List QuietPart)
    → AllByRecursion IsGoodSection (sections_from on s ts qs)
    → RefusedQuietLinesLeave (sections_from on s ts qs)
sections_leave on s ts [] good = tt
sections_leave on s ts (q ∷ []) good =
    let x = section_of on s ts (quiet_on on q.0) in
    (opens_on_rest (closing x) x.quiet good.0.quiet, tt)
sections_leave on s ts (q ∷ p ∷ qs) good =
    let x = section_of on s ts (quiet_on on q.0) in (
      opens_on_rest (closing x) x.quiet good.0.quiet,
      sections_leave on (after_quiet (closing x) x.quiet) q.1 (p ∷ qs) good.1,
    )

pub refused_resizes_leave :
    (t : AcceptedTrace) (rs : List Reply)
    → IsGoodRun t rs
    → RefusedQuietLinesLeave (sections_of t rs)
refused_resizes_leave t rs good =
    let c = cut (lines_with_replies t.lines rs) in
    sections_leave (is_on t.config.windows (page_table t.config).window) (page_table t.config) c.0
    c.1 good.stores.0
