-- The run of a set, one turn on.
use Rattle.std.specs.Prelude.{slice_index}
use Rattle.std.proofs.Common.{◌≡◌, ◌≢◌, ◌⊎◌, inl, inr, ℕ, zero, suc, ◌+◌, ◌<◌, ◌≤◌, eqb, true, false, List, [], ◌∷◌, ◌++◌, length, get_or, slice_set, drop, Contains, refl, ap, sym, ◌∙◌, subst, append_assoc, arith}
use Rattle.std.proofs.lemmas.Bool.{cases_Bool, eqb-true, eq-eqb}
use Rattle.std.proofs.lemmas.List.{at_drop_more, get_or-set_same, get_or-set_other, length-set, length-replicate}
use Rattle.frame_grants.specs.Grants.{GrantedMemory}
use Rattle.hpt_pool.specs.Pool.{PoolState, no_blocks}
use Rattle.papr_codes.specs.Hcalls.{hcall_of}
use Rattle.papr_codes.specs.declared.calls.Hcall.{Hcall}
use Rattle.papr_codes.specs.declared.calls.Hcall.TheVariants as calls
use Rattle.entry_model.specs.State.{State}
use Rattle.hpt_resize.specs.Resize.{CommitOutcome, outcome_of_commit}
use Rattle.hpt_resize.specs.TableMemory.{TableMemory, prepare_result, commit_result}
use Rattle.partition.proofs.Resizing.{commit_counts}
use Rattle.tlb_model.specs.Processor.{new_processor}
use Rattle.trace_line.specs.declared.act.Act.{Act}
use Rattle.trace_line.specs.declared.act.Act.TheVariants as acts
use Rattle.trace_line.specs.declared.line.TraceLine.{TraceLine}
use Rattle.trace_line.specs.Lines.{is_quiet}
use Rattle.trace_reply.specs.declared.reply.Reply.{Reply}
use Rattle.run_model.specs.Processors.{processor_at}
use Rattle.run_model.specs.Stores.{Store, context_of, states_of}
use Rattle.run_model.specs.QuietLines.{run_resize, run_quiet_line}
use Rattle.run_model.specs.SerialRun.{line_result, with_result, run_on}
use Rattle.run_model.proofs.LinesByProcessor.{processors_size}
use Rattle.run_model.proofs.SectionGood.{quiet_size}
use Rattle.lpar_set.specs.declared.turn.Turn.{Turn}
use Rattle.lpar_set.specs.OpeningTables.{with_opening}
use Rattle.lpar_set.specs.SetTrace.{NumberedTrace, AcceptedSet, IsAcceptedSet, no_partition, partition_at, line_of}
use Rattle.lpar_set.specs.SetRun.{MemberState, SetState, with_pool, without_pool, no_member, member_at, opening_table, opening_members, opening_set, set_line, replies_from}
use Rattle.lpar_set.specs.SetText.{numbered_reply, text_from}
use Rattle.lpar_set.proofs.SetSteps.{in_set}
use Rattle.lpar_set.proofs.LoneOpening.{opening_count}
use Rattle.lpar_set.proofs.Turns.{turn_inside, line_cpu}

-- ---- how many tables there were
prepared_number :
    (memory : TableMemory) (flags shift : ℕ)
    → (prepare_result memory flags shift).1.table.number ≡ memory.table.number
unfolding prepare_result
prepared_number memory flags shift = refl

abbrev no_memory : GrantedMemory
no_memory = record { pool_base = 0; pool_order = 0; grants = [] }

committed_number :
    (memory : TableMemory) (flags shift : ℕ)
    → (commit_result memory flags shift).1.table.number ≤ memory.table.number + 1
unfolding commit_result
committed_number memory flags shift =
    let after : CommitOutcome = outcome_of_commit flags shift memory.pending memory.pool
    memory.table in
    (commit_counts flags shift memory.pending after.pending memory.pool after.pool memory.table
    after.table (record { rc = after.rc; collision = after.collision }) memory.limit no_memory
    refl).at_most

resized_number :
    (w : Store) (call : Hcall) (args : List ℕ)
    → (run_resize w call args).1.memory.table.number ≤ w.memory.table.number + 1
unfolding run_resize
resized_number w calls.Prepare args =
    let same = prepared_number w.memory (slice_index args 0) (slice_index args 1) in
    omega (arith, same)
resized_number w calls.Commit args =
    committed_number w.memory (slice_index args 0) (slice_index args 1)
resized_number w other args = omega arith

quiet_number :
    (w : Store) (act : Act)
    → (run_quiet_line w act).1.memory.table.number ≤ w.memory.table.number + 1
unfolding run_quiet_line
quiet_number w (acts.Call number args spelt) = resized_number w (hcall_of number) args
quiet_number w other = omega arith

-- ---- what a line leaves of its partition's run
-- It has as many processors, and its table's number rises by one at most.
pub record Counts (w after : Store) : Type 0 where
  pub cpus : length after.processors ≡ length w.processors
  pub number : after.memory.table.number ≤ w.memory.table.number + 1

pub line_counts : (w : Store) (l : TraceLine) → Counts w (run_on w l).1
unfolding run_on
line_counts w l = at (cases_Bool (is_quiet l.act)) where
  moved : (x : Reply × List State) → Counts w (with_result w l x).1
  moved x =
      record {
        cpus = processors_size w.processors (record { line = l; reply = x.0 });
        number = omega arith;
      }

  at : (is_quiet l.act ≡ true) ⊎ (is_quiet l.act ≡ false) → Counts w (run_on w l).1
  at (inl quiet) = rw quiet (record { cpus = quiet_size w l.act; number = quiet_number w l.act })
  at (inr loud) =
      rw loud
      (moved (line_result (context_of w) (processor_at w.processors l.cpu) (states_of w) l.act))

-- ---- what the turns of a set keep
-- Each partition has its processors, and there were at most so many tables before its own.
pub record IsReady (s : AcceptedSet) (w : SetState) (n : ℕ) : Type 0 where
  pub count : length w.members ≡ length s.partitions
  pub cpus :
      (k : ℕ)
      → k < length s.partitions
      → length (member_at w k).processors ≡ (partition_at s k).trace.config.cpus
  pub number : (k : ℕ) → (member_at w k).table.number ≤ n

-- One partition is put in.
put_in :
    (P : MemberState → Type 0) (members : List MemberState) (k j : ℕ) (m : MemberState)
    → k < length members
    → (j ≡ k → P m)
    → P (get_or members j no_member)
    → P (get_or (slice_set members k m) j no_member)
put_in P members k j m inside own other = at (cases_Bool (eqb j k)) where
  at : (eqb j k ≡ true) ⊎ (eqb j k ≡ false) → P (get_or (slice_set members k m) j no_member)
  at (inl e) =
      let same : j ≡ k = eqb-true j k e in
      subst (λ i. P (get_or (slice_set members k m) i no_member)) (sym same)
      (subst P (sym (get_or-set_same members k m no_member inside)) (own same))
  at (inr e) =
      let apart : j ≢ k = λ same. (let yes : eqb j k ≡ true = eq-eqb j k same in cc) in
      subst P (sym (get_or-set_other members k j m no_member apart)) other

pub line_ready :
    (s : AcceptedSet) (w : SetState) (n k : ℕ) (l : TraceLine)
    → k < length w.members
    → IsReady s w n
    → IsReady s (set_line w k l).1 (n + 1)
line_ready s w n k l inside ready =
    let run = with_pool w.pool (member_at w k) in
    let new = without_pool (run_on run l).1 in
    let counts = line_counts run l in
    record {
      count = length-set w.members k new ∙ ready.count;
      cpus =
          λ j low.
          put_in (λ (m : MemberState). length m.processors ≡ (partition_at s j).trace.config.cpus)
          w.members k j new inside
          (λ same.
          counts.cpus
          ∙ subst
          (λ i. length (member_at w i).processors ≡ (partition_at s j).trace.config.cpus)
          same (ready.cpus j low)) (ready.cpus j low);
      number = λ j.
          let old = ready.number k in
          let other = ready.number j in
          put_in (λ (m : MemberState). m.table.number ≤ n + 1) w.members k j new inside
          (λ same. let most = counts.number in omega (arith, most, old)) (omega (arith, other));
    }

opened_cpus :
    (pool : PoolState) (ps : List NumberedTrace) (k : ℕ)
    → k < length ps
    → length (get_or (opening_members pool ps) k no_member).processors
    ≡ (get_or ps k no_partition).trace.config.cpus
opened_cpus pool [] k inside = absurd (omega (arith, inside))
opened_cpus pool (p ∷ ps) zero inside = length-replicate p.trace.config.cpus new_processor
opened_cpus pool (p ∷ ps) (suc k) inside =
    opened_cpus (with_opening pool p.trace.config.order) ps k (omega (arith, inside))

opened_number :
    (pool : PoolState) (ps : List NumberedTrace) (k : ℕ)
    → (get_or (opening_members pool ps) k no_member).table.number ≤ 0
unfolding opening_table
opened_number pool [] k = omega arith
opened_number pool (p ∷ ps) zero = omega arith
opened_number pool (p ∷ ps) (suc k) = opened_number (with_opening pool p.trace.config.order) ps k

pub opening_ready : (s : AcceptedSet) → IsReady s (opening_set s) 0
opening_ready s =
    let pool = no_blocks s.pool_base s.pool_order in
    record {
      count = opening_count pool s.partitions;
      cpus = opened_cpus pool s.partitions;
      number = opened_number pool s.partitions;
    }

-- ---- the next turn
-- The turn's partition and the processor of its line are there, and the table's number is at most
-- n.
pub record MayRun (s : AcceptedSet) (w : SetState) (n : ℕ) (t : Turn) : Type 0 where
  pub inside : t.partition < length w.members
  pub cpu : (line_of s t).cpu < length (member_at w t.partition).processors
  pub number : (member_at w t.partition).table.number ≤ n

pub may_run :
    (s : AcceptedSet) (w : SetState) (n : ℕ) (t : Turn)
    → IsAcceptedSet s
    → IsReady s w n
    → Contains s.turns t
    → MayRun s w n t
may_run s w n t is ready here =
    let inside = turn_inside s t is here in
    record {
      inside = subst (λ m. t.partition < m) (sym ready.count) inside;
      cpu =
          subst (λ m. (line_of s t).cpu < m) (sym (ready.cpus t.partition inside))
          (line_cpu s t is here);
      number = ready.number t.partition;
    }

pub turn_ready :
    (s : AcceptedSet) (w new : SetState) (n : ℕ) (t : Turn) (r : Reply)
    → MayRun s w n t
    → IsReady s w n
    → in_set r new ≡ set_line w t.partition (line_of s t)
    → IsReady s new (n + 1)
turn_ready s w new n t r may ready moved =
    subst (λ (v : SetState). IsReady s v (n + 1)) (sym (ap (λ (x : Reply × SetState). x.1) moved))
    (line_ready s w n t.partition (line_of s t) may.inside ready)

-- ---- the replies
pub replies_go_on :
    (s : AcceptedSet) (w new : SetState) (turns : List Turn) (i : ℕ) (d : Turn) (r : Reply)
    (front all : List Reply)
    → i < length turns
    → in_set r new ≡ set_line w (get_or turns i d).partition (line_of s (get_or turns i d))
    → front ++ replies_from s w (drop i turns) ≡ all
    → (front ++ r ∷ []) ++ replies_from s new (drop (i + 1) turns) ≡ all
replies_go_on s w new turns i d r front all within reply told =
    append_assoc front (r ∷ []) (replies_from s new (drop (i + 1) turns))
    ∙ ap (λ (z : Reply × SetState). front ++ z.0 ∷ replies_from s z.1 (drop (i + 1) turns)) reply
    ∙ ap (λ z. front ++ z) (sym (at_drop_more (λ ts. replies_from s w ts) turns i d within)) ∙ told

-- ---- the text
-- The text of one turn's reply.
abbrev pub turn_text : AcceptedSet → Turn → Reply → List ℕ
turn_text s t r = numbered_reply (partition_at s t.partition).number (line_of s t) r

pub run_text_goes_on :
    (s : AcceptedSet) (w new : SetState) (turns : List Turn) (i : ℕ) (d : Turn) (r : Reply)
    (out next all : List ℕ)
    → i < length turns
    → in_set r new ≡ set_line w (get_or turns i d).partition (line_of s (get_or turns i d))
    → next ≡ out ++ turn_text s (get_or turns i d) r
    → out ++ text_from s (drop i turns) (replies_from s w (drop i turns)) ≡ all
    → next ++ text_from s (drop (i + 1) turns) (replies_from s new (drop (i + 1) turns)) ≡ all
run_text_goes_on s w new turns i d r out next all within reply put told =
    let t = get_or turns i d in
    let rest = drop (i + 1) turns in
    ap (λ z. z ++ text_from s rest (replies_from s new rest)) put
    ∙ append_assoc out (turn_text s t r) (text_from s rest (replies_from s new rest))
    ∙ ap
    (λ (z : Reply × SetState).
    out ++ (turn_text s t z.0 ++ text_from s rest (replies_from s z.1 rest))) reply
    ∙ ap (λ z. out ++ z)
    (sym (at_drop_more (λ ts. text_from s ts (replies_from s w ts)) turns i d within))
    ∙ told
