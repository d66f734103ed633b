-- The operations of a hypervisor call: what is kept of each of them, and how many there are.
use Rattle.std.proofs.Common.{◌≡◌, ℕ, ◌≤◌, List, [], ◌∷◌, Bool, true, false, ap, ◌∙◌, refl, map, length, arith, Option, Some, None}
use Rattle.std.specs.Prelude.{nat_lt, ◌*◌, ◌/◌, ◌||◌, ◌==◌, slice_index}
use Rattle.std.specs.List.{AllByRecursion, range_with_len}
use Rattle.std.specs.Option.{option_map_or}
use Rattle.std.proofs.lemmas.Bool.{cond_both}
use Rattle.std.proofs.lemmas.List.{length-map}
use Rattle.papr_codes.specs.FlagBits.{has_flag, h_exact, h_read_4}
use Rattle.papr_codes.specs.declared.calls.Hcall.{Hcall}
use Rattle.papr_codes.specs.declared.calls.Hcall.TheVariants as calls
use Rattle.papr_codes.specs.declared.codes.Rc.TheVariants as rc
use Rattle.bus_window.specs.Windows.{BusWindow, entry_at}
use Rattle.dma_window.specs.Calls.{clear_plan, replace_plan, put_plan_at, get_plan_at, put_tce_plan, get_tce_plan}
use Rattle.dma_window.specs.Entries.{address_of, permits, first_word, second_word}
use Rattle.dma_window.specs.Pages.{is_ram}
use Rattle.entry_model.specs.State.{State, empty_state}
use Rattle.entry_model.specs.Reply.{reply_of, change_to, entered_state, is_found, no_test}
use Rattle.entry_model.specs.declared.operation.Answer.{Answer}
use Rattle.entry_model.specs.declared.operation.Answer.TheVariants as answers
use Rattle.entry_model.specs.declared.operation.Op.{Op}
use Rattle.entry_model.specs.declared.operation.Op.TheVariants as ops
use Rattle.entry_model.specs.declared.receipt.Receipt.{Receipt}
use Rattle.entry_model.specs.Trial.{Call, call, Plan, plan_of_code}
use Rattle.hpte_fields.specs.Fields.{normal_words}
use Rattle.hpte_fields.specs.TableSize.{entry_count, group_size}
use Rattle.frame_grants.specs.declared.grant.Grant.{Grant}
use Rattle.call_plan.specs.Enter.{candidates}
use Rattle.page_grants.specs.Suited.{suits_grants, suited_words, entered_words}
use Rattle.call_plan.specs.Checks.{words_plan, h_enter_plan}
use Rattle.call_plan.proofs.Tame.{h_bulk_remove_each}
use Rattle.call_plan.specs.Single.{single_plan, h_remove_plan, h_protect_plan, h_clear_ref_plan, h_clear_mod_plan, read_entries, h_read_plan}
use Rattle.call_plan.specs.Bulk.{pairs_of, h_bulk_remove_plan}
use Rattle.run_model.specs.StoreContexts.{StoreContext}
use Rattle.run_model.specs.LineReplies.{put_plan, get_plan, hcall_plan}
use Rattle.history_check.specs.Steps.{step_op, unless_worn, ops_of}
use Rattle.history_check.specs.PlacedSteps.{enter_op, tce_op, call_op}
use Rattle.history_check.proofs.Alike.{is_store_access}
use Rattle.call_plan.proofs.RemovalCalls.{calls_few, pairs_few}

-- ---- what is kept
-- The operation is a store or none, and however it is answered, what is kept of it is what is
-- stated for that answer.
pub record Keeps (store : Bool) (told : Answer → Op) (op : Op) : Type 0 where
  pub stores : is_store_access (step_op op) ≡ store
  pub each :
      (s : State)
      → unless_worn (reply_of s op).0 (step_op op)
      ≡ unless_worn (reply_of s op).0 (told (reply_of s op).0)

-- What is kept of each operation of these calls, however it is answered, is what is stated for the
-- answer.
abbrev pub AllKeep : Bool → (Answer → Op) → List Call → Type 0
AllKeep store told cs = AllByRecursion (λ (c : Call). Keeps store told c.op) cs

pub keeps :
    (store : Bool) (o op : Op)
    → step_op op ≡ o
    → is_store_access o ≡ store
    → Keeps store (λ answer. o) op
keeps store o op h k =
    record { stores = ap is_store_access h ∙ k; each = λ s. ap (unless_worn (reply_of s op).0) h }

pub each_keeps :
    (store : Bool) (o op : Op) (entries : List ℕ)
    → step_op op ≡ o
    → is_store_access o ≡ store
    → AllKeep store (λ answer. o) (map (call op) entries)
each_keeps store o op [] h k = tt
each_keeps store o op (e ∷ es) h k = (keeps store o op h k, each_keeps store o op es h k)

single_keeps :
    (o : Op) (order ptex : ℕ) (op : Op) (words : Receipt → List ℕ)
    → step_op op ≡ o
    → is_store_access o ≡ false
    → AllKeep false (λ answer. o) (single_plan order ptex op words).calls
single_keeps o order ptex op words h k =
    cond_both (nat_lt ptex (entry_count order)) _ (plan_of_code rc.Parameter)
    (λ (p : Plan). AllKeep false (λ answer. o) p.calls) (λ _. (keeps false o op h k, tt))
    (λ _. tt)

words_keep :
    (grants : List Grant) (flags ptex : ℕ) (w : Option (ℕ × ℕ))
    → AllKeep false (λ answer. enter_op w) (words_plan flags ptex (suited_words grants w)).calls
words_keep grants flags ptex None = tt
words_keep grants flags ptex (Some w) =
    cond_both (suits_grants grants w.0 w.1) (Some w) None
    (λ (o : Option (ℕ × ℕ)).
    AllKeep false (λ answer. ops.Enter w.0 w.1) (words_plan flags ptex o).calls)
    (λ _.
    each_keeps false (ops.Enter w.0 w.1) (ops.Enter w.0 w.1) (candidates flags ptex) refl refl)
    (λ _. tt)

enter_keeps :
    (order : ℕ) (grants : List Grant) (flags ptex pteh ptel : ℕ)
    → AllKeep false (λ answer. enter_op (normal_words pteh ptel))
    (h_enter_plan order grants flags ptex pteh ptel).calls
unfolding h_enter_plan
enter_keeps order grants flags ptex pteh ptel =
    cond_both (nat_lt ptex (entry_count order))
    (words_plan flags ptex (entered_words grants pteh ptel)) (plan_of_code rc.Parameter)
    (λ (p : Plan). AllKeep false (λ answer. enter_op (normal_words pteh ptel)) p.calls)
    (λ _. words_keep grants flags ptex (normal_words pteh ptel)) (λ _. tt)

read_keeps :
    (order flags ptex : ℕ) → AllKeep false (λ answer. ops.Read) (h_read_plan order flags ptex).calls
unfolding h_read_plan
read_keeps order flags ptex =
    cond_both (nat_lt ptex (entry_count order)) _ (plan_of_code rc.Parameter)
    (λ (p : Plan). AllKeep false (λ answer. ops.Read) p.calls)
    (λ _. each_keeps false ops.Read ops.Read (read_entries flags ptex) refl refl) (λ _. tt)

-- The two operations by which a TCE is put: each has answers of its own.
abbrev IsTold : ℕ → Op → Answer × State → Type 0
IsTold tce op x = unless_worn x.0 op ≡ unless_worn x.0 (tce_op tce x.0)

removal_keeps : (tce : ℕ) → Keeps false (tce_op tce) (ops.Remove no_test)
removal_keeps tce =
    record {
      stores = refl;
      each =
          λ s.
          let P : Answer × State → Type 0 = IsTold tce (ops.Remove no_test) in
          cond_both (is_found s no_test) (change_to s answers.Removed (empty_state 0))
          (answers.NotFound, s) P
          (λ _. cond_both (s.stamp == 0xFFFFFFFF) _ _ P (λ _. refl) (λ _. refl))
          (λ _. refl);
    }

entering_keeps : (tce : ℕ) → Keeps false (tce_op tce) (ops.Enter (first_word tce) (second_word tce))
entering_keeps tce =
    let a = first_word tce in
    let b = second_word tce in
    record {
      stores = refl;
      each =
          λ s.
          let P : Answer × State → Type 0 = IsTold tce (ops.Enter a b) in
          cond_both s.valid (answers.Taken, s) (change_to s answers.Entered (entered_state a b)) P
          (λ _. refl) (λ _. cond_both (s.stamp == 0xFFFFFFFF) _ _ P (λ _. refl) (λ _. refl));
    }

put_at_keeps :
    (grants : List Grant) (tce : ℕ) (entry : Option ℕ)
    → AllKeep false (tce_op tce)
    (option_map_or (put_plan_at grants tce) entry (plan_of_code rc.Parameter)).calls
put_at_keeps grants tce None = tt
put_at_keeps grants tce (Some entry) =
    let op = ops.Enter (first_word tce) (second_word tce) in
    cond_both (permits tce false || permits tce true) _ (clear_plan entry)
    (λ (p : Plan). AllKeep false (tce_op tce) p.calls)
    (λ _.
    cond_both (is_ram grants (address_of tce)) (replace_plan entry op)
    (plan_of_code rc.Parameter) (λ (p : Plan). AllKeep false (tce_op tce) p.calls)
    (λ _. (removal_keeps tce, (entering_keeps tce, tt))) (λ _. tt))
    (λ _. (removal_keeps tce, tt))

put_keeps :
    (grants : List Grant) (window : Option BusWindow) (ioba tce : ℕ)
    → AllKeep false (tce_op tce) (put_plan grants window ioba tce).calls
unfolding put_tce_plan
put_keeps grants None ioba tce = tt
put_keeps grants (Some w) ioba tce = put_at_keeps grants tce (entry_at w ioba)

get_at_keeps :
    (entry : Option ℕ)
    → AllKeep false (λ answer. ops.Read)
    (option_map_or get_plan_at entry (plan_of_code rc.Parameter)).calls
get_at_keeps None = tt
get_at_keeps (Some entry) = (keeps false ops.Read ops.Read refl refl, tt)

get_keeps :
    (window : Option BusWindow) (ioba : ℕ)
    → AllKeep false (λ answer. ops.Read) (get_plan window ioba).calls
unfolding get_tce_plan
get_keeps None ioba = tt
get_keeps (Some w) ioba = get_at_keeps (entry_at w ioba)

pub plan_keeps :
    (set : StoreContext) (hcall : Hcall) (args : List ℕ)
    → AllKeep false (call_op hcall args) (hcall_plan set hcall args).calls
unfolding hcall_plan h_remove_plan h_protect_plan h_clear_ref_plan h_clear_mod_plan
plan_keeps set calls.Enter args =
    enter_keeps set.order set.grants (slice_index args 0) (slice_index args 1) (slice_index args 2)
    (slice_index args 3)
plan_keeps set calls.Remove args = single_keeps _ set.order (slice_index args 1) _ _ refl refl
plan_keeps set calls.Protect args = single_keeps _ set.order (slice_index args 1) _ _ refl refl
plan_keeps set calls.Read args = read_keeps set.order (slice_index args 0) (slice_index args 1)
plan_keeps set calls.ClearRef args = single_keeps _ set.order (slice_index args 1) _ _ refl refl
plan_keeps set calls.ClearMod args = single_keeps _ set.order (slice_index args 1) _ _ refl refl
plan_keeps set calls.BulkRemove args =
    h_bulk_remove_each (Keeps false (λ answer. ops.Remove no_test)) set.order args
    (λ test. keeps false (ops.Remove no_test) (ops.Remove test) refl refl)
plan_keeps set calls.PutTce args =
    put_keeps set.grants set.window (slice_index args 1) (slice_index args 2)
plan_keeps set calls.GetTce args = get_keeps set.window (slice_index args 1)
plan_keeps set other args = tt

-- ---- how many
abbrev Few : Plan → Type 0
Few p = length p.calls ≤ 16

single_few :
    (order ptex : ℕ) (op : Op) (words : Receipt → List ℕ) → Few (single_plan order ptex op words)
single_few order ptex op words =
    cond_both (nat_lt ptex (entry_count order)) _ (plan_of_code rc.Parameter) Few (λ _. omega arith)
    (λ _. omega arith)

entries_few :
    (op : Op) (entries : List ℕ) → length entries ≤ 16 → length (map (call op) entries) ≤ 16
entries_few op entries h = omega (arith, length-map entries (call op), h)

candidates_few : (flags ptex : ℕ) → length (candidates flags ptex) ≤ 16
unfolding candidates
candidates_few flags ptex =
    cond_both (has_flag flags h_exact) (range_with_len ptex 1)
    (range_with_len (ptex / group_size * group_size) group_size) (λ (l : List ℕ). length l ≤ 16)
    (λ _. omega arith) (λ _. omega arith)

words_few : (flags ptex : ℕ) (w : Option (ℕ × ℕ)) → Few (words_plan flags ptex w)
words_few flags ptex None = omega arith
words_few flags ptex (Some w) =
    entries_few (ops.Enter w.0 w.1) (candidates flags ptex) (candidates_few flags ptex)

enter_few :
    (order : ℕ) (grants : List Grant) (flags ptex pteh ptel : ℕ)
    → Few (h_enter_plan order grants flags ptex pteh ptel)
unfolding h_enter_plan
enter_few order grants flags ptex pteh ptel =
    cond_both (nat_lt ptex (entry_count order))
    (words_plan flags ptex (entered_words grants pteh ptel)) (plan_of_code rc.Parameter) Few
    (λ _. words_few flags ptex (entered_words grants pteh ptel)) (λ _. omega arith)

read_few : (order flags ptex : ℕ) → Few (h_read_plan order flags ptex)
unfolding h_read_plan
read_few order flags ptex =
    cond_both (nat_lt ptex (entry_count order)) _ (plan_of_code rc.Parameter) Few
    (λ _. entries_few ops.Read (read_entries flags ptex) four) (λ _. omega arith) where
      four : length (read_entries flags ptex) ≤ 16
      four =
          cond_both (has_flag flags h_read_4) (range_with_len (ptex / 4 * 4) 4)
          (range_with_len ptex 1)
          (λ (l : List ℕ). length l ≤ 16) (λ _. omega arith) (λ _. omega arith)

remove_few : (order : ℕ) (words : List ℕ) → length words ≤ 16 → Few (h_bulk_remove_plan order words)
unfolding h_bulk_remove_plan
remove_few order words h = omega (arith, h, calls_few order (pairs_of words), pairs_few words)

put_at_few :
    (grants : List Grant) (tce : ℕ) (entry : Option ℕ)
    → Few (option_map_or (put_plan_at grants tce) entry (plan_of_code rc.Parameter))
put_at_few grants tce None = omega arith
put_at_few grants tce (Some entry) =
    let op = ops.Enter (first_word tce) (second_word tce) in
    cond_both (permits tce false || permits tce true) _ (clear_plan entry) Few
    (λ _.
    cond_both (is_ram grants (address_of tce)) (replace_plan entry op)
    (plan_of_code rc.Parameter) Few (λ _. omega arith) (λ _. omega arith))
    (λ _. omega arith)

put_few :
    (grants : List Grant) (window : Option BusWindow) (ioba tce : ℕ)
    → Few (put_plan grants window ioba tce)
unfolding put_tce_plan
put_few grants None ioba tce = omega arith
put_few grants (Some w) ioba tce = put_at_few grants tce (entry_at w ioba)

get_at_few : (entry : Option ℕ) → Few (option_map_or get_plan_at entry (plan_of_code rc.Parameter))
get_at_few None = omega arith
get_at_few (Some entry) = omega arith

get_few : (window : Option BusWindow) (ioba : ℕ) → Few (get_plan window ioba)
unfolding get_tce_plan
get_few None ioba = omega arith
get_few (Some w) ioba = get_at_few (entry_at w ioba)

plan_few :
    (set : StoreContext) (hcall : Hcall) (args : List ℕ)
    → length args ≤ 16
    → Few (hcall_plan set hcall args)
unfolding hcall_plan h_remove_plan h_protect_plan h_clear_ref_plan h_clear_mod_plan
plan_few set calls.Enter args h =
    enter_few set.order set.grants (slice_index args 0) (slice_index args 1) (slice_index args 2)
    (slice_index args 3)
plan_few set calls.Remove args h = single_few set.order (slice_index args 1) _ _
plan_few set calls.Protect args h = single_few set.order (slice_index args 1) _ _
plan_few set calls.Read args h = read_few set.order (slice_index args 0) (slice_index args 1)
plan_few set calls.ClearRef args h = single_few set.order (slice_index args 1) _ _
plan_few set calls.ClearMod args h = single_few set.order (slice_index args 1) _ _
plan_few set calls.BulkRemove args h = remove_few set.order args h
plan_few set calls.PutTce args h =
    put_few set.grants set.window (slice_index args 1) (slice_index args 2)
plan_few set calls.GetTce args h = get_few set.window (slice_index args 1)
plan_few set other args h = omega arith

-- A hypervisor call has at most sixteen operations.
pub few_ops :
    (set : StoreContext) (hcall : Hcall) (args : List ℕ)
    → length args ≤ 16
    → length (ops_of (hcall_plan set hcall args).calls) ≤ 16
few_ops set hcall args h =
    omega (
      arith,
      length-map (hcall_plan set hcall args).calls (λ (c : Call). c.op),
      plan_few set hcall args h,
    )
