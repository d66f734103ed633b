-- The receipts of a hypervisor call that is refused leave their entries, except for pairs that a
-- bulk removal has removed.
use Rattle.std.specs.Prelude.{nat_lt, ◌==◌, ◌||◌, ◌+◌, if◌then◌else◌, map, flat_map, MatchBool}
use Rattle.std.specs.Option.{option_map_or}
use Rattle.std.proofs.Common.{◌≡◌, ℕ, List, [], ◌∷◌, Bool, true, false, ap, sym, ◌∙◌, refl, subst, ◌⊎◌, inl, inr, Option, Some, None}
use Rattle.std.specs.List.{AllByRecursion}
use Rattle.std.proofs.lemmas.Bool.{cases_Bool, cond_both, false≢true}
use Rattle.papr_codes.specs.declared.calls.Hcall.{Hcall}
use Rattle.papr_codes.specs.declared.codes.Rc.{Rc}
use Rattle.hpte_fields.specs.TableSize.{entry_count}
use Rattle.frame_grants.specs.declared.grant.Grant.{Grant}
use Rattle.bus_window.specs.Windows.{BusWindow, entry_at}
use Rattle.dma_window.specs.Calls.{code_of as code_of_answer, code_by_last, clear_plan, replace_plan, put_plan_at, get_plan_at, put_tce_plan, get_tce_plan}
use Rattle.dma_window.specs.Entries.{address_of, permits, first_word, second_word as second_word_of_tce}
use Rattle.dma_window.specs.Pages.{is_ram}
use Rattle.entry_model.specs.State.{State, empty_state}
use Rattle.entry_model.specs.declared.operation.Answer.{Answer}
use Rattle.entry_model.specs.declared.operation.Op.{Op}
use Rattle.entry_model.specs.declared.operation.Test.{Test}
use Rattle.entry_model.specs.declared.receipt.Receipt.{Receipt}
use Rattle.entry_model.specs.declared.hreply.HReply.{HReply}
use Rattle.entry_model.specs.Receipt.{after_of, is_at, is_change, is_taken, is_worn}
use Rattle.entry_model.specs.Reply.{reply_of, change_to, is_found, no_test}
use Rattle.entry_model.specs.Trial.{Call, IsTrial, Plan, IsReplyOf, plan_of_code, call}
use Rattle.page_grants.specs.Suited.{entered_words}
use Rattle.call_plan.specs.Checks.{h_enter_plan, words_plan}
use Rattle.call_plan.specs.Enter.{candidates, enter_plan, enter_told, told_by_ending}
use Rattle.call_plan.specs.Bulk.{h_bulk_remove_plan}
use Rattle.call_plan.specs.Single.{both_words, second_word, code_and_words, told_by, single_plan, remove_test, protect_test, h_remove_plan, h_protect_plan, h_clear_ref_plan, h_clear_mod_plan, h_read_plan, read_entries}
use Rattle.call_plan.proofs.BulkCodes.{IsBulkCode, bulk_code}
use Rattle.call_plan.proofs.RemovedChanges.{ShowsRemoved, removals_shown}
use Rattle.run_model.specs.StoreContexts.{StoreContext}
use Rattle.run_model.specs.LineReplies.{put_plan, get_plan, hcall_plan}
use Rattle.run_model.specs.RefusedCalls.{is_refusal, is_removed, keeps_removals, LeavesEntry}
use Rattle.basics.proofs.Each.{each_map}
use Rattle.papr_codes.specs.declared.calls.Hcall.TheVariants as calls
use Rattle.papr_codes.specs.declared.codes.Rc.TheVariants as rc
use Rattle.entry_model.specs.declared.operation.Answer.TheVariants as answers
use Rattle.entry_model.specs.declared.operation.Op.TheVariants as ops
use Rattle.basics.proofs.Bools.{no_more}
use Rattle.entry_model.proofs.Trials.{not_worn}
use Rattle.entry_model.proofs.Replied.{Replied, replied, left, changed, accessed}

-- ---- answers that leave the entry
-- The answer comes with other words or with other bits.
abbrev is_effect : Answer → Bool
is_effect a = is_change a || is_at a

-- The state stands, where the answer has no effect.
reply_stands : (s : State) (op : Op) → is_effect (reply_of s op).0 ≡ false → (reply_of s op).1 ≡ s
reply_stands s op = at (replied s op) where
  at : {op : Op} {x : Answer × State} → Replied s op x → is_effect x.0 ≡ false → x.1 ≡ s
  at (left a is) off = refl
  at (changed a next changes is) off =
      let never : true ≡ false = rw is.change at off in absurd (false≢true (sym never))
  at (accessed tag base key no_execute want masks valid) off = absurd (false≢true (sym off))

-- ---- receipts
-- The receipt leaves its entry.
abbrev pub IsWithout : Receipt → Type 0
IsWithout r = is_effect r.answer ≡ false

abbrev AreWithout : List Receipt → Type 0
AreWithout rs = AllByRecursion IsWithout rs

leaves : (keeps : Bool) (r : Receipt) → after_of r ≡ r.before → LeavesEntry keeps r
leaves true r stands = λ _. stands
leaves false r stands = stands

without_leaves :
    (keeps : Bool) (rs : List Receipt) → AreWithout rs → AllByRecursion (LeavesEntry keeps) rs
without_leaves keeps rs h =
    each_map IsWithout (LeavesEntry keeps) rs
    (λ r off. leaves keeps r (reply_stands r.before r.op (ap is_effect (sym r.lawful) ∙ off))) h

none_made : (goes : Answer → Bool) (rs : List Receipt) → IsTrial goes [] rs → AreWithout rs
none_made goes [] trial = tt
none_made goes (r ∷ rs) trial = absurd trial

-- ---- H_ENTER
taken_without : (answer : Answer) → is_taken answer ≡ true → is_effect answer ≡ false
taken_without answers.Taken on = refl
taken_without other on = cc

worn_without : (answer : Answer) → is_worn answer ≡ true → is_effect answer ≡ false
worn_without answers.Worn on = refl
worn_without other on = cc

ending_without : (r : Receipt) → is_refusal (told_by_ending (Some r)).0 ≡ true → IsWithout r
ending_without r refused = at (cases_Bool (is_worn r.answer)) where
  at : (is_worn r.answer ≡ true) ⊎ (is_worn r.answer ≡ false) → IsWithout r
  at (inl worn) = worn_without r.answer worn
  at (inr fine) = let no : false ≡ true = rw fine at refused in absurd (false≢true no)

entered_without :
    (cs : List Call) (rs : List Receipt)
    → IsTrial is_taken cs rs
    → is_refusal (enter_told rs).0 ≡ true
    → AreWithout rs
entered_without cs [] trial refused = tt
entered_without [] (r ∷ rs) trial refused = absurd trial
entered_without (c ∷ cs) (r ∷ rs) trial refused =
    elim (cases_Bool (is_taken r.answer)) [
      | inl taken ↦ (
        taken_without r.answer taken,
        entered_without cs rs (rw taken at trial.1) (rw taken at refused),
      )
      | inr ended ↦
          (let none : rs ≡ [] = rw ended at trial.1 in
          (ending_without r (rw ended at refused), subst AreWithout (sym none) tt))
    ]

-- The receipts of a refused reply of this plan leave their entries.
abbrev RefusedWithout : Plan → Type 0
RefusedWithout plan =
    (reply : HReply) → IsReplyOf plan reply → is_refusal reply.rc ≡ true → AreWithout reply.receipts

code_of :
    (plan : Plan) (reply : HReply)
    → IsReplyOf plan reply
    → is_refusal reply.rc ≡ true
    → is_refusal (plan.told reply.receipts).0 ≡ true
code_of plan reply is refused = ap (λ (x : Rc × List ℕ). is_refusal x.0) (sym is.told) ∙ refused

answered_without : (code : Rc) → RefusedWithout (plan_of_code code)
answered_without code reply is refused = none_made (λ answer. true) reply.receipts is.trial

tried_without :
    (flags ptex dword0 dword1 : ℕ) → RefusedWithout (enter_plan flags ptex dword0 dword1)
tried_without flags ptex dword0 dword1 reply is refused =
    entered_without (map (call (ops.Enter dword0 dword1)) (candidates flags ptex)) reply.receipts
    is.trial (code_of (enter_plan flags ptex dword0 dword1) reply is refused)

words_without :
    (flags ptex : ℕ) (words : Option (ℕ × ℕ)) → RefusedWithout (words_plan flags ptex words)
words_without flags ptex None = answered_without rc.Parameter
words_without flags ptex (Some w) = tried_without flags ptex w.0 w.1

enter_without :
    (order : ℕ) (grants : List Grant) (flags ptex pteh ptel : ℕ)
    → RefusedWithout (h_enter_plan order grants flags ptex pteh ptel)
unfolding h_enter_plan
enter_without order grants flags ptex pteh ptel =
    cond_both (nat_lt ptex (entry_count order))
    (words_plan flags ptex (entered_words grants pteh ptel)) (plan_of_code rc.Parameter)
    RefusedWithout (λ _. words_without flags ptex (entered_words grants pteh ptel))
    (λ _. answered_without rc.Parameter)

-- ---- calls on one entry
coded_without :
    (answer : Answer) (words : List ℕ)
    → is_refusal (code_and_words answer words).0 ≡ true
    → is_effect answer ≡ false
coded_without answers.NotFound words refused = refl
coded_without answers.Worn words refused = refl
coded_without other words refused = cc

one_without :
    (op : Op) (ptex : ℕ) (words : Receipt → List ℕ)
    → RefusedWithout
    (record { calls = call op ptex ∷ []; goes_on = λ answer. true; told = told_by words })
one_without op ptex words reply is refused =
    at reply.receipts is.trial (code_of _ reply is refused) where
      at :
          (rs : List Receipt)
          → IsTrial (λ answer. true) (call op ptex ∷ []) rs
          → is_refusal (told_by words rs).0 ≡ true
          → AreWithout rs
      at [] trial told = tt
      at (r ∷ []) trial told = (coded_without r.answer (words r) told, tt)
      at (r ∷ x ∷ rs) trial told = absurd trial.1

single_without :
    (order ptex : ℕ) (op : Op) (words : Receipt → List ℕ)
    → RefusedWithout (single_plan order ptex op words)
single_without order ptex op words =
    cond_both (nat_lt ptex (entry_count order))
    (record { calls = call op ptex ∷ []; goes_on = λ answer. true; told = told_by words })
    (plan_of_code rc.Parameter) RefusedWithout (λ _. one_without op ptex words)
    (λ _. answered_without rc.Parameter)

read_without : (order flags ptex : ℕ) → RefusedWithout (h_read_plan order flags ptex)
unfolding h_read_plan
read_without order flags ptex =
    cond_both (nat_lt ptex (entry_count order))
    (record {
      calls = map (call ops.Read) (read_entries flags ptex);
      goes_on = λ answer. true;
      told = λ rs. (rc.Success, flat_map both_words rs);
    }) (plan_of_code rc.Parameter) RefusedWithout
    (λ _ reply is refused. absurd (false≢true (code_of _ reply is refused)))
    (λ _. answered_without rc.Parameter)

-- ---- H_BULK_REMOVE
-- A refused one has a code with which removals are kept.
refused_keeps :
    (code : Rc)
    → IsBulkCode code
    → is_refusal code ≡ true
    → keeps_removals calls.BulkRemove code ≡ true
refused_keeps code (inl success) refused = let no :
    false ≡ true = subst (λ c. is_refusal c ≡ true) success refused in absurd (false≢true no)
refused_keeps code (inr (inl parameter)) refused = ap (keeps_removals calls.BulkRemove) parameter
refused_keeps code (inr (inr hardware)) refused = ap (keeps_removals calls.BulkRemove) hardware

removal_stands :
    (s : State) (test : Test)
    → is_removed (reply_of s (ops.Remove test)).0 ≡ false
    → (reply_of s (ops.Remove test)).1 ≡ s
removal_stands s test =
    let Stands : Answer × State → Type 0 = λ x. is_removed x.0 ≡ false → x.1 ≡ s in
    cond_both (is_found s test) (change_to s answers.Removed (empty_state 0)) (answers.NotFound, s)
    Stands
    (λ _.
    cond_both (s.stamp == 0xFFFFFFFF) (answers.Worn, s) (answers.Removed, empty_state (s.stamp + 1))
    Stands (λ _ _. refl) (λ _ off. absurd (false≢true (sym off))))
    (λ _ _. refl)

removed_leaves : (r : Receipt) (test : Test) → r.op ≡ ops.Remove test → LeavesEntry true r
removed_leaves r test removal = λ off.
    subst (λ op. is_removed (reply_of r.before op).0 ≡ false → (reply_of r.before op).1 ≡ r.before)
    (sym removal) (removal_stands r.before test) (ap is_removed (sym r.lawful) ∙ off)

bulk_leaves :
    (order : ℕ) (args : List ℕ) (reply : HReply)
    → IsReplyOf (h_bulk_remove_plan order args) reply
    → is_refusal reply.rc ≡ true
    → AllByRecursion (LeavesEntry (keeps_removals calls.BulkRemove reply.rc)) reply.receipts
bulk_leaves order args reply is refused =
    subst (λ keeps. AllByRecursion (LeavesEntry keeps) reply.receipts)
    (sym (refused_keeps reply.rc (bulk_code order args reply is) refused))
    (each_map (ShowsRemoved reply.words) (LeavesEntry true) reply.receipts
    (λ r shown. removed_leaves r shown.test shown.op) (removals_shown order args reply is))

-- ---- H_GET_TCE
got_without :
    (entry : Option ℕ)
    → RefusedWithout (option_map_or get_plan_at entry (plan_of_code rc.Parameter))
got_without None = answered_without rc.Parameter
got_without (Some entry) =
    λ reply is refused. absurd (false≢true (code_of (get_plan_at entry) reply is refused))

get_without : (window : Option BusWindow) (ioba : ℕ) → RefusedWithout (get_plan window ioba)
unfolding get_tce_plan
get_without None ioba = answered_without rc.Parameter
get_without (Some w) ioba = got_without (entry_at w ioba)

-- ---- H_PUT_TCE
-- A code that refuses comes with no change of the last receipt's, and with it removals are kept.
coded_by_tce :
    (answer : Answer)
    → is_refusal (code_of_answer answer) ≡ true
    → (is_effect answer ≡ false) × (keeps_removals calls.PutTce (code_of_answer answer) ≡ true)
coded_by_tce answers.Worn refused = (refl, refl)
coded_by_tce answers.Taken refused = (refl, refl)
coded_by_tce other refused = absurd (false≢true refused)

last_keeps :
    (rs : List Receipt)
    → is_refusal (code_by_last rs) ≡ true
    → keeps_removals calls.PutTce (code_by_last rs) ≡ true
last_keeps [] refused = absurd (false≢true refused)
last_keeps (r ∷ []) refused = (coded_by_tce r.answer refused).1
last_keeps (r ∷ x ∷ rs) refused = last_keeps (x ∷ rs) refused

last_leaves : (r : Receipt) → is_refusal (code_of_answer r.answer) ≡ true → LeavesEntry true r
last_leaves r refused = (without_leaves true (r ∷ []) ((coded_by_tce r.answer refused).0, tt)).0

no_third :
    (goes : Bool) (entry : ℕ) (op : Op) (x y : Receipt) (rs : List Receipt)
    → MatchBool goes (IsTrial not_worn (call op entry ∷ []) (x ∷ y ∷ rs)) ((x ∷ y ∷ rs) ≡ [])
    → ⊥
no_third true entry op x y rs h = no_more (not_worn x.answer) y rs h.1
no_third false entry op x y rs h = cc

cleared_leave :
    (entry : ℕ) (rs : List Receipt)
    → IsTrial not_worn (clear_plan entry).calls rs
    → is_refusal (code_by_last rs) ≡ true
    → AllByRecursion (LeavesEntry true) rs
cleared_leave entry [] trial refused = tt
cleared_leave entry (r ∷ []) trial refused = (last_leaves r refused, tt)
cleared_leave entry (r ∷ x ∷ rs) trial refused = absurd (no_more (not_worn r.answer) x rs trial.1)

replaced_leave :
    (entry : ℕ) (op : Op) (rs : List Receipt)
    → IsTrial not_worn (replace_plan entry op).calls rs
    → is_refusal (code_by_last rs) ≡ true
    → AllByRecursion (LeavesEntry true) rs
replaced_leave entry op [] trial refused = tt
replaced_leave entry op (r ∷ []) trial refused = (last_leaves r refused, tt)
replaced_leave entry op (r ∷ x ∷ []) trial refused =
    (removed_leaves r no_test trial.0.op, (last_leaves x refused, tt))
replaced_leave entry op (r ∷ x ∷ y ∷ rs) trial refused =
    absurd (no_third (not_worn r.answer) entry op x y rs trial.1)

-- A refused reply of this plan leaves the entries of its receipts, except for removals that its
-- code keeps.
abbrev PutLeaves : Plan → Type 0
PutLeaves plan =
    (reply : HReply)
    → IsReplyOf plan reply
    → is_refusal reply.rc ≡ true
    → AllByRecursion (LeavesEntry (keeps_removals calls.PutTce reply.rc)) reply.receipts

by_last :
    (reply : HReply)
    → reply.rc ≡ code_by_last reply.receipts
    → is_refusal reply.rc ≡ true
    →
    (is_refusal (code_by_last reply.receipts) ≡ true
    → AllByRecursion (LeavesEntry true) reply.receipts)
    → AllByRecursion (LeavesEntry (keeps_removals calls.PutTce reply.rc)) reply.receipts
by_last reply same refused leave =
    let last : is_refusal (code_by_last reply.receipts) ≡ true = subst
    (λ code. is_refusal code ≡ true) same refused in
    subst (λ keeps. AllByRecursion (LeavesEntry keeps) reply.receipts)
    (sym (ap (keeps_removals calls.PutTce) same ∙ last_keeps reply.receipts last)) (leave last)

put_leaves :
    (permitted ram : Bool) (entry : ℕ) (op : Op)
    → PutLeaves
    (if permitted then (if ram then replace_plan entry op else plan_of_code rc.Parameter) else
    clear_plan entry)
put_leaves true true entry op reply is refused =
    by_last reply (ap (λ (x : Rc × List ℕ). x.0) is.told) refused
    (replaced_leave entry op reply.receipts is.trial)
put_leaves true false entry op reply is refused =
    without_leaves _ reply.receipts (answered_without rc.Parameter reply is refused)
put_leaves false ram entry op reply is refused =
    by_last reply (ap (λ (x : Rc × List ℕ). x.0) is.told) refused
    (cleared_leave entry reply.receipts is.trial)

put_at_leaves :
    (grants : List Grant) (tce : ℕ) (entry : Option ℕ)
    → PutLeaves (option_map_or (put_plan_at grants tce) entry (plan_of_code rc.Parameter))
put_at_leaves grants tce None reply is refused =
    without_leaves _ reply.receipts (answered_without rc.Parameter reply is refused)
put_at_leaves grants tce (Some entry) reply is refused =
    put_leaves (permits tce false || permits tce true) (is_ram grants (address_of tce)) entry
    (ops.Enter (first_word tce) (second_word_of_tce tce)) reply is refused

put_tce_leaves :
    (grants : List Grant) (window : Option BusWindow) (ioba tce : ℕ)
    → PutLeaves (put_plan grants window ioba tce)
unfolding put_tce_plan
put_tce_leaves grants None ioba tce reply is refused =
    without_leaves _ reply.receipts (answered_without rc.Parameter reply is refused)
put_tce_leaves grants (Some w) ioba tce reply is refused =
    put_at_leaves grants tce (entry_at w ioba) reply is refused

-- ---- each call
pub hcall_leaves :
    (context : StoreContext) (h : Hcall) (args : List ℕ) (reply : HReply)
    → IsReplyOf (hcall_plan context h args) reply
    → is_refusal reply.rc ≡ true
    → AllByRecursion (LeavesEntry (keeps_removals h reply.rc)) reply.receipts
unfolding hcall_plan h_remove_plan h_protect_plan h_clear_ref_plan h_clear_mod_plan
hcall_leaves context calls.Enter args reply is refused =
    without_leaves false reply.receipts
    (enter_without context.order context.grants _ _ _ _ reply is refused)
hcall_leaves context calls.Remove args reply is refused =
    without_leaves false reply.receipts
    (single_without context.order _ (ops.Remove (remove_test _ _)) both_words reply is refused)
hcall_leaves context calls.Protect args reply is refused =
    without_leaves false reply.receipts
    (single_without context.order _ (ops.Protect (protect_test _ _) _) (λ r. []) reply is
    refused)
hcall_leaves context calls.Read args reply is refused =
    without_leaves false reply.receipts (read_without context.order _ _ reply is refused)
hcall_leaves context calls.ClearRef args reply is refused =
    without_leaves false reply.receipts
    (single_without context.order _ ops.ClearRef second_word reply is refused)
hcall_leaves context calls.ClearMod args reply is refused =
    without_leaves false reply.receipts
    (single_without context.order _ ops.ClearMod second_word reply is refused)
hcall_leaves context calls.BulkRemove args reply is refused =
    bulk_leaves context.order args reply is refused
hcall_leaves context calls.GetTce args reply is refused =
    without_leaves false reply.receipts (get_without context.window _ reply is refused)
hcall_leaves context calls.PutTce args reply is refused =
    put_tce_leaves context.grants context.window _ _ reply is refused
hcall_leaves context other args reply is refused =
    without_leaves false reply.receipts (answered_without rc.Function reply is refused)
