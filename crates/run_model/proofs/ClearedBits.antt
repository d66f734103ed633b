-- The reply that clears a change bit shows it.
use Rattle.std.specs.Prelude.{bit_or, nat_lt, slice_index, flat_map, if◌then◌else◌}
use Rattle.std.proofs.Common.{◌≡◌, ℕ, List, [], ◌∷◌, Bool, true, false, ap, sym, ◌∙◌, refl, subst, ◌⊎◌, inl, inr, map, Option, Some, None}
use Rattle.std.specs.List.{AllByRecursion}
use Rattle.std.proofs.lemmas.Bool.{cases_Bool, cond_both, eq-eqb}
use Rattle.std.proofs.lemmas.Nat.{and_or_self}
use Rattle.papr_codes.specs.declared.calls.Hcall.{Hcall}
use Rattle.papr_codes.specs.declared.codes.Rc.{Rc}
use Rattle.papr_codes.specs.Hcalls.{hcall_of}
use Rattle.hpte_fields.specs.TableSize.{entry_count}
use Rattle.hpte_fields.specs.Fields.{is_changed, with_rc}
use Rattle.frame_grants.specs.declared.grant.Grant.{Grant}
use Rattle.entry_model.specs.declared.operation.Answer.{Answer}
use Rattle.entry_model.specs.declared.operation.Op.{Op}
use Rattle.entry_model.specs.declared.operation.Test.{Test}
use Rattle.entry_model.specs.declared.receipt.Receipt.{Receipt}
use Rattle.entry_model.specs.declared.hreply.HReply.{HReply}
use Rattle.entry_model.specs.Trial.{Call, IsTrial, Plan, IsReplyOf, plan_of_code, call}
use Rattle.entry_model.proofs.PlanBounds.{each_call, trial_ops}
use Rattle.page_grants.specs.Suited.{entered_words}
use Rattle.call_plan.specs.Checks.{h_enter_plan, words_plan}
use Rattle.call_plan.specs.Enter.{candidates}
use Rattle.call_plan.specs.Bulk.{h_bulk_remove_plan}
use Rattle.call_plan.proofs.RemovedChanges.{ShowsRemoved, removals_shown}
use Rattle.call_plan.specs.Single.{both_words, second_word, code_and_words, told_by, single_plan, remove_test, h_remove_plan, h_protect_plan, h_clear_ref_plan, h_clear_mod_plan, h_read_plan, read_entries}
use Rattle.hpt_walk.specs.Access.{AccessContext}
use Rattle.tlb_model.specs.Processor.{Processor}
use Rattle.trace_line.specs.declared.act.Act.{Act}
use Rattle.trace_read.specs.Trace.{AcceptedTrace}
use Rattle.trace_reply.specs.declared.reply.Reply.{Reply}
use Rattle.trace_reply.specs.Replies.{RepliedLine}
use Rattle.run_model.proofs.TableNamed.{IsTable, table_is, all_table}
use Rattle.run_model.specs.StoreContexts.{access_of, table_context}
use Rattle.run_model.specs.Processors.{processor_after, processor_at}
use Rattle.run_model.specs.Histories.{lines_of_processor}
use Rattle.run_model.specs.LineReplies.{hcall_plan, IsCallReply}
use Rattle.run_model.specs.Stores.{context_of}
use Rattle.run_model.specs.Sections.{Section, sections_of}
use Rattle.run_model.specs.GoodRun.{EachLineOfProcessor, CallsAreReplied, IsGoodSection, IsGoodRun}
use Rattle.run_model.specs.ShownStores.{clears_by, ShowsWhatItClears, ShowsClearedBits, ClearedBitsAreShown}
use Rattle.basics.proofs.Each.{each_map, each_both}
use Rattle.papr_codes.specs.declared.calls.Hcall.TheVariants as calls
use Rattle.papr_codes.specs.declared.codes.Rc.TheVariants as rc
use Rattle.entry_model.specs.declared.operation.Answer.TheVariants as answers
use Rattle.entry_model.specs.declared.operation.Op.TheVariants as ops
use Rattle.trace_line.specs.declared.act.Act.TheVariants as acts
use Rattle.trace_reply.specs.declared.reply.Reply.TheVariants as replies

-- ---- calls that clear nothing
-- The operation never clears C.
abbrev NeverClears : Op → Type 0
NeverClears op = (answer : Answer) → clears_by op answer ≡ false

abbrev CallsNeverClear : List Call → Type 0
CallsNeverClear cs = AllByRecursion (λ (c : Call). NeverClears c.op) cs

never_shows :
    (h : Hcall) (words : List ℕ) (r : Receipt) → NeverClears r.op → ShowsWhatItClears h words r
never_shows h words r never clear changed = let clash :
    false ≡ true = sym (never r.answer) ∙ clear in cc

plan_never :
    (h : Hcall) (plan : Plan) (reply : HReply)
    → CallsNeverClear plan.calls
    → IsReplyOf plan reply
    → AllByRecursion (ShowsWhatItClears h reply.words) reply.receipts
plan_never h plan reply never is =
    each_map (λ (r : Receipt). NeverClears r.op) (ShowsWhatItClears h reply.words) reply.receipts
    (never_shows h reply.words)
    (trial_ops NeverClears plan.goes_on plan.calls reply.receipts never is.trial)

words_never :
    (flags ptex : ℕ) (words : Option (ℕ × ℕ)) → CallsNeverClear (words_plan flags ptex words).calls
words_never flags ptex None = tt
words_never flags ptex (Some w) =
    each_call NeverClears (ops.Enter w.0 w.1) (candidates flags ptex) (λ answer. refl)

enter_never :
    (order : ℕ) (grants : List Grant) (flags ptex pteh ptel : ℕ)
    → CallsNeverClear (h_enter_plan order grants flags ptex pteh ptel).calls
unfolding h_enter_plan
enter_never order grants flags ptex pteh ptel =
    cond_both (nat_lt ptex (entry_count order))
    (words_plan flags ptex (entered_words grants pteh ptel)) (plan_of_code rc.Parameter)
    (λ (p : Plan). CallsNeverClear p.calls)
    (λ _. words_never flags ptex (entered_words grants pteh ptel)) (λ _. tt)

single_never :
    (order ptex : ℕ) (op : Op) (words : Receipt → List ℕ)
    → NeverClears op
    → CallsNeverClear (single_plan order ptex op words).calls
single_never order ptex op words never =
    cond_both (nat_lt ptex (entry_count order))
    (record { calls = call op ptex ∷ []; goes_on = λ answer. true; told = told_by words })
    (plan_of_code rc.Parameter) (λ (p : Plan). CallsNeverClear p.calls) (λ _. (never, tt))
    (λ _. tt)

read_never : (order flags ptex : ℕ) → CallsNeverClear (h_read_plan order flags ptex).calls
unfolding h_read_plan
read_never order flags ptex =
    cond_both (nat_lt ptex (entry_count order))
    (record {
      calls = map (call ops.Read) (read_entries flags ptex);
      goes_on = λ answer. true;
      told = λ rs. (rc.Success, flat_map both_words rs);
    }) (plan_of_code rc.Parameter) (λ (p : Plan). CallsNeverClear p.calls)
    (λ _. each_call NeverClears ops.Read (read_entries flags ptex) (λ answer. refl)) (λ _. tt)

-- ---- one operation
changed_shows :
    (dword1 : ℕ) (referenced changed : Bool)
    → changed ≡ true
    → is_changed (with_rc dword1 referenced changed) ≡ true
changed_shows dword1 referenced false e = cc
changed_shows dword1 referenced true e =
    eq-eqb _ 0x80 (and_or_self 0x80 (bit_or dword1 (if referenced then 0x100 else 0)))

removed_shows :
    (r : Receipt) (test : Test) (answer : Answer) (shown : List ℕ)
    → clears_by (ops.Remove test) answer ≡ true
    → shown ≡ (code_and_words answer (both_words r)).1
    → r.before.changed ≡ true
    → is_changed (slice_index shown 1) ≡ true
removed_shows r test answers.Removed shown clear e changed =
    ap (λ ws. is_changed (slice_index ws 1)) e
    ∙ changed_shows r.before.dword1 r.before.referenced r.before.changed changed
removed_shows r test other shown clear e changed = cc

cleared_shows :
    (r : Receipt) (answer : Answer) (shown : List ℕ)
    → clears_by ops.ClearMod answer ≡ true
    → shown ≡ (code_and_words answer (second_word r)).1
    → r.before.changed ≡ true
    → is_changed (slice_index shown 0) ≡ true
cleared_shows r answers.Was shown clear e changed =
    ap (λ ws. is_changed (slice_index ws 0)) e
    ∙ changed_shows r.before.dword1 r.before.referenced r.before.changed changed
cleared_shows r other shown clear e changed = cc

-- What follows of each receipt's operation and of the words that its answer gives.
abbrev FollowsOf : (Receipt → Type 0) → Op → (Receipt → List ℕ) → List ℕ → Type 0
FollowsOf P op words shown =
    (r : Receipt) → r.op ≡ op → shown ≡ (code_and_words r.answer (words r)).1 → P r

one_shows :
    (P : Receipt → Type 0) (ptex : ℕ) (op : Op) (words : Receipt → List ℕ) (shown : List ℕ)
    (rs : List Receipt)
    → FollowsOf P op words shown
    → IsTrial (λ answer. true) (call op ptex ∷ []) rs
    → shown ≡ (told_by words rs).1
    → AllByRecursion P rs
one_shows P ptex op words shown [] f trial told = absurd trial
one_shows P ptex op words shown (r ∷ []) f trial told = (f r trial.0.op told, tt)
one_shows P ptex op words shown (r ∷ x ∷ rs) f trial told = absurd trial.1

none_shows :
    (P : Receipt → Type 0) (rs : List Receipt)
    → IsTrial (λ answer. true) [] rs
    → AllByRecursion P rs
none_shows P [] trial = tt
none_shows P (r ∷ rs) trial = absurd trial

single_shows :
    (P : Receipt → Type 0) (order ptex : ℕ) (op : Op) (words : Receipt → List ℕ) (reply : HReply)
    → FollowsOf P op words reply.words
    → IsReplyOf (single_plan order ptex op words) reply
    → AllByRecursion P reply.receipts
single_shows P order ptex op words reply f is =
    at (cases_Bool (nat_lt ptex (entry_count order))) where
      at :
          (nat_lt ptex (entry_count order) ≡ true) ⊎ (nat_lt ptex (entry_count order) ≡ false)
          → AllByRecursion P reply.receipts
      at (inl inside) =
          let here : IsReplyOf
          (record { calls = call op ptex ∷ []; goes_on = λ answer. true; told = told_by words })
          reply = rw inside at is in
          one_shows P ptex op words reply.words reply.receipts f here.trial
          (ap (λ (x : Rc × List ℕ). x.1) here.told)
      at (inr outside) =
          let here : IsReplyOf (plan_of_code rc.Parameter) reply = rw outside at is in
          none_shows P reply.receipts here.trial

remove_shows :
    (order flags ptex avpn : ℕ) (reply : HReply)
    → IsReplyOf (h_remove_plan order flags ptex avpn) reply
    → AllByRecursion (ShowsWhatItClears calls.Remove reply.words) reply.receipts
unfolding h_remove_plan
remove_shows order flags ptex avpn reply is =
    single_shows (ShowsWhatItClears calls.Remove reply.words) order ptex
    (ops.Remove (remove_test flags avpn)) both_words reply
    (λ r op told clear changed.
    removed_shows r (remove_test flags avpn) r.answer reply.words
    (ap (λ o. clears_by o r.answer) (sym op) ∙ clear) told changed) is

clear_mod_shows :
    (order ptex : ℕ) (reply : HReply)
    → IsReplyOf (h_clear_mod_plan order ptex) reply
    → AllByRecursion (ShowsWhatItClears calls.ClearMod reply.words) reply.receipts
unfolding h_clear_mod_plan
clear_mod_shows order ptex reply is =
    single_shows (ShowsWhatItClears calls.ClearMod reply.words) order ptex ops.ClearMod second_word
    reply
    (λ r op told clear changed.
    cleared_shows r r.answer reply.words (ap (λ o. clears_by o r.answer) (sym op) ∙ clear) told
    changed) is

-- ---- H_BULK_REMOVE
removal_clears :
    (test : Test) (answer : Answer)
    → clears_by (ops.Remove test) answer ≡ true
    → answer ≡ answers.Removed
removal_clears test answers.Removed clear = refl
removal_clears test other clear = cc

pair_shows :
    (words : List ℕ) (r : Receipt)
    → ShowsRemoved words r
    → ShowsWhatItClears calls.BulkRemove words r
pair_shows words r h clear changed =
    h.shows (removal_clears h.test r.answer (ap (λ o. clears_by o r.answer) (sym h.op) ∙ clear))
    changed

bulk_remove_shows :
    (order : ℕ) (args : List ℕ) (reply : HReply)
    → IsReplyOf (h_bulk_remove_plan order args) reply
    → AllByRecursion (ShowsWhatItClears calls.BulkRemove reply.words) reply.receipts
bulk_remove_shows order args reply is =
    each_map (ShowsRemoved reply.words) (ShowsWhatItClears calls.BulkRemove reply.words)
    reply.receipts (pair_shows reply.words) (removals_shown order args reply is)

-- ---- each call
hcall_shows :
    (set : AccessContext) (h : Hcall) (args : List ℕ) (reply : HReply)
    → IsReplyOf (hcall_plan (table_context set) h args) reply
    → AllByRecursion (ShowsWhatItClears h reply.words) reply.receipts
unfolding hcall_plan h_protect_plan h_clear_ref_plan
hcall_shows set calls.Enter args reply is =
    plan_never calls.Enter (h_enter_plan set.order set.grants _ _ _ _) reply
    (enter_never set.order set.grants _ _ _ _) is
hcall_shows set calls.Remove args reply is = remove_shows set.order _ _ _ reply is
hcall_shows set calls.Protect args reply is =
    plan_never calls.Protect _ reply (single_never set.order _ _ (λ r. []) (λ answer. refl)) is
hcall_shows set calls.Read args reply is =
    plan_never calls.Read (h_read_plan set.order _ _) reply (read_never set.order _ _) is
hcall_shows set calls.ClearRef args reply is =
    plan_never calls.ClearRef _ reply
    (single_never set.order _ ops.ClearRef second_word (λ answer. refl)) is
hcall_shows set calls.ClearMod args reply is = clear_mod_shows set.order _ reply is
hcall_shows set calls.BulkRemove args reply is = bulk_remove_shows set.order args reply is
hcall_shows set calls.GetTce args reply is =
    plan_never calls.GetTce (plan_of_code rc.Parameter) reply tt is
hcall_shows set calls.PutTce args reply is =
    plan_never calls.PutTce (plan_of_code rc.Parameter) reply tt is
hcall_shows set other args reply is = plan_never other (plan_of_code rc.Function) reply tt is

line_shows :
    (set : AccessContext) (act : Act) (reply : Reply)
    → IsCallReply (table_context set) act reply
    → ShowsClearedBits act reply
line_shows set (acts.Call number args spelt) (replies.Hcall h) is =
    hcall_shows set (hcall_of number) args h is
line_shows set (acts.Call number args spelt) (replies.Access r) is = tt
line_shows set (acts.Call number args spelt) (replies.Device r) is = tt
line_shows set (acts.Call number args spelt) (replies.Segment accepted) is = tt
line_shows set (acts.Call number args spelt) replies.MaskSet is = tt
line_shows set (acts.Call number args spelt) (replies.Dump shown) is = tt
line_shows set (acts.Access want ea user) reply is = tt
line_shows set (acts.SlbMte rb rs) reply is = tt
line_shows set (acts.Device write liobn ioba) reply is = tt
line_shows set acts.SlbClear reply is = tt
line_shows set (acts.SetMask name value) reply is = tt
line_shows set acts.Dump reply is = tt

-- ---- a run
lines_show :
    (set : AccessContext) (p : Processor) (ts : List RepliedLine)
    → EachLineOfProcessor (λ q t. IsCallReply (table_context set) t.line.act t.reply) p ts
    → EachLineOfProcessor (λ q t. ShowsClearedBits t.line.act t.reply) p ts
lines_show set p [] h = tt
lines_show set p (t ∷ ts) h = (
  line_shows set t.line.act t.reply h.0,
  lines_show set (processor_after p t.line.act t.reply) ts h.1,
)

section_shows : (s : Section) → IsTable s.before → CallsAreReplied s → ClearedBitsAreShown s
section_shows s table h =
    λ cpu.
    lines_show (access_of (context_of s.before)) _ _
    (subst
    (λ set.
    EachLineOfProcessor (λ q t. IsCallReply set t.line.act t.reply)
    (processor_at s.before.processors cpu) (lines_of_processor cpu s.replied_lines))
    (table_is s.before table) (h cpu))

pub cleared_are_shown :
    (t : AcceptedTrace) (rs : List Reply)
    → IsGoodRun t rs
    → AllByRecursion ClearedBitsAreShown (sections_of t rs)
cleared_are_shown t rs good =
    each_map (λ (s : Section). IsTable s.before × CallsAreReplied s) ClearedBitsAreShown
    (sections_of t rs) (λ s h. section_shows s h.0 h.1)
    (each_both (λ (s : Section). IsTable s.before) CallsAreReplied (sections_of t rs)
    (all_table t rs)
    (each_map IsGoodSection CallsAreReplied (sections_of t rs) (λ s h. h.calls)
    good.stores.0))
