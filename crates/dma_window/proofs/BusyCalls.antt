-- When H_PUT_TCE answers H_BUSY.
use Rattle.std.proofs.Common.{◌≡◌, ℕ, ◌↔◌, inl, inr, List, [], ◌∷◌, Bool, true, false, Option, Some, None, refl, ap, sym, ◌∙◌}
use Rattle.std.specs.Prelude.{◌||◌, ◌+◌, ◌==◌, if◌then◌else◌, MatchBool}
use Rattle.std.specs.Option.{option_map_or}
use Rattle.frame_grants.specs.declared.grant.Grant.{Grant}
use Rattle.papr_codes.specs.declared.codes.Rc.{Rc}
use Rattle.papr_codes.specs.declared.codes.Rc.TheVariants as rc
use Rattle.entry_model.specs.declared.operation.Answer.{Answer}
use Rattle.entry_model.specs.declared.operation.Answer.TheVariants as answers
use Rattle.entry_model.specs.declared.operation.Op.{Op}
use Rattle.entry_model.specs.declared.operation.Op.TheVariants as ops
use Rattle.entry_model.specs.declared.receipt.Receipt.{Receipt}
use Rattle.entry_model.specs.declared.hreply.HReply.{HReply}
use Rattle.entry_model.specs.State.{State, empty_state}
use Rattle.entry_model.specs.Reply.{reply_of, is_found, no_test}
use Rattle.entry_model.specs.Trial.{IsTrial, IsReplyOf, call, plan_of_code}
use Rattle.bus_window.specs.Windows.{BusWindow, entry_at}
use Rattle.dma_window.specs.Pages.{is_ram}
use Rattle.dma_window.specs.Entries.{address_of, permits, first_word, second_word}
use Rattle.dma_window.specs.Calls.{code_of, code_by_last, clear_plan, replace_plan, put_plan_at, put_tce_plan}
use Rattle.dma_window.specs.Laws.{HasTaken}
use Rattle.basics.proofs.Bools.{no_more}
use Rattle.entry_model.proofs.Trials.{not_worn}

-- ---- answers
pub busy_is_taken : (answer : Answer) → code_of answer ≡ rc.Busy → answer ≡ answers.Taken
busy_is_taken answers.Taken e = refl
busy_is_taken other e = cc

-- What a removal answers, and the state that it leaves of s: by whether the entry is found, and
-- whether its stamp is at its last value.
abbrev pub removal_by : Bool → Bool → State → State → Answer × State
removal_by found worn s next =
    if found then (if worn then (answers.Worn, s) else (answers.Removed, next)) else
    (answers.NotFound, s)

one_of_three :
    (found worn : Bool) (s next : State) → (removal_by found worn s next).0 ≡ answers.Taken → ⊥
one_of_three true true s next e = cc
one_of_three true false s next e = cc
one_of_three false worn s next e = cc

-- A removal is never answered Taken.
pub removal_not_taken : (r : Receipt) → r.op ≡ ops.Remove no_test → r.answer ≡ answers.Taken → ⊥
removal_not_taken r op taken =
    let told : (reply_of r.before (ops.Remove no_test)).0 ≡ answers.Taken = sym
    (r.lawful ∙ ap (λ o. (reply_of r.before o).0) op) ∙ taken in
    one_of_three (is_found r.before no_test) (r.before.stamp == 0xFFFFFFFF) r.before
    (record (empty_state 0) { stamp = r.before.stamp + 1 }) told

-- ---- trials
abbrev BusyWhere : List Receipt → Type 0
BusyWhere rs = (code_by_last rs ≡ rc.Busy) ↔ HasTaken rs

clear_busy :
    (entry : ℕ) (rs : List Receipt) → IsTrial not_worn (clear_plan entry).calls rs → BusyWhere rs
clear_busy entry [] h = absurd h
clear_busy entry (r ∷ []) h = (
  (λ e. absurd (removal_not_taken r h.0.op (busy_is_taken r.answer e))),
  (λ t.
      elim t [ inl taken ↦ absurd (removal_not_taken r h.0.op taken) | inr none ↦ absurd none ]),
)
clear_busy entry (r ∷ x ∷ rs) h = absurd (no_more (not_worn r.answer) x rs h.1)

second_busy :
    (b : Bool) (entry : ℕ) (op : Op) (r x : Receipt) (rs : List Receipt)
    → r.op ≡ ops.Remove no_test
    → MatchBool b (IsTrial not_worn (call op entry ∷ []) (x ∷ rs)) ((x ∷ rs) ≡ [])
    → BusyWhere (r ∷ x ∷ rs)
second_busy false entry op r x rs removal h = cc
second_busy true entry op r x [] removal h = (
  (λ e. inr (inl (busy_is_taken x.answer e))),
  (λ t. elim t [
    | inl taken ↦ absurd (removal_not_taken r removal taken)
    | inr rest ↦ elim rest [ inl taken ↦ ap code_of taken | inr none ↦ absurd none ]
  ]),
)
second_busy true entry op r x (y ∷ ys) removal h = absurd (no_more (not_worn x.answer) y ys h.1)

replace_busy :
    (entry : ℕ) (op : Op) (rs : List Receipt)
    → IsTrial not_worn (replace_plan entry op).calls rs
    → BusyWhere rs
replace_busy entry op [] h = absurd h
replace_busy entry op (r ∷ []) h = (
  (λ e. absurd (removal_not_taken r h.0.op (busy_is_taken r.answer e))),
  (λ t.
      elim t [ inl taken ↦ absurd (removal_not_taken r h.0.op taken) | inr none ↦ absurd none ]),
)
replace_busy entry op (r ∷ x ∷ rs) h = second_busy (not_worn r.answer) entry op r x rs h.0.op h.1

-- ---- calls
abbrev AnswersBusy : HReply → Type 0
AnswersBusy reply = (reply.rc ≡ rc.Busy) ↔ HasTaken reply.receipts

by_receipts :
    (reply : HReply) (told : Rc × List ℕ)
    → (reply.rc, reply.words) ≡ told
    → (told.0 ≡ rc.Busy) ↔ HasTaken reply.receipts
    → AnswersBusy reply
by_receipts reply told is h =
    let same : reply.rc ≡ told.0 = ap (λ (x : Rc × List ℕ). x.0) is in
    ((λ e. h.0 (sym same ∙ e)), (λ t. same ∙ h.1 t))

refused_busy : (reply : HReply) → IsReplyOf (plan_of_code rc.Parameter) reply → AnswersBusy reply
refused_busy reply h =
    by_receipts reply (rc.Parameter, []) h.told (none reply.receipts h.trial) where
      none :
          (rs : List Receipt)
          → IsTrial (λ answer. true) [] rs
          → (rc.Parameter ≡ rc.Busy) ↔ HasTaken rs
      none [] trial = ((λ e. let other : rc.Parameter ≡ rc.Busy = e in cc), (λ t. absurd t))
      none (r ∷ rs) trial = absurd trial

put_busy :
    (permitted ram : Bool) (entry : ℕ) (op : Op) (reply : HReply)
    → IsReplyOf
    (if permitted then (if ram then replace_plan entry op else plan_of_code rc.Parameter) else
    clear_plan entry) reply
    → AnswersBusy reply
put_busy true true entry op reply h =
    by_receipts reply (code_by_last reply.receipts, []) h.told
    (replace_busy entry op reply.receipts h.trial)
put_busy true false entry op reply h = refused_busy reply h
put_busy false ram entry op reply h =
    by_receipts reply (code_by_last reply.receipts, []) h.told
    (clear_busy entry reply.receipts h.trial)

at_busy :
    (grants : List Grant) (tce : ℕ) (entry : Option ℕ) (reply : HReply)
    → IsReplyOf (option_map_or (put_plan_at grants tce) entry (plan_of_code rc.Parameter)) reply
    → AnswersBusy reply
at_busy grants tce None reply h = refused_busy reply h
at_busy grants tce (Some entry) reply h =
    put_busy (permits tce false || permits tce true) (is_ram grants (address_of tce)) entry
    (ops.Enter (first_word tce) (second_word tce)) reply h

pub busy_exactly :
    (grants : List Grant) (window : BusWindow) (ioba tce : ℕ) (reply : HReply)
    → IsReplyOf (put_tce_plan grants window ioba tce) reply
    → (reply.rc ≡ rc.Busy) ↔ HasTaken reply.receipts
unfolding put_tce_plan
busy_exactly grants window ioba tce reply h = at_busy grants tce (entry_at window ioba) reply h
