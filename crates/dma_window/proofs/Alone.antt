-- H_PUT_TCE on states that nobody else changes is never H_BUSY.
use Rattle.std.specs.Prelude.{◌≢◌, ◌&&◌, ◌||◌, ◌+◌, ◌==◌, if◌then◌else◌}
use Rattle.std.proofs.Common.{◌≡◌, ℕ, ◌<◌, ◌≤◌, ◌⊎◌, inl, inr, List, [], ◌∷◌, length, Bool, true, false, Option, Some, None, refl, ap, sym, ◌∙◌, subst, length-set}
use Rattle.std.specs.Option.{option_map_or}
use Rattle.std.proofs.lemmas.Bool.{cases_lt}
use Rattle.std.proofs.lemmas.List.{get_or-set_same, get_or_past}
use Rattle.frame_grants.specs.declared.grant.Grant.{Grant}
use Rattle.papr_codes.specs.declared.codes.Rc.TheVariants as rc
use Rattle.entry_model.specs.declared.operation.Answer.{Answer}
use Rattle.entry_model.specs.declared.operation.Answer.TheVariants as answers
use Rattle.entry_model.specs.declared.operation.Op.TheVariants as ops
use Rattle.entry_model.specs.declared.receipt.Receipt.{Receipt}
use Rattle.entry_model.specs.State.{State, empty_state}
use Rattle.entry_model.specs.Reply.{reply_of, entered_state, no_test}
use Rattle.entry_model.specs.Run.{state_at, states_after}
use Rattle.entry_model.specs.Trial.{Plan, call, receipt_at, trial_run, plan_run, plan_of_code}
use Rattle.bus_window.specs.Windows.{BusWindow, entry_at}
use Rattle.dma_window.specs.Pages.{is_ram}
use Rattle.dma_window.specs.Entries.{address_of, permits, first_word, second_word}
use Rattle.dma_window.specs.Calls.{code_by_last, clear_plan, replace_plan, put_plan_at, put_tce_plan}
use Rattle.dma_window.proofs.BusyCalls.{removal_by, removal_not_taken, busy_is_taken}
use Rattle.entry_model.proofs.Trials.{not_worn}

-- ---- the entry between the two steps
emptied_by :
    (valid last : Bool) (s next : State)
    → s.valid ≡ valid
    → next.valid ≡ false
    → not_worn (removal_by (valid && true) last s next).0 ≡ true
    → (removal_by (valid && true) last s next).1.valid ≡ false
emptied_by true true s next v none on = cc
emptied_by true false s next v none on = none
emptied_by false last s next v none on = v

-- After a removal that isn't answered Worn the entry is empty.
emptied :
    (s : State)
    → not_worn (reply_of s (ops.Remove no_test)).0 ≡ true
    → (reply_of s (ops.Remove no_test)).1.valid ≡ false
emptied s =
    emptied_by s.valid (s.stamp == 0xFFFFFFFF) s (record (empty_state 0) { stamp = s.stamp + 1 })
    refl refl

-- After a removal that is not worn its entry is empty, also where the states have no such entry.
entry_emptied :
    (states : List State) (entry : ℕ)
    → not_worn (receipt_at states (call (ops.Remove no_test) entry)).answer ≡ true
    →
    (state_at (states_after states (receipt_at states (call (ops.Remove no_test) entry)))
    entry).valid
    ≡ false
entry_emptied states entry on = at (cases_lt entry (length states)) where
  after : State
  after = (reply_of (state_at states entry) (ops.Remove no_test)).1

  at :
      (entry < length states) ⊎ (length states ≤ entry)
      →
      (state_at (states_after states (receipt_at states (call (ops.Remove no_test) entry)))
      entry).valid
      ≡ false
  at (inl inside) =
      ap (λ (s : State). s.valid) (get_or-set_same states entry after (empty_state 0) inside)
      ∙ emptied (state_at states entry) on
  at (inr outside) =
      ap (λ (s : State). s.valid)
      (get_or_past _ entry (empty_state 0)
      (subst (λ n. n ≤ entry) (sym (length-set states entry after)) outside))

-- ---- the entering
abbrev entering_by : Bool → Bool → State → State → Answer × State
entering_by valid last s next =
    if valid then (answers.Taken, s) else
    (if last then (answers.Worn, s) else (answers.Entered, next))

entered_by :
    (valid last : Bool) (s next : State)
    → valid ≡ false
    → (entering_by valid last s next).0 ≡ answers.Taken
    → ⊥
entered_by true last s next v e = cc
entered_by false true s next v e = cc
entered_by false false s next v e = cc

-- An empty entry never answers Taken.
empty_not_taken :
    (s : State) (dword0 dword1 : ℕ)
    → s.valid ≡ false
    → (reply_of s (ops.Enter dword0 dword1)).0 ≡ answers.Taken
    → ⊥
empty_not_taken s dword0 dword1 =
    entered_by s.valid (s.stamp == 0xFFFFFFFF) s
    (record (entered_state dword0 dword1) { stamp = s.stamp + 1 })

-- ---- the receipts
abbrev one_made : Bool → Receipt → List State → List Receipt × List State
one_made more x b = if more then (x ∷ [], b) else (x ∷ [], b)

abbrev two_made :
    Bool → Bool → Receipt → Receipt → List State → List State → List Receipt × List State
two_made more last r x a b =
    if more then (r ∷ (one_made last x b).0, (one_made last x b).1) else (r ∷ [], a)

one_busy :
    (more : Bool) (r : Receipt) (a : List State)
    → code_by_last (one_made more r a).0 ≡ rc.Busy
    → r.answer ≡ answers.Taken
one_busy true r a e = busy_is_taken r.answer e
one_busy false r a e = busy_is_taken r.answer e

two_busy :
    (more last : Bool) (r x : Receipt) (a b : List State)
    → code_by_last (two_made more last r x a b).0 ≡ rc.Busy
    → (r.answer ≡ answers.Taken) ⊎ ((more ≡ true) × (x.answer ≡ answers.Taken))
two_busy true true r x a b e = inr (refl, busy_is_taken x.answer e)
two_busy true false r x a b e = inr (refl, busy_is_taken x.answer e)
two_busy false last r x a b e = inl (busy_is_taken r.answer e)

-- ---- the plans
abbrev IsNeverBusy : Plan → List State → Type 0
IsNeverBusy plan states = (plan_run plan states).0.rc ≢ rc.Busy

clear_alone : (entry : ℕ) (states : List State) → IsNeverBusy (clear_plan entry) states
unfolding plan_run trial_run
clear_alone entry states e =
    let r = receipt_at states (call (ops.Remove no_test) entry) in
    removal_not_taken r refl (one_busy (not_worn r.answer) r (states_after states r) e)

replace_alone :
    (entry dword0 dword1 : ℕ) (states : List State)
    → IsNeverBusy (replace_plan entry (ops.Enter dword0 dword1)) states
unfolding plan_run trial_run
replace_alone entry dword0 dword1 states e =
    let r = receipt_at states (call (ops.Remove no_test) entry) in
    let mid = states_after states r in
    let x = receipt_at mid (call (ops.Enter dword0 dword1) entry) in
    elim (two_busy (not_worn r.answer) (not_worn x.answer) r x mid (states_after mid x) e) [
      | inl removal ↦ removal_not_taken r refl removal
      | inr entering ↦ empty_not_taken (state_at mid entry) dword0 dword1
          (entry_emptied states entry entering.0) entering.1
    ]

refused_alone : (states : List State) → IsNeverBusy (plan_of_code rc.Parameter) states
unfolding plan_run trial_run
refused_alone states e = let other : rc.Parameter ≡ rc.Busy = e in cc

put_alone :
    (permitted ram : Bool) (entry dword0 dword1 : ℕ) (states : List State)
    → IsNeverBusy
    (if permitted then
    (if ram then replace_plan entry (ops.Enter dword0 dword1) else plan_of_code
    rc.Parameter) else clear_plan entry) states
put_alone true true entry dword0 dword1 states = replace_alone entry dword0 dword1 states
put_alone true false entry dword0 dword1 states = refused_alone states
put_alone false ram entry dword0 dword1 states = clear_alone entry states

at_alone :
    (grants : List Grant) (tce : ℕ) (entry : Option ℕ) (states : List State)
    → IsNeverBusy (option_map_or (put_plan_at grants tce) entry (plan_of_code rc.Parameter)) states
at_alone grants tce None states = refused_alone states
at_alone grants tce (Some entry) states =
    put_alone (permits tce false || permits tce true) (is_ram grants (address_of tce)) entry
    (first_word tce) (second_word tce) states

pub never_busy :
    (grants : List Grant) (window : BusWindow) (ioba tce : ℕ) (states : List State)
    → (plan_run (put_tce_plan grants window ioba tce) states).0.rc ≢ rc.Busy
unfolding put_tce_plan
never_busy grants window ioba tce states = at_alone grants tce (entry_at window ioba) states
