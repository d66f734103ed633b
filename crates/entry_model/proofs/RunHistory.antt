-- Receipts made one after the other give each entry a legal history.
use Rattle.std.specs.Prelude.{filter}
use Rattle.std.proofs.Common.{◌≡◌, ℕ, List, [], ◌∷◌, true, false, cond, ap, sym, ◌∙◌, subst, eqb, set}
use Rattle.std.proofs.lemmas.Bool.{eqb-true, eqb-false, cond_both}
use Rattle.std.proofs.lemmas.List.{get_or-set_same, get_or-set_other}
use Rattle.entry_model.specs.State.{State, empty_state}
use Rattle.entry_model.specs.declared.receipt.Receipt.{Receipt}
use Rattle.entry_model.specs.Receipt.{after_of}
use Rattle.entry_model.specs.Run.{IsRun, IsStep, state_at}
use Rattle.entry_model.specs.History.{IsLegal, history}
use Rattle.entry_model.proofs.Sorted.{legal_by_place}

-- a step on another entry
pub other_state :
    (a mid : List State) (r : Receipt) (e : ℕ)
    → IsStep a r mid
    → eqb r.entry e ≡ false
    → state_at mid e ≡ state_at a e
other_state a mid r e step differs =
    ap (λ s. state_at s e) step.after
    ∙ get_or-set_other a r.entry e (after_of r) (empty_state 0)
    (λ same. eqb-false r.entry e differs (sym same))

-- a step on this entry
pub own_state :
    (a mid : List State) (r : Receipt) (e : ℕ)
    → IsStep a r mid
    → r.entry ≡ e
    → (r.before ≡ state_at a e) × (state_at mid e ≡ after_of r)
own_state a mid r e step same = (
  step.before ∙ ap (state_at a) same,
  ap (λ s. state_at s e) step.after
      ∙ sym (ap (λ k. state_at (set a r.entry (after_of r)) k) same)
      ∙ get_or-set_same a r.entry (after_of r) (empty_state 0) step.in_table,
)

-- one receipt, where the rest is known
run_one :
    (e : ℕ) (a mid : List State) (end : State) (m : Receipt) (ms : List Receipt)
    → IsStep a m mid
    → IsLegal (state_at mid e) ms end
    → IsLegal (state_at a e) (cond (eqb m.entry e) (m ∷ ms) ms) end
run_one e a mid end m ms step rest =
    cond_both (eqb m.entry e) (m ∷ ms) ms (λ l. IsLegal (state_at a e) l end) own other where
      own : eqb m.entry e ≡ true → IsLegal (state_at a e) (m ∷ ms) end
      own here =
          let states = own_state a mid m e step (eqb-true m.entry e here) in
          (states.0, subst (λ s. IsLegal s ms end) states.1 rest)

      other : eqb m.entry e ≡ false → IsLegal (state_at a e) ms end
      other there = subst (λ s. IsLegal s ms end) (other_state a mid m e step there) rest

pub run_chain :
    (e : ℕ) (a b : List State) (ms : List Receipt)
    → IsRun a ms b
    → IsLegal (state_at a e) (filter (λ m. eqb m.entry e) ms) (state_at b e)
run_chain e a b [] h = ap (λ s. state_at s e) h
run_chain e a b (m ∷ ms) h = run_one e a h.0 (state_at b e) m _ h.1 (run_chain e h.0 b ms h.2)

-- each entry's history over a run is legal
pub run_history :
    (e : ℕ) (a b : List State) (ms : List Receipt)
    → IsRun a ms b
    → IsLegal (state_at a e) (history e ms) (state_at b e)
run_history e a b ms h = legal_by_place _ _ _ (run_chain e a b ms h)
