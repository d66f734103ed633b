-- Calls on one entry of a window.
use Rattle.std.specs.Option.{option_map_or}
use Rattle.std.proofs.Common.{◌≡◌, ℕ, List, [], ◌∷◌, Bool, true, false, Some, None, refl, ap, sym, ◌∙◌, inl, inr, ◌⊎◌}
use Rattle.std.proofs.lemmas.Bool.{cases_Bool}
use Rattle.papr_codes.specs.declared.codes.Rc.TheVariants.{Parameter}
use Rattle.bus_window.specs.Windows.{is_window, entry_at}
use Rattle.entry_model.specs.State.{State}
use Rattle.entry_model.specs.Receipt.{receipt_of}
use Rattle.entry_model.specs.Run.{state_at, states_after}
use Rattle.entry_model.specs.Trial.{Plan, call, plan_of_code, trial_run}
use Rattle.entry_model.specs.declared.operation.Answer.{Answer}
use Rattle.entry_model.specs.declared.operation.Op.{Op}
use Rattle.entry_model.specs.declared.receipt.Receipt.{Receipt}
use Rattle.papr_c.specs.Calls.{LentMemory, outcome_where}
use Rattle.c_layout.specs.Replies.{refused_reply}
use Rattle.papr_c.specs.Windows.{window_of, page_entry, outcome_of_tce}
use Rattle.papr_c.proofs.Outcomes.{coded}

-- A plan of one operation has the receipt of that operation, and leaves the states after it.
pub one_call :
    (goes : Answer → Bool) (op : Op) (e : ℕ) (entries : List State) (r : Receipt)
    → r ≡ receipt_of e (state_at entries e) op
    → (r ∷ [], states_after entries r) ≡ trial_run goes entries (call op e ∷ [])
unfolding trial_run
one_call goes op e entries r is =
    at (cases_Bool (goes (receipt_of e (state_at entries e) op).answer)) where
      at :
          (goes (receipt_of e (state_at entries e) op).answer ≡ true)
          ⊎ (goes (receipt_of e (state_at entries e) op).answer ≡ false)
          → (r ∷ [], states_after entries r) ≡ trial_run goes entries (call op e ∷ [])
      at (inl on) = rw (is, on) refl
      at (inr off) = rw (is, off) refl

-- Two calls, of which the first ends the trial.
pub first_ends :
    (goes : Answer → Bool) (op other : Op) (e : ℕ) (entries : List State) (r : Receipt)
    → r ≡ receipt_of e (state_at entries e) op
    → goes r.answer ≡ false
    → (r ∷ [], states_after entries r) ≡ trial_run goes entries (call op e ∷ call other e ∷ [])
unfolding trial_run
first_ends goes op other e entries r is off =
    let here : goes (receipt_of e (state_at entries e) op).answer ≡ false = ap
    (λ (q : Receipt). goes q.answer) (sym is) ∙ off in
    rw (is, here) refl

-- A plan of two operations has both receipts, where the first one's answer lets it go on.
pub two_calls :
    (goes : Answer → Bool) (op other : Op) (e : ℕ) (entries : List State) (r s : Receipt)
    → r ≡ receipt_of e (state_at entries e) op
    → goes r.answer ≡ true
    → s ≡ receipt_of e (state_at (states_after entries r) e) other
    → (r ∷ s ∷ [], states_after (states_after entries r) s)
    ≡ trial_run goes entries (call op e ∷ call other e ∷ [])
unfolding trial_run
two_calls goes op other e entries r s is on next =
    let here : goes (receipt_of e (state_at entries e) op).answer ≡ true = ap
    (λ (q : Receipt). goes q.answer) (sym is) ∙ on in
    let rest : (s ∷ [], states_after (states_after entries r) s) ≡ trial_run goes
    (states_after entries r) (call other e ∷ []) = one_call goes other e
    (states_after entries r) s next in
    ap (λ (z : List Receipt × List State). (r ∷ z.0, z.1)) rest
    ∙ ap
    (λ (q : Receipt). (
      q ∷ (trial_run goes (states_after entries q) (call other e ∷ [])).0,
      (trial_run goes (states_after entries q) (call other e ∷ [])).1,
    )) is
    ∙ sym (goes_on here)
  where
    goes_on :
        goes (receipt_of e (state_at entries e) op).answer ≡ true
        → trial_run goes entries (call op e ∷ call other e ∷ [])
        ≡ (
          receipt_of e (state_at entries e) op
              ∷
              (trial_run goes (states_after entries (receipt_of e (state_at entries e) op))
              (call other e ∷ [])).0,
          (trial_run goes (states_after entries (receipt_of e (state_at entries e) op))
              (call other e ∷ [])).1,
        )
    goes_on h = rw h refl

-- A page that the window lacks.
pub no_page :
    (base ioba : ℕ) (m : LentMemory) (p : ℕ → Plan)
    → page_entry base m.entries ioba ≡ None
    → (refused_reply, m)
    ≡ outcome_of_tce base (λ w. option_map_or p (entry_at w ioba) (plan_of_code Parameter)) m
no_page base ioba m p none = at (cases_Bool (is_window (window_of base m.entries))) where
  at :
      (is_window (window_of base m.entries) ≡ true) ⊎ (is_window (window_of base m.entries) ≡ false)
      → (refused_reply, m)
      ≡ outcome_of_tce base (λ w. option_map_or p (entry_at w ioba) (plan_of_code Parameter)) m
  at (inr lacks) = rw lacks refl
  at (inl is) =
      let out : entry_at (window_of base m.entries) ioba ≡ None = rw is at none in
      coded (is_window (window_of base m.entries)) Parameter m is
      ∙ ap
      (λ o.
      outcome_where (is_window (window_of base m.entries))
      (option_map_or p o (plan_of_code Parameter)) m) (sym out)

-- A page that it has.
pub has_page :
    (base ioba e : ℕ) (m : LentMemory) (p : ℕ → Plan)
    → page_entry base m.entries ioba ≡ Some e
    → outcome_where true (p e) m
    ≡ outcome_of_tce base (λ w. option_map_or p (entry_at w ioba) (plan_of_code Parameter)) m
has_page base ioba e m p some = at (cases_Bool (is_window (window_of base m.entries))) where
  at :
      (is_window (window_of base m.entries) ≡ true) ⊎ (is_window (window_of base m.entries) ≡ false)
      → outcome_where true (p e) m
      ≡ outcome_of_tce base (λ w. option_map_or p (entry_at w ioba) (plan_of_code Parameter)) m
  at (inr lacks) = let none : page_entry base m.entries ioba ≡ None = rw lacks refl in absurd (cc)
  at (inl is) =
      let here : entry_at (window_of base m.entries) ioba ≡ Some e = rw is at some in
      rw (is, here) refl
