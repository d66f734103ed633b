-- What receipts that were made one after the other leave of each entry.
use Rattle.std.proofs.Common.{◌≡◌, ℕ, ◌<◌, List, [], ◌∷◌, sym, subst, ◌⊎◌, inl, inr, length}
use Rattle.std.proofs.lemmas.Bool.{cases_eq}
use Rattle.std.proofs.lemmas.List.{get_or-set_same, get_or-set_other}
use Rattle.entry_model.specs.State.{State, empty_state, Follows}
use Rattle.entry_model.specs.declared.receipt.Receipt.{Receipt}
use Rattle.entry_model.specs.Receipt.{after_of}
use Rattle.entry_model.specs.Run.{IsRun, IsStep, state_at, states_after}
use Rattle.entry_model.proofs.Follows.{stays, follows_on, reply_follows}

-- a step on this entry
step_same :
    (a : List State) (r : Receipt)
    → r.entry < length a
    → r.before ≡ state_at a r.entry
    → Follows (state_at a r.entry) (state_at (states_after a r) r.entry)
step_same a r within before =
    let f : Follows (state_at a r.entry) (after_of r) = subst (λ s. Follows s (after_of r)) before
    (reply_follows r.before r.op) in
    subst (λ s. Follows (state_at a r.entry) s)
    (sym (get_or-set_same a r.entry (after_of r) (empty_state 0) within)) f

pub step_follows :
    (a b : List State) (r : Receipt) (e : ℕ) → IsStep a r b → Follows (state_at a e) (state_at b e)
step_follows a b r e h =
    subst (λ s. Follows (state_at a e) (state_at s e)) (sym h.after) (at (cases_eq e r.entry)) where
      at :
          (e ≡ r.entry) ⊎ (e ≡ r.entry → ⊥) → Follows (state_at a e) (state_at (states_after a r) e)
      at (inl same) =
          subst (λ k. Follows (state_at a k) (state_at (states_after a r) k)) (sym same)
          (step_same a r h.in_table h.before)
      at (inr other) =
          subst (λ s. Follows (state_at a e) s)
          (sym (get_or-set_other a r.entry e (after_of r) (empty_state 0) other))
          (stays (state_at a e))

pub run_follows :
    (a b : List State) (rs : List Receipt) (e : ℕ)
    → IsRun a rs b
    → Follows (state_at a e) (state_at b e)
run_follows a b [] e h =
    subst (λ s. Follows (state_at a e) (state_at s e)) (sym h) (stays (state_at a e))
run_follows a b (r ∷ rs) e h =
    follows_on (state_at a e) (state_at h.0 e) (state_at b e) (step_follows a h.0 r e h.1)
    (run_follows h.0 b rs e h.2)
