-- What a call that isn't stale leaves of valid entries.
use Rattle.std.proofs.Common.{◌≡◌, ℕ, ◌<◌, ◌≤◌, List, [], ◌∷◌, length, Bool, true, false, refl, ap, sym, subst, ◌∙◌, ◌⊎◌, inl, inr}
use Rattle.std.proofs.lemmas.Bool.{cases_Bool, cases_eq, cases_lt, false≢true, or_parts}
use Rattle.std.proofs.lemmas.List.{get_or-set_same, get_or-set_other, get_or_past}
use Rattle.entry_model.specs.State.{State, OnlyRaisesBits, empty_state}
use Rattle.entry_model.specs.declared.operation.Answer.{Answer}
use Rattle.entry_model.specs.declared.operation.Op.{Op}
use Rattle.entry_model.specs.declared.receipt.Receipt.{Receipt}
use Rattle.entry_model.specs.Receipt.{after_of}
use Rattle.entry_model.specs.Reply.{reply_of}
use Rattle.entry_model.specs.Run.{state_at, states_after}
use Rattle.entry_model.specs.Trial.{Plan, Call, receipt_at, plan_run, trial_run}
use Rattle.entry_model.proofs.Follows.{no_further, further_on, touched_further}
use Rattle.entry_model.proofs.Replied.{Changes, enters, removes, protects, clears_r, clears_c, Replied, replied, left, changed, accessed}
use Rattle.c_layout.specs.Stale.{is_stale, any_stale}
use Rattle.papr_c.proofs.SoFar.{step_on, step_off, no_more}

-- ---- one entry
-- A change of a valid entry is stale.
change_stale :
    (s : State) {op : Op} {a : Answer} {next : State}
    → Changes s op a next
    → s.valid ≡ true
    → is_stale a ≡ true
change_stale s (enters dword0 dword1 empty) valid = absurd (false≢true (sym empty ∙ valid))
change_stale s (removes test valid) h = refl
change_stale s (protects test flags valid) h = refl
change_stale s (clears_r valid) h = refl
change_stale s (clears_c valid) h = refl

kept :
    (s : State) (op : Op)
    → s.valid ≡ true
    → is_stale (reply_of s op).0 ≡ false
    → OnlyRaisesBits s (reply_of s op).1
kept s op valid = at (replied s op) where
  at : {op : Op} {x : Answer × State} → Replied s op x → is_stale x.0 ≡ false → OnlyRaisesBits s x.1
  at (left a is) fresh = no_further s
  at (changed a next changes is) fresh =
      absurd (false≢true (sym fresh ∙ change_stale s changes valid))
  at (accessed tag base key no_execute want masks on) fresh = touched_further s want

-- ---- one call, of a list of entries
step_kept :
    (a : List State) (c : Call) (entry : ℕ)
    → (state_at a entry).valid ≡ true
    → is_stale (receipt_at a c).answer ≡ false
    → OnlyRaisesBits (state_at a entry) (state_at (states_after a (receipt_at a c)) entry)
step_kept a c entry valid fresh = at (cases_eq entry c.entry) (cases_lt c.entry (length a)) where
  r : Receipt
  r = receipt_at a c

  at :
      (entry ≡ c.entry) ⊎ (entry ≡ c.entry → ⊥)
      → (c.entry < length a) ⊎ (length a ≤ c.entry)
      → OnlyRaisesBits (state_at a entry) (state_at (states_after a r) entry)
  at (inr other) where_it_is =
      subst (λ (s : State). OnlyRaisesBits (state_at a entry) s)
      (sym (get_or-set_other a c.entry entry (after_of r) (empty_state 0) other))
      (no_further (state_at a entry))
  at (inl same) (inl inside) =
      let here : OnlyRaisesBits (state_at a c.entry) (after_of r) = kept (state_at a c.entry) c.op
      (subst (λ k. (state_at a k).valid ≡ true) same valid) fresh in
      subst (λ k. OnlyRaisesBits (state_at a k) (state_at (states_after a r) k)) (sym same)
      (subst (λ (s : State). OnlyRaisesBits (state_at a c.entry) s)
      (sym (get_or-set_same a c.entry (after_of r) (empty_state 0) inside)) here)
  at (inl same) (inr past) =
      let none : state_at a entry ≡ empty_state 0 = ap (state_at a) same ∙ get_or_past a c.entry
      (empty_state 0) past in
      let e : false ≡ true = sym (ap (λ (s : State). s.valid) none) ∙ valid in
      cc

stale_parts :
    (r : Receipt) (rs : List Receipt)
    → any_stale (r ∷ rs) ≡ false
    → (is_stale r.answer ≡ false) × (any_stale rs ≡ false)
unfolding any_stale
stale_parts r rs e = or_parts (is_stale r.answer) (any_stale rs) e

trial_kept :
    (goes : Answer → Bool) (a : List State) (cs : List Call) (entry : ℕ)
    → any_stale (trial_run goes a cs).0 ≡ false
    → (state_at a entry).valid ≡ true
    → OnlyRaisesBits (state_at a entry) (state_at (trial_run goes a cs).1 entry)
trial_kept goes a [] entry fresh valid = rw (no_more goes a) (no_further (state_at a entry))
trial_kept goes a (c ∷ cs) entry fresh valid =
    at (cases_Bool (goes r.answer)) (trial_kept goes (states_after a r) cs entry) where
      r : Receipt
      r = receipt_at a c

      at :
          (goes r.answer ≡ true) ⊎ (goes r.answer ≡ false)
          →
          (any_stale (trial_run goes (states_after a r) cs).0 ≡ false
          → (state_at (states_after a r) entry).valid ≡ true
          → OnlyRaisesBits (state_at (states_after a r) entry)
          (state_at (trial_run goes (states_after a r) cs).1 entry))
          → OnlyRaisesBits (state_at a entry) (state_at (trial_run goes a (c ∷ cs)).1 entry)
      at (inl on) later =
          let whole = step_on goes a c cs r refl on in
          let parts = stale_parts r (trial_run goes (states_after a r) cs).0 (rw whole at fresh) in
          let first = step_kept a c entry valid parts.0 in
          rw whole
          (further_on (state_at a entry) (state_at (states_after a r) entry)
          (state_at (trial_run goes (states_after a r) cs).1 entry) first
          (later parts.1 (first.valid ∙ valid)))
      at (inr off) later =
          let whole = step_off goes a c cs r refl off in
          let parts = stale_parts r [] (rw whole at fresh) in
          rw whole (step_kept a c entry valid parts.0)

pub unstale_kept :
    (plan : Plan) (entries : List State) (entry : ℕ)
    → any_stale (plan_run plan entries).0.receipts ≡ false
    → (state_at entries entry).valid ≡ true
    → OnlyRaisesBits (state_at entries entry) (state_at (plan_run plan entries).1 entry)
unfolding plan_run
unstale_kept plan entries entry fresh valid =
    trial_kept plan.goes_on entries plan.calls entry fresh valid
