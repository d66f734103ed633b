-- A store that was allowed sets C, and C stays set until an operation clears it.
use Rattle.std.specs.Prelude.{◌&&◌, ◌||◌}
use Rattle.std.proofs.Common.{◌≡◌, ◌+◌, List, [], ◌∷◌, true, false, ap, sym, ◌∙◌, refl, subst, ◌⊎◌, inl, inr}
use Rattle.std.proofs.lemmas.Bool.{and_parts, cases_Bool, false≢true}
use Rattle.storage_prot.specs.declared.want.Want.{Want}
use Rattle.entry_model.specs.State.{State}
use Rattle.entry_model.specs.declared.operation.Op.{Op}
use Rattle.entry_model.specs.declared.operation.Answer.{Answer}
use Rattle.entry_model.specs.declared.receipt.Receipt.{Receipt}
use Rattle.entry_model.specs.Receipt.{after_of, is_at}
use Rattle.entry_model.specs.Reply.{reply_of, touched_state, is_store}
use Rattle.entry_model.specs.History.{IsLegal}
use Rattle.entry_model.proofs.Replied.{Changes, enters, removes, protects, clears_r, clears_c, Replied, replied, left, changed, accessed}
use Rattle.run_model.specs.ShownStores.{clears_by, clears, stores_by, stores, ShowsChange, StoresAreShown}
use Rattle.storage_prot.specs.declared.want.Want.TheVariants as wants
use Rattle.entry_model.specs.declared.operation.Op.TheVariants as ops
use Rattle.entry_model.specs.declared.operation.Answer.TheVariants as answers
use Rattle.std.proofs.Math.Bool.{or-true}

-- An entry whose C is set.
pub record IsDirty (s : State) : Type 0 where
  pub valid : s.valid ≡ true
  pub changed : s.changed ≡ true

-- ---- one operation
changed_keeps :
    (s : State) {op : Op} {a : Answer} {next : State}
    → Changes s op a next
    → IsDirty s
    → clears_by op a ≡ false
    → IsDirty (record next { stamp = s.stamp + 1 })
changed_keeps s (enters dword0 dword1 valid) d c = absurd (false≢true (sym valid ∙ d.valid))
changed_keeps s (removes test valid) d c = absurd (false≢true (sym c))
changed_keeps s (protects test flags valid) d c = record { valid = d.valid; changed = d.changed }
changed_keeps s (clears_r valid) d c = record { valid = d.valid; changed = d.changed }
changed_keeps s (clears_c valid) d c = absurd (false≢true (sym c))

touched_dirty : (s : State) (want : Want) → IsDirty s → IsDirty (touched_state s want)
touched_dirty s want d = record { valid = d.valid; changed = rw d.changed refl }

-- What doesn't clear C keeps it.
op_keeps :
    (s : State) (op : Op)
    → IsDirty s
    → clears_by op (reply_of s op).0 ≡ false
    → IsDirty (reply_of s op).1
op_keeps s op d = at (replied s op) where
  at : {op : Op} {x : Answer × State} → Replied s op x → clears_by op x.0 ≡ false → IsDirty x.1
  at (left a is) c = d
  at (changed a next changes is) c = changed_keeps s changes d c
  at (accessed tag base key no_execute want masks valid) c = touched_dirty s want d

store_changes :
    (want : Want) (s : State)
    → (is_store want && is_at answers.At) ≡ true
    → (s.changed || is_store want) ≡ true
store_changes wants.Store s h = or-true s.changed
store_changes wants.Load s h = cc
store_changes wants.Fetch s h = cc

no_store : (op : Op) (a : Answer) → is_at a ≡ false → stores_by op a ≡ true → ⊥
no_store (ops.Access tag base key no_execute want masks) a e h =
    false≢true (sym e ∙ (and_parts (is_store want) (is_at a) h).1)
no_store other a e h = cc

op_stores :
    (s : State) (op : Op) → stores_by op (reply_of s op).0 ≡ true → IsDirty (reply_of s op).1
op_stores s op = at (replied s op) where
  at : {op : Op} {x : Answer × State} → Replied s op x → stores_by op x.0 ≡ true → IsDirty x.1
  at {op} (left a is) h = absurd (no_store op a is.no_at h)
  at {op} (changed a next changes is) h = absurd (no_store op a is.no_at h)
  at (accessed tag base key no_execute want masks valid) h =
      record { valid = valid; changed = store_changes want s h }

keeps : (r : Receipt) → IsDirty r.before → clears r ≡ false → IsDirty (after_of r)
keeps r d c = op_keeps r.before r.op d (ap (clears_by r.op) (sym r.lawful) ∙ c)

sets : (r : Receipt) → stores r ≡ true → IsDirty (after_of r)
sets r h = op_stores r.before r.op (ap (stores_by r.op) (sym r.lawful) ∙ h)

-- ---- along a legal history
shows_step :
    (r : Receipt) (rs : List Receipt) (b : State) (after : Type 0)
    → r.before.changed ≡ true
    → (clears r ≡ false → ShowsChange rs b after)
    → ShowsChange (r ∷ rs) b after
shows_step r rs b after c rest = at (cases_Bool (clears r)) where
  at : (clears r ≡ true) ⊎ (clears r ≡ false) → ShowsChange (r ∷ rs) b after
  at (inl e) = (c, rw e tt)
  at (inr e) = (c, rw e (rest e))

-- From an entry whose C is set on, C shows, where it does so after the history.
pub shows :
    (a b : State) (rs : List Receipt) (after : Type 0)
    → (IsDirty b → after)
    → IsDirty a
    → IsLegal a rs b
    → ShowsChange rs b after
shows a b [] after more d h = let end :
    IsDirty b = subst IsDirty (sym h) d in (end.changed, more end)
shows a b (r ∷ rs) after more d h =
    let here : IsDirty r.before = subst IsDirty (sym h.0) d in
    shows_step r rs b after here.changed
    (λ e. shows (after_of r) b rs after more (keeps r here e) h.1)

lost_step :
    (r : Receipt) (rs : List Receipt) (b : State) (after : Type 0)
    → (stores r ≡ true → ShowsChange rs b after)
    → StoresAreShown rs b after
    → StoresAreShown (r ∷ rs) b after
lost_step r rs b after here rest = at (cases_Bool (stores r)) where
  at : (stores r ≡ true) ⊎ (stores r ≡ false) → StoresAreShown (r ∷ rs) b after
  at (inl e) = (rw e (here e), rest)
  at (inr e) = (rw e tt, rest)

pub stores_shown :
    (a b : State) (rs : List Receipt) (after : Type 0)
    → (IsDirty b → after)
    → IsLegal a rs b
    → StoresAreShown rs b after
stores_shown a b [] after more h = tt
stores_shown a b (r ∷ rs) after more h =
    lost_step r rs b after (λ e. shows (after_of r) b rs after more (sets r e) h.1)
    (stores_shown (after_of r) b rs after more h.1)
