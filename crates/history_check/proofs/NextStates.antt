-- The state after a receipt, by the state before, the answer, and the operation of its step.
use Rattle.std.specs.Prelude.{◌||◌}
use Rattle.std.proofs.Common.{◌≡◌, ◌+◌, true, false, ap, sym, ◌∙◌, refl, ◌⊎◌, inl, inr}
use Rattle.std.proofs.lemmas.Bool.{cases_Bool, ne_eqb, or_parts}
use Rattle.storage_prot.specs.declared.want.Want.{Want}
use Rattle.entry_model.specs.State.{State}
use Rattle.entry_model.specs.declared.operation.Answer.{Answer}
use Rattle.entry_model.specs.declared.operation.Answer.TheVariants as answers
use Rattle.entry_model.specs.declared.operation.Op.{Op}
use Rattle.entry_model.specs.declared.operation.Op.TheVariants as ops
use Rattle.entry_model.specs.declared.receipt.Receipt.{Receipt}
use Rattle.entry_model.specs.Receipt.{after_of, is_at, is_worn, is_change}
use Rattle.entry_model.specs.Reply.{reply_of, touched_state}
use Rattle.entry_model.proofs.Replied.{Changes, enters, removes, protects, clears_r, clears_c, Replied, replied, left, changed, accessed}
use Rattle.authority_mask.specs.Authority.{no_masks}
use Rattle.history_check.specs.Steps.{step_op, unless_worn, next_by}

-- an operation's change, where the answer says that there was one
change_next :
    (s : State) {op : Op} {a : Answer} {next : State}
    → Changes s op a next
    → (s.stamp ≡ 0xFFFFFFFF → ⊥)
    → record next { stamp = s.stamp + 1 } ≡ next_by (step_op op) a s
unfolding next_by
change_next s (enters a b valid) fresh = rw (valid, ne_eqb s.stamp 0xFFFFFFFF fresh) refl
change_next s (removes test valid) fresh = rw (valid, ne_eqb s.stamp 0xFFFFFFFF fresh) refl
change_next s (protects test flags valid) fresh =
    rw (valid, ne_eqb s.stamp 0xFFFFFFFF fresh) refl
change_next s (clears_r valid) fresh = rw (valid, ne_eqb s.stamp 0xFFFFFFFF fresh) refl
change_next s (clears_c valid) fresh = rw (valid, ne_eqb s.stamp 0xFFFFFFFF fresh) refl

pub unchanged_next :
    (op : Op) (answer : Answer) (s : State)
    → (is_change answer || is_at answer) ≡ false
    → s ≡ next_by op answer s
unfolding next_by
unchanged_next op answer s h = at op (or_parts (is_change answer) (is_at answer) h) where
  at : (op : Op) → (is_change answer ≡ false) × (is_at answer ≡ false) → s ≡ next_by op answer s
  at (ops.Access t b k n w masks) both = rw both.1 refl
  at (ops.Enter a b) both = rw both.0 refl
  at (ops.Remove test) both = rw both.0 refl
  at (ops.Protect test flags) both = rw both.0 refl
  at ops.Read both = rw both.0 refl
  at ops.ClearRef both = rw both.0 refl
  at ops.ClearMod both = rw both.0 refl

-- an access that is allowed is on a valid state
accessed_next :
    (s : State) (want : Want)
    → s.valid ≡ true
    → touched_state s want ≡ next_by (ops.Access 0 0 false false want no_masks) answers.At s
unfolding next_by
accessed_next s want valid = rw valid refl

next_of : (s : State) (op : Op) → (reply_of s op).1 ≡ next_by (step_op op) (reply_of s op).0 s
next_of s op = at (replied s op) where
  at : {op : Op} {x : Answer × State} → Replied s op x → x.1 ≡ next_by (step_op op) x.0 s
  at {op} (left a is) = unchanged_next (step_op op) a s (rw (is.no_change, is.no_at) refl)
  at (changed a next changes is) = change_next s changes is.fresh
  at (accessed tag base key no_execute want masks valid) = accessed_next s want valid

next_is : (r : Receipt) → after_of r ≡ next_by (step_op r.op) r.answer r.before
next_is r = next_of r.before r.op ∙ ap (λ a. next_by (step_op r.op) a r.before) (sym r.lawful)

pub unchanged_after :
    (r : Receipt) → (is_change r.answer || is_at r.answer) ≡ false → r.before ≡ after_of r
unchanged_after r h = unchanged_next (step_op r.op) r.answer r.before h ∙ sym (next_is r)

-- what an answer keeps of an operation makes the change
worn_still :
    (answer : Answer) → is_worn answer ≡ true → (is_change answer || is_at answer) ≡ false
worn_still answers.Worn h = refl
worn_still other h = cc

kept_next :
    (op : Op) (answer : Answer) (s : State)
    → next_by op answer s ≡ next_by (unless_worn answer op) answer s
kept_next op answer s = at (cases_Bool (is_worn answer)) where
  at :
      (is_worn answer ≡ true) ⊎ (is_worn answer ≡ false)
      → next_by op answer s ≡ next_by (unless_worn answer op) answer s
  at (inl worn) =
      let still = worn_still answer worn in
      sym (unchanged_next op answer s still) ∙ unchanged_next (unless_worn answer op) answer s still
  at (inr fine) = rw fine refl

pub step_next :
    (r : Receipt) → after_of r ≡ next_by (unless_worn r.answer (step_op r.op)) r.answer r.before
step_next r = next_is r ∙ kept_next (step_op r.op) r.answer r.before
