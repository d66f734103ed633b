-- What the steps of a call follow from.
use Rattle.std.specs.Prelude.{MatchBool, Result, Ok, Err, IfErr}
use Rattle.std.proofs.Common.{◌≡◌, ◌≢◌, ℕ, ◌<◌, ◌==◌, ◌^◌, Bool, true, false, List, [], ◌∷◌, ◌++◌, refl, sym, ap, ◌∙◌, subst, ne_eqb}
use Rattle.std.proofs.lemmas.Bool.{not-false, not-true}
use Rattle.entry_model.specs.declared.operation.Op.{Op}
use Rattle.entry_model.specs.declared.receipt.Receipt.{Receipt}
use Rattle.entry_model.specs.Receipt.{after_of, is_access}
use Rattle.lock_core.specs.declared.control.Control.{Control}
use Rattle.lock_core.specs.declared.doing.Doing.{Doing}
use Rattle.lock_core.specs.declared.step.Step.{Step}
use Rattle.lock_core.specs.declared.step.Step.TheVariants.{Lock, Look, Shut, StoreData, Settle}
use Rattle.lock_core.specs.declared.phase.Phase.TheVariants.{HeldShut}
use Rattle.lock_core.specs.Words.{noted_state, next_state, changes, receipt}
use Rattle.lock_core.specs.Steps.{with_noted}
use Rattle.lock_core.proofs.Noted.{changes_alike}
use Rattle.entry_lock.specs.declared.busy.Busy.{Busy}
use Rattle.entry_lock.specs.declared.rule.View.{View}
use Rattle.entry_lock.specs.Layout.{word_of, valid_bit}
use Rattle.entry_lock.specs.CallSteps.{after_steps, Took, loads_if, stores_if, leaves_state, changing_steps, IsDeciding, TookBusyAccess, TookBusy}
use Rattle.entry_lock.specs.StepViews.{view_with_step, view_in_phase, view_with_receipt, view_with_store}
use Rattle.entry_lock.proofs.Bits.{control_is}

-- ---- steps one after the other
after_append :
    (taken xs ys : List Step) → after_steps taken (xs ++ ys) ≡ after_steps (after_steps taken xs) ys
after_append taken [] ys = refl
after_append taken (x ∷ xs) ys = after_append (x ∷ taken) xs ys

took_both : (u v w : View) (xs ys : List Step) → Took xs u v → Took ys v w → Took (xs ++ ys) u w
took_both u v w xs ys a b = b ∙ ap (λ t. after_steps t ys) a ∙ sym (after_append u.taken xs ys)

pub leaves_if : (d : Doing) → changes d ≡ false → leaves_state (receipt d) ≡ true
unfolding receipt changes next_state
leaves_if d h = not-false _ h

pub changes_if : (d : Doing) → changes d ≡ true → leaves_state (receipt d) ≡ false
unfolding receipt changes next_state
changes_if d h = not-true _ h

pub valid_before : (d : Doing) → (receipt d).before.valid ≡ d.noted.valid
unfolding receipt noted_state
valid_before d = refl

-- The receipt r is that of the operation d by the word that was found.
module _ (d : Doing) (k : Control) (other : is_access d.op ≡ false)
    (valid : k.valid ≡ d.noted.valid) (stamp : k.stamp ≡ d.noted.stamp) (r : Receipt)
    (is : r ≡ receipt (with_noted d k)) where
  pub found_valid : r.before.valid ≡ d.noted.valid
  found_valid = ap (λ (z : Receipt). z.before.valid) is ∙ valid_before (with_noted d k) ∙ valid

  pub found_leaves : changes d ≡ false → leaves_state r ≡ true
  found_leaves h =
      ap leaves_state is ∙ leaves_if (with_noted d k) (changes_alike d k other valid stamp ∙ h)

  pub found_changes : changes d ≡ true → leaves_state r ≡ false
  found_changes h =
      ap leaves_state is ∙ changes_if (with_noted d k) (changes_alike d k other valid stamp ∙ h)

-- ---- accesses that were busy
other_words : (a b : ℕ) (F G : Type 0) → a ≢ b → G → MatchBool (a == b) F G
other_words a b F G not_same g = subst (λ t. MatchBool t F G) (sym (ne_eqb a b not_same)) g

pub busy_second :
    (e : ℕ) (op : Op) (noted : Control) (last : Step) (b : Busy) (u v w x : View)
    → is_access op ≡ true → noted.stamp < 2 ^ 32 → IsDeciding e op last
    → (b.looked ≡ word_of noted) × (b.found ≢ b.looked)
    → Took (Look e op ∷ []) u v → Took (loads_if noted.valid) v w → Took (last ∷ []) w x
    → TookBusy e op b u x
busy_second e op noted last b u v w x access low decides two look loads end =
    let word = control_is (word_of noted) noted (refl, low) in
    let valid : valid_bit b.looked ≡ noted.valid =
    ap valid_bit two.0 ∙ ap (λ (k : Control). k.valid) word in
    let rest = took_both v w x (loads_if noted.valid) (last ∷ []) loads end in
    let all = took_both u v x (Look e op ∷ []) (loads_if noted.valid ++ last ∷ []) look rest in
    let took = subst (λ z. Took (Look e op ∷ loads_if z ++ last ∷ []) u x) (sym valid) all in
    let busy : TookBusyAccess e op b u x =
    other_words b.looked b.found _ _ (λ q. two.1 (sym q)) (last, decides, took) in
    subst (λ z. MatchBool z (TookBusyAccess e op b u x) (Took (Lock e op ∷ []) u x)) (sym access)
    busy

-- ---- results
pub if_err :
    {A E : Type 0} (r : Result A E) (P Q : E → Type 0)
    → ((b : E) → P b → Q b)
    → IfErr r P
    → IfErr r Q
if_err (Ok a) P Q f h = tt
if_err (Err e) P Q f h = f e h

-- ---- the steps that change an entry
pub changed_stored :
    (v v1 v2 v3 v4 : View) (d : Doing) (r : Receipt)
    → v1 ≡ view_in_phase (view_with_step v Shut) (HeldShut d)
    → v2 ≡ view_with_store false (view_with_step v1 (StoreData false))
    → v3 ≡ view_with_store true (view_with_step v2 (StoreData true))
    → v4 ≡ view_with_receipt (view_with_step v3 Settle) r
    → (after_of r).valid ≡ true
    → v4 ≡ record (view_with_receipt v r) { taken = after_steps v.taken (changing_steps r) }
changed_stored v v1 v2 v3 v4 d r a b c e valid =
    e
    ∙ ap (λ (z : View). view_with_receipt (view_with_step z Settle) r)
    (c
    ∙ ap (λ (z : View). view_with_store true (view_with_step z (StoreData true)))
    (b ∙ ap (λ (z : View). view_with_store false (view_with_step z (StoreData false))) a))
    ∙ ap
    (λ (q : Bool).
    record (view_with_receipt v r) {
      taken = after_steps v.taken (Shut ∷ stores_if q ++ Settle ∷ []);
    }) (sym valid)

pub changed_bare :
    (v v1 v4 : View) (d : Doing) (r : Receipt)
    → v1 ≡ view_in_phase (view_with_step v Shut) (HeldShut d)
    → v4 ≡ view_with_receipt (view_with_step v1 Settle) r
    → (after_of r).valid ≡ false
    → v4 ≡ record (view_with_receipt v r) { taken = after_steps v.taken (changing_steps r) }
changed_bare v v1 v4 d r a e valid =
    e ∙ ap (λ (z : View). view_with_receipt (view_with_step z Settle) r) a
    ∙ ap
    (λ (q : Bool).
    record (view_with_receipt v r) {
      taken = after_steps v.taken (Shut ∷ stores_if q ++ Settle ∷ []);
    }) (sym valid)
