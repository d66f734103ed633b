-- What a pass with all shares knows.
use Rattle.std.specs.Prelude.{slice_get}
use Rattle.std.proofs.Common.{◌≡◌, ◌≢◌, ℕ, zero, suc, true, false, List, [], ◌∷◌, ◌++◌, length, refl, sym, ap, ◌∙◌, subst, arith, Some, append-nil}
use Rattle.std.proofs.lemmas.Bool.{false_from_ne_true}
use mathlib.Core.Logic.{dite}
use native.Mathlib.Decide.{ℕ_discrete}
use mathlib.Core.Option.{some}
use Rattle.atomic_table.specs.Table.{State as TableState}
use Rattle.lock_core.specs.declared.entry.Entry.{Entry}
use Rattle.lock_core.specs.declared.step.Step.{Step}
use Rattle.lock_core.specs.Machine.{Actor, Machine, nobody, HoldsEntry}
use Rattle.lock_core.specs.Runs.{receipts_of}
use Rattle.lock_core.proofs.Lists.{some_same, none_some, same_at}
use Rattle.entry_lock.specs.declared.rule.View.{View}
use Rattle.entry_lock.specs.declared.rule.Opening.{Opening}
use Rattle.entry_lock.specs.Rule.{IsHead, ShowsSteps, machine_after}
use Rattle.entry_lock.proofs.ViewLists.{same_view, total_two, head_at, head_length}
use Rattle.entry_lock.proofs.PassSteps.{kept, me}
use lib.ListN.{get_elem?}

no_receipts :
    (l : List Actor)
    → ((i : ℕ) (b : Actor) → slice_get l i ≡ Some b → b.receipts ≡ [])
    → receipts_of l ≡ []
no_receipts [] none = refl
no_receipts (x ∷ xs) none =
    ap (λ r. r ++ receipts_of xs) (none 0 x refl) ∙ no_receipts xs (λ i b e. none (suc i) b e)

-- The receipts of all, of whom all but one have none.
lone_receipts :
    (l : List Actor) (n : ℕ) (a : Actor)
    → slice_get l n ≡ Some a
    → ((i : ℕ) (b : Actor) → i ≢ n → slice_get l i ≡ Some b → b.receipts ≡ [])
    → receipts_of l ≡ a.receipts
lone_receipts [] n a at none = absurd (none_some a at)
lone_receipts (x ∷ xs) zero a at none =
    ap (λ r. x.receipts ++ r) (no_receipts xs (λ i b e. none (suc i) b (λ q. omega arith) e))
    ∙ append-nil x.receipts
    ∙ ap (λ (z : Actor). z.receipts) (some_same x a at)
lone_receipts (x ∷ xs) (suc n) a at none =
    ap (λ r. r ++ receipts_of xs) (none 0 x (λ q. omega arith) refl)
    ∙ lone_receipts xs n a at (λ i b o e. none (suc i) b (λ q. o (omega arith)) e)

module _ (key : Opening) (s : TableState ℕ View) (steps : List (ℕ × Step))
    (h : ShowsSteps key steps s.words s.views) (id n : ℕ) (ns : List ℕ) (v : View)
    (at : get_elem? s.views id ≡ some v) (mine : v.numbers ≡ n ∷ ns)
    (all : length v.numbers ≡ key.passes) where
  abbrev C : Machine
  C = machine_after key steps

  -- Every live actor is this pass's.
  sole : (i : ℕ) (b : Actor) → slice_get C.actors i ≡ Some b → b.live ≡ true → i ≡ n
  sole i b is live =
      let o = h.shows.owned i b is live in
      dite {C = i ≡ n} (ℕ_discrete o.0 id)
      (λ e.
      sym
      (head_at v.numbers ns n i mine
      (subst (λ (z : View). IsHead z.numbers i)
      (same_view s.views id o.1 v
      (subst (λ q. get_elem? s.views q ≡ some o.1) e o.2) at) o.3)))
      (λ other.
      let t = total_two (λ (z : View). length z.numbers) s.views o.0 id o.1 v other o.2 at in
      let l = head_length o.1.numbers i o.3 in
      let e = h.shows.shares in
      absurd (omega arith))

  others_none : (i : ℕ) (b : Actor) → i ≢ n → slice_get C.actors i ≡ Some b → b ≡ nobody
  others_none i b other is =
      (kept key s steps h id n ns v at mine).1.quiet i b is
      (false_from_ne_true b.live (λ live. other (sole i b is live)))

  pub made_all : receipts_of C.actors ≡ v.actor.receipts
  made_all =
      lone_receipts C.actors n v.actor (me key s steps h id n ns v at mine)
      (λ i b other is. ap (λ (z : Actor). z.receipts) (others_none i b other is))

  pub unlocked :
      (e : ℕ) (x : Entry)
      → slice_get C.entries e ≡ Some x
      → ¬ HoldsEntry e v.actor.phase
      → x.control.locked ≡ false
  unlocked e x here free = false_from_ne_true x.control.locked (λ l.
      let k = (kept key s steps h id n ns v at mine).1.held e x here l in
      dite {C = ⊥} (ℕ_discrete k.0 n)
      (λ q.
      free
      (subst (λ (z : Actor). HoldsEntry e z.phase)
      (same_at C.actors n k.1 v.actor
      (subst (λ i. slice_get C.actors i ≡ Some k.1) q k.2)
      (me key s steps h id n ns v at mine)) k.3))
      (λ other. subst (λ (z : Actor). HoldsEntry e z.phase) (others_none k.0 k.1 other k.2) k.3))
