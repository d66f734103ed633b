-- H_RESIZE_HPT_COMMIT over lent memory is that over a pool.
use Rattle.std.specs.Prelude.{◌==◌}
use Rattle.std.proofs.Common.{◌≡◌, ℕ, length, true, false, Option, Some, None, arith, refl, ap, sym, subst, ◌∙◌, inl, inr, ◌⊎◌}
use Rattle.std.proofs.lemmas.Bool.{cases_Bool, eqb-true}
use Rattle.hpte_fields.specs.TableSize.{entry_count}
use Rattle.hpt_pool.specs.Pool.{PoolState}
use Rattle.papr_codes.specs.ReturnCodes.{rc_code}
use Rattle.papr_codes.specs.declared.codes.Rc.{Rc}
use Rattle.papr_codes.specs.declared.codes.Rc.TheVariants.{Success, Parameter, Closed, Busy}
use Rattle.hpt_resize.specs.declared.carry.Collision.{Collision}
use Rattle.hpt_resize.specs.Pending.{PendingTable, is_ready}
use Rattle.hpt_resize.specs.Rehash.{collision_of, rehashed_states}
use Rattle.hpt_resize.specs.Resize.{Table, CommitOutcome, commit_refusal, pending_refusal, is_commit_request, complete_outcome, carry_outcome, outcome_of_commit}
use Rattle.papr_c.specs.declared.rehashing.PaprRehash.{PaprRehash}
use Rattle.papr_c.specs.Resizing.{ResizeMemory, pending_of, committed, outcome_of_resize_commit}
use Rattle.papr_c.specs.ResizeLaw.{IsCommitOfPool, resize_of}

-- Both answer one code, leave one table pending, and at H_SUCCESS one table.
AreAlike : PaprRehash × ResizeMemory → CommitOutcome → Type 0
AreAlike here there =
    (here.0.rc ≡ rc_code there.rc)
    × (resize_of (pending_of here.1.resize) ≡ resize_of there.pending)
    × (there.rc ≡ Success → here.1.into ≡ there.table.states)

-- What refuses a commit isn't H_SUCCESS.
not_success :
    (rc : Rc) (p : Option PendingTable) (flags shift : ℕ)
    → commit_refusal flags shift p ≡ Some rc
    → rc ≡ Success
    → ⊥
not_success rc p flags shift refused is =
    at p (cases_Bool (is_commit_request flags shift)) (refused ∙ ap Some is) where
      by :
          (t : PendingTable)
          → (t.order == shift ≡ true) ⊎ (t.order == shift ≡ false)
          → (is_ready t ≡ true) ⊎ (is_ready t ≡ false)
          → pending_refusal shift (Some t) ≡ Some Success
          → ⊥
      by t (inr other) ready e = let told :
          pending_refusal shift (Some t) ≡ Some Closed = rw other refl in absurd (cc)
      by t (inl same) (inl ready) e = let told :
          pending_refusal shift (Some t) ≡ None = rw (same, ready) refl in absurd (cc)
      by t (inl same) (inr busy) e = let told :
          pending_refusal shift (Some t) ≡ Some Busy = rw (same, busy) refl in absurd (cc)

      at :
          (q : Option PendingTable)
          → (is_commit_request flags shift ≡ true) ⊎ (is_commit_request flags shift ≡ false)
          → commit_refusal flags shift q ≡ Some Success
          → ⊥
      at q (inr bad) e = let told :
          commit_refusal flags shift q ≡ Some Parameter = rw bad refl in absurd (cc)
      at None (inl asked) e = let told :
          commit_refusal flags shift None ≡ Some Closed = rw asked refl in absurd (cc)
      at (Some t) (inl asked) e =
          let told : commit_refusal flags shift (Some t) ≡ pending_refusal shift (Some t) = rw asked
          refl in
          by t (cases_Bool (t.order == shift)) (cases_Bool (is_ready t)) (sym told ∙ e)

-- Where nothing refuses a commit a table of the order is pending.
pending_order :
    (t : PendingTable) (flags shift : ℕ)
    → commit_refusal flags shift (Some t) ≡ None
    → t.order ≡ shift
pending_order t flags shift none =
    at (cases_Bool (is_commit_request flags shift)) (cases_Bool (t.order == shift)) where
      at :
          (is_commit_request flags shift ≡ true) ⊎ (is_commit_request flags shift ≡ false)
          → (t.order == shift ≡ true) ⊎ (t.order == shift ≡ false)
          → t.order ≡ shift
      at (inr bad) same = let told :
          commit_refusal flags shift (Some t) ≡ Some Parameter = rw bad refl in absurd (cc)
      at (inl asked) (inl same) = eqb-true t.order shift same
      at (inl asked) (inr other) = let told :
          commit_refusal flags shift (Some t) ≡ Some Closed = rw (asked, other) refl in absurd (cc)

-- The entries are carried, or two would meet.
carried :
    (t : PendingTable) (shift : ℕ) (pool : PoolState) (table : Table) (o : Option Collision)
    → t.order ≡ shift
    → collision_of table.order shift table.states ≡ o
    → AreAlike (committed table.order table.states shift) (carry_outcome t pool table o)
unfolding AreAlike
carried t shift pool table None order is =
    rw is (refl, refl, λ success. ap (λ n. rehashed_states table.order n table.states) (sym order))
carried t shift pool table (Some c) order is = rw is (refl, refl, λ success. absurd (cc))

-- Where nothing refuses a commit both complete it alike.
completed :
    (p : Option PendingTable) (flags shift : ℕ) (pool : PoolState) (table : Table)
    → commit_refusal flags shift p ≡ None
    → AreAlike (committed table.order table.states shift) (complete_outcome p pool table)
unfolding AreAlike
completed None flags shift pool table none = at (cases_Bool (is_commit_request flags shift)) where
  at :
      (is_commit_request flags shift ≡ true) ⊎ (is_commit_request flags shift ≡ false)
      → AreAlike (committed table.order table.states shift) (complete_outcome None pool table)
  at (inr bad) = let told :
      commit_refusal flags shift None ≡ Some Parameter = rw bad refl in absurd (cc)
  at (inl asked) = let told :
      commit_refusal flags shift None ≡ Some Closed = rw asked refl in absurd (cc)
completed (Some t) flags shift pool table none =
    let order = pending_order t flags shift none in
    subst
    (λ (n : ℕ).
    AreAlike (committed table.order table.states shift)
    (carry_outcome t pool table (collision_of table.order n table.states))) (sym order)
    (carried t shift pool table (collision_of table.order shift table.states) order refl)

pub commits : IsCommitOfPool
unfolding outcome_of_resize_commit outcome_of_commit AreAlike
commits flags shift m pool table whole fits =
    at (commit_refusal flags shift (pending_of m.resize)) refl where
      at :
          (o : Option Rc)
          → commit_refusal flags shift (pending_of m.resize) ≡ o
          → AreAlike (outcome_of_resize_commit table.order table.states flags shift m)
          (outcome_of_commit flags shift (pending_of m.resize) pool table)
      at (Some rc) is =
          rw (whole, is) (
            refl,
            refl,
            λ success. absurd (not_success rc (pending_of m.resize) flags shift is success),
          )
      at None is =
          let long : (length m.into == entry_count shift) ≡ true = grind (arith, fits is) in
          rw (whole, is, long) (completed (pending_of m.resize) flags shift pool table is)
