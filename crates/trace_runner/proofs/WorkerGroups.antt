-- Groups of workers: their halves, and groups that have no pass.
use Rattle.std.specs.Prelude.{IsSomeAnd, is_some, ◌||◌}
use Rattle.std.specs.List.{list_any}
use Rattle.std.proofs.Common.{◌≡◌, ℕ, suc, ◌+◌, ◌<◌, List, [], ◌∷◌, ◌++◌, length, true, false, ap, sym, ◌∙◌, refl, subst, ◌⊎◌, inl, inr, arith, Bool, Option, Some, None}
use Rattle.std.proofs.lemmas.Bool.{cases_Bool, true≢false}
use Rattle.std.proofs.lemmas.List.{length-append}
use Rattle.entry_lock.specs.declared.table.LockTable.{LockTable}
use Rattle.entry_lock.specs.declared.table.Pass.{Pass}
use Rattle.run_model.specs.StoreContexts.{StoreContext}
use Rattle.trace_line.specs.declared.line.TraceLine.{TraceLine}
use Rattle.trace_runner.specs.declared.worker.Worker.{Worker}
use Rattle.trace_runner.specs.Workers.{Keeping, IsReady, IsDone, AllNumbered, processors_before}
use Rattle.trace_runner.specs.WorkerGroup.{IsReadyGroup, RunsGroup}
use Rattle.trace_runner.proofs.Numbered.{all_append, all_front, all_back}

-- The worker has a pass to work with; one that is idle has none.
abbrev pub has_pass : {L : Type 0} → Worker L → Bool
has_pass w = is_some w.pass

no_pass : (Q : Type 0) (o : Option Pass) (P : Pass → Type 0) → is_some o ≡ false → IsSomeAnd o P → Q
no_pass Q None P e h = absurd h
no_pass Q (Some p) P e h = absurd (true≢false e)

before_both :
    {L : Type 0} (xs ys : List (Worker L))
    → processors_before (xs ++ ys) ≡ processors_before xs ++ processors_before ys
before_both [] ys = refl
before_both (x ∷ xs) ys = ap (λ ps. x.before.value ∷ ps) (before_both xs ys)

module _ {L : Type 0} (keeps : Keeping L) (room_in : L → ℕ) (set : StoreContext) (table : LockTable)
    (lines : List TraceLine) where
  idle_done :
      (cpu : ℕ) (w : Worker L)
      → has_pass w ≡ false
      → IsReady keeps room_in set table cpu lines w
      → IsDone keeps set table cpu lines w
  idle_done cpu w e (inl idle) = inl idle
  idle_done cpu w e (inr start) = no_pass _ w.pass _ e start.fresh

  all_idle :
      (n : ℕ) (ws : List (Worker L))
      → list_any has_pass ws ≡ false
      → AllNumbered (λ cpu w. IsReady keeps room_in set table cpu lines w) n ws
      → AllNumbered (λ cpu w. IsDone keeps set table cpu lines w) n ws
  all_idle n [] e h = tt
  all_idle n (w ∷ ws) e h =
      at (cases_Bool (has_pass w)) (λ rest. all_idle (suc n) ws rest h.1) where
        at :
            (has_pass w ≡ true) ⊎ (has_pass w ≡ false)
            →
            (list_any has_pass ws ≡ false
            → AllNumbered (λ cpu w. IsDone keeps set table cpu lines w) (suc n) ws)
            → AllNumbered (λ cpu w. IsDone keeps set table cpu lines w) n (w ∷ ws)
        at (inl some) more =
            absurd (true≢false (subst (λ b. (b || list_any has_pass ws) ≡ false) some e))
        at (inr none) more =
            (idle_done n w none h.0, more (subst (λ b. (b || list_any has_pass ws) ≡ false) none e))

  -- A group without a pass has run its lines as it stands.
  pub runs_idle :
      (n : ℕ) (ws : List (Worker L))
      → list_any has_pass ws ≡ false
      → IsReadyGroup keeps room_in set table lines n ws
      → RunsGroup keeps set table lines n ws ws
  runs_idle n ws e h = record { count = refl; done = all_idle n ws e h.ready; before = refl }

  pub ready_front :
      (n : ℕ) (ws xs ys : List (Worker L))
      → ws ≡ xs ++ ys
      → 0 < length xs
      → IsReadyGroup keeps room_in set table lines n ws
      → IsReadyGroup keeps room_in set table lines n xs
  ready_front n ws xs ys e some h =
      record {
        some = some;
        few = omega (arith, h.few, ap length e, length-append xs ys);
        ready =
            all_front (λ cpu w. IsReady keeps room_in set table cpu lines w) n xs ys
            (subst (AllNumbered (λ cpu w. IsReady keeps room_in set table cpu lines w) n) e
            h.ready);
      }

  pub ready_back :
      (n m : ℕ) (ws xs ys : List (Worker L))
      → ws ≡ xs ++ ys
      → m ≡ n + length xs
      → 0 < length ys
      → IsReadyGroup keeps room_in set table lines n ws
      → IsReadyGroup keeps room_in set table lines m ys
  ready_back n m ws xs ys e next some h =
      record {
        some = some;
        few = omega (arith, h.few, ap length e, length-append xs ys, next);
        ready =
            all_back (λ cpu w. IsReady keeps room_in set table cpu lines w) n m xs ys next
            (subst (AllNumbered (λ cpu w. IsReady keeps room_in set table cpu lines w) n) e
            h.ready);
      }

  pub runs_both :
      (n m : ℕ) (ws xs ys vs us : List (Worker L))
      → ws ≡ xs ++ ys
      → m ≡ n + length xs
      → RunsGroup keeps set table lines n xs vs
      → RunsGroup keeps set table lines m ys us
      → RunsGroup keeps set table lines n ws (vs ++ us)
  runs_both n m ws xs ys vs us e next front back =
      record {
        count =
            omega (
              arith,
              ap length e,
              length-append xs ys,
              length-append vs us,
              front.count,
              back.count,
            );
        done =
            all_append (λ cpu w. IsDone keeps set table cpu lines w) n m vs us
            (omega (arith, next, front.count)) front.done back.done;
        before =
            before_both vs us
            ∙ (λ i. front.before i ++ back.before i)
            ∙ sym (before_both xs ys)
            ∙ ap processors_before (sym e);
      }
