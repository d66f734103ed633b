-- A processor that gets a pass is ready.
use Rattle.std.specs.Prelude.{IsSomeAnd, Vec, min}
use Rattle.std.specs.List.{AllByRecursion}
use Rattle.trace_runner.specs.DealtLines.{count_with_own}
use Rattle.std.proofs.Common.{◌≡◌, ℕ, zero, suc, ◌+◌, ◌-◌, ◌^◌, ◌<◌, ◌≤◌, List, [], ◌∷◌, ◌++◌, length, true, false, ap, sym, ◌∙◌, refl, subst, ◌⊎◌, inl, inr, arith, Option, Some, None}
use Rattle.std.proofs.lemmas.List.{length-map, get_or_past}
use Rattle.std.proofs.lemmas.Bool.{cases_lt}
use Rattle.entry_model.specs.State.{State, empty_state}
use Rattle.entry_model.specs.declared.line.Line.{Line}
use Rattle.tlb_model.specs.Cache.{AllCached}
use Rattle.entry_model.specs.CachedLines.{Holds}
use Rattle.entry_model.specs.History.{pair_of}
use Rattle.tlb_model.proofs.CachedPages.{all_cached_weaker}
use Rattle.entry_lock.specs.declared.table.LockTable.{LockTable}
use Rattle.entry_lock.specs.declared.table.Pass.{Pass}
use Rattle.run_model.specs.StoreContexts.{StoreContext}
use Rattle.tlb_model.specs.Processor.{Processor}
use Rattle.trace_line.specs.declared.line.TraceLine.{TraceLine}
use Rattle.trace_runner.specs.declared.worker.Worker.{Worker}
use Rattle.run_model.specs.HeldLines.{Holding}
use Rattle.trace_runner.specs.Workers.{Keeping, lines_of_cpu, IsFresh, IsRest, IsSeenBy, HasRun, AreOwn, IsReady}

pub holds_inside : (a : List State) (line : Line) → Holding a line → line.entry < length a
holds_inside a line h = at (cases_lt line.entry (length a)) where
  at : (line.entry < length a) ⊎ (length a ≤ line.entry) → line.entry < length a
  at (inl low) = low
  at (inr past) = never (subst (Holds line) (get_or_past a line.entry (empty_state 0) past) h) where
    never : Holds line (empty_state 0) → line.entry < length a
    never (inl less) = absurd (omega (arith, less))
    never (inr current) = let clash : false ≡ true = current.valid in cc

pub nil_of : {A : Type 0} (xs : List A) → length xs ≡ 0 → xs ≡ []
nil_of [] e = refl
nil_of (x ∷ xs) e = absurd (omega (arith, e))

pub worker_starts :
    {L : Type 0} (keeps : Keeping L) (room_in : L → ℕ) (set : StoreContext) (table : LockTable)
    (n : ℕ) (lines : List TraceLine) (w : Worker L) (pass : Pass) (cpu : Processor)
    → length table.opening.items ≡ 2 ^ (table.order - 4)
    → AllCached (Holding table.opening.items) cpu.cache
    → IsFresh table 1 pass
    → (w.cpu ≡ cpu) × (w.before.value ≡ cpu)
    → w.pass ≡ Some pass
    → AreOwn lines n w.own.items
    → keeps w.log [] []
    → 0 < length (lines_of_cpu n lines)
    → length (lines_of_cpu n lines) ≤ room_in w.log
    → IsReady keeps room_in set table n lines w
worker_starts keeps room_in set table n lines w pass cpu size holds first processors is own none
    some room =
    inr (record {
      some = λ e. absurd (let zero_count = ap length e in omega (arith, some, zero_count));
      fresh =
          subst (λ (o : Option Pass). IsSomeAnd o (HasRun set table n [] [] w)) (sym is) (record {
            of = first.of;
            share = first.count;
            made = first.made;
            kinds = tt;
            works = first.fronts;
            size = ap length first.fronts ∙ length-map table.opening.items pair_of ∙ size;
            processor = processors.0 ∙ sym processors.1;
            seen =
                subst (λ (s : Processor). AllCached (IsSeenBy table pass) s.cache)
                (sym processors.0)
                (all_cached_weaker (Holding table.opening.items) (IsSeenBy table pass)
                (λ line h.
                record {
                  inside =
                      subst (λ m. line.entry < m) size
                      (holds_inside table.opening.items line h);
                  seen = inr h;
                }) cpu.cache holds);
          });
      own = own;
      none = none;
      room = room;
    })

pub worker_idles :
    {L : Type 0} (keeps : Keeping L) (room_in : L → ℕ) (set : StoreContext) (table : LockTable)
    (n : ℕ) (lines : List TraceLine) (w : Worker L) (cpu : Processor)
    → AllCached (Holding table.opening.items) cpu.cache
    → (w.cpu ≡ cpu) × (w.before.value ≡ cpu)
    → w.pass ≡ None
    → keeps w.log [] []
    → length (lines_of_cpu n lines) ≡ 0
    → IsReady keeps room_in set table n lines w
worker_idles keeps room_in set table n lines w cpu holds processors is none no_line = inl (record {
  no_line = nil_of (lines_of_cpu n lines) no_line;
  no_pass = is;
  none = none;
  processor = processors.0 ∙ sym processors.1;
  hold =
      subst (λ (s : Processor). AllCached (Holding table.opening.items) s.cache) (sym processors.0)
      holds;
})

-- The opening pass is all of the shares.
pub first_rest :
    (table : LockTable) (n : ℕ) (pass : Pass)
    → 0 < n
    → IsFresh table n pass
    → IsRest table n (Some pass)
first_rest table zero pass some h = absurd (omega (arith, some))
first_rest table (suc n) pass some h = h

-- ---- lists
-- What holds of all holds of the last one.
pub hold_last :
    {A : Type 0} (P : A → Type 0) (xs : List A) (x : A)
    → AllByRecursion P (xs ++ x ∷ [])
    → AllByRecursion P xs × P x
hold_last P [] x h = (tt, h.0)
hold_last P (y ∷ ys) x h = let r = hold_last P ys x h.1 in ((h.0, r.0), r.1)

-- The last list counts as the first does.
pub count_last :
    {Z : Type 0} (lists : List (Vec ℕ Z)) (own : Vec ℕ Z)
    → count_with_own (lists ++ own ∷ []) ≡ min 1 (length own.items) + count_with_own lists
count_last [] own = omega arith
count_last (x ∷ xs) own = let e = count_last xs own in omega (arith, e)
