-- Lines on the windows of a machine.
use Rattle.std.specs.Prelude.{if◌then◌else◌, OnOk}
use Rattle.std.proofs.Common.{◌≡◌, ℕ, zero, suc, ◌+◌, ◌<◌, List, [], ◌∷◌, length, map, get_or, set, true, false, ap, sym, ◌∙◌, refl, subst, ◌⊎◌, inl, inr, Option, Some, None, Result, Ok, Err, arith}
use Rattle.std.proofs.lemmas.Bool.{cases_Bool}
use Rattle.bus_window.specs.Windows.{BusWindow}
use Rattle.trace_line.specs.declared.act.Act.{Act}
use Rattle.trace_line.specs.declared.line.TraceLine.{TraceLine}
use Rattle.trace_line.specs.Lines.{is_quiet}
use Rattle.trace_reply.specs.declared.reply.Reply.{Reply}
use Rattle.entry_model.specs.State.{State}
use Rattle.tlb_model.specs.Processor.{new_processor}
use Rattle.run_model.specs.AllStores.{WindowState, AllStores, as_store, all_stores, windows_in}
use Rattle.run_model.specs.QuietLines.{run_quiet_line}
use Rattle.run_model.specs.StoreNumbers.{index_from}
use Rattle.run_model.specs.SerialRun.{line_result, run_on, run_line}
use Rattle.run_model.specs.StoreContexts.{window_context}
use Rattle.run_model.specs.Stores.{Store, is_on_window, is_on}
use Rattle.run_model.proofs.StoreLines.{quiet_off_window, on_first, off_first}
use Rattle.run_model.proofs.StoreNumbers.{none_from}
use Rattle.run_model.proofs.StoreSerial.{quiet_is}
use Rattle.run_model.proofs.WindowLines.{window_line}
use Rattle.trace_runner.specs.MachineState.{RunsLine}
use Rattle.trace_runner.proofs.QuietLines.{line_beside}

-- ---- the run on the window at an index
-- The reply to a line on a window, and the states of its entries.
abbrev pub result_on : Store → WindowState → Act → Reply × List State
result_on table v act =
    line_result (window_context table.grants v.window) new_processor v.states act

-- The line names the window at this index, is run on it, and leaves the others.
pub record RunsAt (ws : List BusWindow) (table : Store) (vs : List WindowState) (l : TraceLine)
    (k : ℕ) :
    Type 0 where
  pub inside : k < length vs
  pub named : (d : WindowState) → is_on_window (get_or vs k d).window l.act ≡ true
  pub runs :
      (d : WindowState)
      → let v = get_or vs k d in
      let x = result_on table v l.act in
      run_line ws (map (as_store table) vs) l
      ≡ (x.0, map (as_store table) (set vs k (record v { states = x.1 })))

abbrev given : Option ℕ → ℕ
given None = 0
given (Some n) = n

module _ (ws : List BusWindow) (table : Store) (l : TraceLine) where
  first_runs :
      (v : WindowState) (vs : List WindowState)
      → is_on_window v.window l.act ≡ true
      → RunsAt ws table (v ∷ vs) l 0
  first_runs v vs on = record {
    inside = omega arith;
    named = λ d. on;
    runs =
        λ d.
        rw on
        (ap (λ (y : Reply × Store). (y.0, y.1 ∷ map (as_store table) vs))
        (window_line table.grants (length table.processors) v.states v.window l on));
  }

  later_runs :
      (v : WindowState) (vs : List WindowState) (k : ℕ)
      → is_on_window v.window l.act ≡ false
      → RunsAt ws table vs l k
      → RunsAt ws table (v ∷ vs) l (suc k)
  later_runs v vs k off h = record {
    inside = omega (arith, h.inside);
    named = h.named;
    runs = λ d. rw off (ap (λ (y : Reply × List Store). (y.0, as_store table v ∷ y.1)) (h.runs d));
  }

  placed_from :
      (n : ℕ) (vs : List WindowState) (i : ℕ)
      → index_from n vs l.act ≡ Some i
      → (k : ℕ) × (i ≡ n + k) × RunsAt ws table vs l k
  placed_from n [] i e = cc
  placed_from n (v ∷ vs) i e =
      at (cases_Bool (is_on_window v.window l.act)) (λ k. placed_from (suc n) vs i k) where
        at :
            (is_on_window v.window l.act ≡ true) ⊎ (is_on_window v.window l.act ≡ false)
            →
            (index_from (suc n) vs l.act ≡ Some i
            → (k : ℕ) × (i ≡ suc n + k) × RunsAt ws table vs l k)
            → (k : ℕ) × (i ≡ n + k) × RunsAt ws table (v ∷ vs) l k
        at (inl on) rest =
            let same : n ≡ i = ap given
            (subst (λ b. (if b then Some n else index_from (suc n) vs l.act) ≡ Some i) on e) in
            (0, omega (arith, same), first_runs v vs on)
        at (inr off) rest =
            let later = rest
            (subst (λ b. (if b then Some n else index_from (suc n) vs l.act) ≡ Some i) off e) in
            (suc later.0, omega (arith, later.1), later_runs v vs later.0 off later.2)

  -- The line is run on the window at its index.
  pub placed :
      (vs : List WindowState) (i : ℕ) → index_from 0 vs l.act ≡ Some i → RunsAt ws table vs l i
  placed vs i e =
      let found = placed_from 0 vs i e in
      let same : found.0 ≡ i = omega (arith, found.1) in
      subst (RunsAt ws table vs l) same found.2

-- A line that has an index is off the page table, and one that has none is on it.
pub off_table :
    (n : ℕ) (vs : List WindowState) (act : Act) (i : ℕ)
    → index_from n vs act ≡ Some i
    → is_on (windows_in vs) None act ≡ false
off_table n [] act i e = cc
off_table n (v ∷ vs) act i e =
    at (cases_Bool (is_on_window v.window act)) (λ k. off_table (suc n) vs act i k) where
      at :
          (is_on_window v.window act ≡ true) ⊎ (is_on_window v.window act ≡ false)
          → (index_from (suc n) vs act ≡ Some i → is_on (windows_in vs) None act ≡ false)
          → is_on (windows_in (v ∷ vs)) None act ≡ false
      at (inl on) rest = on_first v.window (windows_in vs) act on
      at (inr off) rest =
          off_first v.window (windows_in vs) act off
          ∙ rest (subst (λ b. (if b then Some n else index_from (suc n) vs act) ≡ Some i) off e)

on_table :
    (n : ℕ) (vs : List WindowState) (act : Act)
    → index_from n vs act ≡ None
    → is_on (windows_in vs) None act ≡ true
on_table n [] act e = refl
on_table n (v ∷ vs) act e =
    at (cases_Bool (is_on_window v.window act)) (λ k. on_table (suc n) vs act k) where
      at :
          (is_on_window v.window act ≡ true) ⊎ (is_on_window v.window act ≡ false)
          → (index_from (suc n) vs act ≡ None → is_on (windows_in vs) None act ≡ true)
          → is_on (windows_in (v ∷ vs)) None act ≡ true
      at (inl on) rest = let clash :
          Some n ≡ None =
          subst (λ b. (if b then Some n else index_from (suc n) vs act) ≡ None) on e in cc
      at (inr off) rest =
          off_first v.window (windows_in vs) act off
          ∙ rest (subst (λ b. (if b then Some n else index_from (suc n) vs act) ≡ None) off e)

-- ---- windows that stay
pub windows_stay :
    (vs : List WindowState) (k : ℕ) (v d : WindowState)
    → k < length vs
    → v.window ≡ (get_or vs k d).window
    → windows_in (set vs k v) ≡ windows_in vs
windows_stay [] k v d within e = absurd (omega (arith, within))
windows_stay (x ∷ xs) zero v d within e = ap (λ w. w ∷ windows_in xs) e
windows_stay (x ∷ xs) (suc k) v d within e =
    ap (λ ws. x.window ∷ ws) (windows_stay xs k v d (omega (arith, within)) e)

-- ---- a line on all stores
on_ok_both : {T E P Q R : Type 0} (x : Result T E) → (P → Q → R) → OnOk x P → OnOk x Q → OnOk x R
on_ok_both (Ok y) f p q = f p q
on_ok_both (Err e) f p q = tt

-- On a window: it is run there, and the page table stays.
pub steps_on_window :
    (s new : AllStores) (l : TraceLine) (r : Reply) (i : ℕ) (v u : WindowState)
    → s.table.window ≡ None
    → index_from 0 s.windows l.act ≡ Some i
    → v ≡ get_or s.windows i v
    → (r, u.states) ≡ result_on s.table v l.act
    → u.window ≡ v.window
    → new ≡ record s { windows = set s.windows i u }
    → RunsLine s l r new
steps_on_window s new l r i v u named first is ran same after =
    subst (RunsLine s l r) (sym after) (record { ran = sym all; windows = stay }) where
      ws : List BusWindow
      ws = windows_in s.windows

      x : Reply × List State
      x = result_on s.table (get_or s.windows i v) l.act

      here : RunsAt ws s.table s.windows l i
      here = placed ws s.table l s.windows i first

      told : x ≡ (r, u.states)
      told = sym (ran ∙ ap (λ (z : WindowState). result_on s.table z l.act) is)

      left : record (get_or s.windows i v) { states = x.1 } ≡ u
      left =
          λ j.
          record {
            window = sym (same ∙ ap (λ (z : WindowState). z.window) is) j;
            states = (told j).1;
          }

      off : is_on ws s.table.window l.act ≡ false
      off = ap (λ o. is_on ws o l.act) named ∙ off_table 0 s.windows l.act i first

      all :
          run_line ws (all_stores s) l ≡ (r, all_stores (record s { windows = set s.windows i u }))
      all =
          rw off
          (ap (λ (y : Reply × List Store). (y.0, s.table ∷ y.1))
          (here.runs v
          ∙ (λ j. ((told j).0, map (as_store s.table) (set s.windows i (left j))))))

      stay : windows_in (set s.windows i u) ≡ ws
      stay = windows_stay s.windows i u v here.inside (same ∙ ap (λ (z : WindowState). z.window) is)

-- On the page table: the windows stay.
pub steps_on_table :
    (s new : AllStores) (l : TraceLine) (r : Reply)
    → s.table.window ≡ None
    → index_from 0 s.windows l.act ≡ None
    → (r, new.table) ≡ run_on s.table l
    → new.windows ≡ s.windows
    → RunsLine s l r new
steps_on_table s new l r named none ran windows =
    record { ran = told ∙ sym all; windows = ap windows_in windows } where
      ws : List BusWindow
      ws = windows_in s.windows

      on : is_on ws s.table.window l.act ≡ true
      on = ap (λ o. is_on ws o l.act) named ∙ on_table 0 s.windows l.act none

      all :
          ◌≡◌ {A = Reply × List Store} (run_line ws (all_stores s) l)
          ((run_on s.table l).0, (run_on s.table l).1 ∷ map (as_store s.table) s.windows)
      all = rw on refl

      told :
          ◌≡◌ {A = Reply × List Store} (r, all_stores new)
          ((run_on s.table l).0, (run_on s.table l).1 ∷ map (as_store s.table) s.windows)
      told =
          (λ j. ((ran j).0, (ran j).1 ∷ map (as_store (ran j).1) (windows j)))
          ∙ ap {B = Reply × List Store} (λ us. ((run_on s.table l).0, (run_on s.table l).1 ∷ us))
          (line_beside s.table l s.windows)

-- A quiet line, if memory was enough for it.
pub quiet_steps :
    {E : Type 0} (x : Result Unit E) (s new : AllStores) (l : TraceLine) (r : Reply)
    → s.table.window ≡ None
    → is_quiet l.act ≡ true
    → OnOk x ((r, new.table) ≡ run_quiet_line s.table l.act)
    → OnOk x (new.windows ≡ s.windows)
    → OnOk x (RunsLine s l r new)
quiet_steps x s new l r named q =
    on_ok_both x
    (λ ran windows.
    steps_on_table s new l r named
    (none_from l.act (λ w. quiet_off_window w l.act q) 0 s.windows)
    (ran ∙ sym (quiet_is s.table l q)) windows)
