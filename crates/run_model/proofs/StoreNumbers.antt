-- The numbers of stores and of lines.
use Rattle.std.specs.Prelude.{◌==◌, filter, Option, Some, None}
use Rattle.std.specs.List.{AllByRecursion}
use Rattle.std.specs.Option.{option_map_or}
use Rattle.std.proofs.Common.{◌≡◌, ◌≢◌, ℕ, zero, suc, ◌+◌, ◌<◌, ◌≤◌, List, [], ◌∷◌, length, map, get_or, set, true, false, eqb, ap, sym, ◌∙◌, refl, ◌⊎◌, inl, inr, arith}
use Rattle.std.proofs.lemmas.Bool.{cases_Bool, eqb-true, eq-eqb}
use Rattle.std.proofs.lemmas.List.{length-map, get_or_default}
use Rattle.bus_window.specs.Windows.{BusWindow}
use Rattle.trace_line.specs.declared.act.Act.{Act}
use Rattle.trace_line.specs.declared.line.TraceLine.{TraceLine}
use Rattle.trace_line.specs.Lines.{bus_of}
use Rattle.trace_read.specs.Configuration.{NumbersDiffer}
use Rattle.trace_reply.specs.Replies.{RepliedLine}
use Rattle.run_model.specs.AllStores.{WindowState, AllStores, as_store, all_stores, windows_in, opened}
use Rattle.run_model.specs.Stores.{Store, window_store, is_on_window, is_on, lines_on, trace_lines_on}
use Rattle.run_model.specs.StoreNumbers.{store_at, AreNamed, index_from, store_from, store_of, lines_on_store, replied_on_store, Stays}
use Rattle.run_model.proofs.StoreLines.{off_first}

pub not_eqb : (a b : ℕ) → a ≢ b → eqb a b ≡ false
not_eqb a b differ = at (cases_Bool (eqb a b)) where
  at : (eqb a b ≡ true) ⊎ (eqb a b ≡ false) → eqb a b ≡ false
  at (inl same) = absurd (differ (eqb-true a b same))
  at (inr other) = other

-- ---- counts
-- Windows that are opened are those that were named.
pub windows_opened : (ws : List BusWindow) → windows_in (map opened ws) ≡ ws
windows_opened [] = refl
windows_opened (w ∷ ws) = ap (λ vs. w ∷ vs) (windows_opened ws)

-- Of windows of the same names there are as many.
pub same_count :
    (vs us : List WindowState) → windows_in vs ≡ windows_in us → length vs ≡ length us
same_count vs us same =
    sym (length-map vs (λ (v : WindowState). v.window))
    ∙ ap length same
    ∙ length-map us (λ (v : WindowState). v.window)

pub stores_count : (s : AllStores) → length (all_stores s) ≡ 1 + length s.windows
stores_count s = omega (arith, length-map s.windows (as_store s.table))

-- ---- what a section leaves as it is
pub stays_so : (s : AllStores) → Stays s s
stays_so s = record { windows = refl; processors = refl; number = refl }

pub stays_through : (s mid later : AllStores) → Stays s mid → Stays mid later → Stays s later
stays_through s mid later first second =
    record {
      windows = second.windows ∙ first.windows;
      processors = second.processors ∙ first.processors;
      number = second.number ∙ first.number;
    }

-- ---- the windows
-- A window of these has the index, and is the store of the next number.
pub record WindowAt (table : Store) (vs : List WindowState) (k : ℕ) : Type 0 where
  pub window : WindowState
  pub state : (d : WindowState) → get_or vs k d ≡ window
  pub name : (d : BusWindow) → get_or (windows_in vs) k d ≡ window.window
  pub store : (d : Store) → get_or (map (as_store table) vs) k d ≡ as_store table window

pub window_at :
    (table : Store) (vs : List WindowState) (k : ℕ) → k < length vs → WindowAt table vs k
window_at table [] k low = absurd (omega (arith, low))
window_at table (v ∷ vs) zero low =
    record { window = v; state = λ d. refl; name = λ d. refl; store = λ d. refl }
window_at table (v ∷ vs) (suc k) low =
    let rest = window_at table vs k (omega (arith, low)) in
    record { window = rest.window; state = rest.state; name = rest.name; store = rest.store }

-- ---- where one store changes
mapped_set :
    {A B : Type 0} (f : A → B) (xs : List A) (k : ℕ) (y : A) (d : B)
    → k < length xs
    → get_or (map f (set xs k y)) k d ≡ f y
mapped_set f [] k y d low = absurd (omega (arith, low))
mapped_set f (x ∷ xs) zero y d low = refl
mapped_set f (x ∷ xs) (suc k) y d low = mapped_set f xs k y d (omega (arith, low))

mapped_other :
    {A B : Type 0} (f : A → B) (xs : List A) (i k : ℕ) (y : A) (d : B)
    → k ≢ i
    → get_or (map f (set xs i y)) k d ≡ get_or (map f xs) k d
mapped_other f [] i k y d differ = refl
mapped_other f (x ∷ xs) zero zero y d differ = absurd (differ refl)
mapped_other f (x ∷ xs) zero (suc k) y d differ = refl
mapped_other f (x ∷ xs) (suc i) zero y d differ = refl
mapped_other f (x ∷ xs) (suc i) (suc k) y d differ =
    mapped_other f xs i k y d (λ e. differ (ap suc e))

-- The windows beside the page table, where its grants and the count of its processors stay.
pub windows_beside :
    (v w : Store) (vs : List WindowState)
    → v.grants ≡ w.grants
    → length v.processors ≡ length w.processors
    → map (as_store v) vs ≡ map (as_store w) vs
windows_beside v w vs granted size =
    λ i. map (λ (u : WindowState). window_store (granted i) (size i) u.states u.window) vs

-- The page table alone changes.
pub table_changed :
    (s later : AllStores)
    → later.windows ≡ s.windows
    → later.table.grants ≡ s.table.grants
    → length later.table.processors ≡ length s.table.processors
    → (other : ℕ)
    → other ≢ 0
    → other ≤ length s.windows
    → store_at later other ≡ store_at s other
table_changed s later windows granted size zero differ inside = absurd (differ refl)
table_changed s later windows granted size (suc k) differ inside =
    ap (λ ss. get_or ss k later.table)
    (ap (map (as_store later.table)) windows
    ∙ windows_beside later.table s.table s.windows granted size)
    ∙ get_or_default (map (as_store s.table) s.windows) k later.table s.table
    (omega (arith, inside, length-map s.windows (as_store s.table)))

-- A window alone changes.
module _ (s later : AllStores) (at : ℕ) (u : WindowState) (table : later.table ≡ s.table)
    (windows : later.windows ≡ set s.windows at u) where
  window_stores :
      (k : ℕ)
      → store_at later (suc k) ≡ get_or (map (as_store s.table) (set s.windows at u)) k s.table
  window_stores k = λ i. get_or (map (as_store (table i)) (windows i)) k (table i)

  pub window_changed : at < length s.windows → store_at later (suc at) ≡ as_store s.table u
  window_changed inside =
      window_stores at ∙ mapped_set (as_store s.table) s.windows at u s.table inside

  pub window_others : (other : ℕ) → other ≢ suc at → store_at later other ≡ store_at s other
  window_others zero differ = table
  window_others (suc k) differ =
      window_stores k
      ∙ mapped_other (as_store s.table) s.windows at k u s.table (λ e. differ (ap suc e))

-- ---- a line's store by its index
pub on_none : (act : Act) → bus_of act ≡ None → (w : BusWindow) → is_on_window w act ≡ false
on_none act e w = ap (λ o. option_map_or (λ number. w.liobn == number) o false) e

-- A line that names no window has no index.
pub none_from :
    (act : Act)
    → ((w : BusWindow) → is_on_window w act ≡ false)
    → (at : ℕ) (vs : List WindowState)
    → index_from at vs act ≡ None
none_from act off at [] = refl
none_from act off at (v ∷ vs) = rw (off v.window) (none_from act off (suc at) vs)

abbrev of_index : Option ℕ → ℕ
of_index None = 0
of_index (Some at) = suc at

store_index :
    (n : ℕ) (vs : List WindowState) (act : Act)
    → of_index (index_from n vs act) ≡ store_from (suc n) (windows_in vs) act
store_index n [] act = refl
store_index n (v ∷ vs) act =
    at (cases_Bool (is_on_window v.window act)) (store_index (suc n) vs act) where
      at :
          (is_on_window v.window act ≡ true) ⊎ (is_on_window v.window act ≡ false)
          → of_index (index_from (suc n) vs act) ≡ store_from (suc (suc n)) (windows_in vs) act
          → of_index (index_from n (v ∷ vs) act) ≡ store_from (suc n) (windows_in (v ∷ vs)) act
      at (inl on) rest = rw on refl
      at (inr off) rest = rw off rest

-- It is on the page table, and off each window; or on the window of an index.
pub record IsOnTable (n : ℕ) (ws : List BusWindow) (act : Act) : Type 0 where
  pub number : store_from n ws act ≡ 0
  pub on : is_on ws None act ≡ true

-- The line is on the window at an index of these, where the first of them has the number n.
pub record IsOnOne (n : ℕ) (vs : List WindowState) (act : Act) : Type 0 where
  pub at : ℕ
  pub number : store_from n (windows_in vs) act ≡ n + at
  pub inside : at < length vs
  pub on : (d : BusWindow) → is_on_window (get_or (windows_in vs) at d) act ≡ true

on_some :
    (n : ℕ) (vs : List WindowState) (act : Act)
    → IsOnTable n (windows_in vs) act ⊎ IsOnOne n vs act
on_some n [] act = inl (record { number = refl; on = refl })
on_some n (v ∷ vs) act =
    at (cases_Bool (is_on_window v.window act)) (on_some (suc n) vs act) where
      at :
          (is_on_window v.window act ≡ true) ⊎ (is_on_window v.window act ≡ false)
          → IsOnTable (suc n) (windows_in vs) act ⊎ IsOnOne (suc n) vs act
          → IsOnTable n (windows_in (v ∷ vs)) act ⊎ IsOnOne n (v ∷ vs) act
      at (inl here) rest =
          let e : n ≡ n + 0 = omega arith in
          inr
          (record {
            at = 0;
            number = rw here e;
            inside = omega arith;
            on = λ d. here;
          })
      at (inr off) (inl t) =
          inl
          (record {
            number = rw off t.number;
            on = off_first v.window (windows_in vs) act off ∙ t.on;
          })
      at (inr off) (inr o) =
          let e : suc n + o.at ≡ n + suc o.at = omega arith in
          inr
          (record {
            at = suc o.at;
            number = rw off (o.number ∙ e);
            inside = omega (arith, o.inside);
            on = o.on;
          })

-- The number of a line's store is one of the table's 0 and the windows' 1 to their count.
pub store_inside :
    (vs : List WindowState) (act : Act) → store_of (windows_in vs) act ≤ length vs
store_inside vs act = at (on_some 1 vs act) where
  at :
      IsOnTable 1 (windows_in vs) act ⊎ IsOnOne 1 vs act
      → store_of (windows_in vs) act ≤ length vs
  at (inl t) = omega (arith, t.number)
  at (inr o) = omega (arith, o.number, o.inside)

-- What `store_of` gives by the index of a line's window.
pub record HasIndex (vs : List WindowState) (act : Act) (at : ℕ) : Type 0 where
  pub store : at + 1 ≡ store_of (windows_in vs) act
  pub inside : at + 1 ≤ length vs

pub has_index :
    (vs : List WindowState) (act : Act) (o : Option ℕ) (at : ℕ)
    → o ≡ index_from 0 vs act
    → o ≡ Some at
    → HasIndex vs act at
has_index vs act o at e is =
    let more : at + 1 ≡ suc at = omega arith in
    let store : at + 1 ≡ store_of (windows_in vs) act = more ∙ ap of_index (sym is ∙ e) ∙
    store_index 0 vs act in
    record { store = store; inside = omega (arith, store, store_inside vs act) }

pub has_no_index :
    (vs : List WindowState) (act : Act) (o : Option ℕ)
    → o ≡ index_from 0 vs act
    → ((at : ℕ) → o ≡ Some at → ⊥)
    → 0 ≡ store_of (windows_in vs) act
has_no_index vs act None e off = ap of_index e ∙ store_index 0 vs act
has_no_index vs act (Some at) e off = absurd (off at refl)

-- A line is on the store of its number.
pub on_own :
    (s : AllStores) (act : Act)
    → s.table.window ≡ None
    → is_on (windows_in s.windows) (store_at s (store_of (windows_in s.windows) act)).window act
    ≡ true
on_own s act named = at (on_some 1 s.windows act) where
  at :
      IsOnTable 1 (windows_in s.windows) act ⊎ IsOnOne 1 s.windows act
      → is_on (windows_in s.windows) (store_at s (store_of (windows_in s.windows) act)).window act
      ≡ true
  at (inl t) =
      ap (λ n. is_on (windows_in s.windows) (store_at s n).window act) t.number
      ∙ ap (λ o. is_on (windows_in s.windows) o act) named
      ∙ t.on
  at (inr o) =
      let w = window_at s.table s.windows o.at o.inside in
      let e : 1 + o.at ≡ suc o.at = omega arith in
      ap (λ n. is_on (windows_in s.windows) (store_at s n).window act) (o.number ∙ e)
      ∙ ap (λ (x : Store). is_on (windows_in s.windows) x.window act) (w.store s.table)
      ∙ ap (λ u. is_on_window u act) (sym (w.name w.window.window))
      ∙ o.on w.window.window

-- ---- a number and a name
from_range :
    (n : ℕ) (ws : List BusWindow) (act : Act)
    → (store_from n ws act ≡ 0) ⊎ (n ≤ store_from n ws act)
from_range n [] act = inl refl
from_range n (w ∷ ws) act = at (cases_Bool (is_on_window w act)) (from_range (suc n) ws act) where
  at :
      (is_on_window w act ≡ true) ⊎ (is_on_window w act ≡ false)
      → (store_from (suc n) ws act ≡ 0) ⊎ (suc n ≤ store_from (suc n) ws act)
      → (store_from n (w ∷ ws) act ≡ 0) ⊎ (n ≤ store_from n (w ∷ ws) act)
  at (inl on) rest = rw on (inr (omega arith))
  at (inr off) (inl none) = rw off (inl none)
  at (inr off) (inr low) = rw off (inr (omega (arith, low)))

on_table_from :
    (n : ℕ) (ws : List BusWindow) (act : Act)
    → eqb (store_from (suc n) ws act) 0 ≡ is_on ws None act
on_table_from n [] act = refl
on_table_from n (w ∷ ws) act =
    at (cases_Bool (is_on_window w act)) (on_table_from (suc n) ws act) where
      at :
          (is_on_window w act ≡ true) ⊎ (is_on_window w act ≡ false)
          → eqb (store_from (suc (suc n)) ws act) 0 ≡ is_on ws None act
          → eqb (store_from (suc n) (w ∷ ws) act) 0 ≡ is_on (w ∷ ws) None act
      at (inl on) rest = rw on (not_eqb (suc n) 0 (λ e. absurd (omega (arith, e))))
      at (inr off) rest = rw off rest

on_one :
    (w u : BusWindow) (act : Act)
    → ¬ (w.liobn ≡ u.liobn)
    → is_on_window w act ≡ true
    → is_on_window u act ≡ false
on_one w u act differ = at (bus_of act) where
  at :
      (o : Option ℕ)
      → option_map_or (λ number. w.liobn == number) o false ≡ true
      → option_map_or (λ number. u.liobn == number) o false ≡ false
  at None h = refl
  at (Some n) h = not_eqb u.liobn n (λ e. differ (eqb-true w.liobn n h ∙ sym e))

-- The two windows have different numbers.
abbrev Differ : BusWindow → BusWindow → Type 0
Differ w u = ¬ (w.liobn ≡ u.liobn)

differ_at :
    (w : BusWindow) (ws : List BusWindow) (k : ℕ) (d : BusWindow)
    → k < length ws
    → AllByRecursion (λ (u : BusWindow). ¬ (w.liobn ≡ u.liobn)) ws
    → Differ w (get_or ws k d)
differ_at w [] k d low h = absurd (omega (arith, low))
differ_at w (u ∷ us) zero d low h = h.0
differ_at w (u ∷ us) (suc k) d low h = differ_at w us k d (omega (arith, low)) h.1

number_from :
    (n : ℕ) (ws : List BusWindow) (k : ℕ) (d : BusWindow) (act : Act)
    → 1 ≤ n
    → NumbersDiffer ws
    → k < length ws
    → eqb (store_from n ws act) (n + k) ≡ is_on_window (get_or ws k d) act
number_from n [] k d act one h low = absurd (omega (arith, low))
number_from n (w ∷ ws) zero d act one h low =
    at (cases_Bool (is_on_window w act)) (from_range (suc n) ws act) where
      same : n ≡ n + 0
      same = omega arith

      at :
          (is_on_window w act ≡ true) ⊎ (is_on_window w act ≡ false)
          → (store_from (suc n) ws act ≡ 0) ⊎ (suc n ≤ store_from (suc n) ws act)
          → eqb (store_from n (w ∷ ws) act) (n + 0) ≡ is_on_window w act
      at (inl on) rest = rw on (eq-eqb n (n + 0) same)
      at (inr off) (inl none) =
          rw off
          (not_eqb (store_from (suc n) ws act) (n + 0) (λ e. absurd (omega (arith, one, e, none))))
      at (inr off) (inr high) =
          rw off
          (not_eqb (store_from (suc n) ws act) (n + 0) (λ e. absurd (omega (arith, e, high))))
number_from n (w ∷ ws) (suc k) d act one h low =
    at (cases_Bool (is_on_window w act))
    (number_from (suc n) ws k d act (omega arith) h.1 (omega (arith, low))) where
      more : suc n + k ≡ n + suc k
      more = omega arith

      at :
          (is_on_window w act ≡ true) ⊎ (is_on_window w act ≡ false)
          → eqb (store_from (suc n) ws act) (suc n + k) ≡ is_on_window (get_or ws k d) act
          → eqb (store_from n (w ∷ ws) act) (n + suc k) ≡ is_on_window (get_or ws k d) act
      at (inl on) rest =
          rw on
          (not_eqb n (n + suc k) (λ e. absurd (omega (arith, e)))
          ∙ sym (on_one w (get_or ws k d) act (differ_at w ws k d (omega (arith, low)) h.0) on))
      at (inr off) rest =
          rw off (ap (λ m. eqb (store_from (suc n) ws act) m) (sym more) ∙ rest)

-- The lines of a number are those on the store of that number.
pub numbered :
    (s : AllStores)
    → AreNamed s
    → (number : ℕ)
    → number ≤ length s.windows
    → (act : Act)
    → eqb (store_of (windows_in s.windows) act) number
    ≡ is_on (windows_in s.windows) (store_at s number).window act
numbered s h zero low act =
    on_table_from 0 (windows_in s.windows) act
    ∙ ap (λ o. is_on (windows_in s.windows) o act) (sym h.table)
numbered s h (suc k) low act =
    let ws = windows_in s.windows in
    let w = window_at s.table s.windows k (omega (arith, low)) in
    let e : suc k ≡ 1 + k = omega arith in
    let many : length ws ≡ length s.windows = length-map s.windows
    (λ (v : WindowState). v.window) in
    ap (λ n. eqb (store_of ws act) n) e
    ∙ number_from 1 ws k w.window.window act (omega arith) h.differ (omega (arith, low, many))
    ∙ ap (λ u. is_on_window u act) (w.name w.window.window)
    ∙ sym (ap (λ (x : Store). is_on ws x.window act) (w.store s.table))

pub replied_numbered :
    (s : AllStores)
    → AreNamed s
    → (number : ℕ)
    → number ≤ length s.windows
    → (ts : List RepliedLine)
    → replied_on_store (windows_in s.windows) number ts
    ≡ lines_on (is_on (windows_in s.windows) (store_at s number).window) ts
replied_numbered s h number low ts =
    λ j. filter (λ (t : RepliedLine). numbered s h number low t.line.act j) ts

pub lines_numbered :
    (s : AllStores)
    → AreNamed s
    → (number : ℕ)
    → number ≤ length s.windows
    → (ls : List TraceLine)
    → lines_on_store (windows_in s.windows) number ls
    ≡ trace_lines_on (is_on (windows_in s.windows) (store_at s number).window) ls
lines_numbered s h number low ls =
    λ j. filter (λ (l : TraceLine). numbered s h number low l.act j) ls

-- ---- with no window
all_filtered : {A : Type 0} (xs : List A) → filter (λ x. true) xs ≡ xs
all_filtered [] = refl
all_filtered (x ∷ xs) = ap (λ ys. x ∷ ys) (all_filtered xs)

pub lines_alone : (lines : List TraceLine) → lines_on_store [] 0 lines ≡ lines
lines_alone lines = all_filtered lines
