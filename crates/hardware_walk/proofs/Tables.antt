-- Tables of entries.
use Rattle.std.specs.Prelude.{slice_get, filter, if◌then◌else◌}
use Rattle.std.proofs.Common.{◌≡◌, ◌≢◌, ◌⊎◌, ℕ, zero, suc, ◌+◌, ◌==◌, Bool, true, false, List, [], ◌∷◌, ◌++◌, inl, inr, ⊎_elim, refl, sym, ap, ◌∙◌, subst, Option, Some, None, arith, eqb, eq-eqb, ne_eqb, append-nil}
use Rattle.entry_model.specs.State.{State, IsCanonicalState}
use Rattle.entry_model.specs.History.{IsLegal}
use Rattle.entry_model.specs.declared.receipt.Receipt.{Receipt}
use Rattle.entry_model.proofs.Logged.{logged_history}
use Rattle.lock_core.proofs.Lists.{some_same, none_some, set_else, set_found}
use Rattle.hardware_walk.specs.Machine.{Machine, opening_machine}
use Rattle.hardware_walk.specs.Steps.{Orders, protocol, Move, after_move, run}
use Rattle.hardware_walk.specs.Table.{opened_from, moved_at, run_table, moves_of, table_after, logs_of, EntriesAreApart, EveryHistoryIsLegal}
use Rattle.hardware_walk.proofs.Whole.{run_kept}

same_or_not : (a b : ℕ) → (a ≡ b) ⊎ (a ≢ b)
same_or_not zero zero = inl refl
same_or_not zero (suc b) = inr (λ e. omega arith)
same_or_not (suc a) zero = inr (λ e. omega arith)
same_or_not (suc a) (suc b) =
    ⊎_elim {C = (suc a ≡ suc b) ⊎ (suc a ≢ suc b)} (λ (e : a ≡ b). inl (ap suc e))
    (λ (n : a ≢ b). inr (λ e. n (omega arith))) (same_or_not a b)

module _ (orders : Orders) where
  -- The machine of one entry, if there is one, after its moves.
  ran : List Move → Option Machine → Option Machine
  ran moves None = None
  ran moves (Some m) = Some (run orders m moves)

  ran_none : (o : Option Machine) → o ≡ ran [] o
  unfolding ran run
  ran_none None = refl
  ran_none (Some m) = refl

  one_more : Move → Option Machine → Option Machine
  one_more move None = None
  one_more move (Some m) = Some (after_move orders m move)

  ran_more :
      (move : Move) (moves : List Move) (o : Option Machine)
      → one_more move (ran moves o) ≡ ran (move ∷ moves) o
  unfolding ran one_more run
  ran_more move moves None = refl
  ran_more move moves (Some m) = refl

  moved_here :
      (table : List Machine) (e : ℕ) (move : Move) (o : Option Machine)
      → slice_get table e ≡ o
      → slice_get (moved_at orders table e move o) e ≡ one_more move o
  unfolding one_more
  moved_here table e move None at = at
  moved_here table e move (Some m) at = set_found table e m (after_move orders m move) at

  moved_else :
      (table : List Machine) (e' e : ℕ) (move : Move) (o : Option Machine)
      → e ≢ e'
      → slice_get (moved_at orders table e' move o) e ≡ slice_get table e
  moved_else table e' e move None other = refl
  moved_else table e' e move (Some m) other = set_else table e' e (after_move orders m move) other

  own_run :
      (table : List Machine) (moves : List (ℕ × Move)) (e : ℕ)
      → slice_get (run_table orders table moves) e ≡ ran (moves_of e moves) (slice_get table e)
  own_run table [] e = ran_none (slice_get table e)
  own_run table (s ∷ older) e = at (same_or_not s.0 e) (own_run table older e) where
    before : List Machine
    before = run_table orders table older

    at :
        (s.0 ≡ e) ⊎ (s.0 ≢ e)
        → slice_get before e ≡ ran (moves_of e older) (slice_get table e)
        → slice_get (moved_at orders before s.0 s.1 (slice_get before s.0)) e
        ≡ ran (if s.0 == e then s.1 ∷ moves_of e older else moves_of e older) (slice_get table e)
    at (inr n) rest =
        moved_else before s.0 e s.1 (slice_get before s.0) (λ h. n (sym h))
        ∙ rest
        ∙ ap
        (λ b.
        ran (if b then s.1 ∷ moves_of e older else moves_of e older) (slice_get table e))
        (sym (ne_eqb s.0 e n))
    at (inl h) rest =
        subst
        (λ n.
        slice_get (moved_at orders before n s.1 (slice_get before n)) e
        ≡ ran (s.1 ∷ moves_of e older) (slice_get table e)) (sym h)
        (moved_here before e s.1 (slice_get before e) refl
        ∙ ap (one_more s.1) rest
        ∙ ran_more s.1 (moves_of e older) (slice_get table e))
        ∙ ap
        (λ b.
        ran (if b then s.1 ∷ moves_of e older else moves_of e older) (slice_get table e))
        (sym (eq-eqb s.0 e h))

opened_at :
    (from : ℕ) (states : List State) (callers places e : ℕ) (s : State)
    → slice_get states e ≡ Some s
    → slice_get (opened_from from states callers places) e
    ≡ Some (opening_machine (from + e) s callers places)
opened_at from [] callers places e s h = absurd (none_some s h)
opened_at from (t ∷ states) callers places zero s h =
    (λ i.
    Some
    (opening_machine (let n : from ≡ from + zero = omega arith in n i) (some_same t s h i) callers
    places))
opened_at from (t ∷ states) callers places (suc e) s h =
    opened_at (suc from) states callers places e s h
    ∙ (λ i.
    Some
    (opening_machine (let n : suc from + e ≡ from + suc e = omega arith in n i) s callers places))

pub apart : (orders : Orders) → EntriesAreApart orders
unfolding ran
apart orders states callers places moves e s at =
    own_run orders (opened_from 0 states callers places) moves e
    ∙ ap (ran orders (moves_of e moves))
    (opened_at 0 states callers places e s at
    ∙ (λ i.
    Some (opening_machine (let n : 0 + e ≡ e = omega arith in n i) s callers places)))

-- An entry of the table after moves was there before.
run_there :
    (orders : Orders) (moves : List Move) (o : Option Machine) (m : Machine)
    → ran orders moves o ≡ Some m
    → (m0 : Machine) × (o ≡ Some m0) × (run orders m0 moves ≡ m)
unfolding ran
run_there orders moves None m h = absurd (none_some m h)
run_there orders moves (Some m0) m h = (m0, refl, some_same (run orders m0 moves) m h)

opened_there :
    (from : ℕ) (states : List State) (callers places e : ℕ) (m : Machine)
    → slice_get (opened_from from states callers places) e ≡ Some m
    → (s : State)
    × (slice_get states e ≡ Some s)
    × (opening_machine (from + e) s callers places ≡ m)
opened_there from [] callers places e m h = absurd (none_some m h)
opened_there from (t ∷ states) callers places zero m h = (
  t,
  refl,
  (λ i. opening_machine (let n : from + zero ≡ from = omega arith in n i) t callers places)
      ∙ some_same _ m h,
)
opened_there from (t ∷ states) callers places (suc e) m h =
    let r = opened_there (suc from) states callers places e m h in (
      r.0,
      r.1,
      (λ i.
          opening_machine (let n : from + suc e ≡ suc from + e = omega arith in n i) r.0 callers
          places)
          ∙ r.2,
    )

-- ---- the receipts of one entry among all
abbrev of_entry : ℕ → List Receipt → List Receipt
of_entry e rs = filter (λ (r : Receipt). eqb r.entry e) rs

AllOf : ℕ → List Receipt → Type 0
AllOf e rs = (n : ℕ) (r : Receipt) → slice_get rs n ≡ Some r → r.entry ≡ e

filter_more :
    (e : ℕ) (xs ys : List Receipt) → of_entry e (xs ++ ys) ≡ of_entry e xs ++ of_entry e ys
filter_more e [] ys = refl
filter_more e (x ∷ xs) ys = by (eqb x.entry e) (filter_more e xs ys) where
  by :
      (b : Bool)
      → of_entry e (xs ++ ys) ≡ of_entry e xs ++ of_entry e ys
      → (if b then x ∷ of_entry e (xs ++ ys) else of_entry e (xs ++ ys))
      ≡ (if b then x ∷ of_entry e xs else of_entry e xs) ++ of_entry e ys
  by true rest = ap (λ l. x ∷ l) rest
  by false rest = rest

filter_all : (e : ℕ) (xs : List Receipt) → AllOf e xs → of_entry e xs ≡ xs
unfolding AllOf
filter_all e [] all = refl
filter_all e (x ∷ xs) all =
    ap (λ b. if b then x ∷ of_entry e xs else of_entry e xs) (eq-eqb x.entry e (all zero x refl))
    ∙ ap (λ l. x ∷ l) (filter_all e xs (λ n. all (suc n)))

filter_none :
    (e e' : ℕ) (xs : List Receipt) → AllOf e' xs → e' ≢ e → of_entry e xs ≡ []
unfolding AllOf
filter_none e e' [] all other = refl
filter_none e e' (x ∷ xs) all other =
    ap (λ b. if b then x ∷ of_entry e xs else of_entry e xs)
    (ne_eqb x.entry e (λ h. other (sym (all zero x refl) ∙ h)))
    ∙ filter_none e e' xs (λ n. all (suc n)) other

-- Each machine of the list has receipts of its own entry alone.
AreOwn : ℕ → List Machine → Type 0
AreOwn from table =
    (j : ℕ) (m : Machine) → slice_get table j ≡ Some m → AllOf (from + j) m.log

own_rest : (from : ℕ) (m : Machine) (table : List Machine) → AreOwn from (m ∷ table)
    → AreOwn (suc from) table
unfolding AreOwn
own_rest from m table own j n at =
    subst (λ e. AllOf e n.log) (let h : from + suc j ≡ suc from + j = omega arith in h)
    (own (suc j) n at)

none_further :
    (e from : ℕ) (table : List Machine)
    → AreOwn (suc from + e) table
    → of_entry e (logs_of table) ≡ []
unfolding AreOwn
none_further e from [] own = refl
none_further e from (m ∷ table) own =
    filter_more e m.log (logs_of table)
    ∙ ap (λ l. l ++ of_entry e (logs_of table))
    (filter_none e (suc from + e + 0) m.log (own zero m refl) (λ h. omega arith))
    ∙ none_further e (suc from) table
    (subst (λ n. AreOwn n table) (let h : suc (suc from + e) ≡ suc
    (suc from) + e = omega arith in h)
    (own_rest (suc from + e) m table own))

of_one :
    (from : ℕ) (table : List Machine) (j : ℕ) (m : Machine)
    → AreOwn from table
    → slice_get table j ≡ Some m
    → of_entry (from + j) (logs_of table) ≡ m.log
unfolding AreOwn
of_one from [] j m own at = absurd (none_some m at)
of_one from (x ∷ table) zero m own at =
    let same : x ≡ m = some_same x m at in
    filter_more (from + zero) x.log (logs_of table)
    ∙ ap (λ l. l ++ of_entry (from + zero) (logs_of table))
    (filter_all (from + zero) x.log (own zero x refl))
    ∙ ap (λ l. x.log ++ l)
    (none_further (from + zero) 0 table
    (subst (λ n. AreOwn n table) (let h : suc from ≡ suc 0 + (from + zero) = omega arith in h)
    (own_rest from x table own)))
    ∙ append-nil x.log
    ∙ ap (λ (z : Machine). z.log) same
of_one from (x ∷ table) (suc j) m own at =
    filter_more (from + suc j) x.log (logs_of table)
    ∙ ap (λ l. l ++ of_entry (from + suc j) (logs_of table))
    (filter_none (from + suc j) (from + 0) x.log (own zero x refl) (λ h. omega arith))
    ∙ ap (λ n. of_entry n (logs_of table))
    (let h : from + suc j ≡ suc from + j = omega arith in h)
    ∙ of_one (suc from) table j m (own_rest from x table own) at

module _ (states : List State) (callers places : ℕ) (moves : List (ℕ × Move))
    (canonical : (e : ℕ) (s : State) → slice_get states e ≡ Some s → IsCanonicalState s) where
  all_own : AreOwn 0 (table_after protocol states callers places moves)
  unfolding AreOwn AllOf
  all_own e m at =
      let table : List Machine = opened_from 0 states callers places in
      let was = run_there protocol (moves_of e moves) (slice_get table e) m
      (sym (own_run protocol table moves e) ∙ at) in
      let first = opened_there 0 states callers places e was.0 was.1 in
      let k = run_kept (0 + e) first.0 callers places (moves_of e moves)
      (canonical e first.0 first.1) in
      let same : run protocol (opening_machine (0 + e) first.0 callers places) (moves_of e moves)
      ≡ m
      = ap (λ z. run protocol z (moves_of e moves)) first.2 ∙ was.2 in
      subst (λ (z : Machine). (n : ℕ) (r : Receipt) → slice_get z.log n ≡ Some r → r.entry ≡ 0 + e)
      same k.listed

pub every_history : EveryHistoryIsLegal protocol
every_history states callers places moves listed canonical same e s at =
    let m : Machine = run protocol (opening_machine e s callers places) (moves_of e moves) in
    let here = apart protocol states callers places moves e s at in
    let one = of_one 0 (table_after protocol states callers places moves) e m
    (all_own states callers places moves canonical) here in
    let one' : of_entry e (logs_of (table_after protocol states callers places moves)) ≡ m.log =
    ap (λ n. of_entry n (logs_of (table_after protocol states callers places moves)))
    (let h : e ≡ 0 + e = omega arith in h) ∙ one in (
      m,
      here,
      logged_history e s m.entry.published
          (logs_of (table_after protocol states callers places moves)) listed
          (subst (λ l. IsLegal s l m.entry.published) (sym one')
          (run_kept e s callers places (moves_of e moves) (canonical e s at)).chain) same,
    )
