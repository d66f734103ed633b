-- The entries that a closing fills, one after the other, with the states that a pass reads.
use Rattle.std.specs.Arc.{arc_value}
use Rattle.std.specs.Global.{Global}
use Rattle.std_alloc.specs.declared.arc.Arc.{Arc}
use Rattle.std.proofs.Common.{◌≡◌, ◌≢◌, ℕ, zero, suc, ◌+◌, ◌<◌, ◌≤◌, List, [], ◌∷◌, ◌++◌, length, take, drop, set, get_or, sym, refl, ap, ◌∙◌, subst, arith}
use Rattle.std.proofs.lemmas.List.{length-set, get_or-set_same, get_or-set_other}
use mathlib.Core.Logic.{dite}
use native.Mathlib.Decide.{ℕ_discrete}
use Rattle.entry_model.specs.State.{State, empty_state}
use Rattle.entry_model.specs.Run.{state_at}
use Rattle.entry_lock.specs.declared.rule.View.{View}
use Rattle.entry_lock.specs.declared.table.LockTable.{LockTable}
use Rattle.entry_lock.specs.PassOfTable.{view_of}
use Rattle.entry_lock.specs.Closing.{Closes}
use Rattle.entry_lock.specs.Resting.{Rests}
use Rattle.entry_lock.proofs.StatesAtRest.{rests_close}
use Rattle.c_layout.specs.Entries.{Entry, states_of, entry_with, entries_with, AreMarked}
use Rattle.c_layout.proofs.Marks.{states-length, given_states}
use Rattle.shared_pass.specs.declared.sharer.Sharer.{Sharer}
use Rattle.shared_pass.specs.Reading.{OnlyReads, RestsIn}
use Rattle.papr_shared.proofs.LentEntries.{given_more, given_all, given_marked}

-- ---- a pass that reads
pub reads_on : (a b c : Sharer) → OnlyReads a b → OnlyReads b c → OnlyReads a c
reads_on a b c p q = record {
  table = q.table ∙ p.table;
  shares = q.shares ∙ p.shares;
  view = q.view ∙ p.view;
}

pub reads_none : (a : Sharer) → OnlyReads a a
reads_none a = record { table = refl; shares = refl; view = refl }

pub rests_before :
    (a b : Sharer) (e : ℕ) (s : State) → OnlyReads a b → RestsIn b e s → RestsIn a e s
rests_before a b e s same rests =
    subst
    (λ (z : Arc LockTable Global × View). Rests (arc_value z.0).opening.items z.1 e s)
    (λ i. (same.table i, same.view i)) rests

-- ---- entries that are put
-- The first i entries have states that the pass closes its table to, and the others are as they
-- were.
pub record ArePut (s : Sharer) (old now : List Entry) (i : ℕ) : Type 0 where
  pub states : List State
  pub long : length states ≡ length old
  pub so_far : now ≡ take i (entries_with old states) ++ drop i old
  pub rest : (e : ℕ) → e < i → RestsIn s e (state_at states e)

pub put_none : (s : Sharer) (old : List Entry) → ArePut s old old 0
put_none s old = record {
  states = states_of old;
  long = states-length old;
  so_far = refl;
  rest = λ e below. absurd (omega (arith, below));
}

-- A state that is given later changes no entry before.
take_before :
    (es : List Entry) (ss : List State) (i : ℕ) (s : State)
    → take i (entries_with es (set ss i s)) ≡ take i (entries_with es ss)
take_before [] ss i s = refl
take_before (e ∷ es) [] i s = refl
take_before (e ∷ es) (x ∷ ss) zero s = refl
take_before (e ∷ es) (x ∷ ss) (suc i) s =
    ap (λ rest. entry_with e x ∷ rest) (take_before es ss i s)

pub put_more :
    (s : Sharer) (old now : List Entry) (i : ℕ) (d e : Entry) (t : State)
    → i < length old
    → e ≡ entry_with (get_or now i d) t
    → RestsIn s i t
    → ArePut s old now i
    → ArePut s old (set now i e) (i + 1)
put_more s old now i d e t below held rests p =
    let states : List State = set p.states i t in
    let inside : i < length p.states = omega (arith, below, p.long) in
    let long : length states ≡ length old = length-set p.states i t ∙ p.long in
    let same : (k : ℕ) → k ≡ i → state_at states k ≡ t =
    λ k is.
    ap (state_at states) is ∙ get_or-set_same p.states i t (empty_state 0) inside in
    record {
      states = states;
      long = long;
      so_far =
          given_more old now states i d e t below long
          (sym (get_or-set_same p.states i t t inside)) held
          (p.so_far
          ∙ ap (λ es. es ++ drop i old) (sym (take_before old p.states i t)));
      rest =
          λ k under.
          dite {C = RestsIn s k (state_at states k)} (ℕ_discrete k i)
          (λ (is : k ≡ i).
          subst (λ (z : ℕ × State). RestsIn s z.0 z.1) (λ j. (sym is j, sym (same k is) j)) rests)
          (λ (other : ◌≢◌ k i).
          subst (RestsIn s k) (sym (get_or-set_other p.states i k t (empty_state 0) other))
          (p.rest k (omega (arith, under, other))));
    }

module _ (s : Sharer) (old now : List Entry) (i : ℕ) (all : length old ≤ i)
    (p : ArePut s old now i) where
  filled : now ≡ entries_with old p.states
  filled = given_all old now p.states i all p.so_far

  pub put_marked : AreMarked old now
  put_marked = given_marked old now p.states p.long filled

  -- The entries hold what the pass closes its table to.
  pub put_closes :
      length old ≡ length (arc_value s.table).opening.items
      → 0 < length old
      → Closes (arc_value s.table).opening.items (view_of s.pass) (states_of now)
  put_closes long some =
      let opening : List State = (arc_value s.table).opening.items in
      subst (Closes opening (view_of s.pass))
      (sym (ap (λ (es : List Entry). states_of es) filled ∙ given_states old p.states p.long))
      (rests_close opening p.states (view_of s.pass) (omega (arith, long, some)) (p.long ∙ long)
      (λ e inside. p.rest e (omega (arith, inside, long, all))))
