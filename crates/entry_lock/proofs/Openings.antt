-- The rule holds at the opening.
use Rattle.std.specs.Prelude.{slice_get, if◌then◌else◌, All}
use Rattle.std.proofs.Common.{◌≡◌, ◌≢◌, ℕ, zero, suc, ◌+◌, ◌*◌, ◌<◌, ◌≤◌, ◌==◌, true, false, List, [], ◌∷◌, length, replicate, set, get_or, inl, ⊎_elim, refl, sym, ap, ◌∙◌, subst, arith, ne_eqb, length-set, Some}
use Rattle.std.proofs.lemmas.Bool.{false≢true, cases_Bool}
use mathlib.Core.Logic.{dite}
use native.Mathlib.Decide.{ℕ_discrete}
use mathlib.Core.Option.{some, some-injective, some-ne-none}
use Rattle.entry_model.specs.State.{State}
use Rattle.entry_model.specs.History.{pair_of}
use Rattle.entry_model.specs.Fronts.{front_at, opening_fronts}
use Rattle.lock_core.specs.declared.entry.Entry.{Entry}
use Rattle.lock_core.specs.Words.{settled_word, unheld_entry}
use Rattle.lock_core.specs.Machine.{Actor, Machine, nobody, newcomer, opening_machine}
use Rattle.lock_core.specs.Runs.{run}
use Rattle.lock_core.specs.Laws.{IsFair}
use Rattle.lock_core.proofs.Lists.{at_set, at_copies, at_mapped, some_same, none_some}
use Rattle.entry_lock.specs.declared.rule.View.{View}
use Rattle.entry_lock.specs.declared.rule.Opening.{Opening}
use Rattle.entry_lock.specs.Layout.{word_of, entry_words}
use Rattle.entry_lock.specs.Views.{occurrences, states_of, numbers_from, first_view}
use Rattle.entry_lock.specs.Rule.{Shows, ShowsSteps, machine_after, ActsAs, IsHead}
use Rattle.entry_lock.proofs.ViewLists.{one, times_cons}
use Rattle.entry_lock.proofs.PassSteps.{there}
use lib.ListN.{length-replicate}
use lib.ListN.{get_elem?}
use Rattle.lock_core.proofs.FrontsKept.{opening_front}

pub length_words : (states : List State) → length (entry_words states) ≡ 3 * length states
length_words [] = refl
length_words (s ∷ rest) = let h = length_words rest in omega arith

control_there :
    (states : List State) (e i : ℕ) (s : State)
    → i ≡ 3 * e
    → slice_get states e ≡ Some s
    → get_or (entry_words states) i 0 ≡ word_of (settled_word s)
control_there [] e i s d h = absurd (none_some s h)
control_there (t ∷ rest) zero zero s d h =
    ap (λ (z : State). word_of (settled_word z)) (some_same t s h)
control_there (t ∷ rest) zero (suc i) s d h = absurd (omega arith)
control_there (t ∷ rest) (suc e) zero s d h = absurd (omega arith)
control_there (t ∷ rest) (suc e) (suc zero) s d h = absurd (omega arith)
control_there (t ∷ rest) (suc e) (suc (suc zero)) s d h = absurd (omega arith)
control_there (t ∷ rest) (suc e) (suc (suc (suc i))) s d h =
    control_there rest e i s (omega arith) h

first_there :
    (states : List State) (e i : ℕ) (s : State)
    → i ≡ 3 * e + 1
    → slice_get states e ≡ Some s
    → get_or (entry_words states) i 0 ≡ s.dword0
first_there [] e i s d h = absurd (none_some s h)
first_there (t ∷ rest) zero zero s d h = absurd (omega arith)
first_there (t ∷ rest) zero (suc zero) s d h = ap (λ (z : State). z.dword0) (some_same t s h)
first_there (t ∷ rest) zero (suc (suc i)) s d h = absurd (omega arith)
first_there (t ∷ rest) (suc e) zero s d h = absurd (omega arith)
first_there (t ∷ rest) (suc e) (suc zero) s d h = absurd (omega arith)
first_there (t ∷ rest) (suc e) (suc (suc zero)) s d h = absurd (omega arith)
first_there (t ∷ rest) (suc e) (suc (suc (suc i))) s d h = first_there rest e i s (omega arith) h

second_there :
    (states : List State) (e i : ℕ) (s : State)
    → i ≡ 3 * e + 2
    → slice_get states e ≡ Some s
    → get_or (entry_words states) i 0 ≡ s.dword1
second_there [] e i s d h = absurd (none_some s h)
second_there (t ∷ rest) zero zero s d h = absurd (omega arith)
second_there (t ∷ rest) zero (suc zero) s d h = absurd (omega arith)
second_there (t ∷ rest) zero (suc (suc zero)) s d h = ap (λ (z : State). z.dword1) (some_same t s h)
second_there (t ∷ rest) zero (suc (suc (suc i))) s d h = absurd (omega arith)
second_there (t ∷ rest) (suc e) zero s d h = absurd (omega arith)
second_there (t ∷ rest) (suc e) (suc zero) s d h = absurd (omega arith)
second_there (t ∷ rest) (suc e) (suc (suc zero)) s d h = absurd (omega arith)
second_there (t ∷ rest) (suc e) (suc (suc (suc i))) s d h = second_there rest e i s (omega arith) h

after_first : (x : ℕ) (xs : List ℕ) (i j : ℕ) → j ≡ i + 1 → get_or (x ∷ xs) j 0 ≡ get_or xs i 0
after_first x xs i zero h = absurd (omega arith)
after_first x xs i (suc j) h = ap (λ k. get_or xs k 0) (let e : j ≡ i = omega arith in e)

pub length_numbers : (a n : ℕ) → length (numbers_from a n) ≡ n
length_numbers a zero = refl
length_numbers a (suc n) = ap suc (length_numbers (suc a) n)

other_one : (k n : ℕ) → n ≢ k → one k n ≡ 0
other_one k n h = ap (λ b. (let m : ℕ = if b then 1 else 0 in m)) (ne_eqb n k h)

one_at_most : (k n : ℕ) → one k n ≤ 1
one_at_most k n =
    ⊎_elim {C = one k n ≤ 1} (λ (e : (n == k) ≡ true). rw e (omega arith))
    (λ (e : (n == k) ≡ false). rw e (omega arith)) (cases_Bool (n == k))

by_eq : {F : Type 0} (k a : ℕ) → (k ≡ a → F) → (k ≢ a → F) → F
by_eq {F} k a p q = dite {C = F} (ℕ_discrete k a) p q

no_times : (k a n : ℕ) → k < a → occurrences k (numbers_from a n) ≡ 0
no_times k a zero h = refl
no_times k a (suc n) h = let c = times_cons k a (numbers_from (suc a) n) in let z :
    one k a ≡ 0 =
    other_one k a (λ e. omega arith) in let t =
    no_times k (suc a) n (omega arith) in omega arith

few_times : (k a n : ℕ) → occurrences k (numbers_from a n) ≤ 1
few_times k a zero = omega arith
few_times k a (suc n) = let c = times_cons k a (numbers_from (suc a) n) in
    by_eq k a
    (λ e. let t = no_times k (suc a) n (omega arith) in let o = one_at_most k a in omega arith)
    (λ ne.
    let z : one k a ≡ 0 = other_one k a (λ e. ne (sym e)) in
    let t = few_times k (suc a) n in
    omega arith)

in_range : (k a n : ℕ) → 1 ≤ occurrences k (numbers_from a n) → k < a + n
in_range k a zero h = absurd (omega arith)
in_range k a (suc n) h = let c = times_cons k a (numbers_from (suc a) n) in
    by_eq k a (λ e. omega arith)
    (λ ne.
    let z : one k a ≡ 0 = other_one k a (λ e. ne (sym e)) in
    let t = in_range k (suc a) n (omega arith) in
    omega arith)

first_number : (n : ℕ) → 0 < n → (m : ℕ) → m ≡ 0 → IsHead (numbers_from 0 n) m
first_number zero h m e = absurd (omega arith)
first_number (suc n) h m e = sym e

actor_there :
    (n i : ℕ)
    → i < n
    → (a : Actor) × (slice_get (set (replicate n nobody) 0 (newcomer [])) i ≡ Some a)
actor_there n i h =
    there (set (replicate n nobody) 0 (newcomer [])) i
    (let l = length-set (replicate n nobody) 0 (newcomer []) in
    let r = length-replicate n nobody in
    omega arith)

acts_first :
    (m : Machine) (n : ℕ) (a : Actor)
    → 0 < n
    → slice_get m.actors 0 ≡ Some a
    → ActsAs m (numbers_from 0 n) a
acts_first m zero a h is = absurd (omega arith)
acts_first m (suc n) a h is = is

first_actor :
    (n : ℕ) → 0 < n → slice_get (set (replicate n nobody) 0 (newcomer [])) 0 ≡ Some (newcomer [])
first_actor zero h = absurd (omega arith)
first_actor (suc n) h = refl

only_view : (v u : View) (j : ℕ) → get_elem? (v ∷ []) j ≡ some u → v ≡ u
only_view v u zero h = some-injective v u h
only_view v u (suc j) h = absurd (some-ne-none u (sym h))

fronts_length : (states : List State) → length (opening_fronts states) ≡ length states
fronts_length [] = refl
fronts_length (s ∷ rest) = ap suc (fronts_length rest)

machine_opens :
    (key : Opening)
    → All IsFair (states_of key)
    → 0 < key.passes
    → Shows key (machine_after key []) (0 ∷ entry_words (states_of key)) (first_view key ∷ [])
unfolding run opening_machine
machine_opens key fair some_pass =
    let states = states_of key in
    let m : Machine = opening_machine states key.passes in
    let v : View = first_view key in
    record {
      fair = fair;
      wide = (let l = length_words states in omega arith);
      words = λ e x h. (let o = at_mapped unheld_entry states e x h in record {
        control =
            after_first 0 (entry_words states) (3 * e) (3 * e + 1) refl
            ∙ control_there states e (3 * e) o.0 refl o.1
            ∙ ap (λ (z : Entry). word_of z.control) o.2;
        first =
            after_first 0 (entry_words states) (3 * e + 1) (3 * e + 2) (omega arith)
            ∙ first_there states e (3 * e + 1) o.0 refl o.1
            ∙ ap (λ (z : Entry). z.dword0) o.2;
        second =
            after_first 0 (entry_words states) (3 * e + 2) (3 * e + 3) (omega arith)
            ∙ second_there states e (3 * e + 2) o.0 refl o.1
            ∙ ap (λ (z : Entry). z.dword1) o.2;
      });
      views =
          λ j u is.
          subst (λ (z : View). ActsAs m z.numbers z.actor) (only_view v u j is)
          (acts_first m key.passes (newcomer []) some_pass (first_actor key.passes some_pass));
      stored =
          λ j u d x is shut.
          (let q = ap (λ (z : View). z.actor.phase) (only_view v u j is) in absurd cc);
      fronts =
          λ j e u x is h.
          (let o = at_mapped unheld_entry states e x h in let q = opening_front states e o.0 o.1 in
          let f = ap (λ (z : View). front_at z.fronts e) (only_view v u j is) in
          let w = ap (λ (z : Entry). pair_of z.published) o.2 in
          inl (omega arith));
      alone =
          λ j u d x is all looked.
          (let q = ap (λ (z : View). z.actor.phase) (only_view v u j is) in absurd cc);
      whole =
          λ j u is has. (
            ap (λ (z : View). z.passes) (sym (only_view v u j is)),
            ap (λ (z : View). length z.fronts) (sym (only_view v u j is)) ∙ fronts_length states,
            ap (λ (z : View). z.opening) (sym (only_view v u j is)),
          );
      range =
          λ j k u is has.
          actor_there key.passes k
          (let r = in_range k 0 key.passes
          (subst (λ (z : View). 1 ≤ occurrences k z.numbers) (sym (only_view v u j is))
          has) in
          omega arith);
      owned =
          λ n a is live.
          (⊎_elim {C = (j : ℕ) × (u : View) × (get_elem? (v ∷ []) j ≡ some u) × IsHead u.numbers n}
          (λ (p : (n ≡ 0) × (newcomer [] ≡ a)).
          (0, v, refl, first_number key.passes some_pass n p.0))
          (λ (p : (n ≢ 0) × (slice_get (replicate key.passes nobody) n ≡ Some a)).
          absurd
          (false≢true
          (ap (λ (z : Actor). z.live) (at_copies key.passes n nobody a p.1) ∙ live)))
          (at_set (replicate key.passes nobody) 0 n (newcomer []) a is));
      apart = λ k. (let t = few_times k 0 key.passes in omega arith);
      shares = (let l = length_numbers 0 key.passes in omega arith);
    }

pub opens :
    (key : Opening)
    → All IsFair (states_of key)
    → 0 < key.passes
    → ShowsSteps key [] (0 ∷ entry_words (states_of key)) (first_view key ∷ [])
opens key fair some_pass = record {
  shows = machine_opens key fair some_pass;
  allowed = tt;
  own = λ j n u is head. ap (λ (z : View). z.taken) (sym (only_view (first_view key) u j is));
}
