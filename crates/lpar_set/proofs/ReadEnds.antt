-- The partitions that are read at the end of an input are those of the lines.
use Rattle.std.specs.Prelude.{is_some, unwrap_or}
use Rattle.std.specs.List.{AllByRecursion, AllPairs, list_all, list_any}
use Rattle.std.proofs.Common.{◌≡◌, ◌≢◌, ◌∙◌, ℕ, ◌+◌, ◌<◌, ◌≤◌, true, List, [], ◌∷◌, ◌++◌, length, map, take, get_or, slice_set, Option, None, Ok, refl, sym, ap, subst, ◌&&◌, inl, inr, ◌⊎◌, arith}
use Rattle.std.proofs.lemmas.Bool.{false≢true, cases_lt}
use Rattle.std.proofs.lemmas.List.{get_or_default, get_or_past, get_or-set_other, length-set, map-append, take_more}
use Rattle.std.proofs.lemmas.List.Elements.{All-from_recursion, recursion_from_All, All-push}
use Rattle.basics.proofs.Each.{each_within}
use Rattle.trace_read.specs.Grammar.{Reading, opening_reading, reading_beside}
use Rattle.trace_read.specs.Places.{is_running}
use Rattle.trace_read.specs.Trace.{IsAccepted}
use Rattle.lpar_set.specs.SetTrace.{NumberedTrace}
use Rattle.lpar_set.specs.SetGrammar.{SetReading, has_begun, partition_read, set_at_end, trace_read_so}
use Rattle.lpar_set.specs.SetRead.{IsRunningAt, partition_or}

-- ---- one partition
running_inside :
    (readings : List (Option Reading)) (number : ℕ)
    → IsRunningAt readings opening_reading number
    → number < length readings
running_inside readings number running = by (cases_lt number (length readings)) where
  by : (number < length readings) ⊎ (length readings ≤ number) → number < length readings
  by (inl inside) = inside
  by (inr past) =
      absurd
      (false≢true
      (subst
      (λ (o : Option Reading). is_running (unwrap_or o opening_reading).stage ≡ true)
      (get_or_past readings number None past) running))

-- What is left of the readings when the partitions of the first numbers are taken out.
pub record AreLeft (all now : List (Option Reading)) (begun : List ℕ) (i : ℕ) : Type 0 where
  pub left :
      (k : ℕ)
      → i ≤ k
      → k < length begun
      → get_or now (get_or begun k 0) None ≡ get_or all (get_or begun k 0) None
  pub same : length now ≡ length all

-- The next number is one of the list's places.
pub taken_inside :
    (all now : List (Option Reading)) (begun : List ℕ) (i index : ℕ)
    → AreLeft all now begun i
    → i < length begun
    → index ≡ get_or begun i 0
    → ((other : Reading) → AllByRecursion (IsRunningAt all other) begun)
    → index < length now
taken_inside all now begun i index left inside is running =
    let within : get_or begun i 0 < length all = running_inside all (get_or begun i 0)
    (each_within (IsRunningAt all opening_reading) begun i 0 (running opening_reading) inside) in
    omega (arith, left.same, is, within)

-- What is taken out for it is its reading.
pub taken_is :
    (all now : List (Option Reading)) (begun : List ℕ) (i index : ℕ) (o : Option Reading)
    → AreLeft all now begun i
    → i < length begun
    → index ≡ get_or begun i 0
    → ((other : Reading) → AllByRecursion (IsRunningAt all other) begun)
    → o ≡ get_or now index o
    → o ≡ get_or all (get_or begun i 0) None
taken_is all now begun i index o left inside is running value =
    let within : index < length now = taken_inside all now begun i index left inside is running in
    value
    ∙ get_or_default now index o None within
    ∙ ap (λ (n : ℕ). get_or now n None) is
    ∙ left.left i (omega arith) inside

-- The `begin` of the partition that is taken out has come.
pub taken_running :
    (all : List (Option Reading)) (begun : List ℕ) (i : ℕ) (o : Option Reading)
    → i < length begun
    → o ≡ get_or all (get_or begun i 0) None
    → ((other : Reading) → AllByRecursion (IsRunningAt all other) begun)
    → (other : Reading)
    → is_running (unwrap_or o other).stage ≡ true
taken_running all begun i o inside is running other =
    subst (λ (x : Option Reading). is_running (unwrap_or x other).stage ≡ true) (sym is)
    (each_within (IsRunningAt all other) begun i 0 (running other) inside)

-- ---- one partition more
-- The readings of the numbers after it are still there.
pub more_left :
    (all now : List (Option Reading)) (begun : List ℕ) (i index : ℕ) (o : Option Reading)
    → AreLeft all now begun i
    → i < length begun
    → index ≡ get_or begun i 0
    → AllPairs (λ (n m : ℕ). n ≢ m) begun
    → AreLeft all (slice_set now index o) begun (i + 1)
more_left all now begun i index o left inside is apart = record {
  left = λ k behind within.
      (let other : get_or begun k 0 ≢ index = λ same. apart i k 0 (omega arith) within
      (sym (same ∙ is)) in
      get_or-set_other now index (get_or begun k 0) o None other
      ∙ left.left k (omega arith) within);
  same = length-set now index o ∙ left.same;
}

-- The traces that are read are those of the partitions that have begun, up to this one.
pub more_read :
    (all : List (Option Reading)) (begun : List ℕ) (i : ℕ) (o : Option Reading)
    (ps qs : List NumberedTrace) (p : NumberedTrace) (other : Reading)
    → i < length begun
    → o ≡ get_or all (get_or begun i 0) None
    → ps ≡ map (partition_or all other) (take i begun)
    → qs ≡ ps ++ p ∷ []
    → p ≡ trace_read_so (unwrap_or o other) (get_or begun i 0)
    → qs ≡ map (partition_or all other) (take (i + 1) begun)
more_read all begun i o ps qs p other inside is before more one =
    let here : p ≡ partition_or all other (get_or begun i 0) = one ∙ ap
    (λ (x : Option Reading). trace_read_so (unwrap_or x other) (get_or begun i 0)) is in
    let whole : map (partition_or all other) (take (i + 1) begun) ≡ map (partition_or all other)
    (take i begun) ++ partition_or all other (get_or begun i 0) ∷ [] = ap
    (map (partition_or all other)) (take_more begun i 0 inside) ∙ map-append
    (partition_or all other) (take i begun) (get_or begun i 0 ∷ []) in
    more
    ∙ ap (λ (x : NumberedTrace). ps ++ x ∷ []) here
    ∙ ap (λ (xs : List NumberedTrace). xs ++ partition_or all other (get_or begun i 0) ∷ []) before
    ∙ sym whole

-- With one more accepted trace each of the traces is accepted.
pub more_accepted :
    (ps qs : List NumberedTrace) (p : NumberedTrace)
    → qs ≡ ps ++ p ∷ []
    → AllByRecursion (λ (x : NumberedTrace). IsAccepted x.trace) ps
    → IsAccepted p.trace
    → AllByRecursion (λ (x : NumberedTrace). IsAccepted x.trace) qs
more_accepted ps qs p more all one =
    let Accepted : NumberedTrace → Type 0 = λ x. IsAccepted x.trace in
    rw more
    (recursion_from_All Accepted (ps ++ p ∷ [])
    (All-push Accepted ps p (All-from_recursion Accepted ps all) one))

-- ---- all of a set

-- The end of the lines gives the set with these partitions.
pub set_ended :
    (r : SetReading) (readings : List (Option Reading)) (begun : List ℕ)
    (partitions : List NumberedTrace)
    → readings ≡ r.readings
    → begun ≡ r.begun
    → true ≡ (list_any is_some readings && list_all has_begun readings)
    → ((other : Reading) → partitions ≡ map (partition_or r.readings other) begun)
    → set_at_end r
    ≡ Ok
    (record {
      pool_base = r.pool_base;
      pool_order = r.pool_order;
      partitions = partitions;
      turns = r.turns;
    })
set_ended r readings begun partitions same which may read =
    let ends : (list_any is_some r.readings && list_all has_begun r.readings) ≡ true = subst
    (λ (os : List (Option Reading)). (list_any is_some os && list_all has_begun os) ≡ true) same
    (sym may) in
    let all : partitions ≡ map (partition_read r) r.begun = read
    (reading_beside r.pool_base r.pool_order) ∙ ap (map (partition_read r)) which in
    rw (ends, all) refl
