-- The readings of a set, where one partition's is replaced.
use Rattle.std.specs.Prelude.{unwrap_or}
use Rattle.std.specs.List.{AllByRecursion}
use Rattle.std.specs.Option.{IfSome}
use Rattle.std.proofs.Common.{◌≡◌, ◌≢◌, ℕ, ◌<◌, ◌≤◌, true, List, [], ◌∷◌, length, slice_set, Option, Some, None, refl, ap, inl, inr, ◌⊎◌, arith}
use Rattle.std.proofs.lemmas.Bool.{cases_lt, false≢true}
use Rattle.std.proofs.lemmas.List.{get_or-set_same, get_or-set_other, get_or_past}
use Rattle.std.proofs.lemmas.List.Elements.{All-from_recursion, recursion_from_All, All-get_or, All-set}
use Rattle.trace_read.specs.Grammar.{Reading, reading_beside}
use Rattle.trace_read.specs.Places.{is_running}
use Rattle.lpar_set.specs.SetGrammar.{SetReading, grants_read, reading_of, with_reading}
use Rattle.lpar_set.specs.SetReadings.{HasBegun, IsBeside, IsSetReading, reading_at}

-- ---- a reading and the others
-- The reading that was put in is the partition's.
pub same_reading :
    (r : SetReading) (number : ℕ) (new : Reading)
    → number < length r.readings
    → reading_of (with_reading r number new) number ≡ new
same_reading r number new inside =
    ap (λ o. unwrap_or o (reading_beside r.pool_base r.pool_order))
    (get_or-set_same r.readings number (Some new) None inside)

-- The reading of another number stays.
pub other_reading :
    (r : SetReading) (number m : ℕ) (new : Reading)
    → m ≢ number
    → reading_of (with_reading r number new) m ≡ reading_of r m
other_reading r number m new other =
    ap (λ o. unwrap_or o (reading_beside r.pool_base r.pool_order))
    (get_or-set_other r.readings number m (Some new) None other)

-- ---- numbers that don't occur
none_at :
    (r : SetReading) (m : ℕ)
    → length r.readings ≤ m
    → reading_of r m ≡ reading_beside r.pool_base r.pool_order
none_at r m past =
    ap (λ o. unwrap_or o (reading_beside r.pool_base r.pool_order))
    (get_or_past r.readings m None past)

begun_option :
    (base order : ℕ) (o : Option Reading)
    → is_running (unwrap_or o (reading_beside base order)).stage ≡ true
    → o ≡ Some (unwrap_or o (reading_beside base order))
begun_option base order None begun = absurd (false≢true begun)
begun_option base order (Some reading) begun = refl

-- A partition that has begun has a reading in the list.
pub begun_there : (r : SetReading) (m : ℕ) → HasBegun r m → reading_at r m ≡ Some (reading_of r m)
begun_there r m begun = begun_option r.pool_base r.pool_order (reading_at r m) begun

-- ---- what all have
beside_option :
    (base order taken : ℕ) (o : Option Reading)
    → IfSome o (IsBeside base order taken)
    → IsBeside base order taken (unwrap_or o (reading_beside base order))
beside_option base order taken None is =
    record {
      base = refl;
      order = refl;
      empty = refl;
      windows = refl;
      none = λ stopped. refl;
      behind = omega arith;
    }
beside_option base order taken (Some reading) is = is

-- The reading of a number has the set's pool, also where it doesn't occur yet.
pub is_beside :
    (r : SetReading) (m : ℕ)
    → IsSetReading r
    → IsBeside r.pool_base r.pool_order r.taken (reading_of r m)
is_beside r m is = by (cases_lt m (length r.readings)) where
  by :
      (m < length r.readings) ⊎ (length r.readings ≤ m)
      → IsBeside r.pool_base r.pool_order r.taken (reading_of r m)
  by (inl inside) =
      beside_option r.pool_base r.pool_order r.taken (reading_at r m)
      (All-get_or (λ (o : Option Reading). IfSome o (IsBeside r.pool_base r.pool_order r.taken))
      r.readings m None inside
      (All-from_recursion
      (λ (o : Option Reading). IfSome o (IsBeside r.pool_base r.pool_order r.taken))
      r.readings is.beside))
  by (inr past) = rw (none_at r m past) (beside_option r.pool_base r.pool_order r.taken None tt)

grants_option :
    (base order : ℕ) (o : Option Reading)
    → grants_read o ≡ (unwrap_or o (reading_beside base order)).config.granted.grants
grants_option base order None = refl
grants_option base order (Some reading) = refl

-- The grants of a number are those of its reading, none where it doesn't occur.
pub grants_there :
    (r : SetReading) (m : ℕ) → grants_read (reading_at r m) ≡ (reading_of r m).config.granted.grants
grants_there r m = grants_option r.pool_base r.pool_order (reading_at r m)

-- One more reading that has the set's pool.
pub beside_set :
    (readings : List (Option Reading)) (number base order taken : ℕ) (new : Reading)
    → IsBeside base order taken new
    → AllByRecursion (λ (o : Option Reading). IfSome o (IsBeside base order taken)) readings
    → AllByRecursion (λ (o : Option Reading). IfSome o (IsBeside base order taken))
    (slice_set readings number (Some new))
beside_set readings number base order taken new is all =
    let Each : Option Reading → Type 0 = λ o. IfSome o (IsBeside base order taken) in
    recursion_from_All Each (slice_set readings number (Some new))
    (All-set Each readings number (Some new) is (All-from_recursion Each readings all))

-- More lines may have been read since.
pub beside_later :
    (readings : List (Option Reading)) (base order taken later : ℕ)
    → taken ≤ later
    → AllByRecursion (λ (o : Option Reading). IfSome o (IsBeside base order taken)) readings
    → AllByRecursion (λ (o : Option Reading). IfSome o (IsBeside base order later)) readings
beside_later [] base order taken later most all = tt
beside_later (None ∷ os) base order taken later most all =
    (tt, beside_later os base order taken later most all.1)
beside_later (Some reading ∷ os) base order taken later most all =
    let is : IsBeside base order taken reading = all.0 in
    let behind : reading.taken ≤ taken = is.behind in (
      record {
        base = is.base;
        order = is.order;
        empty = is.empty;
        windows = is.windows;
        none = is.none;
        behind = omega (arith, behind, most);
      },
      beside_later os base order taken later most all.1,
    )
