-- Before the first line of a partition, and at each line that is counted.
use Rattle.std.specs.Prelude.{is_none, unwrap_or}
use Rattle.std.specs.Option.{IfSome}
use Rattle.std.proofs.Common.{◌≡◌, ℕ, ◌+◌, ◌%◌, ◌^◌, ◌<◌, ◌≤◌, Bool, true, false, List, length, get_or, replicate, Option, Some, None, refl, ap, inl, inr, ◌⊎◌, if◌then◌else◌, ltb, eqb, not, ◌||◌, arith}
use Rattle.std.proofs.lemmas.Bool.{cases_lt, false≢true, ltb-false, eqb-true, not-false, or_parts}
use Rattle.std.proofs.lemmas.List.{get_or-replicate, get_or_past}
use Rattle.std.proofs.lemmas.List.Elements.{recursion_from_All, All-replicate}
use Rattle.pool_range.specs.declared.range.RangeError.{RangeError}
use Rattle.pool_range.specs.declared.range.RangeError.TheVariants as errors
use Rattle.pool_range.specs.Ranges.{IsPoolRange, range_refusal, address_end}
use Rattle.trace_read.specs.Grammar.{Reading, reading_beside}
use Rattle.lpar_set.specs.SetTrace.{AreStrangers}
use Rattle.lpar_set.specs.SetGrammar.{SetReading, grants_read, opening_set_reading, reading_of, set_beside}
use Rattle.lpar_set.specs.SetReadings.{HasBegun, IsBeside, IsSetReading}
use Rattle.lpar_set.proofs.SetPlaces.{beside_later}
use Rattle.trace_line.specs.Lines.{most_lines}

-- ---- no partition
-- After so many lines none occurs yet.
abbrev pub still_empty : ℕ → ℕ → ℕ → Bool → SetReading
still_empty base order taken untouched =
    record (set_beside base order) { taken = taken; untouched = untouched }

-- None of the eight partitions has been read.
abbrev pub no_readings : List (Option Reading)
no_readings = replicate 8 None

pub none_there : (m : ℕ) → get_or no_readings m None ≡ None
none_there m = by (cases_lt m 8) where
  by : (m < 8) ⊎ (8 ≤ m) → get_or no_readings m None ≡ None
  by (inl inside) = get_or-replicate 8 m None None inside
  by (inr past) = get_or_past no_readings m None past

none_begun :
    (base order taken : ℕ) (untouched : Bool) (m : ℕ)
    → HasBegun (still_empty base order taken untouched) m
    → ⊥
none_begun base order taken untouched m begun =
    let none : reading_of (still_empty base order taken untouched) m ≡ reading_beside base order =
    ap (λ o. unwrap_or o (reading_beside base order)) (none_there m) in
    false≢true (rw none at begun)

no_strangers :
    (i j : ℕ) (d : Option Reading)
    → i < j
    → j < 8
    → AreStrangers (grants_read (get_or no_readings i d)) (grants_read (get_or no_readings j d))
no_strangers i j d before inside =
    rw (get_or-replicate 8 i None d (omega (arith, before, inside))) tt

-- What holds of a set's reading holds while no partition occurs.
pub empty_is :
    (base order taken : ℕ) (untouched : Bool)
    → IsPoolRange base order
    → taken ≤ most_lines
    → IsSetReading (still_empty base order taken untouched)
empty_is base order taken untouched pool few = record {
  pool = pool;
  eight = refl;
  fresh =
      λ first.
      recursion_from_All (λ (o : Option Reading). o ≡ None) (replicate 8 None)
      (All-replicate (λ (o : Option Reading). o ≡ None) 8 None refl);
  beside =
      recursion_from_All (λ (o : Option Reading). IfSome o (IsBeside base order taken))
      (replicate 8 None)
      (All-replicate (λ (o : Option Reading). IfSome o (IsBeside base order taken)) 8 None tt);
  strangers = λ i j d before inside. no_strangers i j d before inside;
  begun = record {
    below = tt;
    apart = λ i j d before inside. absurd (omega (arith, inside));
    running = tt;
    all = λ m begun. absurd (none_begun base order taken untouched m begun);
  };
  tables = refl;
  room = tt;
  turns = tt;
  lines = λ k inside. absurd (omega (arith, inside));
  counted = omega arith;
  few = few;
}

-- Before the first line.
pub opening_set_reading_is : IsSetReading opening_set_reading
opening_set_reading_is =
    empty_is 0x1000000000 24 0 true
    (record {
      at_least = omega arith;
      at_most = omega arith;
      aligned = refl;
      to_end = omega arith;
    }) (omega arith)

-- ---- the pool that a line names
-- No test that stands before the others refuses.
record AreClear (test : Bool) (o : Option RangeError) : Type 0 where
  clear : test ≡ false
  rest : is_none o ≡ true

clear_if :
    (test : Bool) (error : RangeError) (o : Option RangeError)
    → is_none (if test then Some error else o) ≡ true
    → AreClear test o
clear_if true error o none = absurd (false≢true none)
clear_if false error o none = record { clear = refl; rest = none }

-- Two numbers that nothing refuses are a range for page tables.
pub range_is : (base order : ℕ) → is_none (range_refusal base order) ≡ true → IsPoolRange base order
unfolding range_refusal
range_is base order none =
    let first = clear_if (ltb order 18 || ltb 34 order) errors.Order _ none in
    let second = clear_if (not (eqb (base % 2 ^ order) 0)) errors.Unaligned _ first.rest in
    let third = clear_if (ltb address_end (base + 2 ^ order)) errors.Past None second.rest in
    let orders = or_parts (ltb order 18) (ltb 34 order) first.clear in
    record {
      at_least = ltb-false order 18 orders.0;
      at_most = ltb-false 34 order orders.1;
      aligned = eqb-true (base % 2 ^ order) 0 (not-false _ second.clear);
      to_end = ltb-false address_end (base + 2 ^ order) third.clear;
    }

-- ---- one line more
-- A line that is counted leaves what holds of the set.
pub counted_is :
    (r : SetReading)
    → IsSetReading r
    → r.taken < most_lines
    → IsSetReading (record r { taken = r.taken + 1 })
counted_is r is few =
    let counted : length r.turns ≤ r.taken = is.counted in
    record {
      pool = is.pool;
      eight = is.eight;
      fresh = is.fresh;
      beside =
          beside_later r.readings r.pool_base r.pool_order r.taken (r.taken + 1) (omega arith)
          is.beside;
      strangers = is.strangers;
      begun =
          record {
            below = is.begun.below;
            apart = is.begun.apart;
            running = is.begun.running;
            all = is.begun.all;
          };
      tables = is.tables;
      room = is.room;
      turns = is.turns;
      lines = is.lines;
      counted = omega (arith, counted);
      few = omega (arith, few);
    }
