-- A set's reading, where one partition's is replaced: what holds of the whole, by its parts.
use Rattle.std.specs.List.{AllByRecursion, AllPairs, range_with_len}
use Rattle.std.proofs.Common.{◌≡◌, ◌≢◌, ℕ, ◌<◌, ◌≤◌, true, List, length, map, get_or, Option, Some, None, refl, sym, ap, ◌∙◌, subst, inl, inr, ◌⊎◌}
use Rattle.std.proofs.lemmas.Bool.{cases_eq, false≢true}
use Rattle.std.proofs.lemmas.List.{length-set, get_or_default}
use Rattle.hpt_pool.specs.Pool.{PoolState, no_blocks}
use Rattle.trace_read.specs.Grammar.{Reading}
use Rattle.trace_read.specs.Places.{is_running}
use Rattle.lpar_set.specs.declared.turn.Turn.{Turn}
use Rattle.lpar_set.specs.OpeningTables.{HasRoomFor, with_openings}
use Rattle.lpar_set.specs.SetTrace.{AreStrangers, turns_of}
use Rattle.lpar_set.specs.SetGrammar.{SetReading, grants_read, reading_of, with_reading}
use Rattle.lpar_set.specs.SetReadings.{AreBegun, HasBegun, IsBeside, IsSetReading, count_at, order_of, orders_begun, reading_at}
use Rattle.lpar_set.proofs.BegunTables.{map_agree}
use Rattle.lpar_set.proofs.GrantsApart.{pairs_set, strangers_back}
use Rattle.lpar_set.proofs.SetPlaces.{beside_set, same_reading, other_reading}
use Rattle.basics.proofs.Each.{each_map}

-- The set with a partition's reading replaced, and with these partitions begun, these tables and
-- these turns.
abbrev pub told : SetReading → ℕ → Reading → List ℕ → PoolState → List Turn → SetReading
told r number new begun tables turns =
    record (with_reading r number new) { begun = begun; tables = tables; turns = turns }

-- The new reading has the pool of the set, and its grants are apart from those of other partitions.
pub record IsRetold (r : SetReading) (number : ℕ) (new : Reading) : Type 0 where
  pub inside : number < length r.readings
  pub beside : IsBeside r.pool_base r.pool_order r.taken new
  pub strangers :
      (m : ℕ)
      → m ≢ number
      → m < length r.readings
      → AreStrangers new.config.granted.grants (grants_read (reading_at r m))

-- ---- one number
-- What holds of the new reading, and of the old ones at all other numbers, holds at each number.
pub told_at :
    (P : Reading → Type 0) (r : SetReading) (number m : ℕ) (new : Reading)
    → number < length r.readings
    → (m ≡ number → P new)
    → (m ≢ number → P (reading_of r m))
    → P (reading_of (with_reading r number new) m)
told_at P r number m new inside here there = by (cases_eq m number) where
  by : (m ≡ number) ⊎ (m ≡ number → ⊥) → P (reading_of (with_reading r number new) m)
  by (inl same) =
      subst P
      (sym
      (ap (reading_of (with_reading r number new)) same
      ∙ same_reading r number new inside)) (here same)
  by (inr other) = subst P (sym (other_reading r number m new other)) (there other)

-- ---- all parts
-- The parts that speak of the partitions that have begun.
pub record AreToldSo (s : SetReading) : Type 0 where
  pub begun : AreBegun s
  pub tables : s.tables ≡ with_openings (no_blocks s.pool_base s.pool_order) (orders_begun s)
  pub room : HasRoomFor (no_blocks s.pool_base s.pool_order) (orders_begun s)
  pub turns : AllByRecursion (λ (t : Turn). t.partition < length s.begun) s.turns
  pub lines :
      (k : ℕ)
      → k < length s.begun
      → map (λ (t : Turn). t.line) (turns_of k s.turns) ≡ range_with_len 0 (count_at s k)
  pub counted : length s.turns ≤ s.taken

strangers_told :
    (r : SetReading) (number : ℕ) (new : Reading)
    → IsSetReading r
    → IsRetold r number new
    → AllPairs (λ (one other : Option Reading). AreStrangers (grants_read one) (grants_read other))
    (with_reading r number new).readings
strangers_told r number new is retold =
    pairs_set (λ (one other : Option Reading). AreStrangers (grants_read one) (grants_read other))
    r.readings number (Some new) is.strangers
    (λ k d inside other.
    let apart = retold.strangers k other inside in
    rw (get_or_default r.readings k d None inside)
    (apart, strangers_back new.config.granted.grants (grants_read (reading_at r k)) apart))

-- A set that is read again of one partition is sound, where its parts about those that began hold.
pub retold_is :
    (r : SetReading) (number : ℕ) (new : Reading) (begun : List ℕ) (tables : PoolState)
    (turns : List Turn)
    → IsSetReading r
    → IsRetold r number new
    → AreToldSo (told r number new begun tables turns)
    → IsSetReading (told r number new begun tables turns)
retold_is r number new begun tables turns is retold so = record {
  pool = is.pool;
  eight = length-set r.readings number (Some new) ∙ is.eight;
  fresh = λ untouched. absurd (false≢true untouched);
  beside =
      beside_set r.readings number r.pool_base r.pool_order r.taken new retold.beside is.beside;
  strangers = strangers_told r number new is retold;
  begun = so.begun;
  tables = so.tables;
  room = so.room;
  turns = so.turns;
  lines = so.lines;
  counted = so.counted;
  few = is.few;
}

-- ---- lines at which no partition begins
-- The partition runs or not as before; where it runs, the order of its opening table stays.
pub record IsSteady (r : SetReading) (number : ℕ) (new : Reading) : Type 0 where
  pub running : is_running new.stage ≡ is_running (reading_of r number).stage
  pub order : HasBegun r number → new.config.order ≡ order_of r number

steady_kept :
    (r : SetReading) (number m : ℕ) (new : Reading)
    → number < length r.readings
    → IsSteady r number new
    → HasBegun r m
    → HasBegun (with_reading r number new) m
steady_kept r number m new inside steady begun =
    told_at (λ (x : Reading). is_running x.stage ≡ true) r number m new inside
    (λ same. steady.running ∙ subst (HasBegun r) same begun) (λ other. begun)

steady_back :
    (r : SetReading) (number m : ℕ) (new : Reading)
    → number < length r.readings
    → IsSteady r number new
    → HasBegun (with_reading r number new) m
    → HasBegun r m
steady_back r number m new inside steady =
    told_at (λ (x : Reading). is_running x.stage ≡ true → HasBegun r m) r number m new inside
    (λ same begun. subst (HasBegun r) (sym same) (sym steady.running ∙ begun))
    (λ other begun. begun)

-- Those that have begun stay.
pub steady_begun :
    (r : SetReading) (number : ℕ) (new : Reading) (tables : PoolState) (turns : List Turn)
    → IsSetReading r
    → number < length r.readings
    → IsSteady r number new
    → AreBegun (told r number new r.begun tables turns)
steady_begun r number new tables turns is inside steady = record {
  below = is.begun.below;
  apart = is.begun.apart;
  running =
      each_map (HasBegun r) (HasBegun (told r number new r.begun tables turns)) r.begun
      (λ m begun. steady_kept r number m new inside steady begun) is.begun.running;
  all = λ m begun. is.begun.all m (steady_back r number m new inside steady begun);
}

steady_order :
    (r : SetReading) (number m : ℕ) (new : Reading)
    → number < length r.readings
    → IsSteady r number new
    → HasBegun r m
    → order_of (with_reading r number new) m ≡ order_of r m
steady_order r number m new inside steady begun =
    told_at (λ (x : Reading). x.config.order ≡ order_of r m) r number m new inside
    (λ same. steady.order (subst (HasBegun r) same begun) ∙ ap (order_of r) (sym same))
    (λ other. refl)

-- The orders of the opening tables of those that have begun stay.
pub steady_orders :
    (r : SetReading) (number : ℕ) (new : Reading) (tables : PoolState) (turns : List Turn)
    → IsSetReading r
    → number < length r.readings
    → IsSteady r number new
    → orders_begun (told r number new r.begun tables turns) ≡ orders_begun r
steady_orders r number new tables turns is inside steady =
    map_agree (order_of (told r number new r.begun tables turns)) (order_of r) r.begun
    (each_map (HasBegun r) (λ m. order_of (told r number new r.begun tables turns) m ≡ order_of r m)
    r.begun (λ m begun. steady_order r number m new inside steady begun) is.begun.running)

-- A set stays sound when one reading is replaced by one that has as many run lines.
pub steady_keeps :
    (r : SetReading) (number : ℕ) (new : Reading)
    → IsSetReading r
    → IsRetold r number new
    → IsSteady r number new
    → length new.lines ≡ length (reading_of r number).lines
    → IsSetReading (with_reading r number new)
steady_keeps r number new is retold steady count =
    let orders = steady_orders r number new r.tables r.turns is retold.inside steady in
    retold_is r number new r.begun r.tables r.turns is retold (record {
      begun = steady_begun r number new r.tables r.turns is retold.inside steady;
      tables = is.tables ∙ ap (with_openings (no_blocks r.pool_base r.pool_order)) (sym orders);
      room = subst (HasRoomFor (no_blocks r.pool_base r.pool_order)) (sym orders) is.room;
      turns = is.turns;
      lines = λ k inside. is.lines k inside ∙ ap (range_with_len 0) (sym (counts k));
      counted = is.counted;
    })
  where
    counts : (k : ℕ) → count_at (with_reading r number new) k ≡ count_at r k
    counts k =
        let m = get_or r.begun k 8 in
        told_at (λ (x : Reading). length x.lines ≡ length (reading_of r m).lines) r number m new
        retold.inside
        (λ same. count ∙ ap (λ (n : ℕ). length (reading_of r n).lines) (sym same)) (λ other. refl)
