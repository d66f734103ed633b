-- A partition begins: it is one more at the end, and its table takes one more block.
use Rattle.std.specs.Prelude.{is_some}
use Rattle.std.specs.List.{AllByRecursion, range_with_len}
use Rattle.std.proofs.Common.{◌≡◌, ◌≢◌, ℕ, ◌+◌, ◌<◌, ◌≤◌, true, false, List, [], ◌∷◌, ◌++◌, length, map, get_or, Option, Some, None, refl, sym, ap, ◌∙◌, subst, inl, inr, ◌⊎◌, Contains, arith}
use Rattle.std.proofs.lemmas.Bool.{cases_lt, false≢true}
use Rattle.std.proofs.lemmas.List.{length_push, get_or_append_left, get_or_push, map-append}
use Rattle.std.proofs.lemmas.List.Elements.{All-from_recursion, recursion_from_All, All-push, All-get_or, Contains-push, Contains-append_left}
use Rattle.std.proofs.lemmas.List.Quantifiers.{all_pairs_push}
use Rattle.hpt_pool.specs.Pool.{PoolState, lowest_place, no_blocks}
use Rattle.trace_read.specs.Grammar.{Reading}
use Rattle.trace_read.specs.Places.{is_running}
use Rattle.lpar_set.specs.declared.turn.Turn.{Turn}
use Rattle.lpar_set.specs.OpeningTables.{HasRoomFor, with_opening, with_openings}
use Rattle.lpar_set.specs.SetTrace.{turns_of}
use Rattle.lpar_set.specs.SetGrammar.{SetReading, reading_of}
use Rattle.lpar_set.specs.SetReadings.{AreBegun, HasBegun, IsSetReading, count_at, order_of, orders_begun}
use Rattle.lpar_set.proofs.BegunTables.{map_agree, openings_push, room_push}
use Rattle.lpar_set.proofs.Retold.{IsRetold, retold_is, told, told_at}
use Rattle.lpar_set.proofs.SetPlaces.{same_reading}
use Rattle.lpar_set.proofs.TurnLines.{no_turns}
use Rattle.basics.proofs.Each.{each_map}

-- The partition has not begun, and begins with a table of this order and no run line.
pub record Begins (r : SetReading) (number order : ℕ) (new : Reading) : Type 0 where
  pub below : number < 8
  pub before : is_running (reading_of r number).stage ≡ false
  pub after : is_running new.stage ≡ true
  pub same : new.config.order ≡ order
  pub none : new.lines ≡ []

-- The set with the partition after those that had begun.
abbrev pub with_begun : SetReading → ℕ → ℕ → Reading → SetReading
with_begun r number order new =
    told r number new (r.begun ++ number ∷ []) (with_opening r.tables order) r.turns

-- One that had begun is another.
pub begun_other :
    (r : SetReading) (number m : ℕ)
    → is_running (reading_of r number).stage ≡ false
    → HasBegun r m
    → m ≢ number
begun_other r number m before begun same = false≢true (sym before ∙ subst (HasBegun r) same begun)

-- ---- the numbers
begun_here :
    (r : SetReading) (number order : ℕ) (new : Reading)
    → number < length r.readings
    → Begins r number order new
    → HasBegun (with_begun r number order new) number
begun_here r number order new inside begins =
    told_at (λ (x : Reading). is_running x.stage ≡ true) r number number new inside
    (λ same. begins.after) (λ other. absurd (other refl))

begun_there :
    (r : SetReading) (number order m : ℕ) (new : Reading)
    → number < length r.readings
    → Begins r number order new
    → HasBegun r m
    → HasBegun (with_begun r number order new) m
begun_there r number order m new inside begins begun =
    told_at (λ (x : Reading). is_running x.stage ≡ true) r number m new inside
    (λ same. begins.after) (λ other. begun)

begun_contains :
    (r : SetReading) (number order m : ℕ) (new : Reading)
    → IsSetReading r
    → number < length r.readings
    → HasBegun (with_begun r number order new) m
    → Contains (r.begun ++ number ∷ []) m
begun_contains r number order m new is inside =
    told_at (λ (x : Reading). is_running x.stage ≡ true → Contains (r.begun ++ number ∷ []) m) r
    number m new inside
    (λ same begun.
    subst (Contains (r.begun ++ number ∷ [])) (sym same) (Contains-push r.begun number))
    (λ other begun. Contains-append_left r.begun (number ∷ []) m (is.begun.all m begun))

begun_are :
    (r : SetReading) (number order : ℕ) (new : Reading)
    → IsSetReading r
    → number < length r.readings
    → Begins r number order new
    → AreBegun (with_begun r number order new)
begun_are r number order new is inside begins =
    let After = HasBegun (with_begun r number order new) in
    let old = each_map (HasBegun r) After r.begun
    (λ m begun. begun_there r number order m new inside begins begun) is.begun.running in
    record {
      below =
          recursion_from_All (λ m. m < 8) (r.begun ++ number ∷ [])
          (All-push (λ m. m < 8) r.begun number
          (All-from_recursion (λ m. m < 8) r.begun is.begun.below) begins.below);
      apart =
          all_pairs_push (λ (n m : ℕ). n ≢ m) r.begun number is.begun.apart
          (λ k d within.
          begun_other r number (get_or r.begun k d) begins.before
          (All-get_or (HasBegun r) r.begun k d within
          (All-from_recursion (HasBegun r) r.begun is.begun.running)));
      running =
          recursion_from_All After (r.begun ++ number ∷ [])
          (All-push After r.begun number (All-from_recursion After r.begun old)
          (begun_here r number order new inside begins));
      all = λ m begun. begun_contains r number order m new is inside begun;
    }

-- ---- the tables
begun_order :
    (r : SetReading) (number order m : ℕ) (new : Reading)
    → number < length r.readings
    → Begins r number order new
    → HasBegun r m
    → order_of (with_begun r number order new) m ≡ order_of r m
begun_order r number order m new inside begins begun =
    told_at (λ (x : Reading). x.config.order ≡ order_of r m) r number m new inside
    (λ same. absurd (begun_other r number m begins.before begun same)) (λ other. refl)

begun_orders :
    (r : SetReading) (number order : ℕ) (new : Reading)
    → IsSetReading r
    → number < length r.readings
    → Begins r number order new
    → orders_begun (with_begun r number order new) ≡ orders_begun r ++ order ∷ []
begun_orders r number order new is inside begins =
    let s = with_begun r number order new in
    let here : order_of s number ≡ order = ap (λ (x : Reading). x.config.order)
    (same_reading r number new inside) ∙ begins.same in
    let there : map (order_of s) r.begun ≡ orders_begun r = map_agree (order_of s) (order_of r)
    r.begun
    (each_map (HasBegun r) (λ m. order_of s m ≡ order_of r m) r.begun
    (λ m begun. begun_order r number order m new inside begins begun) is.begun.running) in
    map-append (order_of s) r.begun (number ∷ [])
    ∙ ap (λ (l : List ℕ). l ++ order_of s number ∷ []) there
    ∙ ap (λ (n : ℕ). orders_begun r ++ n ∷ []) here

some_there : (o : Option ℕ) → is_some o ≡ true → o ≢ None
some_there None is = absurd (false≢true is)
some_there (Some place) is = λ none. cc

-- ---- the turns
begun_count :
    (r : SetReading) (number order k : ℕ) (new : Reading)
    → IsSetReading r
    → number < length r.readings
    → Begins r number order new
    → k < length r.begun
    → count_at (with_begun r number order new) k ≡ count_at r k
begun_count r number order k new is inside begins within =
    let s = with_begun r number order new in
    let m = get_or r.begun k 8 in
    let begun : HasBegun r m = All-get_or (HasBegun r) r.begun k 8 within
    (All-from_recursion (HasBegun r) r.begun is.begun.running) in
    ap (λ (n : ℕ). length (reading_of s n).lines)
    (get_or_append_left r.begun (number ∷ []) 8 k within)
    ∙ told_at (λ (x : Reading). length x.lines ≡ length (reading_of r m).lines) r number m new
    inside
    (λ same. absurd (begun_other r number m begins.before begun same)) (λ other. refl)

begun_none :
    (r : SetReading) (number order k : ℕ) (new : Reading)
    → number < length r.readings
    → Begins r number order new
    → length r.begun ≡ k
    → count_at (with_begun r number order new) k ≡ 0
begun_none r number order k new inside begins last =
    let s = with_begun r number order new in
    ap (λ (n : ℕ). length (reading_of s n).lines) (get_or_push r.begun number 8 k last)
    ∙ ap (λ (x : Reading). length x.lines) (same_reading r number new inside)
    ∙ ap length begins.none

begun_lines :
    (r : SetReading) (number order k : ℕ) (new : Reading)
    → IsSetReading r
    → number < length r.readings
    → Begins r number order new
    → k < length (r.begun ++ number ∷ [])
    → map (λ (t : Turn). t.line) (turns_of k r.turns)
    ≡ range_with_len 0 (count_at (with_begun r number order new) k)
begun_lines r number order k new is inside begins within = by (cases_lt k (length r.begun)) where
  by :
      (k < length r.begun) ⊎ (length r.begun ≤ k)
      → map (λ (t : Turn). t.line) (turns_of k r.turns)
      ≡ range_with_len 0 (count_at (with_begun r number order new) k)
  by (inl before) =
      is.lines k before
      ∙ ap (range_with_len 0) (sym (begun_count r number order k new is inside begins before))
  by (inr behind) =
      let size : length (r.begun ++ number ∷ []) ≡ length r.begun + 1 = length_push r.begun number
      in
      let last : length r.begun ≡ k = omega (arith, behind, within, size) in
      let below : AllByRecursion (λ (t : Turn). t.partition < k) r.turns = subst
      (λ n. AllByRecursion (λ (t : Turn). t.partition < n) r.turns) last is.turns in
      ap (map (λ (t : Turn). t.line)) (no_turns k r.turns below)
      ∙ ap (range_with_len 0) (sym (begun_none r number order k new inside begins last))

-- ---- the whole
-- A `begin` that the pool has room for keeps what holds of the set.
pub begun_keeps :
    (r : SetReading) (number order : ℕ) (new : Reading)
    → IsSetReading r
    → IsRetold r number new
    → Begins r number order new
    → is_some (lowest_place r.tables order) ≡ true
    → IsSetReading (with_begun r number order new)
begun_keeps r number order new is retold begins there =
    let pool = no_blocks r.pool_base r.pool_order in
    let orders = begun_orders r number order new is retold.inside begins in
    let place : lowest_place (with_openings pool (orders_begun r)) order ≢ None = subst
    (λ (p : PoolState). lowest_place p order ≢ None) is.tables
    (some_there (lowest_place r.tables order) there) in
    let size : length (r.begun ++ number ∷ []) ≡ length r.begun + 1 = length_push r.begun number in
    retold_is r number new (r.begun ++ number ∷ []) (with_opening r.tables order) r.turns is retold
    (record {
      begun = begun_are r number order new is retold.inside begins;
      tables =
          ap (λ (p : PoolState). with_opening p order) is.tables
          ∙ sym (openings_push pool (orders_begun r) order)
          ∙ ap (with_openings pool) (sym orders);
      room =
          subst (HasRoomFor pool) (sym orders)
          (room_push pool (orders_begun r) order is.room place);
      turns =
          each_map (λ (t : Turn). t.partition < length r.begun)
          (λ (t : Turn). t.partition < length (r.begun ++ number ∷ [])) r.turns
          (λ t below. omega (arith, below, size)) is.turns;
      lines = λ k within. begun_lines r number order k new is retold.inside begins within;
      counted = is.counted;
    })
