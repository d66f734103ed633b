-- The set at the end of its input is an accepted one.
use Rattle.std.specs.Prelude.{is_some, unwrap_or}
use Rattle.std.specs.List.{AllByRecursion, AllPairs, list_all, list_any, range_with_len}
use Rattle.std.proofs.Common.{◌≡◌, ◌≢◌, ℕ, ◌<◌, ◌≤◌, Bool, true, false, List, [], ◌∷◌, length, map, get_or, Option, Some, None, Ok, Err, refl, sym, ap, ◌∙◌, subst, if◌then◌else◌, ◌&&◌, arith}
use Rattle.std.proofs.lemmas.Bool.{both_ways, false≢true, true_from_ne_false}
use Rattle.std.proofs.lemmas.List.{get_or-map, get_or_default, length-map}
use Rattle.std.proofs.lemmas.List.Elements.{All-from_recursion}
use Rattle.std.proofs.lemmas.List.Folds.{Any-from_list_any, list_all_at}
use Rattle.frame_grants.specs.declared.grant.Grant.{Grant}
use Rattle.hpt_pool.specs.Pool.{no_blocks}
use Rattle.trace_read.specs.declared.why.Why.{Why}
use Rattle.trace_read.specs.Grammar.{Reading, reading_beside}
use Rattle.trace_read.specs.Places.{is_running}
use Rattle.trace_read.specs.Trace.{IsAccepted}
use Rattle.lpar_set.specs.declared.turn.Turn.{Turn}
use Rattle.lpar_set.specs.OpeningTables.{HasRoomFor}
use Rattle.lpar_set.specs.SetTrace.{AcceptedSet, AreStrangers, IsAcceptedSet, IsOfSet, IsTurnOf, NumberedTrace, no_partition, partition_at, turns_of}
use Rattle.lpar_set.specs.SetGrammar.{SetReading, grants_read, has_begun, partition_read, reading_of, set_at_end}
use Rattle.lpar_set.specs.SetReadings.{HasBegun, IsSetReading, order_of, reading_at}
use Rattle.lpar_set.proofs.GrantsApart.{pairs_both, strangers_back}
use Rattle.lpar_set.proofs.SetPlaces.{grants_there, is_beside}
use Rattle.lpar_set.proofs.TakenSteps.{never_ok}
use Rattle.trace_line.specs.Lines.{most_lines}
use Rattle.basics.proofs.Each.{each_map}

-- ---- what the end tests
-- The set that a reading gives.
abbrev pub set_read : SetReading → AcceptedSet
set_read r = record {
  pool_base = r.pool_base;
  pool_order = r.pool_order;
  partitions = map (partition_read r) r.begun;
  turns = r.turns;
}

-- A partition occurs, and each that does has begun.
pub record HasEnded (r : SetReading) (s : AcceptedSet) : Type 0 where
  pub occurs : list_any is_some r.readings ≡ true
  pub begun : list_all has_begun r.readings ≡ true
  pub same : s ≡ set_read r

ended_by :
    (occurs begun : Bool) (t s : AcceptedSet) (why : ℕ × Why)
    → (if occurs && begun then Ok t else Err why) ≡ Ok s
    → (occurs ≡ true) × (begun ≡ true) × (s ≡ t)
ended_by true true t s why e =
    let same : s ≡ t = cc in
    (refl, refl, same)
ended_by true false t s why e = absurd (never_ok why s e)
ended_by false begun t s why e = absurd (never_ok why s e)

-- A set that is given at the end is what was read.
pub has_ended : (r : SetReading) (s : AcceptedSet) → set_at_end r ≡ Ok s → HasEnded r s
has_ended r s e =
    let x = ended_by (list_any is_some r.readings) (list_all has_begun r.readings) (set_read r) s _
    e in
    record { occurs = x.0; begun = x.1; same = x.2 }

-- ---- partitions that occur
begun_if :
    (base order : ℕ) (o : Option Reading)
    → is_some o ≡ true
    → has_begun o ≡ true
    → is_running (unwrap_or o (reading_beside base order)).stage ≡ true
begun_if base order None some begun = absurd (false≢true some)
begun_if base order (Some reading) some begun = begun

-- One that occurs has begun.
pub occurring_begun :
    (r : SetReading) (s : AcceptedSet) (number : ℕ)
    → HasEnded r s
    → number < length r.readings
    → is_some (reading_at r number) ≡ true
    → HasBegun r number
occurring_begun r s number ended inside there =
    let begun : has_begun (reading_at r number) ≡ true = true_from_ne_false _
    (λ not_begun.
    both_ways _ (list_all_at has_begun r.readings number None inside not_begun) ended.begun) in
    begun_if r.pool_base r.pool_order (reading_at r number) there begun

-- A set that ends well has a partition that has begun.
pub some_begun :
    (r : SetReading) (s : AcceptedSet) → IsSetReading r → HasEnded r s → 1 ≤ length r.begun
some_begun r s is ended =
    let found = Any-from_list_any is_some r.readings ended.occurs in
    let here : reading_at r found.0 ≡ found.1 = get_or_default r.readings found.0 None found.1
    found.2 ∙ found.3 in
    let there = is.begun.all found.0
    (occurring_begun r s found.0 ended found.2 (ap is_some here ∙ found.4)) in
    omega (arith, there.1)

-- ---- the partitions in the order of their `begin` lines
each_of :
    (r : SetReading) (ns : List ℕ)
    → IsSetReading r
    → AllByRecursion (λ n. n < 8) ns
    → AllByRecursion (λ (p : NumberedTrace). IsAccepted p.trace) (map (partition_read r) ns)
    → AllByRecursion (IsOfSet r.pool_base r.pool_order) (map (partition_read r) ns)
each_of r [] is below accepted = tt
each_of r (n ∷ ns) is below accepted =
    let beside = is_beside r n is in (
      record {
        number = below.0;
        accepted = accepted.0;
        base = beside.base;
        order = beside.order;
        empty = beside.empty;
        windows = beside.windows;
      },
      each_of r ns is below.1 accepted.1,
    )

-- Pairs of a list that is mapped.
pairs_map :
    {X Y : Type 0} (R : Y → Y → Type 0) (f : X → Y) (xs : List X) (e : X)
    → ((i j : ℕ) → i < j → j < length xs → R (f (get_or xs i e)) (f (get_or xs j e)))
    → AllPairs R (map f xs)
pairs_map R f xs e each i j d before inside =
    let within : j < length xs = subst (λ n. j < n) (length-map xs f) inside in
    rw (get_or-map f xs i e d (omega (arith, before, within)), get_or-map f xs j e d within)
    (each i j before within)

numbers_read :
    (r : SetReading)
    → IsSetReading r
    → AllPairs (λ (p q : NumberedTrace). p.number ≢ q.number) (map (partition_read r) r.begun)
numbers_read r is =
    pairs_map (λ (p q : NumberedTrace). p.number ≢ q.number) (partition_read r) r.begun 8
    (λ i j before inside. is.begun.apart i j 8 before inside)

strangers_two :
    (r : SetReading) (n m : ℕ)
    → IsSetReading r
    → n ≢ m
    → n < 8
    → m < 8
    → AreStrangers (reading_of r n).config.granted.grants (reading_of r m).config.granted.grants
strangers_two r n m is other low high =
    let R : Option Reading → Option Reading → Type 0 = λ one two. AreStrangers (grants_read one)
    (grants_read two) in
    let apart : AreStrangers (grants_read (reading_at r n)) (grants_read (reading_at r m)) =
    pairs_both R r.readings (λ a b. strangers_back (grants_read a) (grants_read b)) is.strangers
    n m None other (subst (λ l. n < l) (sym is.eight) low)
    (subst (λ l. m < l) (sym is.eight) high) in
    subst (λ (gs : List Grant). AreStrangers gs (reading_of r m).config.granted.grants)
    (grants_there r n)
    (subst (AreStrangers (grants_read (reading_at r n))) (grants_there r m) apart)

strangers_read :
    (r : SetReading)
    → IsSetReading r
    → AllPairs
    (λ (p q : NumberedTrace).
    AreStrangers p.trace.config.granted.grants q.trace.config.granted.grants)
    (map (partition_read r) r.begun)
strangers_read r is =
    let below = All-from_recursion (λ n. n < 8) r.begun is.begun.below in
    pairs_map
    (λ (p q : NumberedTrace).
    AreStrangers p.trace.config.granted.grants q.trace.config.granted.grants)
    (partition_read r) r.begun 8
    (λ i j before inside.
    strangers_two r (get_or r.begun i 8) (get_or r.begun j 8) is
    (is.begun.apart i j 8 before inside) (below i 8 (omega (arith, before, inside)))
    (below j 8 inside))

orders_read :
    (r : SetReading) (ns : List ℕ)
    → map (λ (p : NumberedTrace). p.trace.config.order) (map (partition_read r) ns)
    ≡ map (order_of r) ns
orders_read r [] = refl
orders_read r (n ∷ ns) = ap (λ (l : List ℕ). order_of r n ∷ l) (orders_read r ns)

lines_read :
    (r : SetReading) (k : ℕ)
    → IsSetReading r
    → k < length r.begun
    → map (λ (t : Turn). t.line) (turns_of k r.turns)
    ≡ range_with_len 0 (length (partition_at (set_read r) k).trace.lines)
lines_read r k is inside =
    is.lines k inside
    ∙ ap (λ (p : NumberedTrace). range_with_len 0 (length p.trace.lines))
    (sym (get_or-map (partition_read r) r.begun k 8 no_partition inside))

-- ---- the set
read_accepted :
    (r : SetReading)
    → IsSetReading r
    → 1 ≤ length r.begun
    → AllByRecursion (λ (p : NumberedTrace). IsAccepted p.trace) (map (partition_read r) r.begun)
    → IsAcceptedSet (set_read r)
read_accepted r is some accepted =
    let size : length (map (partition_read r) r.begun) ≡ length r.begun = length-map r.begun
    (partition_read r) in
    let counted : length r.turns ≤ r.taken = is.counted in
    let few : r.taken ≤ most_lines = is.few in
    record {
      pool = is.pool;
      some = omega (arith, some, size);
      each = each_of r r.begun is is.begun.below accepted;
      numbers = numbers_read r is;
      strangers = strangers_read r is;
      room =
          subst (HasRoomFor (no_blocks r.pool_base r.pool_order)) (sym (orders_read r r.begun))
          is.room;
      turns =
          each_map (λ (t : Turn). t.partition < length r.begun) (IsTurnOf (set_read r)) r.turns
          (λ t below. omega (arith, below, size)) is.turns;
      lines = λ k inside. lines_read r k is (omega (arith, inside, size));
      few = omega (arith, counted, few);
    }

-- A set whose partitions' traces are accepted ones is accepted itself.
pub ends_accepted :
    (r : SetReading) (s : AcceptedSet)
    → IsSetReading r
    → set_at_end r ≡ Ok s
    → AllByRecursion (λ (p : NumberedTrace). IsAccepted p.trace) s.partitions
    → IsAcceptedSet s
ends_accepted r s is e accepted =
    let ended = has_ended r s e in
    let traces : AllByRecursion (λ (p : NumberedTrace). IsAccepted p.trace)
    (map (partition_read r) r.begun) = subst
    (λ (t : AcceptedSet).
    AllByRecursion (λ (p : NumberedTrace). IsAccepted p.trace) t.partitions) ended.same
    accepted in
    subst IsAcceptedSet (sym ended.same) (read_accepted r is (some_begun r s is ended) traces)
