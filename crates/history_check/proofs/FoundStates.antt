-- The states that the steps of a section's receipts find are those before its receipts.
use Rattle.std.specs.Prelude.{IsPermutation}
use Rattle.std.specs.List.{AllByRecursion, swap}
use Rattle.std.specs.List.Sorted.{apply_swaps, SwapsInRange, IsNonDecreasing, IsNonDecreasingBy}
use Rattle.std.proofs.Common.{◌≡◌, ℕ, ◌<◌, List, [], ◌∷◌, refl, ap, sym, ◌∙◌, subst, arith, length, map, get_or, set}
use Rattle.std.proofs.lemmas.List.{map-set, length-map}
use Rattle.std.proofs.lemmas.Simd.{map-map}
use Rattle.std.proofs.Math.ListN.{get_or-map}
use Rattle.std.proofs.lemmas.List.Elements.{All-from_recursion, recursion_from_All}
use Rattle.std.proofs.lemmas.List.Sorted.{IsPermutation-map, IsPermutation-sym, All-permutation}
use Rattle.entry_model.specs.State.{State}
use Rattle.entry_model.specs.declared.receipt.Receipt.{Receipt}
use Rattle.entry_model.specs.History.{place, Regrouped, twice}
use Rattle.entry_model.proofs.Regroup.{regrouped_back}
use Rattle.run_model.specs.Histories.{receipts_by}
use Rattle.run_model.specs.Stores.{states_of}
use Rattle.run_model.specs.Sections.{AreLegalTo, Section, made_in}
use Rattle.run_model.proofs.LinesByProcessor.{file_listed}
use Rattle.run_model.proofs.OneProcessor.{closing_size}
use Rattle.run_model.proofs.SectionGood.{OnCpus, each_regrouped}
use Rattle.history_check.specs.Replay.{before_each}
use Rattle.history_check.specs.Steps.{step_of, found_states, ending_states}
use Rattle.history_check.specs.PlacedSteps.{placed_step, FoundStep, with_states_found, FindStates, AreInTable}
use Rattle.history_check.proofs.ListedStates.{keys_rise, rise_by_keys}
use Rattle.history_check.proofs.Permuted.{permuted, ascending_from}
use Rattle.history_check.proofs.SectionFixed.{section_fixes, fixed_section}
use Rattle.history_check.specs.FoundSection.{closing_of}

-- ---- exchanges, and a function of each element
swap_map :
    {X Y : Type 0} (f : X → Y) (xs : List X) (i j : ℕ) → map f (swap xs i j) ≡ swap (map f xs) i j
swap_map f [] i j = refl
swap_map f (d ∷ ys) i j =
    map-set f (set (d ∷ ys) i (get_or (d ∷ ys) j d)) j (get_or (d ∷ ys) i d)
    ∙ ap (λ l. set l j (f (get_or (d ∷ ys) i d))) (map-set f (d ∷ ys) i (get_or (d ∷ ys) j d))
    ∙
    (λ k.
    set (set (map f (d ∷ ys)) i (sym (get_or-map f (d ∷ ys) j d) k)) j
    (sym (get_or-map f (d ∷ ys) i d) k))

swaps_map :
    {X Y : Type 0} (f : X → Y) (xs : List X) (ms : List (ℕ × ℕ))
    → map f (apply_swaps xs ms) ≡ apply_swaps (map f xs) ms
swaps_map f xs [] = refl
swaps_map f xs (m ∷ ms) =
    swap_map f (apply_swaps xs ms) m.0 m.1 ∙ ap (λ l. swap l m.0 m.1) (swaps_map f xs ms)

-- ---- receipts, and the states listed for them
record Listed : Type 0 where
  pub receipt : Receipt
  pub state : State

abbrev listed_with : List Receipt → List State → List Listed
listed_with [] ss = []
listed_with (r ∷ rs) [] = []
listed_with (r ∷ rs) (s ∷ ss) = record { receipt = r; state = s } ∷ listed_with rs ss

receipts_of : List Listed → List Receipt
receipts_of zs = map (λ (z : Listed). z.receipt) zs

states_in : List Listed → List State
states_in zs = map (λ (z : Listed). z.state) zs

abbrev as_found : Listed → FoundStep
as_found z = record { placed = placed_step z.receipt; state = z.state }

their_receipts :
    (rs : List Receipt) (ss : List State)
    → length ss ≡ length rs
    → receipts_of (listed_with rs ss) ≡ rs
unfolding receipts_of
their_receipts [] ss e = refl
their_receipts (r ∷ rs) [] e = absurd (omega arith)
their_receipts (r ∷ rs) (s ∷ ss) e = ap (λ l. r ∷ l) (their_receipts rs ss (omega arith))

their_states :
    (rs : List Receipt) (ss : List State)
    → length ss ≡ length rs
    → states_in (listed_with rs ss) ≡ ss
unfolding states_in
their_states [] [] e = refl
their_states [] (s ∷ ss) e = absurd (omega arith)
their_states (r ∷ rs) [] e = absurd (omega arith)
their_states (r ∷ rs) (s ∷ ss) e = ap (λ l. s ∷ l) (their_states rs ss (omega arith))

as_steps :
    (rs : List Receipt) (ss : List State)
    → map as_found (listed_with rs ss) ≡ with_states_found (map placed_step rs) ss
as_steps [] ss = refl
as_steps (r ∷ rs) [] = refl
as_steps (r ∷ rs) (s ∷ ss) =
    ap (λ l. record { placed = placed_step r; state = s } ∷ l) (as_steps rs ss)

-- ---- facts of each
HasState : Listed → Type 0
HasState z = z.receipt.before ≡ z.state

each_has :
    (zs : List Listed) → before_each (receipts_of zs) ≡ states_in zs → AllByRecursion HasState zs
unfolding receipts_of states_in HasState
each_has [] e = tt
each_has (z ∷ zs) e =
    let here : z.receipt.before ≡ z.state = cc in
    let rest : before_each (receipts_of zs) ≡ states_in zs = cc in
    (here, each_has zs rest)

all_have :
    (zs : List Listed) → AllByRecursion HasState zs → before_each (receipts_of zs) ≡ states_in zs
unfolding receipts_of states_in HasState
all_have [] h = refl
all_have (z ∷ zs) h = λ i. h.0 i ∷ all_have zs h.1 i

same_have :
    (xs ys : List Listed)
    → IsPermutation xs ys
    → AllByRecursion HasState xs
    → AllByRecursion HasState ys
same_have xs ys same h =
    recursion_from_All HasState ys
    (All-permutation HasState xs ys same (All-from_recursion HasState xs h))

-- ---- the order of the steps, as an order of the receipts
record Ordering (a : List State) (rs : List Receipt) (ss : List State) (b : List State) :
    Type 0 where
  pub order : List Listed
  pub each_once : IsPermutation (listed_with rs ss) order
  pub ascending : IsNonDecreasingBy place (receipts_of order)
  pub found : states_in order ≡ found_states a (map step_of (receipts_of order))
  pub ends : b ≡ ending_states a (map step_of (receipts_of order))

ordering :
    (a b : List State) (rs : List Receipt) (ss : List State)
    (h : FindStates a (map placed_step rs) ss b)
    → Ordering a rs ss b
unfolding receipts_of states_in
ordering a b rs ss h =
    let zs = listed_with rs ss in
    let ms = h.each_once.moves in
    let order : List Listed = apply_swaps zs ms in
    let size : length zs ≡ length (with_states_found (map placed_step rs) ss) = sym
    (length-map zs as_found) ∙ ap length (as_steps rs ss) in
    let told : map as_found order ≡ h.order = swaps_map as_found zs ms ∙ ap (λ l. apply_swaps l ms)
    (as_steps rs ss) ∙ sym h.each_once.is in
    let steps : map (λ (x : FoundStep). x.placed.step) h.order ≡ map step_of (receipts_of order) =
    ap (map (λ (x : FoundStep). x.placed.step)) (sym told) ∙ again
    (λ (x : FoundStep). x.placed.step) order ∙ sym
    (map-map step_of (λ (z : Listed). z.receipt) order) in
    record {
      order = order;
      each_once =
          record {
            moves = ms;
            below = subst (λ n. SwapsInRange n ms) (sym size) h.each_once.below;
            is = refl;
          };
      ascending =
          rise_by_keys place (receipts_of order)
          (subst IsNonDecreasing
          (ap (map (λ (x : FoundStep). x.placed.place)) (sym told)
          ∙ again (λ (x : FoundStep). x.placed.place) order
          ∙ sym (map-map place (λ (z : Listed). z.receipt) order))
          (keys_rise (λ (x : FoundStep). x.placed.place) h.order h.ascending));
      found =
          sym
          (ap (map (λ (x : FoundStep). x.state)) (sym told)
          ∙ again (λ (x : FoundStep). x.state) order)
          ∙ h.found
          ∙ ap (found_states a) steps;
      ends = h.ends ∙ ap (ending_states a) steps;
    }
  where
    again :
        {Y : Type 0} (f : FoundStep → Y) (zs : List Listed)
        → map f (map as_found zs) ≡ map (λ z. f (as_found z)) zs
    again f zs = map-map f as_found zs

-- ---- a section
of_order :
    (rs : List Receipt) (ss : List State) (order : List Listed)
    → length ss ≡ length rs
    → IsPermutation (listed_with rs ss) order
    → IsPermutation rs (receipts_of order)
unfolding receipts_of
of_order rs ss order size same =
    subst (λ l. IsPermutation l (receipts_of order)) (their_receipts rs ss size)
    (IsPermutation-map (λ (z : Listed). z.receipt) (listed_with rs ss) order same)

as_many :
    (rs : List Receipt) (ss : List State)
    → length ss ≡ length (map placed_step rs)
    → length ss ≡ length rs
as_many rs ss e = e ∙ length-map rs placed_step

-- A good section's states before are those found, and it closes on those that the steps end on.
pub section_finds :
    (s : Section) (listed b : List State)
    → OnCpus s
    → AreLegalTo s (closing_of s)
    → FindStates (states_of s.before) (map placed_step (receipts_by s.replied_lines)) listed b
    → (before_each (receipts_by s.replied_lines) ≡ listed) × (closing_of s ≡ b)
unfolding states_in
section_finds s listed b cpus good h =
    let rs = receipts_by s.replied_lines in
    let o = ordering (states_of s.before) b rs listed h in
    let size : length listed ≡ length rs = as_many rs listed h.size in
    let ms = receipts_of o.order in
    let moved : Regrouped rs ms = permuted rs ms (of_order rs listed o.order size o.each_once) in
    let all : Regrouped (made_in s) ms = twice
    (regrouped_back (file_listed (length s.before.processors) s.replied_lines cpus)) moved in
    let fixed = section_fixes s (closing_of s) ms (closing_size (states_of s.before) (made_in s))
    good all (ascending_from ms o.ascending) in
    let each : AllByRecursion HasState (listed_with rs listed) = same_have o.order
    (listed_with rs listed) (IsPermutation-sym (listed_with rs listed) o.order o.each_once)
    (each_has o.order (fixed.0 ∙ sym o.found)) in (
      ap before_each (sym (their_receipts rs listed size))
          ∙ all_have (listed_with rs listed) each
          ∙ their_states rs listed size,
      fixed.1 ∙ sym o.ends,
    )

within_of :
    (size : ℕ) (rs : List Receipt)
    → AreInTable size (map placed_step rs)
    → AllByRecursion (λ (r : Receipt). r.entry < size) rs
within_of size [] h = tt
within_of size (r ∷ rs) h = (h.0, within_of size rs h.1)

-- Receipts on the states found are legal histories, which close on the states that the steps end
-- on.
pub found_section :
    (s : Section) (listed b : List State)
    → OnCpus s
    → AreInTable (length (states_of s.before)) (map placed_step (receipts_by s.replied_lines))
    → FindStates (states_of s.before) (map placed_step (receipts_by s.replied_lines)) listed b
    → before_each (receipts_by s.replied_lines) ≡ listed
    → AreLegalTo s (closing_of s) × (closing_of s ≡ b)
unfolding states_in
found_section s listed b cpus within h before =
    let rs = receipts_by s.replied_lines in
    let n = length (states_of s.before) in
    let o = ordering (states_of s.before) b rs listed h in
    let size : length listed ≡ length rs = as_many rs listed h.size in
    let ms = receipts_of o.order in
    let moved : Regrouped rs ms = permuted rs ms (of_order rs listed o.order size o.each_once) in
    let all : Regrouped ms (made_in s) = twice (regrouped_back moved)
    (file_listed (length s.before.processors) s.replied_lines cpus) in
    let each : AllByRecursion HasState o.order = same_have (listed_with rs listed) o.order
    o.each_once
    (each_has (listed_with rs listed)
    (ap before_each (their_receipts rs listed size)
    ∙ before
    ∙ sym (their_states rs listed size))) in
    let fixed = fixed_section s ms all
    (each_regrouped (λ (r : Receipt). r.entry < n) moved (within_of n rs within))
    (all_have o.order each ∙ o.found) in
    (fixed.0, fixed.1 ∙ sym o.ends)
