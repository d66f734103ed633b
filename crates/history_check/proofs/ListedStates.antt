-- Steps sorted by place: each finds the state that is written at its number.
use Rattle.std.specs.Prelude.{IsPermutation}
use Rattle.std.specs.List.{AllByRecursion, IsDistinct, range_with_len}
use Rattle.std.specs.List.Sorted.{IsNonDecreasing, IsNonDecreasingBy}
use Rattle.std.proofs.Common.{◌≡◌, ℕ, zero, suc, ◌+◌, ◌<◌, ◌≤◌, List, [], ◌∷◌, true, false, refl, ap, sym, ◌∙◌, subst, arith, length, length-set, map, get_or, get_or-set_same, get_or-set_other, set, ◌≢◌, eqb, ◌⊎◌, inl, inr}
use Rattle.std.proofs.lemmas.Bool.{cases_Bool, eqb-true, eq-eqb, false≢true}
use Rattle.std.proofs.lemmas.List.{length-map, get_or-map}
use Rattle.std.proofs.lemmas.List.FromFn.{length-range_with_len, fill_by_all}
use Rattle.std.proofs.lemmas.List.Elements.{All-from_recursion, recursion_from_All}
use Rattle.std.proofs.lemmas.List.Sorted.{IsPermutation-map, IsPermutation-sym, All-permutation, length_permutation}
use Rattle.std.proofs.lemmas.Map.Keys.{IsDistinct-IsPermutation}
use Rattle.entry_model.specs.State.{State, empty_state}
use Rattle.entry_model.specs.Run.{state_at}
use Rattle.entry_model.specs.declared.operation.Op.TheVariants.{Read}
use Rattle.entry_model.specs.declared.operation.Answer.TheVariants.{Words}
use Rattle.trace_line.specs.declared.line.TraceLine.{TraceLine}
use Rattle.history_check.specs.declared.mark_steps.LineStep.{LineStep}
use Rattle.history_check.specs.Steps.{after_step, found_states, ending_states}
use Rattle.history_check.specs.PlacedSteps.{PlacedStep, FoundStep, with_states_found, FindStates}
use Rattle.run_model.proofs.LinesByProcessor.{differs}
use Rattle.history_check.specs.OrderedSteps.{Numbered, Found, IsStepOf, numbered, numbered_by, IsOrder, found_in_order, ending_in_order, with_written, AreWritten}

-- ---- numbers
indices : List Numbered → List ℕ
indices ns = map (λ (n : Numbered). n.index) ns

numbered_indices :
    (i : ℕ) (xs : List PlacedStep) → indices (numbered i xs) ≡ range_with_len i (length xs)
unfolding indices
numbered_indices i [] = refl
numbered_indices i (x ∷ xs) = ap (λ l. i ∷ l) (numbered_indices (i + 1) xs)

flips : (a b : ℕ) → eqb a b ≡ eqb b a
flips a b = at (cases_Bool (eqb a b)) (cases_Bool (eqb b a)) where
  at :
      (eqb a b ≡ true) ⊎ (eqb a b ≡ false)
      → (eqb b a ≡ true) ⊎ (eqb b a ≡ false)
      → eqb a b ≡ eqb b a
  at (inl e) (inl f) = e ∙ sym f
  at (inr e) (inr f) = e ∙ sym f
  at (inl e) (inr f) = ap (λ z. eqb z b) (eqb-true a b e) ∙ ap (eqb b) (sym (eqb-true a b e))
  at (inr e) (inl f) = ap (eqb a) (eqb-true b a f) ∙ ap (λ z. eqb z a) (sym (eqb-true b a f))

range_above : (k n m : ℕ) → m < k → AllByRecursion (λ y. eqb m y ≡ false) (range_with_len k n)
range_above k zero m h = tt
range_above k (suc n) m h = (differs m k h, range_above (k + 1) n m (omega arith))

range_distinct : (k n : ℕ) → IsDistinct eqb (range_with_len k n)
unfolding IsDistinct
range_distinct k zero = tt
range_distinct k (suc n) = (range_above (k + 1) n k (omega arith), range_distinct (k + 1) n)

range_below : (k n m : ℕ) → k + n ≤ m → AllByRecursion (λ y. y < m) (range_with_len k n)
range_below k zero m h = tt
range_below k (suc n) m h = (omega arith, range_below (k + 1) n m (omega arith))

-- ---- a list in order, and its keys
pub keys_rise :
    {X : Type 0} (f : X → ℕ) (xs : List X) → IsNonDecreasingBy f xs → IsNonDecreasing (map f xs)
keys_rise f [] up i j d le low = absurd (omega arith)
keys_rise f (x ∷ xs) up i j d le low =
    let size : length (map f (x ∷ xs)) ≡ length (x ∷ xs) = length-map (x ∷ xs) f in
    let at : (k : ℕ) → k < length (x ∷ xs) → get_or (map f (x ∷ xs)) k d ≡ f (get_or (x ∷ xs) k x) =
    λ k q. get_or-map f (x ∷ xs) k x d q in
    let low' : j < length (x ∷ xs) = omega arith in
    subst (λ z. z ≤ get_or (map f (x ∷ xs)) j d) (sym (at i (omega arith)))
    (subst (λ z. f (get_or (x ∷ xs) i x) ≤ z) (sym (at j low')) (up i j x le low'))

pub rise_by_keys :
    {X : Type 0} (f : X → ℕ) (xs : List X) → IsNonDecreasing (map f xs) → IsNonDecreasingBy f xs
rise_by_keys f xs up i j d le low =
    let size : length (map f xs) ≡ length xs = length-map xs f in
    let keys : get_or (map f xs) i 0 ≤ get_or (map f xs) j 0 = up i j 0 le (omega arith) in
    subst (λ z. z ≤ f (get_or xs j d)) (get_or-map f xs i d 0 (omega arith))
    (subst (λ z. get_or (map f xs) i 0 ≤ z) (get_or-map f xs j d 0 low) keys)

-- ---- steps with the states that they find
no_step : PlacedStep
no_step = record { place = 0; step = record { entry = 0; op = Read; answer = Words } }

abbrev made_in_order : List State → List Numbered → List FoundStep
made_in_order a [] = []
made_in_order a (n ∷ ns) =
    record { placed = n.placed; state = state_at a n.placed.step.entry }
    ∷ made_in_order (after_step a n.placed.step) ns

made_states :
    (a : List State) (ns : List Numbered)
    → map (λ (x : FoundStep). x.state) (made_in_order a ns)
    ≡ found_states a (map (λ (x : FoundStep). x.placed.step) (made_in_order a ns))
made_states a [] = refl
made_states a (n ∷ ns) =
    ap (λ l. state_at a n.placed.step.entry ∷ l) (made_states (after_step a n.placed.step) ns)

made_steps :
    (a : List State) (ns : List Numbered)
    → map (λ (x : FoundStep). x.placed.step) (made_in_order a ns)
    ≡ map (λ (n : Numbered). n.placed.step) ns
made_steps a [] = refl
made_steps a (n ∷ ns) = ap (λ l. n.placed.step ∷ l) (made_steps (after_step a n.placed.step) ns)

made_places :
    (a : List State) (ns : List Numbered)
    → map (λ (x : FoundStep). x.placed.place) (made_in_order a ns)
    ≡ map (λ (n : Numbered). n.placed.place) ns
made_places a [] = refl
made_places a (n ∷ ns) = ap (λ l. n.placed.place ∷ l) (made_places (after_step a n.placed.step) ns)

found_indices :
    (a : List State) (ns : List Numbered)
    → map (λ (f : Found). f.index) (found_in_order a ns) ≡ map (λ (n : Numbered). n.index) ns
found_indices a [] = refl
found_indices a (n ∷ ns) = ap (λ l. n.index ∷ l) (found_indices (after_step a n.placed.step) ns)

-- the step of a number, with the state that was found
with_step : List PlacedStep → Found → FoundStep
with_step xs f = record { placed = get_or xs f.index no_step; state = f.state }

HasNumber : List PlacedStep → Numbered → Type 0
HasNumber xs n = n.placed ≡ get_or xs n.index no_step

made_found :
    (xs : List PlacedStep) (a : List State) (ns : List Numbered)
    → AllByRecursion (HasNumber xs) ns
    → map (with_step xs) (found_in_order a ns) ≡ made_in_order a ns
unfolding with_step HasNumber
made_found xs a [] h = refl
made_found xs a (n ∷ ns) h =
    λ i.
    record { placed = sym h.0 i; state = state_at a n.placed.step.entry }
    ∷ made_found xs (after_step a n.placed.step) ns h.1 i

each_numbered :
    (all : List PlacedStep) (k : ℕ) (xs : List PlacedStep)
    → ((j : ℕ) → j < length xs → get_or all (k + j) no_step ≡ get_or xs j no_step)
    → AllByRecursion (HasNumber all) (numbered k xs)
unfolding HasNumber
each_numbered all k [] h = tt
each_numbered all k (x ∷ xs) h =
    let first : get_or all k no_step ≡ x = ap (λ z. get_or all z no_step)
    (let e : k ≡ k + 0 = omega arith in e) ∙ h 0 (omega arith) in (
      sym first,
      each_numbered all (k + 1) xs
          (λ j q.
          ap (λ z. get_or all z no_step) (let e : k + 1 + j ≡ k + suc j = omega arith in e)
          ∙ h (suc j) (omega arith)),
    )

head_number :
    (k n : ℕ) (f : Found) (fs : List Found)
    → f.index ∷ map (λ (f : Found). f.index) fs ≡ range_with_len k (suc n)
    → (f.index ≡ k) × (map (λ (f : Found). f.index) fs ≡ range_with_len (k + 1) n)
head_number k n f fs h = (cc, cc)

listed_steps :
    (all : List PlacedStep) (k : ℕ) (xs : List PlacedStep) (fs : List Found)
    → map (λ (f : Found). f.index) fs ≡ range_with_len k (length xs)
    → ((j : ℕ) → j < length xs → get_or all (k + j) no_step ≡ get_or xs j no_step)
    → map (with_step all) fs ≡ with_states_found xs (map (λ (f : Found). f.state) fs)
unfolding with_step
listed_steps all k [] [] e h = refl
listed_steps all k [] (f ∷ fs) e h = cc
listed_steps all k (x ∷ xs) [] e h = cc
listed_steps all k (x ∷ xs) (f ∷ fs) e h =
    let both = head_number k (length xs) f fs e in
    let here : get_or all f.index no_step ≡ x = ap (λ z. get_or all z no_step)
    (both.0 ∙ (let e : k ≡ k + 0 = omega arith in e)) ∙ h 0 (omega arith) in
    let rest = listed_steps all (k + 1) xs fs both.1
    (λ j q.
    ap (λ z. get_or all z no_step) (let e : k + 1 + j ≡ k + suc j = omega arith in e)
    ∙ h (suc j) (omega arith)) in
    λ i. record { placed = here i; state = f.state } ∷ rest i

-- ---- states written at their numbers
kept_at :
    (states : List State) (fs : List Found) (j : ℕ) (d : State)
    → AllByRecursion (λ i. eqb j i ≡ false) (map (λ (f : Found). f.index) fs)
    → get_or (with_written states fs) j d ≡ get_or states j d
kept_at states [] j d h = refl
kept_at states (f ∷ fs) j d h =
    let other : j ≢ f.index = λ e. false≢true (sym h.0 ∙ eq-eqb j f.index e) in
    kept_at (set states f.index f.state) fs j d h.1
    ∙ get_or-set_other states f.index j f.state d other

written_size :
    (states : List State) (fs : List Found) → length (with_written states fs) ≡ length states
written_size states [] = refl
written_size states (f ∷ fs) =
    written_size (set states f.index f.state) fs ∙ length-set states f.index f.state

-- each state stands at its number, if no number comes twice
each_written :
    (states : List State) (fs : List Found) (d : State)
    → IsDistinct eqb (map (λ (f : Found). f.index) fs)
    → AllByRecursion (λ i. i < length states) (map (λ (f : Found). f.index) fs)
    → map (λ i. record { index = i; state = get_or (with_written states fs) i d })
    (map (λ (f : Found). f.index) fs)
    ≡ fs
unfolding IsDistinct
each_written states [] d h low = refl
each_written states (f ∷ fs) d h low =
    let next = set states f.index f.state in
    let here : get_or (with_written next fs) f.index d ≡ f.state = kept_at next fs f.index d h.0 ∙
    get_or-set_same states f.index f.state d low.0 in
    let rest = each_written next fs d h.1
    (subst (λ n. AllByRecursion (λ i. i < n) (map (λ (f : Found). f.index) fs))
    (sym (length-set states f.index f.state)) low.1) in
    λ i. record { index = f.index; state = here i } ∷ rest i

numbers_of :
    (states : List State) (d : State) (is : List ℕ)
    → map (λ (f : Found). f.index) (map (λ i. record { index = i; state = get_or states i d }) is)
    ≡ is
numbers_of states d [] = refl
numbers_of states d (i ∷ is) = ap (λ l. i ∷ l) (numbers_of states d is)

states_of_numbers :
    (states : List State) (d : State) (is : List ℕ)
    → map (λ (f : Found). f.state) (map (λ i. record { index = i; state = get_or states i d }) is)
    ≡ map (λ i. get_or states i d) is
states_of_numbers states d [] = refl
states_of_numbers states d (i ∷ is) =
    ap (λ l. get_or states i d ∷ l) (states_of_numbers states d is)

-- What was found, listed by number.
record AreListed (found : List Found) (count : ℕ) (listed : List State) : Type 0 where
  pub sorted : List Found
  pub each_once : IsPermutation found sorted
  pub in_turn : map (λ (f : Found). f.index) sorted ≡ range_with_len 0 count
  pub states : listed ≡ map (λ (f : Found). f.state) sorted

written_listed :
    (count : ℕ) (fs : List Found) (listed : List State)
    → IsPermutation (range_with_len 0 count) (map (λ (f : Found). f.index) fs)
    → AreWritten count fs listed
    → AreListed fs count listed
written_listed count fs listed numbers h =
    let d = empty_state 0 in
    let states = with_written h.first fs in
    let at : ℕ → Found = λ i. record { index = i; state = get_or states i d } in
    let index : Found → ℕ = λ (f : Found). f.index in
    let low : AllByRecursion (λ i. i < length h.first) (map index fs) = recursion_from_All
    (λ i. i < length h.first) (map index fs)
    (All-permutation (λ i. i < length h.first) (range_with_len 0 count) (map index fs) numbers
    (All-from_recursion (λ i. i < length h.first) (range_with_len 0 count)
    (range_below 0 count (length h.first) (omega (arith, h.size))))) in
    let own : map at (map index fs) ≡ fs = each_written h.first fs d
    (IsDistinct-IsPermutation eqb flips (range_with_len 0 count) (map index fs) numbers
    (range_distinct 0 count)) low in
    record {
      sorted = map at (range_with_len 0 count);
      each_once =
          subst (λ l. IsPermutation l (map at (range_with_len 0 count))) own
          (IsPermutation-map at (map index fs) (range_with_len 0 count)
          (IsPermutation-sym (range_with_len 0 count) (map index fs) numbers));
      in_turn = numbers_of states d (range_with_len 0 count);
      states =
          h.written
          ∙ fill_by_all (λ i. get_or states i d) states count d (written_size h.first fs ∙ h.size)
          (λ k q. refl)
          ∙ sym (states_of_numbers states d (range_with_len 0 count));
    }

-- ---- the whole
numbered_places :
    (ls : List TraceLine) (order : List LineStep)
    → map (λ (n : Numbered). n.placed.place) (map (numbered_by ls) order)
    ≡ map (λ (x : LineStep). x.place) order
numbered_places ls [] = refl
numbered_places ls (x ∷ xs) = ap (λ l. x.place ∷ l) (numbered_places ls xs)

pub states_are_found :
    (ls : List TraceLine) (a b : List State) (steps order : List LineStep) (listed : List State)
    → IsOrder steps order
    → AreWritten (length order) (found_in_order a (map (numbered_by ls) order)) listed
    → b ≡ ending_in_order a (map (numbered_by ls) order)
    → (xs : List PlacedStep)
    → map (numbered_by ls) steps ≡ numbered 0 xs
    → FindStates a xs listed b
unfolding indices
states_are_found ls a b steps order listed is written ends xs same =
    let ns = map (numbered_by ls) order in
    let found = found_in_order a ns in
    let index = λ (f : Found). f.index in
    let number = λ (n : Numbered). n.index in
    let moved : IsPermutation (numbered 0 xs) ns = subst (λ l. IsPermutation l ns) same
    (IsPermutation-map (numbered_by ls) steps order is.each_once) in
    let count : length order ≡ length xs = sym (length-map order (numbered_by ls)) ∙
    length_permutation (numbered 0 xs) ns moved ∙ sym (length-map (numbered 0 xs) number) ∙ ap
    length (numbered_indices 0 xs) ∙ length-range_with_len 0 (length xs) in
    let numbers : IsPermutation (range_with_len 0 (length xs)) (map index found) = subst
    (λ l. IsPermutation l (map index found)) (numbered_indices 0 xs)
    (subst (IsPermutation (map number (numbered 0 xs))) (sym (found_indices a ns))
    (IsPermutation-map number (numbered 0 xs) ns moved)) in
    let told = written_listed (length xs) found listed numbers
    (subst (λ n. AreWritten n found listed) count written) in
    let own : (j : ℕ) → j < length xs → get_or xs (0 + j) no_step ≡ get_or xs j no_step = λ j q. ap
    (λ z. get_or xs z no_step) (let e : 0 + j ≡ j = omega arith in e) in
    let each : AllByRecursion (HasNumber xs) ns = recursion_from_All (HasNumber xs) ns
    (All-permutation (HasNumber xs) (numbered 0 xs) ns moved
    (All-from_recursion (HasNumber xs) (numbered 0 xs) (each_numbered xs 0 xs own))) in
    let listing : map (with_step xs) told.sorted ≡ with_states_found xs listed = listed_steps xs 0
    xs told.sorted told.in_turn own ∙ ap (with_states_found xs) (sym told.states) in
    let made : map (with_step xs) found ≡ made_in_order a ns = made_found xs a ns each in
    let once : IsPermutation (made_in_order a ns) (with_states_found xs listed) = subst
    (λ l. IsPermutation l (with_states_found xs listed)) made
    (subst (λ l. IsPermutation (map (with_step xs) found) l) listing
    (IsPermutation-map (with_step xs) found told.sorted told.each_once)) in
    record {
      size =
          ap length told.states
          ∙ length-map told.sorted (λ (f : Found). f.state)
          ∙ sym (length-map told.sorted index)
          ∙ ap length told.in_turn
          ∙ length-range_with_len 0 (length xs);
      order = made_in_order a ns;
      each_once = IsPermutation-sym (made_in_order a ns) (with_states_found xs listed) once;
      ascending =
          rise_by_keys (λ (x : FoundStep). x.placed.place) (made_in_order a ns)
          (subst IsNonDecreasing (sym (made_places a ns ∙ numbered_places ls order))
          (keys_rise (λ (x : LineStep). x.place) order is.ascending));
      found = made_states a ns;
      ends = ends ∙ ap (ending_states a) (sym (made_steps a ns));
    }

-- each step in the order is one of the table, the lines and the steps
pub order_within :
    (size lines : ℕ) (steps order : List LineStep)
    → AllByRecursion (IsStepOf size lines (length steps)) steps
    → IsOrder steps order
    → AllByRecursion (IsStepOf size lines (length order)) order
order_within size lines steps order h is =
    let P : LineStep → Type 0 = IsStepOf size lines (length steps) in
    subst (λ n. AllByRecursion (IsStepOf size lines n) order)
    (sym (length_permutation steps order is.each_once))
    (recursion_from_All P order
    (All-permutation P steps order is.each_once (All-from_recursion P steps h)))
