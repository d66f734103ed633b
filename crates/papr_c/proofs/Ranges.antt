-- Entries of which those from one index up to another one are changed.
use Rattle.std.specs.Prelude.{map}
use Rattle.std.proofs.Common.{◌≡◌, ℕ, zero, suc, ◌+◌, ◌-◌, ◌<◌, ◌≤◌, List, [], ◌∷◌, ◌++◌, length, take, drop, set, get_or, replicate, refl, sym, ap, ◌∙◌, arith, append-nil, length-drop, take-append-drop}
use Rattle.std.proofs.lemmas.List.{length-map, get_or-map, take_all, drop_all, get_or-drop}
use Rattle.entry_model.specs.State.{State, empty_state}
use Rattle.c_layout.specs.Entries.{Entry, states_of, entry_with, AreMarked}
use Rattle.c_layout.proofs.Filling.{fill_more, get_rest}
use Rattle.c_layout.proofs.Marks.{marked_none}
use Rattle.papr_c.specs.Rehash.{emptied_between, wiped_entries}

-- ---- lists
-- Places that come after those of a first list.
set_behind :
    {X : Type 0} (old ys : List X) (n i : ℕ) (x : X)
    → n ≤ length old
    → set (take n old ++ ys) (n + i) x ≡ take n old ++ set ys i x
set_behind old ys zero i x few = let none : 0 + i ≡ i = omega arith in rw none refl
set_behind [] ys (suc n) i x few = absurd (omega (arith, few))
set_behind (o ∷ old) ys (suc n) i x few =
    let next : suc n + i ≡ suc (n + i) = omega arith in
    rw next (ap (λ rest. o ∷ rest) (set_behind old ys n i x (omega (arith, few))))

get_behind :
    {X : Type 0} (old ys : List X) (n i : ℕ) (d : X)
    → n ≤ length old
    → get_or (take n old ++ ys) (n + i) d ≡ get_or ys i d
get_behind old ys zero i d few = let none : 0 + i ≡ i = omega arith in rw none refl
get_behind [] ys (suc n) i d few = absurd (omega (arith, few))
get_behind (o ∷ old) ys (suc n) i d few =
    let next : suc n + i ≡ suc (n + i) = omega arith in
    rw next (get_behind old ys n i d (omega (arith, few)))

-- ---- so far
pub between : (Entry → Entry) → ℕ → ℕ → List Entry → List Entry
between f first index entries =
    let rest = drop first entries in
    take first entries ++ (take (index - first) (map f rest) ++ drop (index - first) rest)

pub between_none :
    (f : Entry → Entry) (first : ℕ) (old : List Entry) → old ≡ between f first first old
unfolding between
between_none f first old =
    let none : first - first ≡ 0 = omega arith in rw none (sym (take-append-drop first old))

-- What is at the next index is what was there.
pub between_read :
    (f : Entry → Entry) (first index : ℕ) (old : List Entry) (d : Entry)
    → first ≤ index
    → index < length old
    → get_or (between f first index old) index d ≡ get_or old index d
unfolding between
between_read f first index old d low below =
    let rest = drop first old in
    let n = index - first in
    let at : index ≡ first + n = omega (arith, low) in
    let long : length rest ≡ length old - first = length-drop first old in
    let inside : n < length rest = omega (arith, long, low, below) in
    ap (λ k. get_or (between f first index old) k d) at
    ∙ get_behind old (take n (map f rest) ++ drop n rest) first n d (omega (arith, low, below))
    ∙ get_rest (map f rest) rest n d (omega (arith, inside, length-map rest f)) inside
    ∙ get_or-drop first old n d
    ∙ ap (λ k. get_or old k d) (sym at)

pub between_next :
    (f : Entry → Entry) (first index : ℕ) (old : List Entry) (d : Entry)
    → first ≤ index
    → index < length old
    → set (between f first index old) index (f (get_or old index d))
    ≡ between f first (index + 1) old
unfolding between
between_next f first index old d low below =
    let rest = drop first old in
    let n = index - first in
    let at : index ≡ first + n = omega (arith, low) in
    let next : index + 1 - first ≡ n + 1 = omega (arith, low) in
    let long : length rest ≡ length old - first = length-drop first old in
    let inside : n < length rest = omega (arith, long, low, below) in
    let inside_map : n < length (map f rest) = omega (arith, inside, length-map rest f) in
    let item : f (get_or old index d) ≡ get_or (map f rest) n (f d) =
    ap (λ k. f (get_or old k d)) at
    ∙ ap f (sym (get_or-drop first old n d))
    ∙ sym (get_or-map f rest n d (f d) inside) in
    ap (λ k. set (between f first index old) k (f (get_or old index d))) at
    ∙ set_behind old (take n (map f rest) ++ drop n rest) first n (f (get_or old index d))
    (omega (arith, low, below))
    ∙ ap (λ ys. take first old ++ ys)
    (fill_more (map f rest) rest (take n (map f rest) ++ drop n rest) n (f d)
    (f (get_or old index d)) inside_map inside refl item)
    ∙ ap (λ k. take first old ++ (take k (map f rest) ++ drop k rest)) (sym next)

pub between_all :
    (f : Entry → Entry) (old : List Entry) (end : ℕ)
    → end ≡ length old
    → between f 0 end old ≡ map f old
unfolding between
between_all f old end all =
    let taken : take end (map f old) ≡ map f old =
    take_all end (map f old) (omega (arith, all, length-map old f)) in
    let gone : drop end old ≡ [] = drop_all end old (omega (arith, all)) in
    let none : end - 0 ≡ end = omega arith in
    rw (none, taken, gone, append-nil) refl

pub between_parts :
    (f : Entry → Entry) (first index : ℕ) (old : List Entry)
    → between f first index old
    ≡ take first old
    ++ (take (index - first) (map f (drop first old)) ++ drop (index - first) (drop first old))
unfolding between
between_parts f first index old = refl

-- ---- emptied
pub emptied_is :
    (first end : ℕ) (old : List Entry)
    → between (λ e. entry_with e (empty_state 0)) first end old ≡ emptied_between first end old
unfolding between
emptied_is first end old = refl

-- Entries that are given one state are marked where that is another than theirs.
marked_map : (s : State) (old : List Entry) (n : ℕ)
    → AreMarked old (take n (map (λ e. entry_with e s) old) ++ drop n old)
marked_map s old zero = marked_none old
marked_map s [] (suc n) = refl
marked_map s (o ∷ old) (suc n) = ap (λ xs. entry_with o s ∷ xs) (marked_map s old n)

pub between_marked :
    (s : State) (first end : ℕ) (old : List Entry)
    → AreMarked old (between (λ e. entry_with e s) first end old)
unfolding between
between_marked s first end old = at old first (end - first) where
  at :
      (xs : List Entry) (m n : ℕ)
      → AreMarked xs
      (take m xs ++ (take n (map (λ e. entry_with e s) (drop m xs)) ++ drop n (drop m xs)))
  at xs zero n = marked_map s xs n
  at [] (suc m) zero = refl
  at [] (suc m) (suc n) = refl
  at (x ∷ xs) (suc m) n =
      λ k. marked_none (x ∷ []) k ++ at xs m n k

-- The states of entries of which the first n are given one state.
states_map : (s : State) (old : List Entry) (n : ℕ)
    → n ≤ length old
    → states_of (take n (map (λ e. entry_with e s) old) ++ drop n old)
    ≡ replicate n s ++ drop n (states_of old)
states_map s old zero few = refl
states_map s [] (suc n) few = absurd (omega (arith, few))
states_map s (o ∷ old) (suc n) few = ap (λ ss. s ∷ ss) (states_map s old n (omega (arith, few)))

pub between_states :
    (s : State) (first end : ℕ) (old : List Entry)
    → first ≤ end
    → end ≤ length old
    → states_of (between (λ e. entry_with e s) first end old)
    ≡ take first (states_of old) ++ (replicate (end - first) s ++ drop end (states_of old))
unfolding between
between_states s first end old low high =
    let whole : first + (end - first) ≡ end = omega (arith, low) in
    at old first (end - first) (omega (arith, low, high))
    ∙ ap
    (λ k.
    take first (states_of old) ++ (replicate (end - first) s ++ drop k (states_of old))) whole
  where
    at :
        (xs : List Entry) (m n : ℕ)
        → m + n ≤ length xs
        → states_of
        (take m xs ++ (take n (map (λ e. entry_with e s) (drop m xs)) ++ drop n (drop m xs)))
        ≡ take m (states_of xs) ++ (replicate n s ++ drop (m + n) (states_of xs))
    at xs zero n few =
        let none : 0 + n ≡ n = omega arith in
        rw none (states_map s xs n (omega (arith, few)))
    at [] (suc m) n few = absurd (omega (arith, few))
    at (x ∷ xs) (suc m) n few =
        let next : suc m + n ≡ suc (m + n) = omega arith in
        rw next (ap (λ ss. x.state ∷ ss) (at xs m n (omega (arith, few))))

pub emptied_states :
    (s : State) (old : List Entry)
    → states_of (map (λ e. entry_with e s) old) ≡ replicate (length old) s
emptied_states s [] = refl
emptied_states s (o ∷ old) = ap (λ ss. s ∷ ss) (emptied_states s old)

pub wiped_states :
    (old : List Entry) → states_of (wiped_entries old) ≡ replicate (length old) (empty_state 0)
wiped_states [] = refl
wiped_states (o ∷ old) = ap (λ ss. empty_state 0 ∷ ss) (wiped_states old)
