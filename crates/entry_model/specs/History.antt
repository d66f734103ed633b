-- The history of an entry: its receipts, sorted by place.
use Rattle.std.specs.Prelude.{◌≡◌, ℕ, ◌+◌, ◌*◌, ◌==◌, ◌&&◌, List, [], ◌∷◌, Bool, if◌then◌else◌, nat_le, filter}
use Rattle.entry_model.specs.State.{State}
use Rattle.entry_model.specs.declared.receipt.Receipt.{Receipt}
use Rattle.entry_model.specs.Receipt.{after_of}
use Rattle.basics.specs.Words.{bool_eq}

-- How many of R and C are set.
abbrev pub bits : State → ℕ
bits s = (if s.referenced then 1 else 0) + (if s.changed then 1 else 0)

-- The stamp and the number of bits, as one number that compares as the two do from the left.
unfoldable pub pair_of : State → ℕ
pair_of s = s.stamp * 4 + bits s

-- The two states have the same parts.
unfoldable pub state_eq : State → State → Bool
state_eq s t =
    (bool_eq s.valid t.valid && (s.dword0 == t.dword0) && (s.dword1 == t.dword1))
    && (bool_eq s.referenced t.referenced && bool_eq s.changed t.changed && (s.stamp == t.stamp))

-- The place: the stamp before, the number of bits before, and 0 where nothing changed, else 1;
-- compared from the left.
unfoldable pub place : Receipt → ℕ
place r = pair_of r.before * 2 + (if state_eq (after_of r) r.before then 0 else 1)

-- ---- sorting
-- x may stand before y in a history.
abbrev pub precedes : Receipt → Receipt → Bool
precedes x y = nat_le (place x) (place y)

-- A receipt is put before the first that it may precede: receipts that tie stay in their order.
abbrev pub put_in : Receipt → List Receipt → List Receipt
put_in x [] = x ∷ []
put_in x (y ∷ ys) = if precedes x y then x ∷ y ∷ ys else y ∷ put_in x ys

-- The receipts, sorted by place.
abbrev pub by_place : List Receipt → List Receipt
by_place [] = []
by_place (x ∷ xs) = put_in x (by_place xs)

-- The history of an entry over receipts that are listed by processor, each processor's in the order
-- of its making: sorted by place, and those that tie stay as they are listed.
abbrev pub history : ℕ → List Receipt → List Receipt
history e all = by_place (filter (λ r. r.entry == e) all)

-- ---- what a history has to be
-- From a to b, each receipt on the state that the one before it left.
abbrev pub IsLegal : State → List Receipt → State → Type 0
IsLegal a [] b = b ≡ a
IsLegal a (r ∷ rs) b = (r.before ≡ a) × IsLegal (after_of r) rs b

-- The state after the last receipt; with no receipt the first state.
abbrev pub last_after : State → List Receipt → State
last_after s [] = s
last_after s (r ∷ rs) = last_after (after_of r) rs

-- Two lists have the same receipts, each as often, in any order.
pub data Regrouped : List Receipt → List Receipt → Type 0 where
  nothing : Regrouped [] []
  kept : (r : Receipt) {xs ys : List Receipt} → Regrouped xs ys → Regrouped (r ∷ xs) (r ∷ ys)
  swapped : (r s : Receipt) (xs : List Receipt) → Regrouped (r ∷ s ∷ xs) (s ∷ r ∷ xs)
  twice : {xs ys zs : List Receipt} → Regrouped xs ys → Regrouped ys zs → Regrouped xs zs
