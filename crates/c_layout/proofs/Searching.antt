-- Grants in order of their logical ranges, and the one of them that holds a range.
use Rattle.std.specs.Prelude.{option_map, AllPairs}
use Rattle.std.proofs.Common.{◌≡◌, ◌≢◌, ℕ, zero, suc, ◌+◌, ◌-◌, ◌<◌, ◌≤◌, ◌==◌, List, [], ◌∷◌, ◌++◌, length, map, nat_le, take, set, get_or, find, Bool, true, false, if◌then◌else◌, Some, None, refl, sym, ap, subst, ◌∙◌, arith, ◌⊎◌, inl, inr, nat_lt}
use Rattle.std.proofs.lemmas.Bool.{cases_Bool, cases_lt, and_left, and_right, lt-ltb, ne_eqb, le-leb}
use Rattle.std.proofs.lemmas.Bool.Decides.{leb_tells}
use Rattle.std.proofs.lemmas.List.Elements.{All-get_or}
use Rattle.std.proofs.lemmas.List.{get_or-map, length-map, get_or-take, length-take-le}
use Rattle.std.proofs.Math.Seq.{take-suc-set, take-suc}
use Rattle.std.proofs.Math.Numerals.{add-one}
use Rattle.basics.proofs.Lists.{AllPairs-head, AllPairs-tail}
use Rattle.frame_grants.specs.declared.grant.Grant.{Grant}
use Rattle.frame_grants.specs.Grants.{no_grant, holds, machine_at, machine_range, meets_logical, most_grants, IsPlaced}
use Rattle.c_layout.specs.declared.grants.PaprGrant.{PaprGrant}
use Rattle.c_layout.specs.Grants.{fields_at, grant_of, no_fields, first_grants, listed, IsInOrder, AreListed}
use Rattle.pool_range.specs.Ranges.{address_end}

-- ---- a list in which at most one element passes
find_none :
    {X : Type 0} (p : X → Bool) (xs : List X) (d : X)
    → ((k : ℕ) → k < length xs → p (get_or xs k d) ≡ false)
    → find p xs ≡ None
find_none p [] d fails = refl
find_none p (x ∷ xs) d fails =
    let first : p x ≡ false = fails zero (omega arith) in
    rw first (find_none p xs d (λ k below. fails (suc k) (omega (arith, below))))

find_only :
    {X : Type 0} (p : X → Bool) (xs : List X) (d : X) (i : ℕ)
    → i < length xs
    → ((k : ℕ) → k < length xs → k ≢ i → p (get_or xs k d) ≡ false)
    → find p xs ≡ (if p (get_or xs i d) then Some (get_or xs i d) else None)
find_only p [] d i below others = absurd (omega (arith, below))
find_only p (x ∷ xs) d zero below others = at (cases_Bool (p x)) where
  rest : find p xs ≡ None
  rest =
      find_none p xs d (λ k inside. others (suc k) (omega (arith, inside)) (λ e. omega (arith, e)))

  at : (p x ≡ true) ⊎ (p x ≡ false) → find p (x ∷ xs) ≡ (if p x then Some x else None)
  at (inl passes) = rw passes refl
  at (inr fails) = rw (fails, rest) refl
find_only p (x ∷ xs) d (suc i) below others =
    let first : p x ≡ false = others zero (omega arith) (λ e. omega (arith, e)) in
    rw first
    (find_only p xs d i (omega (arith, below))
    (λ k inside ne. others (suc k) (omega (arith, inside)) (λ e. ne (omega (arith, e)))))

-- Two elements of which one is later.
pairs_at :
    {X : Type 0} (R : X → X → Type 0) (xs : List X) (d : X) (j k : ℕ)
    → AllPairs R xs
    → j < k
    → k < length xs
    → R (get_or xs j d) (get_or xs k d)
pairs_at R [] d j k all less inside = absurd (omega (arith, inside))
pairs_at R (x ∷ xs) d j zero all less inside = absurd (omega (arith, less))
pairs_at R (x ∷ xs) d zero (suc k) all less inside =
    All-get_or (R x) xs k d (omega (arith, inside)) (AllPairs-head R x xs all)
pairs_at R (x ∷ xs) d (suc j) (suc k) all less inside =
    pairs_at R xs d j k (AllPairs-tail R x xs all) (omega (arith, less)) (omega (arith, inside))

-- ---- a list of grants
-- The grant at an index of the list.
pub listed_at :
    (grants : List PaprGrant) (count k : ℕ)
    → count ≤ length grants
    → k < count
    → get_or (first_grants grants count) k no_grant ≡ grant_of (fields_at grants k)
listed_at grants count k room inside =
    let long : length (take count grants) ≡ count = length-take-le count grants room in
    get_or-map grant_of (take count grants) k no_fields no_grant (omega (arith, long))
    ∙ ap grant_of (get_or-take count grants k no_fields inside)

listed_long :
    (grants : List PaprGrant) (count : ℕ)
    → count ≤ length grants
    → length (first_grants grants count) ≡ count
listed_long grants count room =
    length-map (take count grants) grant_of ∙ length-take-le count grants room

not_le : (a b : ℕ) → b < a → nat_le a b ≡ false
not_le a b less = at (leb_tells a b) where
  at : ((nat_le a b ≡ true) × (a ≤ b)) ⊎ ((nat_le a b ≡ false) × (b < a)) → nat_le a b ≡ false
  at (inl held) = absurd (omega (arith, less, held.1))
  at (inr past) = past.0

-- A list with a count that it has room for has its first grants.
pub listed_few :
    (grants : List PaprGrant) (count : ℕ)
    → count ≤ most_grants
    → listed grants count ≡ first_grants grants count
listed_few grants count few = rw (le-leb count most_grants few) refl

-- A list with a greater count grants nothing.
pub machine_many :
    (grants : List PaprGrant) (count logical bytes : ℕ)
    → most_grants < count
    → machine_range (listed grants count) logical bytes ≡ None
unfolding machine_range
machine_many grants count logical bytes many =
    rw (not_le count most_grants many) (at (cases_Bool (bytes == 0))) where
      at : ((bytes == 0) ≡ true) ⊎ ((bytes == 0) ≡ false) → machine_range [] logical bytes ≡ None
      at (inl none) = rw none refl
      at (inr some) = rw some refl

-- With one grant more the first grants are still those of the list.
pub listed_more :
    (list : List PaprGrant) (grants : List Grant) (i : ℕ) (g : PaprGrant) (d : Grant)
    → i < length list
    → i < length grants
    → map grant_of (take i list) ≡ take i grants
    → grant_of g ≡ get_or grants i d
    → map grant_of (take (i + 1) (set list i g)) ≡ take (i + 1) grants
listed_more list grants i g d below inside same is =
    rw (
      add-one,
      take-suc-set list i g below,
      map_end grant_of (take i list) g,
      same,
      is,
      take-suc grants i d inside,
    ) refl where
      map_end :
          {X Y : Type 0} (f : X → Y) (xs : List X) (x : X)
          → map f (xs ++ x ∷ []) ≡ map f xs ++ f x ∷ []
      map_end f [] x = refl
      map_end f (y ∷ ys) x = ap (λ rest. f y ∷ rest) (map_end f ys x)

-- Two ranges of grants that don't meet, of which one begins below the other.
ends_before :
    (lower higher : Grant)
    → lower.logical < higher.logical
    → 0 < higher.length
    → meets_logical lower higher ≡ false
    → lower.logical + lower.length ≤ higher.logical
ends_before lower higher less has apart =
    at (cases_lt higher.logical (lower.logical + lower.length)) where
      at :
          (higher.logical < lower.logical + lower.length)
          ⊎ (lower.logical + lower.length ≤ higher.logical)
          → lower.logical + lower.length ≤ higher.logical
      at (inr before) = before
      at (inl meets) =
          let one :
          nat_lt lower.logical (higher.logical + higher.length) ≡ true = lt-ltb lower.logical
          (higher.logical + higher.length) (omega (arith, less, has)) in
          let two :
          nat_lt higher.logical (lower.logical + lower.length) ≡ true = lt-ltb higher.logical
          (lower.logical + lower.length) meets in
          absurd (cc)

-- The list of grants that stand apart is in order.
pub in_order :
    (list : List PaprGrant) (grants : List Grant)
    → length grants ≤ length list
    → map grant_of (take (length grants) list) ≡ grants
    → AreListed grants
    → IsInOrder list (length grants)
in_order list grants room same apart = record { rising = rising; low = low } where
  here : (k : ℕ) → k < length grants → grant_of (fields_at list k) ≡ get_or grants k no_grant
  here k inside =
      sym (listed_at list (length grants) k room inside)
      ∙ ap (λ (gs : List Grant). get_or gs k no_grant) same

  rising :
      (j k : ℕ)
      → j < k
      → k < length grants
      → (fields_at list j).logical + (fields_at list j).length ≤ (fields_at list k).logical
  rising j k less inside =
      let below : j < length grants = omega arith in
      let placed : IsPlaced (get_or grants k no_grant) = All-get_or IsPlaced grants k no_grant
      inside apart.placed in
      let before = ends_before (get_or grants j no_grant) (get_or grants k no_grant)
      (pairs_at (λ (lower higher : Grant). lower.logical < higher.logical) grants no_grant j k
      apart.rising less inside) placed.has_bytes
      (pairs_at (λ (lower higher : Grant). meets_logical lower higher ≡ false) grants no_grant j
      k apart.apart less inside) in
      rw (← here j below, ← here k inside) at before

  low :
      (k : ℕ)
      → k < length grants
      → (fields_at list k).machine + (fields_at list k).length ≤ address_end
  low k inside =
      let placed : IsPlaced (get_or grants k no_grant) = All-get_or IsPlaced grants k no_grant
      inside apart.placed in
      let ends = placed.machine_end in
      rw (← here k inside) at ends

-- ---- halving
pub above_more :
    (grants : List PaprGrant) (count middle logical : ℕ)
    → IsInOrder grants count
    → logical < (fields_at grants middle).logical
    → (k : ℕ)
    → middle ≤ k
    → k < count
    → logical < (fields_at grants k).logical
above_more grants count middle logical order above k from inside = at (cases_lt middle k) where
  at : (middle < k) ⊎ (k ≤ middle) → logical < (fields_at grants k).logical
  at (inl past) = omega (arith, above, order.rising middle k past inside)
  at (inr not_past) =
      let same : middle ≡ k = omega arith in
      subst (λ (m : ℕ). logical < (fields_at grants m).logical) same above

pub below_more :
    (grants : List PaprGrant) (count middle logical : ℕ)
    → IsInOrder grants count
    → middle < count
    → (fields_at grants middle).logical ≤ logical
    → (k : ℕ)
    → k < middle + 1
    → (fields_at grants k).logical ≤ logical
below_more grants count middle logical order inside below k less = at (cases_lt k middle) where
  at : (k < middle) ⊎ (middle ≤ k) → (fields_at grants k).logical ≤ logical
  at (inl before) = omega (arith, below, order.rising k middle before inside)
  at (inr not_before) =
      let same : middle ≡ k = omega arith in
      subst (λ (m : ℕ). (fields_at grants m).logical ≤ logical) same below

-- ---- the grant that holds a range
holds_not :
    (logical length : ℕ) (g : PaprGrant)
    → g.logical ≤ logical
    → g.logical + g.length < logical + length
    → holds logical length (grant_of g) ≡ false
holds_not logical length g from past =
    and_right (nat_le g.logical logical) (nat_le (logical + length) (g.logical + g.length))
    (not_le (logical + length) (g.logical + g.length) past)

-- How many grants begin at or below the address.
pub record IsCountBelow (grants : List PaprGrant) (count logical below : ℕ) : Type 0 where
  pub bound : below ≤ count
  pub at_most : (k : ℕ) → k < below → (fields_at grants k).logical ≤ logical
  pub above : (k : ℕ) → below ≤ k → k < count → logical < (fields_at grants k).logical

-- Only the last of those can hold the range.
others_fail :
    (grants : List PaprGrant) (count logical length below k : ℕ)
    → IsInOrder grants count
    → IsCountBelow grants count logical below
    → 0 < length
    → k < count
    → suc k ≢ below
    → holds logical length (grant_of (fields_at grants k)) ≡ false
others_fail grants count logical length below k order counted some inside other =
    at (cases_lt k below) where
      at : (k < below) ⊎ (below ≤ k) → holds logical length (grant_of (fields_at grants k)) ≡ false
      at (inl before) = last (cases_lt (suc k) below) where
        last :
            (suc k < below) ⊎ (below ≤ suc k)
            → holds logical length (grant_of (fields_at grants k)) ≡ false
        last (inl earlier) =
            holds_not logical length (fields_at grants k) (counted.at_most k before)
            (omega (
              arith,
              some,
              order.rising k (suc k) (omega arith) (omega (arith, earlier, counted.bound)),
              counted.at_most (suc k) earlier,
            ))
        last (inr it) = absurd (other (omega (arith, before, it)))
      at (inr past) =
          and_left (nat_le (fields_at grants k).logical logical)
          (nat_le (logical + length) ((fields_at grants k).logical + (fields_at grants k).length))
          (not_le (fields_at grants k).logical logical (counted.above k past inside))

-- Elements of the list fail where the grants do.
fails_at :
    (p : Grant → Bool) (grants : List PaprGrant) (count : ℕ) (skipped : ℕ → Type 0)
    → count ≤ length grants
    → ((k : ℕ) → k < count → skipped k → p (grant_of (fields_at grants k)) ≡ false)
    → (k : ℕ)
    → k < length (first_grants grants count)
    → skipped k
    → p (get_or (first_grants grants count) k no_grant) ≡ false
fails_at p grants count skipped room fails k inside other =
    let below : k < count = omega (arith, inside, listed_long grants count room) in
    ap p (listed_at grants count k room below) ∙ fails k below other

if_zero : {X : Type 0} (n : ℕ) (x y : X) → 0 < n → (if n == 0 then x else y) ≡ y
if_zero n x y some = rw (ne_eqb n 0 (λ e. omega (arith, e, some))) refl

pub machine_none :
    (grants : List PaprGrant) (count logical bytes : ℕ)
    → count ≤ length grants
    → IsInOrder grants count
    → IsCountBelow grants count logical 0
    → machine_range (first_grants grants count) logical bytes ≡ None
unfolding machine_range
machine_none grants count logical bytes room order counted = at (cases_lt 0 bytes) where
  at : (0 < bytes) ⊎ (bytes ≤ 0) → machine_range (first_grants grants count) logical bytes ≡ None
  at (inl some) =
      let none : find (holds logical bytes) (first_grants grants count) ≡ None =
      find_none (holds logical bytes) (first_grants grants count) no_grant
      (λ k inside.
      fails_at (holds logical bytes) grants count (λ j. suc j ≢ 0) room
      (λ j below other.
      others_fail grants count logical bytes 0 j order counted some below other) k inside
      (λ e. omega (arith, e))) in
      if_zero bytes None
      (option_map (machine_at logical) (find (holds logical bytes) (first_grants grants count)))
      some
      ∙ ap (option_map (machine_at logical)) none
  at (inr zero_bytes) =
      let no_bytes : bytes ≡ 0 = omega arith in
      rw no_bytes refl

pub machine_empty :
    (grants : List Grant) (logical bytes : ℕ)
    → bytes ≡ 0
    → machine_range grants logical bytes ≡ None
unfolding machine_range
machine_empty grants logical bytes none = rw none refl

-- By the last grant that begins at or below the address.
pub machine_by :
    (grants : List PaprGrant) (count logical bytes last : ℕ)
    → count ≤ length grants
    → IsInOrder grants count
    → IsCountBelow grants count logical (suc last)
    → 0 < bytes
    → machine_range (first_grants grants count) logical bytes
    ≡
    (if holds logical bytes (grant_of (fields_at grants last)) then Some
    (machine_at logical (grant_of (fields_at grants last))) else None)
unfolding machine_range
machine_by grants count logical bytes last room order counted some =
    let inside : last < length (first_grants grants count) = omega
    (arith, listed_long grants count room, counted.bound) in
    let only = find_only (holds logical bytes) (first_grants grants count) no_grant last inside
    (λ k below ne.
    fails_at (holds logical bytes) grants count (λ j. suc j ≢ suc last) room
    (λ j within other.
    others_fail grants count logical bytes (suc last) j order counted some within other) k
    below (λ e. ne (omega (arith, e)))) in
    let here = listed_at grants count last room (omega (arith, counted.bound)) in
    if_zero bytes None
    (option_map (machine_at logical) (find (holds logical bytes) (first_grants grants count))) some
    ∙ ap (option_map (machine_at logical)) only
    ∙ pushed (holds logical bytes) (get_or (first_grants grants count) last no_grant)
    (grant_of (fields_at grants last)) here where
      pushed :
          (p : Grant → Bool) (g h : Grant)
          → g ≡ h
          → option_map (machine_at logical) (if p g then Some g else None)
          ≡ (if p h then Some (machine_at logical h) else None)
      pushed p g h same = at (cases_Bool (p h)) where
        at :
            (p h ≡ true) ⊎ (p h ≡ false)
            → option_map (machine_at logical) (if p g then Some g else None)
            ≡ (if p h then Some (machine_at logical h) else None)
        at (inl passes) = rw (same, passes) refl
        at (inr fails) = rw (same, fails) refl

-- The machine range of a logical range is in the last of the grants counted up to it, or there is
-- none.
pub machine_last :
    (grants : List PaprGrant) (count logical bytes below : ℕ)
    → count ≤ length grants
    → IsInOrder grants count
    → IsCountBelow grants count logical below
    → 0 < below
    → 0 < bytes
    → machine_range (first_grants grants count) logical bytes
    ≡
    (if holds logical bytes (grant_of (fields_at grants (below - 1))) then Some
    (machine_at logical (grant_of (fields_at grants (below - 1)))) else None)
machine_last grants count logical bytes below room order counted begins some =
    let same : below ≡ suc (below - 1) = omega arith in
    machine_by grants count logical bytes (below - 1) room order
    (subst (λ (n : ℕ). IsCountBelow grants count logical n) same counted) some
