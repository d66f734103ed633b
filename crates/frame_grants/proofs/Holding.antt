-- What the machine range of a logical range is: it lies in one grant, off the pool, and no other
-- grant holds the range.
use Rattle.std.specs.Prelude.{option_map}
use Rattle.std.proofs.Common.{◌≡◌, ℕ, ◌+◌, ◌-◌, ◌<◌, ◌≤◌, ◌^◌, ◌==◌, if◌then◌else◌, Bool, true, false, List, length, get_or, find, Contains, Option, Some, None, IfSome, refl, sym, ap, subst, ◌∙◌, inl, inr, ◌⊎◌, arith}
use Rattle.std.proofs.lemmas.Bool.{cases_lt}
use Rattle.std.proofs.lemmas.Bool.Decides.{nat_tests}
use Rattle.std.proofs.lemmas.List.{get_or_default}
use Rattle.std.proofs.lemmas.List.Elements.{All-contains}
use Rattle.frame_grants.specs.declared.grant.Grant.{Grant}
use Rattle.frame_grants.specs.declared.grant.Kind.{Kind}
use Rattle.frame_grants.specs.Ranges.{ranges_meet, range_within}
use Rattle.frame_grants.specs.Grants.{GrantedMemory, IsPlaced, AreApart, meets_logical, meets_pool, holds, machine_at, machine_range}
use Rattle.basics.proofs.Lists.{find-Some}
use Rattle.pool_range.specs.Ranges.{address_end}

-- ---- the grant that is found
some_of : {A : Type 0} (o : Option A) (P : A → Type 0) → ((x : A) → o ≡ Some x → P x) → IfSome o P
some_of None P each = tt
some_of (Some x) P each = each x refl

pub found_placed :
    (granted : GrantedMemory) (logical length : ℕ)
    → AreApart granted
    → IfSome (find (holds logical length) granted.grants) IsPlaced
found_placed granted logical length apart =
    some_of (find (holds logical length) granted.grants) IsPlaced (λ grant found.
    All-contains IsPlaced granted.grants grant apart.placed
    (find-Some (holds logical length) granted.grants grant found).1)

pub found_holds :
    (granted : GrantedMemory) (logical length : ℕ)
    → IfSome (find (holds logical length) granted.grants)
    (λ grant. holds logical length grant ≡ true)
found_holds granted logical length =
    some_of (find (holds logical length) granted.grants)
    (λ grant. holds logical length grant ≡ true) (λ grant found.
    (find-Some (holds logical length) granted.grants grant found).0)

-- ---- what a machine range is
-- A grant of the list that holds the logical range; the machine range lies at the same distance in
-- the grant's own.
pub record IsWithinGrant (granted : GrantedMemory) (logical length machine : ℕ) (kind : Kind)
    (grant : Grant) :
    Type 0 where
  pub granted_is : Contains granted.grants grant
  pub kind_is : kind ≡ grant.kind
  pub holding : holds logical length grant ≡ true
  pub distance : machine + grant.logical ≡ logical + grant.machine
  pub within : range_within machine length grant.machine grant.length ≡ true
  pub below_top : machine + length ≤ address_end
  pub has_bytes : 0 < length

within_of :
    (granted : GrantedMemory) (logical length : ℕ) (grant : Grant)
    → AreApart granted
    → 0 < length
    → holds logical length grant ≡ true
    → Contains granted.grants grant
    → IsWithinGrant granted logical length (machine_at logical grant).0 (machine_at logical grant).1
    grant
within_of granted logical length grant apart some holding here =
    let placed = All-contains IsPlaced granted.grants grant apart.placed here in
    let low : grant.logical ≤ logical = grind (arith, nat_tests, holding) in
    let high : logical + length ≤ grant.logical + grant.length = grind (arith, nat_tests, holding)
    in
    let top : grant.machine + grant.length ≤ address_end = placed.machine_end in
    let machine_low : grant.machine ≤ grant.machine + (logical - grant.logical) = omega arith in
    let machine_high : grant.machine + (logical - grant.logical) + length ≤ grant.machine +
    grant.length = omega arith in
    record {
      granted_is = here;
      kind_is = refl;
      holding = holding;
      distance = omega arith;
      within = grind (arith, nat_tests);
      below_top = omega arith;
      has_bytes = some;
    }

pub found_of :
    (empty : Bool) (o : Option Grant) (f : Grant → ℕ × Kind) (found : ℕ × Kind)
    → (if empty then None else option_map f o) ≡ Some found
    → (empty ≡ false) × ((grant : Grant) × (o ≡ Some grant) × (f grant ≡ found))
found_of true o f found some = absurd (cc)
found_of false None f found some = absurd (cc)
found_of false (Some grant) f found some = (refl, (grant, refl, cc))

-- What `machine_range` gives lies wholly in the machine range of one grant.
pub machine_range-within :
    (granted : GrantedMemory) (logical length : ℕ) (found : ℕ × Kind)
    → AreApart granted
    → machine_range granted.grants logical length ≡ Some found
    → (grant : Grant) × IsWithinGrant granted logical length found.0 found.1 grant
unfolding machine_range
machine_range-within granted logical length found apart some =
    let (has_bytes, (grant, is, at)) = found_of (length == 0)
    (find (holds logical length) granted.grants) (machine_at logical) found some in
    let (holding, here) = find-Some (holds logical length) granted.grants grant is in
    let bytes : 0 < length = grind (arith, nat_tests, has_bytes) in (
      grant,
      subst (λ (w : ℕ × Kind). IsWithinGrant granted logical length w.0 w.1 grant) at
          (within_of granted logical length grant apart bytes holding here),
    )

within_off :
    (start length outer outer_length base size : ℕ)
    → range_within start length outer outer_length ≡ true
    → ranges_meet outer outer_length base size ≡ false
    → ranges_meet start length base size ≡ false
within_off start length outer outer_length base size within off =
    grind (arith, nat_tests, within, off)

-- A machine range that a logical range has meets no byte of the pool.
pub machine_range-off_pool :
    (granted : GrantedMemory) (logical length : ℕ) (found : ℕ × Kind)
    → AreApart granted
    → machine_range granted.grants logical length ≡ Some found
    → ranges_meet found.0 length granted.pool_base (2 ^ granted.pool_order) ≡ false
machine_range-off_pool granted logical length found apart some =
    let (grant, is) = machine_range-within granted logical length found apart some in
    within_off found.0 length grant.machine grant.length granted.pool_base (2 ^ granted.pool_order)
    is.within
    (All-contains (λ g. meets_pool granted g ≡ false) granted.grants grant apart.off_pool
    is.granted_is)

-- ---- one grant alone
clash :
    (logical length : ℕ) (one other : Grant)
    → 0 < length
    → holds logical length one ≡ true
    → holds logical length other ≡ true
    → meets_logical one other ≡ false
    → ⊥
clash logical length one other bytes first second apart =
    grind (arith, nat_tests, first, second, apart)

-- Two elements of the list, by their places.
place_of :
    (grants : List Grant) (k : ℕ) (grant d : Grant)
    → k < length grants
    → get_or grants k grant ≡ grant
    → get_or grants k d ≡ grant
place_of grants k grant d inside is = get_or_default grants k d grant inside ∙ is

-- At most one grant holds a range that is not empty.
pub one_holds :
    (granted : GrantedMemory) (logical length : ℕ) (one other : Grant)
    → AreApart granted
    → 0 < length
    → Contains granted.grants one
    → Contains granted.grants other
    → holds logical length one ≡ true
    → holds logical length other ≡ true
    → one ≡ other
one_holds granted logical length one other apart bytes (k, k_in, k_is) (j, j_in, j_is) holds_one
    holds_other =
    at (cases_lt k j) (cases_lt j k) where
      Apart : Grant → Grant → Type 0
      Apart lower higher = meets_logical lower higher ≡ false

      at : (k < j) ⊎ (j ≤ k) → (j < k) ⊎ (k ≤ j) → one ≡ other
      at (inl less) more =
          absurd
          (clash logical length one other bytes holds_one holds_other
          (rw (k_is, place_of granted.grants j other one j_in j_is) at
          (apart.logical_apart k j one less j_in)))
      at less (inl more) =
          absurd
          (clash logical length other one bytes holds_other holds_one
          (rw (j_is, place_of granted.grants k one other k_in k_is) at
          (apart.logical_apart j k other more k_in)))
      at (inr low) (inr high) =
          let same : j ≡ k = omega arith in
          sym k_is
          ∙ get_or_default granted.grants k one other k_in
          ∙ ap (λ n. get_or granted.grants n other) (sym same)
          ∙ j_is
