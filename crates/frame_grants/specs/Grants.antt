-- The memory granted to the guest: which grant is refused, where one is put, and the machine range
-- of a logical range.
use Rattle.std.specs.Prelude.{◌≡◌, ◌<◌, ◌≤◌, ℕ, ◌+◌, ◌-◌, ◌%◌, ◌^◌, ◌==◌, Bool, false, not, ◌&&◌, ◌||◌, if◌then◌else◌, nat_lt, nat_le, List, [], ◌∷◌, ◌++◌, length, filter, find, All, AllPairs, Option, None, option_map}
use Rattle.std.specs.List.{list_any}
use Rattle.pool_range.specs.Ranges.{IsPoolRange, address_end, page_bytes}
use Rattle.basics.specs.Words.{first_refusal}
use Rattle.frame_grants.specs.Ranges.{ranges_meet, range_within}
use Rattle.frame_grants.specs.declared.error.GrantError.{GrantError}
use Rattle.frame_grants.specs.declared.error.GrantError.TheVariants.{Empty, Unaligned, Past, TooMany, Overlap, PoolOverlap}
use Rattle.frame_grants.specs.declared.grant.Grant.{Grant}
use Rattle.frame_grants.specs.declared.grant.Kind.{Kind}
use Rattle.frame_grants.specs.declared.grant.Kind.TheVariants.{Ram}

-- The most grants that a guest has.
abbrev pub most_grants : ℕ
most_grants = 64

-- The grants, and the pool of page tables, which is a machine range of 2 ^ pool_order bytes.
pub record GrantedMemory : Type 0 where
  pub pool_base : ℕ
  pub pool_order : ℕ
  pub grants : List Grant

-- No grant, with this pool.
abbrev pub no_grants : ℕ → ℕ → GrantedMemory
no_grants pool_base pool_order = record {
  pool_base = pool_base;
  pool_order = pool_order;
  grants = [];
}

-- ---- one grant
-- No byte, at address 0.
abbrev pub no_grant : Grant
no_grant = record { logical = 0; machine = 0; length = 0; kind = Ram }

-- The grant has no byte.
abbrev pub is_empty : Grant → Bool
is_empty grant = grant.length == 0

-- Both addresses and the length are whole pages.
abbrev pub is_aligned : Grant → Bool
is_aligned grant =
    grant.logical % page_bytes == 0
    && grant.machine % page_bytes == 0
    && grant.length % page_bytes == 0

-- One of the two ranges ends above 2 ^ 60.
abbrev pub ends_past : Grant → Bool
ends_past grant =
    nat_lt address_end (grant.logical + grant.length)
    || nat_lt address_end (grant.machine + grant.length)

-- ---- two grants
-- The two logical ranges share an address.
abbrev pub meets_logical : Grant → Grant → Bool
meets_logical grant other = ranges_meet grant.logical grant.length other.logical other.length

-- The two machine ranges share an address.
abbrev pub meets_machine : Grant → Grant → Bool
meets_machine grant other = ranges_meet grant.machine grant.length other.machine other.length

-- The two share a logical or a machine address.
abbrev pub overlaps : Grant → Grant → Bool
overlaps grant other = meets_logical grant other || meets_machine grant other

-- The machine range meets the pool.
abbrev pub meets_pool : GrantedMemory → Grant → Bool
meets_pool granted grant =
    ranges_meet grant.machine grant.length granted.pool_base (2 ^ granted.pool_order)

-- ---- a further grant
-- What may be wrong with it, in the order in which it is tried.
unfoldable pub refusals : GrantedMemory → Grant → List (Bool × GrantError)
refusals granted grant =
    (is_empty grant, Empty)
    ∷ (not (is_aligned grant), Unaligned)
    ∷ (ends_past grant, Past)
    ∷ (nat_le most_grants (length granted.grants), TooMany)
    ∷ (list_any (overlaps grant) granted.grants, Overlap)
    ∷ (meets_pool granted grant, PoolOverlap)
    ∷ []

-- The first that is wrong, or none.
unfoldable pub add_refusal : GrantedMemory → Grant → Option GrantError
add_refusal granted grant = first_refusal (refusals granted grant)

-- It stands after the grants whose logical range starts below its own, and before the others.
abbrev pub starts_below : Grant → Grant → Bool
starts_below grant other = nat_lt other.logical grant.logical

-- The grants with a further one, in the order of their logical ranges.
unfoldable pub with_grant : GrantedMemory → Grant → GrantedMemory
with_grant granted grant =
    record granted {
      grants = filter (starts_below grant) granted.grants ++ grant
          ∷ filter (λ (other : Grant). not (starts_below grant other)) granted.grants;
    }

-- ---- the machine range of a logical one
-- The grant holds the whole logical range.
abbrev pub holds : ℕ → ℕ → Grant → Bool
holds logical length grant = range_within logical length grant.logical grant.length

-- The machine address as far into the grant as the logical one, and what lies there.
abbrev pub machine_at : ℕ → Grant → ℕ × Kind
machine_at logical grant = (grant.machine + (logical - grant.logical), grant.kind)

-- Where a logical range lies in machine memory, and the kind, by the grant that holds the whole of
-- it; none for a range of no byte.
unfoldable pub machine_range : List Grant → ℕ → ℕ → Option (ℕ × Kind)
machine_range grants logical length =
    if length == 0
    then None
    else option_map (machine_at logical) (find (holds logical length) grants)

-- ---- what holds of the grants at all times
-- A grant that is not empty, is aligned and ends at most at 2 ^ 60.
pub record IsPlaced (grant : Grant) : Type 0 where
  pub has_bytes : 0 < grant.length
  pub logical_aligned : grant.logical % page_bytes ≡ 0
  pub machine_aligned : grant.machine % page_bytes ≡ 0
  pub length_aligned : grant.length % page_bytes ≡ 0
  pub logical_end : grant.logical + grant.length ≤ address_end
  pub machine_end : grant.machine + grant.length ≤ address_end

-- Each grant is as it should be, they rise by logical address, and none meets another or the pool.
pub record AreApart (granted : GrantedMemory) : Type 0 where
  pub placed : All IsPlaced granted.grants
  pub rising : AllPairs (λ (lower higher : Grant). lower.logical < higher.logical) granted.grants
  pub logical_apart :
      AllPairs (λ (lower higher : Grant). meets_logical lower higher ≡ false) granted.grants
  pub machine_apart :
      AllPairs (λ (lower higher : Grant). meets_machine lower higher ≡ false) granted.grants
  pub off_pool : All (λ grant. meets_pool granted grant ≡ false) granted.grants

-- The pool is a range for page tables, and the grants meet neither it nor each other.
pub record IsSound (granted : GrantedMemory) : Type 0 where
  pub pool : IsPoolRange granted.pool_base granted.pool_order
  pub apart : AreApart granted
