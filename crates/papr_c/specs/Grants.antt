-- How a list of grants is made for C, the numbers of its refusals, and a look-up in it.
use Rattle.std.specs.Prelude.{ℕ, ◌+◌, Bool, true, false, List, [], ◌∷◌, Option, Some, None}
use Rattle.pool_range.specs.Ranges.{range_refusal}
use Rattle.pool_range.specs.declared.range.RangeError.{RangeError}
use Rattle.pool_range.specs.declared.range.RangeError.TheVariants as pool
use Rattle.frame_grants.specs.declared.grant.Grant.{Grant}
use Rattle.frame_grants.specs.declared.grant.Kind.{Kind}
use Rattle.frame_grants.specs.declared.grant.Kind.TheVariants.{Ram, Io}
use Rattle.frame_grants.specs.declared.error.GrantError.{GrantError}
use Rattle.frame_grants.specs.declared.error.GrantError.TheVariants as grant
use Rattle.frame_grants.specs.Grants.{GrantedMemory, no_grants, add_refusal, with_grant}
use Rattle.c_layout.specs.declared.grants.PaprGrant.{PaprGrant}
use Rattle.c_layout.specs.Grants.{grant_of}
use Rattle.papr_c.specs.declared.granting.PaprMaking.{PaprMaking}
use Rattle.papr_c.specs.declared.granting.PaprRange.{PaprRange}

-- ---- how a list is made
-- What becomes of it: the granted memory, or the index of the first grant that is refused, and why,
-- or why there is no pool.
pub data Making : Type 0 where
  Made : GrantedMemory → Making
  Refused : ℕ → GrantError → Making
  NoPool : RangeError → Making

-- One grant that was tried, with what becomes of the list if it isn't refused.
abbrev pub making_by : Option GrantError → ℕ → Making → Making
making_by None index rest = rest
making_by (Some e) index rest = Refused index e

-- The grants are added one after the other to those that there are.
abbrev pub making_from : GrantedMemory → ℕ → List PaprGrant → Making
making_from granted index [] = Made granted
making_from granted index (g ∷ gs) =
    making_by
    (add_refusal granted (grant_of g))
    index
    (making_from (with_grant granted (grant_of g)) (index + 1) gs)

-- With a pool of page tables, where its two numbers describe one.
abbrev pub making_beside : Option RangeError → ℕ → ℕ → List PaprGrant → Making
making_beside None base order given = making_from (no_grants base order) 0 given
making_beside (Some e) base order given = NoPool e

-- What becomes of a list of grants: the pool's range first, then one grant after the other.
unfoldable pub making_of : ℕ → ℕ → List PaprGrant → Making
making_of base order given = making_beside (range_refusal base order) base order given

-- ---- what C has of it
-- The number of a grant's refusal.
abbrev pub grant_refusal_number : GrantError → ℕ
grant_refusal_number grant.Empty = 1
grant_refusal_number grant.Unaligned = 2
grant_refusal_number grant.Past = 3
grant_refusal_number grant.TooMany = 4
grant_refusal_number grant.Overlap = 5
grant_refusal_number grant.PoolOverlap = 6

-- The number of a pool's refusal.
abbrev pub pool_refusal_number : RangeError → ℕ
pool_refusal_number pool.Order = 7
pool_refusal_number pool.Unaligned = 8
pool_refusal_number pool.Past = 9

-- The refusal, 0 for none, and the index of the grant that is refused.
abbrev pub making_told : Making → PaprMaking
making_told (Made granted) = record { index = 0; refusal = 0 }
making_told (Refused index e) = record { index = index; refusal = grant_refusal_number e }
making_told (NoPool e) = record { index = 0; refusal = pool_refusal_number e }

-- The list after it: what is refused leaves it as it was.
abbrev pub list_after : Making → List Grant → List Grant
list_after (Made granted) old = granted.grants
list_after (Refused index e) old = old
list_after (NoPool e) old = old

-- ---- a look-up
-- A device lies there.
abbrev pub is_io : Kind → Bool
is_io Ram = false
is_io Io = true

-- The machine address, and what lies there; 0 where there is none.
abbrev pub range_told : Option (ℕ × Kind) → PaprRange
range_told None = record { machine = 0; granted = false; is_io = false }
range_told (Some x) = record { machine = x.0; granted = true; is_io = is_io x.1 }
