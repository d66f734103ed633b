-- Grants as C has them: a list that is checked once, sorted, and searched by halving.
use Rattle.std.specs.Prelude.{◌≡◌, ◌<◌, ◌≤◌, ◌+◌, ℕ, nat_le, Bool, false, if◌then◌else◌, List, [], map, take, slice_index_or, All, AllPairs}
use Rattle.frame_grants.specs.declared.grant.Grant.{Grant}
use Rattle.frame_grants.specs.declared.grant.Kind.{Kind}
use Rattle.frame_grants.specs.declared.grant.Kind.TheVariants.{Ram, Io}
use Rattle.frame_grants.specs.Grants.{IsPlaced, meets_logical, most_grants}
use Rattle.c_layout.specs.declared.grants.PaprGrant.{PaprGrant}
use Rattle.pool_range.specs.Ranges.{address_end}

-- ---- one grant
-- What the machine range is of: main storage, or a device's registers.
abbrev pub kind_of : Bool → Kind
kind_of is_io = if is_io then Io else Ram

-- The grant with these fields.
abbrev pub grant_of : PaprGrant → Grant
grant_of g = record {
  logical = g.logical;
  machine = g.machine;
  length = g.length;
  kind = kind_of g.is_io;
}

-- No byte, at address 0: what fills a list past its last grant.
abbrev pub no_fields : PaprGrant
no_fields = record { logical = 0; machine = 0; length = 0; is_io = false }

-- ---- a list that was checked
-- The grant at an index.
abbrev pub fields_at : List PaprGrant → ℕ → PaprGrant
fields_at grants index = slice_index_or grants index no_fields

-- The first `count` grants rise: each ends where the next begins, or before it, and its machine
-- range ends at most at 2 ^ 60.
pub record IsInOrder (grants : List PaprGrant) (count : ℕ) : Type 0 where
  pub rising :
      (j k : ℕ)
      → j < k
      → k < count
      → (fields_at grants j).logical + (fields_at grants j).length ≤ (fields_at grants k).logical
  pub low :
      (k : ℕ)
      → k < count
      → (fields_at grants k).machine + (fields_at grants k).length ≤ address_end

-- Grants that make such a list: each is placed, they rise, and none meets another.
pub record AreListed (grants : List Grant) : Type 0 where
  pub placed : All IsPlaced grants
  pub rising : AllPairs (λ (lower higher : Grant). lower.logical < higher.logical) grants
  pub apart : AllPairs (λ (lower higher : Grant). meets_logical lower higher ≡ false) grants

-- The first grants of a list.
abbrev pub first_grants : List PaprGrant → ℕ → List Grant
first_grants grants count = map grant_of (take count grants)

-- The grants of a list, which are its first `count`. A list that says that it has more than there
-- is room for has none.
abbrev pub listed : List PaprGrant → ℕ → List Grant
listed grants count = if nat_le count most_grants then first_grants grants count else []
