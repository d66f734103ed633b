-- What the protection bits of a page allow: a table, looked up by the bits and the key.
use Rattle.std.specs.Prelude.{ℕ, ◌==◌, Bool, true, false, not, ◌&&◌, if◌then◌else◌, List, [], ◌∷◌, find}
use Rattle.std.specs.Option.{option_map_or}
use Rattle.storage_prot.specs.declared.want.Want.{Want}
use Rattle.storage_prot.specs.declared.want.Want.TheVariants.{Load, Store, Fetch}

-- What an access may do.
pub data Permission : Type 0 where
  Nothing : Permission
  ReadOnly : Permission
  ReadWrite : Permission

-- One row: the three bits as a number, PP0 counting 4, and what key 0 and key 1 may do.
pub record Row : Type 0 where
  pub bits : ℕ
  pub key_0 : Permission
  pub key_1 : Permission

-- The rows of the architecture; bits of no row allow nothing.
unfoldable pub rows : List Row
rows =
    record { bits = 0; key_0 = ReadWrite; key_1 = Nothing }
    ∷ record { bits = 1; key_0 = ReadWrite; key_1 = ReadOnly }
    ∷ record { bits = 2; key_0 = ReadWrite; key_1 = ReadWrite }
    ∷ record { bits = 3; key_0 = ReadOnly; key_1 = ReadOnly }
    ∷ record { bits = 6; key_0 = ReadOnly; key_1 = Nothing }
    ∷ []

-- The row's entry for this key.
abbrev pub by_key : Bool → Row → Permission
by_key key row = if key then row.key_1 else row.key_0

-- What an access with this key may do to a page with these bits.
unfoldable pub permission : ℕ → Bool → Permission
permission pp key = option_map_or (by_key key) (find (λ (row : Row). row.bits == pp) rows) Nothing

-- Loads are allowed, and fetches where nothing else refuses them.
abbrev pub may_read : Permission → Bool
may_read Nothing = false
may_read ReadOnly = true
may_read ReadWrite = true

-- Stores are allowed.
abbrev pub may_write : Permission → Bool
may_write Nothing = false
may_write ReadOnly = false
may_write ReadWrite = true

-- A load needs read, a store needs write, and a fetch needs read where fetches are not refused.
abbrev pub allowed : ℕ → Bool → Bool → Want → Bool
allowed pp key no_execute Load = may_read (permission pp key)
allowed pp key no_execute Store = may_write (permission pp key)
allowed pp key no_execute Fetch = may_read (permission pp key) && not no_execute
