-- The pages that a TCE may give to a device: those that a single grant of ram holds.
use Rattle.std.specs.Prelude.{ℕ, Bool, true, false, List}
use Rattle.std.specs.Option.{option_map_or}
use Rattle.pool_range.specs.Ranges.{page_bytes}
use Rattle.frame_grants.specs.declared.grant.Grant.{Grant}
use Rattle.frame_grants.specs.declared.grant.Kind.{Kind}
use Rattle.frame_grants.specs.declared.grant.Kind.TheVariants.{Ram, Io}
use Rattle.frame_grants.specs.Grants.{machine_range}

-- The kind is ram.
abbrev pub is_ram_kind : Kind → Bool
is_ram_kind Ram = true
is_ram_kind Io = false

-- A single grant of ram holds the page at this logical address.
unfoldable pub is_ram : List Grant → ℕ → Bool
is_ram grants page =
    option_map_or
    (λ (x : ℕ × Kind). is_ram_kind x.1)
    (machine_range grants page page_bytes)
    false
