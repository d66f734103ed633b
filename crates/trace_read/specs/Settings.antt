-- What the configuration lines give, as readings of their words.
use Rattle.std.specs.Prelude.{◌≡◌, ℕ, ◌==◌, ◌&&◌, List, [], length, nat_le, is_none, Option, Some, None, Result, Ok, Err}
use Rattle.frame_grants.specs.declared.error.GrantError.{GrantError}
use Rattle.frame_grants.specs.declared.grant.Grant.{Grant}
use Rattle.frame_grants.specs.declared.grant.Kind.{Kind}
use Rattle.frame_grants.specs.Grants.{no_grants, add_refusal, with_grant}
use Rattle.pool_range.specs.Ranges.{range_refusal}
use Rattle.trace_read.specs.declared.why.Why.{Why}
use Rattle.trace_read.specs.declared.why.Why.TheVariants.{Count, Range, Small}
use Rattle.trace_read.specs.Acts.{number_at}
use Rattle.trace_read.specs.Configuration.{Configuration, greatest_trace_order, most_processors}
use Rattle.trace_read.specs.Whys.{◌>>=◌, guard, why_of_grant}
use Rattle.hpte_fields.specs.TableSize.{least_order}

-- The smallest table, which may grow to the largest one of a trace, one processor, no grant beside
-- this pool, no entry, and no window.
abbrev pub settings_beside : ℕ → ℕ → Configuration
settings_beside pool_base pool_order = record {
  order = least_order;
  limit = greatest_trace_order;
  cpus = 1;
  granted = no_grants pool_base pool_order;
  entries = [];
  windows = [];
}

-- The settings of a trace without configuration lines: those beside a pool of 2 ^ 24 bytes.
abbrev pub default_settings : Configuration
default_settings = settings_beside 0x1000000000 24

-- ---- one line each
-- The number of a line that has one, between these bounds, which are among the numbers allowed.
unfoldable pub number_within : List (List ℕ) → ℕ → ℕ → Result ℕ Why
number_within ws low high = do
  counted ← guard (length ws == 2) Count
  number ← number_at ws 1
  within ← guard (nat_le low number && nat_le number high) Range
  Ok number

-- `order`: the order of the opening table.
unfoldable pub with_order : Configuration → List (List ℕ) → Result Configuration Why
with_order c ws = do
  order ← number_within ws least_order greatest_trace_order
  Ok (record c { order = order })

-- `limit`: the highest order that the guest may ask for, not below the order so far.
unfoldable pub with_limit : Configuration → List (List ℕ) → Result Configuration Why
with_limit c ws = do
  limit ← number_within ws c.order greatest_trace_order
  Ok (record c { limit = limit })

-- `cpus`: the number of processors.
unfoldable pub with_cpus : Configuration → List (List ℕ) → Result Configuration Why
with_cpus c ws = do
  cpus ← number_within ws 1 most_processors
  Ok (record c { cpus = cpus })

-- The base and the order of the pool that a line names after its first word.
unfoldable pub pool_named : List (List ℕ) → Result (ℕ × ℕ) Why
pool_named ws = do
  counted ← guard (length ws == 3) Count
  base ← number_at ws 1
  order ← number_at ws 2
  within ← guard (is_none (range_refusal base order)) Range
  Ok (base, order)

-- `pool`: the machine range for page tables. The grants are still to come.
unfoldable pub with_pool : Configuration → List (List ℕ) → Result Configuration Why
with_pool c ws = do
  pool ← pool_named ws
  Ok (record c { granted = no_grants pool.0 pool.1 })

-- A grant, unless it is refused.
abbrev pub with_checked_grant : Configuration → Grant → Option GrantError → Result Configuration Why
with_checked_grant c grant (Some error) = Err (why_of_grant error)
with_checked_grant c grant None = Ok (record c { granted = with_grant c.granted grant })

-- The grant that a line of `ram` or `io` names.
unfoldable pub grant_named : Kind → List (List ℕ) → Result Grant Why
grant_named kind ws = do
  counted ← guard (length ws == 4) Count
  logical ← number_at ws 1
  machine ← number_at ws 2
  size ← number_at ws 3
  Ok (record { logical = logical; machine = machine; length = size; kind = kind })

-- `ram` and `io`: one more grant.
unfoldable pub with_granted : Configuration → Kind → List (List ℕ) → Result Configuration Why
with_granted c kind ws = do
  grant ← grant_named kind ws
  with_checked_grant c grant (add_refusal c.granted grant)

-- At `begin` the pool has room for the opening table.
unfoldable pub with_begin : Configuration → List (List ℕ) → Result Configuration Why
with_begin c ws = do
  counted ← guard (length ws == 1) Count
  room ← guard (nat_le c.order c.granted.pool_order) Small
  Ok c

-- The settings after a line are as it says, or it is refused and they stay.
abbrev pub SetsTo :
    Result Configuration Why → Result (Unit {0}) Why → Configuration → Configuration → Type 0
SetsTo said (Ok done) old new = said ≡ Ok new
SetsTo said (Err why) old new = (said ≡ Err why) × (new ≡ old)
