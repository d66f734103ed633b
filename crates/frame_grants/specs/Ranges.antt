-- Ranges of numbers, each by its start and its length: when two meet, or one lies within the other.
use Rattle.std.specs.Prelude.{ℕ, ◌+◌, ◌≤◌, ◌<◌, Bool, ◌&&◌, nat_lt, nat_le, length}

-- A number that lies in a range.
pub record LiesIn (address start length : ℕ) : Type 0 where
  pub from_start : start ≤ address
  pub before_end : address < start + length

-- Some number lies in both.
abbrev pub ShareAddress : ℕ → ℕ → ℕ → ℕ → Type 0
ShareAddress start length other other_length =
    (address : ℕ) × LiesIn address start length × LiesIn address other other_length

-- Each range starts below the end of the other: for ranges that are not empty, they share a number.
abbrev pub ranges_meet : ℕ → ℕ → ℕ → ℕ → Bool
ranges_meet start length other other_length =
    nat_lt start (other + other_length) && nat_lt other (start + length)

-- The first range lies wholly in the second.
abbrev pub range_within : ℕ → ℕ → ℕ → ℕ → Bool
range_within start length outer outer_length =
    nat_le outer start && nat_le (start + length) (outer + outer_length)
