-- The version of the library as one number, of its major, minor and patch.
use Rattle.std.specs.Prelude.{ℕ, ◌+◌, ◌*◌, ◌^◌}

-- The number of a version: major, minor and patch, eight bits each for the last two.
abbrev pub version_number : ℕ → ℕ → ℕ → ℕ
version_number major minor patch = major * 2 ^ 16 + minor * 2 ^ 8 + patch
