-- The bytes that a source gives or a sink takes, where these are shown, and the count of faults.
use Rattle.std.specs.Prelude.{◌≡◌, ℕ, ◌+◌, ◌<◌, ◌≤◌, ◌^◌, ◌-◌, min, ◌⊎◌, List, [], ◌++◌, length, Option, Some, None}

-- These bytes were taken, the first of those that were left. A source shows what is left always or
-- never.
abbrev pub Took : Option (List ℕ) → List ℕ → Option (List ℕ) → Type 0
Took None bytes None = Unit {0}
Took None bytes (Some new) = ⊥
Took (Some old) bytes None = ⊥
Took (Some old) bytes (Some new) = old ≡ bytes ++ new

-- These bytes were put after those that were there. A sink may stop showing what it took, and never
-- begins to.
abbrev pub Put : Option (List ℕ) → List ℕ → Option (List ℕ) → Type 0
Put old bytes None = Unit {0}
Put None bytes (Some new) = ⊥
Put (Some old) bytes (Some new) = new ≡ old ++ bytes

-- Nothing is left, where this is shown.
abbrev pub AtEnd : Option (List ℕ) → Type 0
AtEnd None = Unit {0}
AtEnd (Some left) = left ≡ []

-- The count of faults rose, or stands at its last value.
abbrev pub Rose : ℕ → ℕ → Type 0
Rose old new = (old < new) ⊎ (new ≡ 2 ^ 64 - 1)

-- A count one higher. It stops at the last value of a u64.
abbrev pub counted : ℕ → ℕ
counted count = min (count + 1) (2 ^ 64 - 1)

-- Some bytes were taken, and no more than this many.
abbrev pub TookWithin : ℕ → Option (List ℕ) → Option (List ℕ) → Type 0
TookWithin limit old new = (bytes : List ℕ) × (length bytes ≤ limit) × Took old bytes new

-- More than this many bytes were taken: one more.
abbrev pub TookPast : ℕ → Option (List ℕ) → Option (List ℕ) → Type 0
TookPast limit old new =
    (bytes : List ℕ) × (limit < length bytes) × Took old bytes new × (length bytes ≡ limit + 1)

-- A prefix of the text was put, and not the whole.
abbrev pub PutPrefix : List ℕ → Option (List ℕ) → Option (List ℕ) → Type 0
PutPrefix text old new =
    (prefix : List ℕ)
    × (rest : List ℕ)
    × (text ≡ prefix ++ rest)
    × Put old prefix new
    × (0 < length rest)
