-- How much of the room in a string a text takes.
use Rattle.std.specs.Prelude.{ℕ, ◌+◌, ◌<◌, ◌≤◌, Result, OnOk, OnErr, String, string_len, string_capacity}
use Rattle.std.specs.declared.alloc.Global.{Global}

-- At most so many bytes were appended, or there was less room than that. The room never shrinks.
abbrev pub TakesAtMost : {T E : Type 0} → ℕ → Result T E → String Global → String Global → Type 0
TakesAtMost most result old new =
    OnOk result (string_len new ≤ string_len old + most)
    × (OnErr result (string_capacity old < string_len old + most)
    × (string_capacity old ≤ string_capacity new))
