-- How an entry's index, a doubleword or an address is written: in hexadecimal digits after `0x`.
use Rattle.std.specs.Prelude.{ℕ, false, List, ◌++◌, codes}
use Rattle.std.specs.Fmt.{digits}

-- `0x` and lower-case hexadecimal digits without leading zeros.
abbrev pub hex : ℕ → List ℕ
hex n = codes "0x" ++ digits 16 false n
