-- The commands that the words after the program's name ask for.
use Rattle.std.specs.Prelude.{ℕ, ◌≤◌, List, [], ◌∷◌, Option, Some, None, if◌then◌else◌, nat_le, codes, string_bytes, String}
use Rattle.std.specs.Str.{bytes_eq}
use Rattle.std.specs.declared.alloc.Global.{Global}
use Rattle.trace_read.specs.Numbers.{number_of}
use Rattle.papr_edge.specs.declared.command.Command.{Command}
use Rattle.papr_edge.specs.declared.command.Command.TheVariants.{Run, Par, Check, Set, Image, Drill}
use Rattle.table_image.specs.declared.layout.Layout.TheVariants.{Old, New}

-- At most 100,000 lines are generated.
abbrev pub drill_by : Option ℕ → Option ℕ → Option Command
drill_by (Some seed) (Some lines) = if nat_le lines 100000 then Some (Drill seed lines) else None
drill_by seed lines = None

-- The drill that two words ask for, if both are numbers in range.
unfoldable pub drill_of : List ℕ → List ℕ → Option Command
drill_of seed lines = drill_by (number_of seed) (number_of lines)

-- The image that a word asks for: `old` or `new`.
unfoldable pub image_of : List ℕ → Option Command
image_of layout =
    if bytes_eq layout (codes "old") then Some (Image Old)
    else if bytes_eq layout (codes "new") then Some (Image New)
    else None

-- `run`, `par`, `check` or `set`.
unfoldable pub reading_of : List ℕ → Option Command
reading_of word =
    if bytes_eq word (codes "run") then Some Run
    else if bytes_eq word (codes "par") then Some Par
    else if bytes_eq word (codes "check") then Some Check
    else if bytes_eq word (codes "set") then Some Set
    else None

-- `run`, `par`, `check`, `set`, `image LAYOUT`, or `drill SEED LINES`.
unfoldable pub command_of : List (String Global) → Option Command
command_of (word ∷ []) = reading_of (string_bytes word)
command_of (word ∷ layout ∷ []) =
    if bytes_eq (string_bytes word) (codes "image")
    then image_of (string_bytes layout)
    else None
command_of (word ∷ seed ∷ lines ∷ []) =
    if bytes_eq (string_bytes word) (codes "drill")
    then drill_of (string_bytes seed) (string_bytes lines)
    else None
command_of other = None

-- A drill has at most 100,000 lines.
abbrev pub IsInRange : Command → Type 0
IsInRange Run = Unit {0}
IsInRange Par = Unit {0}
IsInRange Check = Unit {0}
IsInRange Set = Unit {0}
IsInRange (Image layout) = Unit {0}
IsInRange (Drill seed lines) = lines ≤ 100000

-- The command without threads: `par` is none of its forms.
abbrev pub without_par : Option Command → Option Command
without_par (Some Par) = None
without_par command = command
