-- What run lines ask for, as readings of their words.
use Rattle.std.specs.Prelude.{ℕ, ◌+◌, ◌==◌, ◌&&◌, Bool, true, false, List, [], ◌∷◌, length, codes, nat_lt, nat_le, slice_index_or, Option, Result, Ok, Err, if◌then◌else◌}
use Rattle.std.specs.Str.{bytes_eq}
use Rattle.papr_codes.specs.Hcalls.{hcall_number}
use Rattle.trace_line.specs.declared.act.Act.{Act}
use Rattle.trace_line.specs.declared.act.Act.TheVariants as acts
use Rattle.trace_read.specs.declared.verbs.Verb.{Verb}
use Rattle.trace_read.specs.declared.verbs.Verb.TheVariants as verbs
use Rattle.trace_read.specs.declared.why.Why.{Why}
use Rattle.trace_read.specs.declared.why.Why.TheVariants.{Count, Number, Mode, Cpu}
use Rattle.trace_read.specs.Numbers.{number_of}
use Rattle.trace_read.specs.Whys.{◌>>=◌, guard, required}

-- ---- words
-- How many words a line may have. `hcall` has a number and zero to eight arguments after it.
abbrev pub takes : Verb → ℕ → Bool
takes (verbs.Named hcall args) count = count == args + 2
takes verbs.Numbered count = nat_le 3 count && nat_le count 11
takes (verbs.Access want) count = count == 4
takes (verbs.Device write) count = count == 4
takes verbs.SlbMte count = count == 4
takes verbs.SlbClear count = count == 2
takes (verbs.SetMask name) count = count == 3

-- The word at an index as a number; a missing one is 0.
unfoldable pub number_at : List (List ℕ) → ℕ → Result ℕ Why
number_at ws i =
    if nat_lt i (length ws) then required (number_of (slice_index_or ws i [])) Number else Ok 0

-- The eight arguments of a call, from this index on.
unfoldable pub arguments_from : List (List ℕ) → ℕ → Result (List ℕ) Why
arguments_from ws i = do
  a ← number_at ws i
  b ← number_at ws (i + 1)
  c ← number_at ws (i + 2)
  d ← number_at ws (i + 3)
  e ← number_at ws (i + 4)
  f ← number_at ws (i + 5)
  g ← number_at ws (i + 6)
  h ← number_at ws (i + 7)
  Ok (a ∷ b ∷ c ∷ d ∷ e ∷ f ∷ g ∷ h ∷ [])

-- Whether the access is made in problem state.
unfoldable pub mode_at : List (List ℕ) → ℕ → Result Bool Why
mode_at ws i =
    if bytes_eq (codes "user") (slice_index_or ws i []) then Ok true
    else if bytes_eq (codes "priv") (slice_index_or ws i []) then Ok false
    else Err Mode

-- ---- lines
-- What the words after the processor and the verb ask for.
unfoldable pub act_by : Verb → List (List ℕ) → Result Act Why
act_by (verbs.Named hcall count) ws = do
  args ← arguments_from ws 2
  Ok (acts.Call (hcall_number hcall) args true)
act_by verbs.Numbered ws = do
  number ← number_at ws 2
  args ← arguments_from ws 3
  Ok (acts.Call number args false)
act_by (verbs.Access want) ws = do
  ea ← number_at ws 2
  user ← mode_at ws 3
  Ok (acts.Access want ea user)
act_by (verbs.Device write) ws = do
  liobn ← number_at ws 2
  ioba ← number_at ws 3
  Ok (acts.Device write liobn ioba)
act_by verbs.SlbMte ws = do
  rb ← number_at ws 2
  rs ← number_at ws 3
  Ok (acts.SlbMte rb rs)
act_by verbs.SlbClear ws = Ok acts.SlbClear
act_by (verbs.SetMask name) ws = do
  value ← number_at ws 2
  Ok (acts.SetMask name value)

-- The processor, and what it does.
unfoldable pub read_act : ℕ → Option Verb → List (List ℕ) → Result (ℕ × Act) Why
read_act cpus verb ws = do
  named ← required verb Count
  counted ← guard (takes named (length ws)) Count
  cpu ← number_at ws 0
  act ← act_by named ws
  there ← guard (nat_lt cpu cpus) Cpu
  Ok (cpu, act)

-- `dump` names no processor.
unfoldable pub dump_act : List (List ℕ) → Result (ℕ × Act) Why
dump_act ws = do
  counted ← guard (length ws == 1) Count
  Ok (0, acts.Dump)
