-- The run lines of a trace: which are quiet, which name a DMA window, and how many there may be.
use Rattle.std.specs.Prelude.{◌≡◌, ℕ, ◌^◌, ◌≤◌, ◌<◌, Bool, true, false, List, [], length, count_by, IsTrue, Option, Some, None, slice_index}
use Rattle.std.specs.List.{AllByRecursion}
use Rattle.papr_codes.specs.declared.calls.Hcall.{Hcall}
use Rattle.papr_codes.specs.declared.calls.Hcall.TheVariants.{Prepare, Commit, PutTce, GetTce}
use Rattle.papr_codes.specs.Hcalls.{hcall_of, is_named}
use Rattle.trace_line.specs.declared.act.Act.{Act}
use Rattle.trace_line.specs.declared.act.Act.TheVariants as acts
use Rattle.trace_line.specs.declared.line.TraceLine.{TraceLine}

-- What lines hold past their end.
abbrev pub past_lines : TraceLine
past_lines = record { number = 0; cpu = 0; act = acts.Call 0 [] false }

-- ---- quiet lines
-- The two resize calls.
abbrev pub is_resize : Hcall → Bool
is_resize Prepare = true
is_resize Commit = true
is_resize other = false

-- At a quiet line no call of a processor runs: the resize calls, by name or by number, and dumps.
unfoldable pub is_quiet : Act → Bool
is_quiet (acts.Call number args spelt) = is_resize (hcall_of number)
is_quiet acts.Dump = true
is_quiet other = false

-- The line is a dump.
abbrev pub is_dump : Act → Bool
is_dump acts.Dump = true
is_dump other = false

-- ---- lines on DMA windows
-- The number of a window that a call names: the first argument of H_PUT_TCE and H_GET_TCE.
abbrev pub bus_of_call : Hcall → List ℕ → Option ℕ
bus_of_call PutTce args = Some (slice_index args 0)
bus_of_call GetTce args = Some (slice_index args 0)
bus_of_call other args = None

-- The number of a window that a line names: such a call's, or that of a device's access.
unfoldable pub bus_of : Act → Option ℕ
bus_of (acts.Call number args spelt) = bus_of_call (hcall_of number) args
bus_of (acts.Device write liobn ioba) = Some liobn
bus_of other = None

-- ---- what holds of the run lines
-- A call that is spelt is one of those that have a name.
abbrev pub IsSpelt : Act → Type 0
IsSpelt (acts.Call number args spelt) = spelt ≡ true → IsTrue (is_named (hcall_of number))
IsSpelt other = Unit {0}

-- A trace has at most so many lines.
abbrev pub most_lines : ℕ
most_lines = 2 ^ 17

-- At most so many of them are quiet.
abbrev pub most_quiet_lines : ℕ
most_quiet_lines = 256

-- At most so many of the quiet lines are dumps.
abbrev pub most_dumps : ℕ
most_dumps = 16

-- How many of the lines have an act that passes.
abbrev pub count_acts : (Act → Bool) → List TraceLine → ℕ
count_acts passes lines = count_by (λ (l : TraceLine). passes l.act) lines

-- Each line's processor is one of so many.
abbrev pub AreOnProcessors : ℕ → List TraceLine → Type 0
AreOnProcessors cpus lines = AllByRecursion (λ (l : TraceLine). l.cpu < cpus) lines

-- Each line has one of the processors, and there are no more lines, quiet ones and dumps than may
-- be.
pub record IsTrace (cpus : ℕ) (lines : List TraceLine) : Type 0 where
  pub on_cpus : AreOnProcessors cpus lines
  pub spelt : AllByRecursion (λ (l : TraceLine). IsSpelt l.act) lines
  pub few : length lines ≤ most_lines
  pub few_quiet : count_acts is_quiet lines ≤ most_quiet_lines
  pub few_dumps : count_acts is_dump lines ≤ most_dumps
