-- The trace that an input gives, by a state machine over its lines.
use Rattle.std.specs.Prelude.{◌≡◌, ◌≤◌, ℕ, ◌+◌, ◌-◌, ◌^◌, true, false, List, [], ◌∷◌, ◌++◌, length, Result, Ok, Err, if◌then◌else◌, nat_lt}
use Rattle.std.specs.List.{list_all}
use Rattle.trace_read.specs.declared.forms.Form.{Form}
use Rattle.trace_read.specs.declared.forms.Form.TheVariants as forms
use Rattle.trace_read.specs.declared.stage.Stage.{Stage}
use Rattle.trace_read.specs.declared.stage.Stage.TheVariants as stages
use Rattle.trace_line.specs.declared.act.Act.{Act}
use Rattle.trace_line.specs.declared.line.TraceLine.{TraceLine}
use Rattle.trace_read.specs.declared.why.Why.{Why}
use Rattle.trace_read.specs.declared.why.Why.TheVariants as whys
use Rattle.trace_read.specs.Acts.{read_act, dump_act}
use Rattle.trace_read.specs.Configuration.{Configuration, greatest_trace_order}
use Rattle.trace_read.specs.Counts.{may_add}
use Rattle.trace_read.specs.Forms.{form_of}
use Rattle.trace_read.specs.TextLines.{raw_lines, without_cr, is_printable, words_of, is_remark}
use Rattle.trace_read.specs.Entries.{with_entry}
use Rattle.trace_read.specs.Places.{is_running, is_first, may_have_entries, comes_at}
use Rattle.trace_read.specs.Settings.{settings_beside, with_order, with_limit, with_cpus, with_pool, with_granted, with_begin}
use Rattle.trace_line.specs.Lines.{IsTrace, most_lines}
use Rattle.trace_read.specs.Trace.{AcceptedTrace}
use Rattle.trace_read.specs.Windows.{with_window}
use Rattle.trace_read.specs.Whys.{◌>>=◌, guard}

-- The lines so far: how many were read, what may come next, and what they have given.
pub record Reading : Type 0 where
  pub taken : ℕ
  pub stage : Stage
  pub config : Configuration
  pub lines : List TraceLine

-- Before the first line, with this pool until a line names another.
abbrev pub reading_beside : ℕ → ℕ → Reading
reading_beside pool_base pool_order = record {
  taken = 0;
  stage = stages.Order;
  config = settings_beside pool_base pool_order;
  lines = [];
}

-- Before the first line, with the default pool of 2 ^ 24 bytes.
abbrev pub opening_reading : Reading
opening_reading = reading_beside 0x1000000000 24

-- ---- one line
-- After a configuration line, what may come next.
abbrev pub set_to : Reading → Stage → Result Configuration Why → Result Reading Why
set_to r stage said = do
  config ← said
  Ok (record r { stage = stage; config = config })

-- One more run line, of this processor.
abbrev pub with_run_line : Reading → ℕ → Act → Result Reading Why
with_run_line r cpu act = do
  room ← may_add r.lines act
  Ok (record r { lines = r.lines ++ record { number = r.taken; cpu = cpu; act = act } ∷ [] })

-- After a run line or a dump.
unfoldable pub after_act : Reading → Result (ℕ × Act) Why → Result Reading Why
after_act r said = do
  x ← said
  with_run_line r x.0 x.1

-- The reading after a line of this form.
unfoldable pub after_form : Form → Reading → List (List ℕ) → Result Reading Why
after_form forms.Order r ws = set_to r stages.Limit (with_order r.config ws)
after_form forms.Limit r ws = set_to r stages.Cpus (with_limit r.config ws)
after_form forms.Cpus r ws = set_to r stages.Pool (with_cpus r.config ws)
after_form forms.Pool r ws = set_to r stages.Grants (with_pool r.config ws)
after_form (forms.Grant kind) r ws = set_to r stages.Grants (with_granted r.config kind ws)
after_form forms.Entry r ws = set_to r stages.Entries (with_entry r.config ws)
after_form forms.Window r ws = set_to r stages.Windows (with_window r.config ws)
after_form forms.Begin r ws = set_to r stages.Lines (with_begin r.config ws)
after_form (forms.Run verb) r ws = after_act r (read_act r.config.cpus verb ws)
after_form forms.Dump r ws = after_act r (dump_act ws)

-- The words of a line that is no remark: of a form, and in its place.
unfoldable pub after_words : Reading → List (List ℕ) → Result Reading Why
after_words r ws = do
  form ← form_of ws
  here ← guard (comes_at form r.stage) whys.Place
  after_form form r ws

-- A remark adds nothing but its number.
unfoldable pub after_text : Reading → List (List ℕ) → Result Reading Why
after_text r ws = if is_remark ws then Ok r else after_words r ws

-- The reading after one more line, or why it is refused: the reasons in their order.
unfoldable pub after_line : Reading → List ℕ → Result Reading Why
after_line r line = do
  few ← guard (nat_lt r.taken most_lines) whys.Lines
  text ← guard (list_all is_printable (without_cr line)) whys.Ascii
  after_text (record r { taken = r.taken + 1 }) (words_of (without_cr line))

-- The lines before this number are taken.
abbrev pub at_line : ℕ → Reading → Reading
at_line number r = record r { taken = number - 1 }

-- The reading after a further line that has this number: the numbers between have no lines.
abbrev pub after_numbered : ℕ → Reading → List ℕ → Result Reading Why
after_numbered number r line = after_line (at_line number r) line

-- ---- all lines
-- A refusal is given with the number of its line.
abbrev pub go_on :
    ℕ
    → Result Reading Why
    → (Reading → Result AcceptedTrace (ℕ × Why))
    → Result AcceptedTrace (ℕ × Why)
go_on n (Ok r) f = f r
go_on n (Err why) f = Err (n, why)

-- At the end of the input `begin` has to have come.
abbrev pub trace_at_end : Reading → Result AcceptedTrace (ℕ × Why)
trace_at_end r =
    if is_running r.stage
    then Ok (record { config = r.config; lines = r.lines })
    else Err (r.taken + 1, whys.Begin)

-- The trace after these lines, or the first line that is refused.
unfoldable pub after_lines : Reading → List (List ℕ) → Result AcceptedTrace (ℕ × Why)
after_lines r [] = trace_at_end r
after_lines r (l ∷ ls) = go_on (r.taken + 1) (after_line r l) (λ s. after_lines s ls)

-- The most bytes that an input may have.
abbrev pub most_bytes : ℕ
most_bytes = 2 ^ 24

-- The accepted trace, or the first refused line and the reason. More bytes than may be are refused
-- as line 0.
unfoldable pub trace_of : List ℕ → Result AcceptedTrace (ℕ × Why)
trace_of bytes =
    if nat_lt most_bytes (length bytes)
    then Err (0, whys.Long)
    else after_lines opening_reading (raw_lines bytes)

-- ---- what holds of a reading at all times
-- Before the first line the limit is the highest. There are no entries while grants may come. Run
-- lines come after `begin` alone, where the pool has room for the table; they are a trace's, and
-- no more than the lines that were read.
pub record IsReading (r : Reading) : Type 0 where
  pub highest : is_first r.stage ≡ true → r.config.limit ≡ greatest_trace_order
  pub empty : may_have_entries r.stage ≡ false → r.config.entries ≡ []
  pub room : is_running r.stage ≡ true → r.config.order ≤ r.config.granted.pool_order
  pub none : is_running r.stage ≡ false → r.lines ≡ []
  pub trace : IsTrace r.config.cpus r.lines
  pub counted : length r.lines ≤ r.taken
  pub few : r.taken ≤ most_lines
