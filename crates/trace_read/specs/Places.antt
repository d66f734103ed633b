-- Which forms of line may come next, by the lines that came before.
use Rattle.std.specs.Prelude.{Bool, true, false, not}
use Rattle.trace_read.specs.declared.forms.Form.{Form}
use Rattle.trace_read.specs.declared.forms.Form.TheVariants as forms
use Rattle.trace_read.specs.declared.stage.Stage.{Stage}
use Rattle.trace_read.specs.declared.stage.Stage.TheVariants as stages

-- Nothing has come before.
abbrev pub is_first : Stage → Bool
is_first stages.Order = true
is_first other = false

-- The configuration has ended.
abbrev pub is_running : Stage → Bool
is_running stages.Lines = true
is_running other = false

-- Entries of the opening table may have come, so no grant may come any more.
abbrev pub may_have_entries : Stage → Bool
may_have_entries stages.Entries = true
may_have_entries stages.Windows = true
may_have_entries stages.Lines = true
may_have_entries other = false

-- Windows may have come, so no entry may come any more.
abbrev pub may_have_windows : Stage → Bool
may_have_windows stages.Windows = true
may_have_windows stages.Lines = true
may_have_windows other = false

-- `order`, `limit`, `cpus` and `pool` come in this order, each at most once; grants after them,
-- then entries, then windows, and then `begin`; run lines and dumps after `begin`.
abbrev pub comes_at : Form → Stage → Bool
comes_at forms.Order stage = is_first stage
comes_at forms.Limit stages.Order = true
comes_at forms.Limit stages.Limit = true
comes_at forms.Limit other = false
comes_at forms.Cpus stages.Order = true
comes_at forms.Cpus stages.Limit = true
comes_at forms.Cpus stages.Cpus = true
comes_at forms.Cpus other = false
comes_at forms.Pool stages.Grants = false
comes_at forms.Pool stages.Entries = false
comes_at forms.Pool stages.Windows = false
comes_at forms.Pool stages.Lines = false
comes_at forms.Pool other = true
comes_at (forms.Grant kind) stage = not (may_have_entries stage)
comes_at forms.Entry stage = not (may_have_windows stage)
comes_at forms.Window stage = not (is_running stage)
comes_at forms.Begin stage = not (is_running stage)
comes_at (forms.Run verb) stage = is_running stage
comes_at forms.Dump stage = is_running stage
