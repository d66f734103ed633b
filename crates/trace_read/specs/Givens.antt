-- What an accepted line gives, and what is reported of a refused one.
use Rattle.std.specs.Prelude.{ℕ, Bool, true, false, List, Option, Some, None, Result, Ok, Err, if◌then◌else◌}
use Rattle.frame_grants.specs.declared.grant.Grant.{Grant}
use Rattle.trace_read.specs.declared.forms.Form.{Form}
use Rattle.trace_read.specs.declared.forms.Form.TheVariants as forms
use Rattle.trace_read.specs.declared.given.Given.{Given}
use Rattle.trace_read.specs.declared.given.Given.TheVariants as givens
use Rattle.trace_read.specs.declared.given.LineRefused.{LineRefused}
use Rattle.trace_read.specs.declared.given.LineRefused.TheVariants as refusals
use Rattle.trace_read.specs.declared.stop.Stop.{Stop}
use Rattle.trace_read.specs.declared.stop.Stop.TheVariants as stops
use Rattle.trace_read.specs.declared.why.Why.{Why}
use Rattle.trace_read.specs.declared.why.Why.TheVariants as whys
use Rattle.trace_read.specs.Configuration.{Configuration}
use Rattle.trace_read.specs.Forms.{form_of}
use Rattle.trace_read.specs.Settings.{grant_named}
use Rattle.trace_read.specs.TextLines.{is_remark}

-- ---- lines of the configuration
-- The line is of the configuration, and no run line.
abbrev pub is_setting_form : Form → Bool
is_setting_form (forms.Run verb) = false
is_setting_form forms.Dump = false
is_setting_form other = true

-- The line has a form, and it is of the configuration.
abbrev pub is_setting_if : Result Form Why → Bool
is_setting_if (Ok form) = is_setting_form form
is_setting_if (Err why) = false

-- The words are of a configuration line's form. A word of no form is none.
abbrev pub is_setting : List (List ℕ) → Bool
is_setting ws = is_setting_if (form_of ws)

-- ---- accepted lines
-- The grant, where there is one.
abbrev pub given_grant : Result Grant Why → Given
given_grant (Ok grant) = givens.Grant grant
given_grant (Err why) = givens.Setting

-- What a line of this form gives. `begin` gives the order of the opening table.
abbrev pub given_by : Form → Configuration → List (List ℕ) → Given
given_by (forms.Grant kind) c ws = given_grant (grant_named kind ws)
given_by forms.Begin c ws = givens.Begin c.order
given_by (forms.Run verb) c ws = givens.Run
given_by forms.Dump c ws = givens.Run
given_by other c ws = givens.Setting

-- What a line gives, if it has a form; a line without one gives nothing.
abbrev pub given_if : Result Form Why → Configuration → List (List ℕ) → Given
given_if (Ok form) c ws = given_by form c ws
given_if (Err why) c ws = givens.Remark

-- What a line with these words gives, after lines that have given this configuration.
abbrev pub given_of : Configuration → List (List ℕ) → Given
given_of c ws = if is_remark ws then givens.Remark else given_if (form_of ws) c ws

-- ---- refused lines
-- What was read, if anything was.
abbrev pub read_grant : Result Grant Why → Option Grant
read_grant (Ok grant) = Some grant
read_grant (Err why) = None

-- The grant that a line of this form names.
abbrev pub form_grant : Result Form Why → List (List ℕ) → Option Grant
form_grant (Ok (forms.Grant kind)) ws = read_grant (grant_named kind ws)
form_grant other ws = None

-- The grant that a line names, if it names one.
abbrev pub line_grant : List (List ℕ) → Option Grant
line_grant ws = form_grant (form_of ws) ws

-- The grant that a refusal names: the one that meets the pool of page tables, and no other.
abbrev pub refused_grant : Why → List (List ℕ) → Option Grant
refused_grant whys.Tables ws = line_grant ws
refused_grant other ws = None

-- What a line with these words gives if it stops for this: a refusal, or want of memory.
abbrev pub refused_by : Stop → List (List ℕ) → LineRefused
refused_by stops.Memory ws = refusals.Memory
refused_by (stops.Refused why) ws = refusals.Refused why (refused_grant why ws)
