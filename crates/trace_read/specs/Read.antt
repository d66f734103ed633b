-- What the functions that read a trace give: what the grammar says, or want of memory.
use Rattle.std.specs.Prelude.{◌≡◌, ℕ, true, false, List, Result, Ok, Err}
use Rattle.trace_read.specs.declared.given.Given.{Given}
use Rattle.trace_read.specs.declared.given.LineRefused.{LineRefused}
use Rattle.trace_read.specs.declared.given.LineRefused.TheVariants as refusals
use Rattle.trace_read.specs.declared.parser.TraceError.{TraceError}
use Rattle.trace_read.specs.declared.parser.TraceError.TheVariants as errors
use Rattle.trace_read.specs.declared.stop.Stop.{Stop}
use Rattle.trace_read.specs.declared.stop.Stop.TheVariants as stops
use Rattle.trace_read.specs.declared.why.Why.{Why}
use Rattle.trace_read.specs.declared.why.Why.TheVariants as whys
use Rattle.trace_read.specs.Givens.{given_of, refused_grant}
use Rattle.trace_read.specs.Grammar.{Reading}
use Rattle.trace_read.specs.Places.{is_running}
use Rattle.trace_read.specs.Trace.{AcceptedTrace}

-- What there is after a line is as the line says, and so is what is handed back. A line that is
-- refused, or for which there is no memory, leaves all as it was.
abbrev pub ReadsTo : {A G : Type 0} → Result A Why → G → Result G Stop → A → A → Type 0
ReadsTo said given (Ok x) old new = (said ≡ Ok new) × (x ≡ given)
ReadsTo said given (Err stops.Memory) old new = new ≡ old
ReadsTo said given (Err (stops.Refused why)) old new = (said ≡ Err why) × (new ≡ old)

-- A line with these words is taken as it says, and gives what it should; or it is refused as it
-- says, with the grant that goes with the reason; or there is no memory. In the last two cases the
-- reading stays.
abbrev pub Reads :
    Result Reading Why
    → List (List ℕ)
    → Result Given LineRefused
    → Reading
    → Reading
    → Type 0
Reads said ws (Ok x) old new = (said ≡ Ok new) × (x ≡ given_of old.config ws)
Reads said ws (Err refusals.Memory) old new = new ≡ old
Reads said ws (Err (refusals.Refused why grant)) old new =
    (said ≡ Err why) × (grant ≡ refused_grant why ws) × (new ≡ old)

-- A refusal is given with the number of its line.
abbrev pub error_of : ℕ → LineRefused → TraceError
error_of line (refusals.Refused why grant) = errors.Line line why
error_of line refusals.Memory = errors.Memory

-- The end of the lines gives their trace, or `begin` has not come.
abbrev pub Ends : Reading → Result AcceptedTrace Why → Type 0
Ends r (Ok t) = (is_running r.stage ≡ true) × (t ≡ record { config = r.config; lines = r.lines })
Ends r (Err why) = (is_running r.stage ≡ false) × (why ≡ whys.Begin)

-- What was parsed is what the input gives, or the refusal, unless memory ran out.
abbrev pub IsParsed : {A : Type 0} → Result A TraceError → Result A (ℕ × Why) → Type 0
IsParsed (Ok x) said = said ≡ Ok x
IsParsed (Err errors.Memory) said = Unit {0}
IsParsed (Err (errors.Line line why)) said = said ≡ Err (line, why)
