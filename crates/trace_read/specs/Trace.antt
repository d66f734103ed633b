-- Accepted traces: the configuration and run lines, and the limits that each trace keeps.
use Rattle.std.specs.Prelude.{List}
use Rattle.frame_grants.specs.Grants.{IsSound}
use Rattle.trace_line.specs.declared.line.TraceLine.{TraceLine}
use Rattle.trace_line.specs.Lines.{IsTrace}
use Rattle.trace_read.specs.Configuration.{Configuration, IsConfigured, AreOpeningEntries, AreWindows}

-- A trace as its reader sees it: the configuration, and the run lines.
pub record AcceptedTrace : Type 0 where
  pub config : Configuration
  pub lines : List TraceLine

-- What each accepted trace has: the configuration lines were accepted, no grant meets the pool or
-- another grant, the entries may lie in the opening table, the windows differ in their numbers, and
-- the run lines keep the limits.
pub record IsAccepted (t : AcceptedTrace) : Type 0 where
  pub configured :
      IsConfigured
      t.config.order t.config.limit t.config.cpus
      t.config.granted.pool_base t.config.granted.pool_order t.config.granted
  pub sound : IsSound t.config.granted
  pub entries : AreOpeningEntries t.config.order t.config.granted.grants t.config.entries
  pub windows : AreWindows t.config.windows
  pub lines : IsTrace t.config.cpus t.lines
