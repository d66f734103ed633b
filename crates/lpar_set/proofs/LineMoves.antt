-- What a line does to the reading of its partition.
use Rattle.std.proofs.Common.{◌≡◌, ℕ, true, false, [], ◌∷◌, ◌++◌}
use Rattle.frame_grants.specs.declared.grant.Grant.{Grant}
use Rattle.frame_grants.specs.Grants.{with_grant}
use Rattle.trace_line.specs.declared.line.TraceLine.{TraceLine}
use Rattle.trace_read.specs.declared.given.Given.{Given}
use Rattle.trace_read.specs.declared.given.Given.TheVariants as givens
use Rattle.trace_read.specs.Grammar.{Reading}
use Rattle.trace_read.specs.Places.{is_running}

-- ---- what lines do
-- A setting leaves the grants. It comes before `begin`, as it leaves the partition.
pub record HasSet (old new : Reading) : Type 0 where
  pub granted : new.config.granted ≡ old.config.granted
  pub lines : new.lines ≡ old.lines
  pub before : is_running old.stage ≡ false
  pub after : is_running new.stage ≡ false

-- A grant is one more, before `begin`.
pub record HasGranted (grant : Grant) (old new : Reading) : Type 0 where
  pub granted : new.config.granted ≡ with_grant old.config.granted grant
  pub lines : new.lines ≡ old.lines
  pub before : is_running old.stage ≡ false
  pub after : is_running new.stage ≡ false

-- `begin` leaves all but that the partition runs from now on.
pub record HasOpened (opening : ℕ) (old new : Reading) : Type 0 where
  pub order : opening ≡ old.config.order
  pub config : new.config ≡ old.config
  pub lines : new.lines ≡ old.lines
  pub before : is_running old.stage ≡ false
  pub after : is_running new.stage ≡ true

-- A run line is one more line of a partition that runs, with its number.
pub record HasRun (old new : Reading) : Type 0 where
  pub config : new.config ≡ old.config
  pub line : TraceLine
  pub number : line.number ≡ old.taken
  pub lines : new.lines ≡ old.lines ++ line ∷ []
  pub before : is_running old.stage ≡ true
  pub after : is_running new.stage ≡ true

-- What a line makes of its partition's reading, by what it gives.
abbrev pub Moves : Given → Reading → Reading → Type 0
Moves givens.Remark old new = new ≡ old
Moves givens.Setting old new = HasSet old new
Moves (givens.Grant grant) old new = HasGranted grant old new
Moves (givens.Begin order) old new = HasOpened order old new
Moves givens.Run old new = HasRun old new

-- And no line of a set moves the pool, gives an entry or a window, or counts itself.
pub record HasMoved (given : Given) (old new : Reading) : Type 0 where
  pub taken : new.taken ≡ old.taken
  pub base : new.config.granted.pool_base ≡ old.config.granted.pool_base
  pub order : new.config.granted.pool_order ≡ old.config.granted.pool_order
  pub entries : new.config.entries ≡ old.config.entries
  pub windows : new.config.windows ≡ old.config.windows
  pub moves : Moves given old new
