-- When a pass has seen a cached translation: as one of its list, or as the opening state of its
-- entry.
use Rattle.std.specs.Prelude.{◌⊎◌, List, Contains}
use Rattle.entry_model.specs.State.{State}
use Rattle.entry_model.specs.declared.line.Line.{Line}
use Rattle.entry_model.specs.CachedLines.{Holds}
use Rattle.entry_model.specs.Run.{state_at}
use Rattle.lock_core.specs.declared.sighting.Sighting.{Sighting}
use Rattle.lock_core.specs.Laws.{sighting_by}

-- The cached translation is one of the list, or holds of its entry's opening state.
abbrev pub IsSeen : List Sighting → List State → Line → Type 0
IsSeen lines opening cached =
    Contains lines (sighting_by cached) ⊎ Holds cached (state_at opening cached.entry)
