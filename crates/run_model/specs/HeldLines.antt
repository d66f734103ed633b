-- When the translations that processors have cached hold of their entries' states.
use Rattle.std.specs.Prelude.{List}
use Rattle.std.specs.List.{AllByRecursion}
use Rattle.entry_model.specs.State.{State}
use Rattle.entry_model.specs.declared.line.Line.{Line}
use Rattle.entry_model.specs.CachedLines.{Holds}
use Rattle.entry_model.specs.Run.{state_at}
use Rattle.tlb_model.specs.Cache.{AllCached}
use Rattle.tlb_model.specs.Processor.{Processor}

-- The cached translation holds of its entry's state.
abbrev pub Holding : List State → Line → Type 0
Holding states line = Holds line (state_at states line.entry)

-- Each line that a processor has cached holds of its entry's state.
abbrev pub AllHold : List State → List Processor → Type 0
AllHold states processors =
    AllByRecursion (λ (p : Processor). AllCached (Holding states) p.cache) processors
