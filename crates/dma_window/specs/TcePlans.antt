-- Which plan each value of the code's type `TcePlan` means, and which of them fit a window.
use Rattle.std.specs.Prelude.{ℕ, ◌<◌, ◌^◌}
use Rattle.entry_model.specs.Receipt.{IsNormal}
use Rattle.entry_model.specs.Trial.{Plan, plan_of_code}
use Rattle.dma_window.specs.Calls.{clear_plan, replace_plan, get_plan_at}
use Rattle.dma_window.specs.declared.tce_plan.TcePlan.{TcePlan}
use Rattle.dma_window.specs.declared.tce_plan.TcePlan.TheVariants.{Code, Reads, Empties, Replaces}

-- The plan that a call is.
abbrev pub plan_of : TcePlan → Plan
plan_of (Code rc) = plan_of_code rc
plan_of (Reads entry) = get_plan_at entry
plan_of (Empties entry) = clear_plan entry
plan_of (Replaces entry op) = replace_plan entry op

-- The largest window has this entry.
abbrev pub IsEntry : ℕ → Type 0
IsEntry entry = entry < 2 ^ 14

-- The call is one on a window, and what it enters are stored words.
abbrev pub FitsWindow : TcePlan → Type 0
FitsWindow (Code rc) = Unit {0}
FitsWindow (Reads entry) = IsEntry entry
FitsWindow (Empties entry) = IsEntry entry
FitsWindow (Replaces entry op) = IsEntry entry × IsNormal op
