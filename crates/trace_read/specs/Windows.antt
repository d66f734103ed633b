-- What `window` lines give: DMA windows with distinct numbers, at most four.
use Rattle.std.specs.Prelude.{ℕ, ◌==◌, Bool, not, List, [], ◌∷◌, ◌++◌, length, nat_lt, Result, Ok}
use Rattle.std.specs.List.{list_any}
use Rattle.bus_window.specs.Windows.{BusWindow, window_of_parts}
use Rattle.trace_read.specs.declared.why.Why.{Why}
use Rattle.trace_read.specs.declared.why.Why.TheVariants.{Count, Window}
use Rattle.trace_read.specs.Acts.{number_at}
use Rattle.trace_read.specs.Configuration.{Configuration}
use Rattle.trace_read.specs.Whys.{◌>>=◌, guard, required}

-- One of these windows has this number.
abbrev pub has_number : List BusWindow → ℕ → Bool
has_number windows liobn = list_any (λ (w : BusWindow). w.liobn == liobn) windows

-- The window that a line names: its second word is the number, the third the base, and the last
-- says how many pages it has.
unfoldable pub window_named : Configuration → List (List ℕ) → Result BusWindow Why
window_named c ws = do
  counted ← guard (length ws == 4) Count
  liobn ← number_at ws 1
  base ← number_at ws 2
  pages ← number_at ws 3
  window ← required (window_of_parts liobn base pages) Window
  fresh ← guard (not (has_number c.windows window.liobn)) Window
  room ← guard (nat_lt (length c.windows) 4) Window
  Ok window

-- `window`: one more window.
unfoldable pub with_window : Configuration → List (List ℕ) → Result Configuration Why
with_window c ws = do
  window ← window_named c ws
  Ok (record c { windows = c.windows ++ window ∷ [] })
