use Rattle.std.proofs.Common.{◌≡◌, map, take}
use Rattle.run_model.specs.AllStores.{opened}
use Rattle.run_model.proofs.windows.open_windows.Given as goal

-- Those so far are opened.
abbrev pub invariant-loop-window : goal.invariant-loop-window
invariant-loop-window l = l.all.items ≡ map opened (take l.window-index l.windows)
