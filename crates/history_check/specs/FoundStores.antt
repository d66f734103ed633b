-- The lines of a section on all stores of a run, and where a text begins with good replies to them.
use Rattle.std.specs.Prelude.{ℕ, ◌≤◌, List, map, length}
use Rattle.bus_window.specs.Windows.{BusWindow}
use Rattle.trace_line.specs.declared.act.Act.{Act}
use Rattle.trace_line.specs.declared.line.TraceLine.{TraceLine}
use Rattle.trace_reply.specs.declared.reply.Reply.{Reply}
use Rattle.trace_reply.specs.Replies.{RepliedLine}
use Rattle.run_model.specs.AllStores.{WindowState, AllStores, as_store, windows_in}
use Rattle.run_model.specs.QuietLines.{run_quiet_line}
use Rattle.run_model.specs.Sections.{section_end, states_behind}
use Rattle.run_model.specs.StoreNumbers.{store_at}
use Rattle.run_model.specs.Stores.{lines_on, is_on, is_on_window}
use Rattle.history_check.specs.FoundSection.{opening_of, IsGoodOn, AreFoundGood}

-- ---- the stores
-- The windows of a run.
abbrev pub windows_of : AllStores → List BusWindow
windows_of s = windows_in s.windows

-- Those of these lines that are on the store of this number.
abbrev pub lines_at : AllStores → ℕ → List RepliedLine → List RepliedLine
lines_at s number ts = lines_on (is_on (windows_of s) (store_at s number).window) ts

-- The section is good on each store.
abbrev pub AreGoodOn : AllStores → List RepliedLine → Type 0
AreGoodOn s ts =
    (number : ℕ)
    → number ≤ length s.windows
    → IsGoodOn (opening_of (store_at s number)) (lines_at s number ts)

-- What the run carries after the section: each store is as its lines leave it.
abbrev pub stores_behind : AllStores → List RepliedLine → AllStores
stores_behind s ts = record {
  table = section_end s.table (lines_at s 0 ts);
  windows =
      map
      (λ (v : WindowState).
      record v {
        states = states_behind (as_store s.table v) (lines_on (is_on_window v.window) ts);
      })
      s.windows;
}

-- The reply to a quiet line, and what the run carries after it: the windows stay as they are.
abbrev pub run_quiet_on : AllStores → Act → Reply × AllStores
run_quiet_on s act = let x = run_quiet_line s.table act in (x.0, record s { table = x.1 })

-- ---- a section and a text
-- With these replies the lines are found as a good section of a run that is so far.
abbrev pub AreFound : AllStores → List TraceLine → List ℕ → List Reply → List ℕ → Type 0
AreFound s = AreFoundGood (AreGoodOn s)
