-- The stores of a run: the page table is the first, and each DMA window is one more.
use Rattle.std.specs.Prelude.{ℕ, ◌==◌, Bool, false, not, List, ◌∷◌, filter, map, replicate, Option, Some, None}
use Rattle.std.specs.List.{list_any}
use Rattle.std.specs.Option.{option_map_or}
use Rattle.bus_window.specs.Windows.{BusWindow}
use Rattle.frame_grants.specs.declared.grant.Grant.{Grant}
use Rattle.hpte_fields.specs.TableSize.{entry_count, least_order}
use Rattle.entry_model.specs.State.{State, empty_state}
use Rattle.hpt_pool.specs.Pool.{no_blocks}
use Rattle.hpt_resize.specs.TableMemory.{TableMemory, opening_memory}
use Rattle.tlb_model.specs.Processor.{Processor, new_processor}
use Rattle.trace_line.specs.Lines.{bus_of}
use Rattle.trace_line.specs.declared.act.Act.{Act}
use Rattle.trace_line.specs.declared.line.TraceLine.{TraceLine}
use Rattle.trace_read.specs.Configuration.{Configuration}
use Rattle.trace_reply.specs.Replies.{RepliedLine}
use Rattle.run_model.specs.StoreContexts.{StoreContext, window_context}

-- ---- a store
-- The granted memory, the window whose entries these are, the tables and their pool, and the
-- processors. The entries of the page table are no window's. A window's are the one table that it
-- has.
pub record Store : Type 0 where
  pub grants : List Grant
  pub window : Option BusWindow
  pub memory : TableMemory
  pub processors : List Processor

-- What the lines on a store between two quiet lines have in common.
abbrev pub context_of : Store → StoreContext
context_of s = record { order = s.memory.table.order; grants = s.grants; window = s.window }

-- The states of its entries.
abbrev pub states_of : Store → List State
states_of s = s.memory.table.states

-- ---- those of a run
-- At first the configured entries are valid, all others are empty, and no processor has a segment
-- or a cached translation.
unfoldable pub page_table : Configuration → Store
page_table c = record {
  grants = c.granted.grants;
  window = None;
  memory =
      opening_memory
      c.limit
      c.order
      c.granted.pool_base
      c.granted.pool_order
      c.entries;
  processors = replicate c.cpus new_processor;
}

-- At first each entry of a window is empty.
unfoldable pub opening_window : List State
opening_window = replicate (entry_count least_order) (empty_state 0)

-- A table of 2 ^ order bytes that is never resized.
abbrev pub plain_memory : ℕ → List State → TableMemory
plain_memory order states = record {
  limit = 0;
  pool = no_blocks 0 0;
  pending = None;
  table = record { order = order; place = 0; number = 0; states = states };
}

-- A store with such a table, whose lines have this in common.
abbrev pub plain_store : StoreContext → List State → List Processor → Store
plain_store context states processors = record {
  grants = context.grants;
  window = context.window;
  memory = plain_memory context.order states;
  processors = processors;
}

-- A window with these states, where this memory is granted and there are so many processors. It has
-- 2 ^ 18 bytes, and so as many entries as the largest window has pages. Its lines use nothing that
-- a processor keeps, so these stay new ones.
abbrev pub window_store : List Grant → ℕ → List State → BusWindow → Store
window_store grants cpus states w =
    plain_store (window_context grants w) states (replicate cpus new_processor)

-- A window of a configuration before the first line.
abbrev pub opening_store : Configuration → BusWindow → Store
opening_store c w = window_store c.granted.grants c.cpus opening_window w

-- The page table, and each window with all entries empty.
abbrev pub opening_stores : Configuration → List Store
opening_stores c = page_table c ∷ map (opening_store c) c.windows

-- ---- which lines are on which store
-- The line names the window.
abbrev pub is_on_window : BusWindow → Act → Bool
is_on_window w act = option_map_or (λ number. w.liobn == number) (bus_of act) false

-- A line names its store by its act alone: a window by its number, and the page table where it
-- names none of the windows.
abbrev pub is_on : List BusWindow → Option BusWindow → Act → Bool
is_on ws None act = not (list_any (λ (w : BusWindow). is_on_window w act) ws)
is_on ws (Some w) act = is_on_window w act

-- Of these lines those on a store, in file order.
abbrev pub lines_on : (Act → Bool) → List RepliedLine → List RepliedLine
lines_on on ts = filter (λ (t : RepliedLine). on t.line.act) ts

-- Of these lines, without replies, those on a store, in file order.
abbrev pub trace_lines_on : (Act → Bool) → List TraceLine → List TraceLine
trace_lines_on on ls = filter (λ (l : TraceLine). on l.act) ls
