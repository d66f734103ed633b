-- The sections of a store: the quiet lines cut a run, and each section opens on what the one before
-- it left.
use Rattle.std.specs.Prelude.{ℕ, suc, Bool, List, [], ◌∷◌, length, Option, Some, None, if◌then◌else◌}
use Rattle.bus_window.specs.Windows.{BusWindow}
use Rattle.entry_model.specs.State.{State}
use Rattle.entry_model.specs.declared.receipt.Receipt.{Receipt}
use Rattle.hpt_resize.specs.TableMemory.{with_states}
use Rattle.tlb_model.specs.Processor.{Processor}
use Rattle.trace_line.specs.declared.act.Act.{Act}
use Rattle.trace_read.specs.Trace.{AcceptedTrace}
use Rattle.trace_reply.specs.declared.reply.Reply.{Reply}
use Rattle.trace_reply.specs.Replies.{RepliedLine, lines_with_replies}
use Rattle.run_model.specs.Histories.{lines_of_processor, receipts_from_processor, closing_states, AreLegalBetween}
use Rattle.run_model.specs.Processors.{processor_after}
use Rattle.run_model.specs.Quiet.{QuietPart, cut}
use Rattle.run_model.specs.QuietLines.{run_quiet_line}
use Rattle.run_model.specs.Stores.{Store, states_of, page_table, opening_store, is_on, lines_on}

-- ---- the processors at the end of a section
-- One processor after its lines.
abbrev pub processor_after_lines : Processor → List RepliedLine → Processor
processor_after_lines p [] = p
processor_after_lines p (t ∷ ts) =
    processor_after_lines (processor_after p t.line.act t.reply) ts

-- All processors from one on.
abbrev pub processors_after_lines :
    ℕ → List Processor → List RepliedLine → List Processor
processors_after_lines cpu [] ts = []
processors_after_lines cpu (p ∷ ps) ts =
    processor_after_lines p (lines_of_processor cpu ts) ∷ processors_after_lines (suc cpu) ps ts

-- ---- a section
-- The store before it, its lines there, and the quiet line that ends it, if that is one on this
-- store.
pub record Section : Type 0 where
  pub before : Store
  pub replied_lines : List RepliedLine
  pub quiet : Option RepliedLine

-- The receipts of all processors, one processor after the other.
abbrev pub made_in : Section → List Receipt
made_in s = receipts_from_processor (length s.before.processors) 0 s.replied_lines

-- ---- how it closes
-- The store after these lines, where it closes on these states: each processor is as after its own
-- lines.
abbrev pub section_end_on : Store → List RepliedLine → List State → Store
section_end_on s ts states = record s {
  memory = with_states s.memory states;
  processors = processors_after_lines 0 s.processors ts;
}

-- The states that their receipts close on.
abbrev pub states_behind : Store → List RepliedLine → List State
states_behind s ts =
    closing_states (states_of s) (receipts_from_processor (length s.processors) 0 ts)

-- The store after these lines, where it closes on those states.
unfoldable pub section_end : Store → List RepliedLine → Store
section_end s ts = section_end_on s ts (states_behind s ts)

-- The store after a section.
abbrev pub closing : Section → Store
closing s = section_end s.before s.replied_lines

-- The store after a section that closes on these states.
abbrev pub closing_on : Section → List State → Store
closing_on s states = section_end_on s.before s.replied_lines states

-- The section's receipts are legal histories, from the states that it opens on to these.
abbrev pub AreLegalTo : Section → List State → Type 0
AreLegalTo s states = AreLegalBetween (states_of s.before) states (made_in s)

-- A quiet line acts on its store, and leaves the others.
abbrev pub after_quiet : Store → Option RepliedLine → Store
after_quiet s None = s
after_quiet s (Some q) = (run_quiet_line s q.line.act).1

-- ---- those of a run
-- The quiet line, where it is on the store.
abbrev pub quiet_on : (Act → Bool) → RepliedLine → Option RepliedLine
quiet_on on q = if on q.line.act then Some q else None

-- The section of a store that has those of these lines that are on it, and this quiet line.
abbrev pub section_of : (Act → Bool) → Store → List RepliedLine → Option RepliedLine → Section
section_of on s ts quiet = record { before = s; replied_lines = lines_on on ts; quiet = quiet }

-- The sections from here on, of these lines and these quiet parts.
abbrev pub sections_from : (Act → Bool) → Store → List RepliedLine → List QuietPart → List Section
sections_from on s ts [] = section_of on s ts None ∷ []
sections_from on s ts (q ∷ qs) =
    let x = section_of on s ts (quiet_on on q.0) in
    x ∷ sections_from on (after_quiet (closing x) x.quiet) q.1 qs

-- The sections of a store in a run with these replies.
abbrev pub sections_on : AcceptedTrace → List Reply → Store → List Section
sections_on t rs s =
    let c = cut (lines_with_replies t.lines rs) in
    sections_from (is_on t.config.windows s.window) s c.0 c.1

-- The sections of the page table in a run with these replies.
abbrev pub sections_of : AcceptedTrace → List Reply → List Section
sections_of t rs = sections_on t rs (page_table t.config)

-- The sections of a window in a run with these replies.
abbrev pub window_sections : AcceptedTrace → List Reply → BusWindow → List Section
window_sections t rs w = sections_on t rs (opening_store t.config w)
