-- The histories of a section's receipts, and the states that they close on. Also what a processor
-- learns of an entry in its own order.
use Rattle.std.specs.Prelude.{ℕ, zero, suc, ◌≤◌, ◌<◌, ◌==◌, ◌++◌, List, [], ◌∷◌, Option, Some, None, filter, length, map, max, MatchBool, if◌then◌else◌}
use Rattle.std.specs.List.{AllByRecursion}
use Rattle.entry_model.specs.State.{State}
use Rattle.entry_model.specs.declared.line.Line.{Line}
use Rattle.entry_model.specs.declared.receipt.Receipt.{Receipt}
use Rattle.entry_model.specs.Receipt.{after_of}
use Rattle.entry_model.specs.History.{IsLegal, history, last_after, pair_of}
use Rattle.entry_model.specs.Run.{state_at}
use Rattle.tlb_model.specs.Processor.{Processor}
use Rattle.trace_reply.specs.Replies.{RepliedLine, receipts_in}
use Rattle.run_model.specs.Processors.{processor_after, gone_line_of}
use Rattle.entry_model.specs.Fronts.{pair_beyond}

-- ---- receipts by processor
-- The lines of one processor, in file order.
abbrev pub lines_of_processor : ℕ → List RepliedLine → List RepliedLine
lines_of_processor cpu ts = filter (λ (t : RepliedLine). t.line.cpu == cpu) ts

-- The receipts of these lines, one line after the other.
abbrev pub receipts_by : List RepliedLine → List Receipt
receipts_by [] = []
receipts_by (t ∷ ts) = receipts_in t.reply ++ receipts_by ts

-- The receipts of so many processors from one on: one processor after the other, each in the order
-- of its lines.
abbrev pub receipts_from_processor : ℕ → ℕ → List RepliedLine → List Receipt
receipts_from_processor zero cpu ts = []
receipts_from_processor (suc n) cpu ts =
    receipts_by (lines_of_processor cpu ts) ++ receipts_from_processor n (suc cpu) ts

-- Each receipt is of an entry of the old states, and each entry's history is legal, from its old
-- state to its new one.
pub record AreLegalBetween (old new : List State) (rs : List Receipt) : Type 0 where
  pub in_table : AllByRecursion (λ (r : Receipt). r.entry < length old) rs
  pub legal :
      (e : ℕ) → e < length old → IsLegal (state_at old e) (history e rs) (state_at new e)

-- ---- closing states
-- Each entry's last state after in its history; with no receipt the state that it opens on.
abbrev pub closing_from : ℕ → List State → List Receipt → List State
closing_from entry [] rs = []
closing_from entry (s ∷ ss) rs =
    last_after s (history entry rs) ∷ closing_from (suc entry) ss rs

-- The closing states of a table with these opening states.
unfoldable pub closing_states : List State → List Receipt → List State
closing_states states rs = closing_from 0 states rs

-- ---- fronts
-- What a processor learns of an entry: a receipt of its own, or that a cached translation is gone.
pub data Event : Type 0 where
  made : Receipt → Event
  gone : Line → Event

-- The front after a line of this entry, or of another, was gone.
abbrev pub front_after_gone : ℕ → ℕ → Line → ℕ
front_after_gone entry front line =
    if line.entry == entry then max front (pair_beyond line) else front

-- No receipt of the entry comes before the front, and each sets the front to the pair of its state
-- after. A line of the entry that was gone raises it.
abbrev pub InOrder : ℕ → ℕ → List Event → Type 0
InOrder entry front [] = Unit {0}
InOrder entry front (made r ∷ events) =
    MatchBool
    (r.entry == entry)
    ((front ≤ pair_of r.before) × InOrder entry (pair_of (after_of r)) events)
    (InOrder entry front events)
InOrder entry front (gone line ∷ events) =
    InOrder entry (front_after_gone entry front line) events

-- One event, if a line was gone.
abbrev pub gone_events : Option Line → List Event
gone_events None = []
gone_events (Some line) = gone line ∷ []

-- The events of a line: the cached translation that was gone, then its receipts.
abbrev pub events_in : Processor → RepliedLine → List Event
events_in p t =
    gone_events (gone_line_of p t.line.act t.reply)
    ++ map (λ (r : Receipt). made r) (receipts_in t.reply)

-- The events of one processor's lines; the processor is as given before the first.
abbrev pub events_by : Processor → List RepliedLine → List Event
events_by p [] = []
events_by p (t ∷ ts) = events_in p t ++ events_by (processor_after p t.line.act t.reply) ts
