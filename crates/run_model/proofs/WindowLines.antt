-- Lines on a window use nothing of a processor, and change none.
use Rattle.std.specs.Prelude.{replicate, slice_set, slice_index_or}
use Rattle.std.proofs.Common.{◌≡◌, ℕ, zero, suc, List, [], ◌∷◌, true, ap, ◌∙◌, refl, length, map, Some}
use Rattle.std.specs.List.{AllByRecursion}
use Rattle.std.proofs.lemmas.List.{length-replicate}
use Rattle.bus_window.specs.Windows.{BusWindow}
use Rattle.frame_grants.specs.declared.grant.Grant.{Grant}
use Rattle.entry_model.specs.State.{State}
use Rattle.tlb_model.specs.Processor.{Processor, new_processor}
use Rattle.trace_line.specs.Lines.{bus_of}
use Rattle.trace_line.specs.declared.act.Act.{Act}
use Rattle.trace_line.specs.declared.line.TraceLine.{TraceLine}
use Rattle.trace_read.specs.Configuration.{Configuration}
use Rattle.trace_reply.specs.declared.reply.Reply.{Reply}
use Rattle.trace_reply.specs.Replies.{RepliedLine}
use Rattle.run_model.specs.AllStores.{opened, as_store, all_stores, opening_all}
use Rattle.run_model.specs.Histories.{lines_of_processor}
use Rattle.run_model.specs.Processors.{processor_at, processor_after, processors_after}
use Rattle.run_model.specs.Sections.{section_end_on, processor_after_lines, processors_after_lines}
use Rattle.run_model.specs.SerialRun.{line_result, with_result, run_on}
use Rattle.run_model.specs.StoreContexts.{window_context}
use Rattle.run_model.specs.Stores.{page_table, opening_window, opening_store, opening_stores, window_store, is_on_window, lines_on}
use Rattle.basics.proofs.Each.{each_at, each_filter, each_passes, each_replicate}
use Rattle.run_model.proofs.LowStampRuns.{opening_grants}
use Rattle.run_model.proofs.StoreLines.{on_window_bus, on_window_plain}
use Rattle.trace_line.specs.declared.act.Act.TheVariants as acts

processor_stays :
    (p : Processor) (act : Act) (r : Reply) (n : ℕ)
    → bus_of act ≡ Some n
    → processor_after p act r ≡ p
unfolding bus_of
processor_stays p (acts.Call number args spelt) r n e = refl
processor_stays p (acts.Device write liobn ioba) r n e = refl
processor_stays p (acts.Access want ea user) r n e = cc
processor_stays p (acts.SlbMte rb rs) r n e = cc
processor_stays p acts.SlbClear r n e = cc
processor_stays p (acts.SetMask name value) r n e = cc
processor_stays p acts.Dump r n e = cc

set_same :
    (ps : List Processor) (i : ℕ) (d : Processor) → slice_set ps i (slice_index_or ps i d) ≡ ps
set_same [] i d = refl
set_same (p ∷ ps) zero d = refl
set_same (p ∷ ps) (suc i) d = ap (λ qs. p ∷ qs) (set_same ps i d)

processors_stay :
    (ps : List Processor) (t : RepliedLine) (n : ℕ)
    → bus_of t.line.act ≡ Some n
    → processors_after ps t ≡ ps
processors_stay ps t n e =
    ap (slice_set ps t.line.cpu)
    (processor_stays (processor_at ps t.line.cpu) t.line.act t.reply n e)
    ∙ set_same ps t.line.cpu new_processor

new_at : (n cpu : ℕ) → processor_at (replicate n new_processor) cpu ≡ new_processor
new_at n cpu =
    each_at (λ (p : Processor). p ≡ new_processor) (replicate n new_processor) cpu new_processor
    refl (each_replicate (λ (p : Processor). p ≡ new_processor) n new_processor refl)

-- The reply to a line on a window, and the window after it.
pub window_line :
    (grants : List Grant) (n : ℕ) (a : List State) (w : BusWindow) (l : TraceLine)
    → is_on_window w l.act ≡ true
    → run_on (window_store grants n a w) l
    ≡ (
      (line_result (window_context grants w) new_processor a l.act).0,
      window_store grants n (line_result (window_context grants w) new_processor a l.act).1 w,
    )
unfolding run_on
window_line grants n a w l on =
    let set = window_context grants w in
    let ps = replicate n new_processor in
    let x = line_result set new_processor a l.act in
    let t : RepliedLine = record { line = l; reply = x.0 } in
    rw (on_window_plain w l.act on)
    (ap (λ p. with_result (window_store grants n a w) l (line_result set p a l.act))
    (new_at n l.cpu)
    ∙ ap (λ qs. (x.0, record (window_store grants n x.1 w) { processors = qs }))
    (processors_stay ps t w.liobn (on_window_bus w l.act on)))

-- ---- a section of a window
abbrev OnWindow : BusWindow → List RepliedLine → Type 0
OnWindow w ts = AllByRecursion (λ (t : RepliedLine). is_on_window w t.line.act ≡ true) ts

one_stays :
    (w : BusWindow) (p : Processor) (ts : List RepliedLine)
    → OnWindow w ts
    → processor_after_lines p ts ≡ p
one_stays w p [] h = refl
one_stays w p (t ∷ ts) h =
    ap (λ q. processor_after_lines q ts)
    (processor_stays p t.line.act t.reply w.liobn (on_window_bus w t.line.act h.0))
    ∙ one_stays w p ts h.1

all_stay :
    (w : BusWindow) (cpu : ℕ) (ps : List Processor) (ts : List RepliedLine)
    → OnWindow w ts
    → processors_after_lines cpu ps ts ≡ ps
all_stay w cpu [] ts h = refl
all_stay w cpu (p ∷ ps) ts h =
    let first : processor_after_lines p (lines_of_processor cpu ts) ≡ p = one_stays w p
    (lines_of_processor cpu ts)
    (each_filter (λ (t : RepliedLine). is_on_window w t.line.act ≡ true) _ ts h) in
    let rest : processors_after_lines (suc cpu) ps ts ≡ ps = all_stay w (suc cpu) ps ts h in
    λ i. first i ∷ rest i

-- The window after a section that closes on these states.
pub window_closes_on :
    (grants : List Grant) (n : ℕ) (w : BusWindow) (a b : List State) (ts : List RepliedLine)
    → section_end_on (window_store grants n a w) (lines_on (is_on_window w) ts) b
    ≡ window_store grants n b w
window_closes_on grants n w a b ts =
    ap (λ ps. record (window_store grants n b w) { processors = ps })
    (all_stay w 0 (replicate n new_processor) (lines_on (is_on_window w) ts)
    (each_passes (λ (t : RepliedLine). is_on_window w t.line.act) ts))

-- ---- the opening stores

opening_count : (c : Configuration) → length (page_table c).processors ≡ c.cpus
unfolding page_table
opening_count c = length-replicate c.cpus new_processor

pub opened_all : (c : Configuration) → all_stores (opening_all c) ≡ opening_stores c
opened_all c = ap (λ ss. page_table c ∷ ss) (each c.windows) where
  each :
      (ws : List BusWindow)
      → map (as_store (page_table c)) (map opened ws) ≡ map (opening_store c) ws
  each [] = refl
  each (w ∷ ws) =
      λ i. window_store (opening_grants c i) (opening_count c i) opening_window w ∷ each ws i
