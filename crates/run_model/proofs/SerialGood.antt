-- Kinds of replies, and the processors of lines.
use Rattle.std.specs.Prelude.{Bool}
use Rattle.std.proofs.Common.{◌≡◌, ℕ, ◌<◌, List, [], ◌∷◌, true, false, ◌⊎◌, inl, inr, length, Option, Some, None}
use Rattle.std.specs.List.{AllByRecursion}
use Rattle.std.proofs.lemmas.Bool.{cases_Bool}
use Rattle.std.proofs.lemmas.List.{length-replicate}
use Rattle.papr_codes.specs.declared.calls.Hcall.{Hcall}
use Rattle.papr_codes.specs.Hcalls.{hcall_of}
use Rattle.entry_model.specs.State.{State}
use Rattle.entry_model.specs.declared.line.Line.{Line}
use Rattle.tlb_model.specs.Cache.{cached_line}
use Rattle.slb_model.specs.declared.segment.Segment.{Segment}
use Rattle.slb_model.specs.Buffer.{segment_of}
use Rattle.hpt_walk.specs.Access.{AccessContext, request}
use Rattle.hpt_walk.specs.declared.request.Request.{Request}
use Rattle.tlb_model.specs.Processor.{Processor, new_processor}
use Rattle.trace_line.specs.declared.act.Act.{Act}
use Rattle.trace_line.specs.declared.line.TraceLine.{TraceLine}
use Rattle.trace_line.specs.Lines.{is_quiet}
use Rattle.trace_read.specs.Trace.{AcceptedTrace}
use Rattle.trace_reply.specs.declared.reply.Reply.{Reply}
use Rattle.trace_reply.specs.Replies.{RepliedLine, IsOfKind, lines_with_replies}
use Rattle.run_model.specs.Processors.{processor_at}
use Rattle.run_model.specs.Stores.{Store, context_of, states_of, page_table}
use Rattle.run_model.specs.QuietLines.{run_resize, run_quiet_line}
use Rattle.bus_window.specs.Windows.{BusWindow, entry_at}
use Rattle.frame_grants.specs.declared.grant.Grant.{Grant}
use Rattle.run_model.specs.StoreContexts.{StoreContext, access_of}
use Rattle.run_model.specs.SerialRun.{current_line, result_by_line, result_by_segment, device_by_entry, device_by_window, line_result, run_on}
use Rattle.run_model.specs.Quiet.{cut, cut_before}
use Rattle.run_model.proofs.LinesByProcessor.{Cpus}
use Rattle.run_model.proofs.SectionGood.{AllCpus}
use Rattle.papr_codes.specs.declared.calls.Hcall.TheVariants as calls
use Rattle.trace_line.specs.declared.act.Act.TheVariants as acts

-- ---- kinds
line_kind :
    (set : AccessContext) (states : List State) (seg : Segment) (a : Request) (c : Option Line)
    → IsOfKind (acts.Access a.want a.ea a.user) (result_by_line set states seg a c).0
line_kind set states seg a None = tt
line_kind set states seg a (Some line) = tt

segment_kind :
    (set : AccessContext) (processor : Processor) (states : List State) (a : Request)
    (s : Option Segment)
    → IsOfKind (acts.Access a.want a.ea a.user) (result_by_segment set processor states a s).0
segment_kind set processor states a None = tt
segment_kind set processor states a (Some seg) =
    line_kind set states seg a (current_line states (cached_line processor.cache seg.page))

entry_kind :
    (grants : List Grant) (write : Bool) (liobn ioba : ℕ) (states : List State) (entry : Option ℕ)
    → IsOfKind (acts.Device write liobn ioba) (device_by_entry grants ioba write states entry).0
entry_kind grants write liobn ioba states None = tt
entry_kind grants write liobn ioba states (Some entry) = tt

device_kind :
    (grants : List Grant) (window : Option BusWindow) (write : Bool) (liobn ioba : ℕ)
    (states : List State)
    → IsOfKind (acts.Device write liobn ioba) (device_by_window grants window ioba write states).0
device_kind grants None write liobn ioba states = tt
device_kind grants (Some w) write liobn ioba states =
    entry_kind grants write liobn ioba states (entry_at w ioba)

pub on_kind :
    (set : StoreContext) (processor : Processor) (states : List State) (act : Act)
    → is_quiet act ≡ false
    → IsOfKind act (line_result set processor states act).0
unfolding line_result is_quiet
on_kind set processor states (acts.Call number args spelt) q = tt
on_kind set processor states (acts.Access want ea user) q =
    segment_kind (access_of set) processor states (request want ea user processor.masks)
    (segment_of processor.slots ea)
on_kind set processor states (acts.SlbMte rb rs) q = tt
on_kind set processor states acts.SlbClear q = tt
on_kind set processor states (acts.Device write liobn ioba) q =
    device_kind set.grants set.window write liobn ioba states
on_kind set processor states (acts.SetMask name value) q = tt
on_kind set processor states acts.Dump q = cc

resize_kind :
    (w : Store) (call : Hcall) (number : ℕ) (args : List ℕ) (spelt : Bool)
    → IsOfKind (acts.Call number args spelt) (run_resize w call args).0
unfolding run_resize
resize_kind w calls.Prepare number args spelt = tt
resize_kind w calls.Commit number args spelt = tt
resize_kind w other number args spelt = tt

pub quiet_kind :
    (w : Store) (act : Act) → is_quiet act ≡ true → IsOfKind act (run_quiet_line w act).0
unfolding run_quiet_line is_quiet
quiet_kind w (acts.Call number args spelt) q = resize_kind w (hcall_of number) number args spelt
quiet_kind w acts.Dump q = tt
quiet_kind w (acts.Access want ea user) q = cc
quiet_kind w (acts.Device write liobn ioba) q = cc
quiet_kind w (acts.SlbMte rb rs) q = cc
quiet_kind w acts.SlbClear q = cc
quiet_kind w (acts.SetMask name value) q = cc

pub one_kind : (w : Store) (l : TraceLine) → IsOfKind l.act (run_on w l).0
unfolding run_on
one_kind w l = at (cases_Bool (is_quiet l.act)) where
  at : (is_quiet l.act ≡ true) ⊎ (is_quiet l.act ≡ false) → IsOfKind l.act (run_on w l).0
  at (inl q) = rw q (quiet_kind w l.act q)
  at (inr q) = rw q (on_kind (context_of w) (processor_at w.processors l.cpu) (states_of w) l.act q)

-- ---- the beginning
pub opening_processors :
    (t : AcceptedTrace) → length (page_table t.config).processors ≡ t.config.cpus
unfolding page_table
opening_processors t = length-replicate t.config.cpus new_processor

-- ---- processors
front_cpus :
    (n : ℕ) (t : RepliedLine) (x : List RepliedLine × List (RepliedLine × List RepliedLine))
    → t.line.cpu < n
    → AllCpus n x.0 x.1
    → AllCpus n (cut_before t x).0 (cut_before t x).1
front_cpus n t x h k = at (cases_Bool (is_quiet t.line.act)) where
  at :
      (is_quiet t.line.act ≡ true) ⊎ (is_quiet t.line.act ≡ false)
      → AllCpus n (cut_before t x).0 (cut_before t x).1
  at (inl q) = rw q (tt, (k.0, k.1))
  at (inr q) = rw q ((h, k.0), k.1)

pub cut_cpus : (n : ℕ) (ts : List RepliedLine) → Cpus n ts → AllCpus n (cut ts).0 (cut ts).1
cut_cpus n [] h = (tt, tt)
cut_cpus n (t ∷ ts) h = front_cpus n t (cut ts) h.0 (cut_cpus n ts h.1)

pub lines_on_cpus :
    (n : ℕ) (ls : List TraceLine) (rs : List Reply)
    → AllByRecursion (λ (l : TraceLine). l.cpu < n) ls
    → Cpus n (lines_with_replies ls rs)
lines_on_cpus n [] rs h = tt
lines_on_cpus n (l ∷ ls) [] h = tt
lines_on_cpus n (l ∷ ls) (r ∷ rs) h = (h.0, lines_on_cpus n ls rs h.1)
