-- The serial run: the replies to the lines of a trace, one line after the other.
use Rattle.std.specs.Prelude.{ℕ, ◌==◌, ◌&&◌, Bool, true, List, [], ◌∷◌, Option, Some, None, is_none, if◌then◌else◌}
use Rattle.bus_window.specs.Windows.{BusWindow, entry_at}
use Rattle.dma_window.specs.Devices.{outcome_of as device_outcome}
use Rattle.frame_grants.specs.declared.grant.Grant.{Grant}
use Rattle.papr_codes.specs.Hcalls.{hcall_of}
use Rattle.entry_model.specs.State.{State}
use Rattle.entry_model.specs.declared.line.Line.{Line}
use Rattle.entry_model.specs.declared.receipt.Receipt.{Receipt}
use Rattle.entry_model.specs.declared.hreply.HReply.{HReply}
use Rattle.entry_model.specs.declared.access_reply.By.{By}
use Rattle.entry_model.specs.declared.access_reply.By.TheVariants.{Hit, Walk}
use Rattle.entry_model.specs.Receipt.{is_no_match}
use Rattle.entry_model.specs.Replies.{device_reply_with, no_window_reply}
use Rattle.entry_model.specs.declared.operation.Op.TheVariants.{Read}
use Rattle.entry_model.specs.Run.{state_at}
use Rattle.entry_model.specs.Trial.{call, trial_run, plan_run}
use Rattle.tlb_model.specs.Cache.{cached_line}
use Rattle.slb_model.specs.declared.segment.Segment.{Segment}
use Rattle.slb_model.specs.Refusals.{mte_refusal}
use Rattle.slb_model.specs.Buffer.{segment_of}
use Rattle.hpt_walk.specs.Walk.{walk_calls}
use Rattle.hpt_walk.specs.Access.{AccessContext, outcome_of, hit_calls, no_segment_reply, request, mode_for}
use Rattle.hpt_walk.specs.declared.request.Request.{Request}
use Rattle.trace_line.specs.declared.act.Act.{Act}
use Rattle.trace_line.specs.declared.line.TraceLine.{TraceLine}
use Rattle.trace_line.specs.Lines.{is_quiet}
use Rattle.trace_read.specs.Configuration.{Configuration}
use Rattle.trace_read.specs.Trace.{AcceptedTrace}
use Rattle.trace_reply.specs.declared.reply.Reply.{Reply}
use Rattle.hpt_resize.specs.TableMemory.{with_states}
use Rattle.trace_line.specs.declared.act.Act.TheVariants as acts
use Rattle.trace_reply.specs.declared.reply.Reply.TheVariants as replies
use Rattle.tlb_model.specs.Processor.{Processor}
use Rattle.run_model.specs.LineReplies.{hcall_plan}
use Rattle.run_model.specs.Processors.{processor_at, processors_after}
use Rattle.run_model.specs.QuietLines.{reply_of_code, run_quiet_line}
use Rattle.run_model.specs.StoreContexts.{StoreContext, access_of}
use Rattle.run_model.specs.Stores.{Store, context_of, states_of, page_table, opening_stores, is_on}
use Rattle.papr_codes.specs.declared.codes.Rc.TheVariants as rc

-- ---- accesses
-- The entry is valid at the line's stamp.
abbrev pub is_current : Line → State → Bool
is_current line s = s.valid && (s.stamp == line.stamp)

-- The cached translation, where it is current.
abbrev pub current_line : List State → Option Line → Option Line
current_line states None = None
current_line states (Some line) =
    if is_current line (state_at states line.entry) then Some line else None

-- The reply of an access with these receipts, and the states after it.
abbrev pub access_result :
    AccessContext → Request → By → List Receipt × List State → Reply × List State
access_result context a by run =
    let outcome = outcome_of context.grants a.ea run.0 in
    (replies.Access (record { outcome = outcome; by = Some by; receipts = run.0 }), run.1)

-- The result of an access in a segment: by the cached translation of its page where that is
-- current, else by a walk.
abbrev pub result_by_line :
    AccessContext → List State → Segment → Request → Option Line → Reply × List State
result_by_line context states seg a (Some line) =
    access_result context a Hit (trial_run is_no_match states (hit_calls seg a line))
result_by_line context states seg a None =
    let calls = walk_calls context.order seg.page (mode_for seg a) in
    access_result context a Walk (trial_run is_no_match states calls)

-- The result of an access: by the segment of its address, or without one.
abbrev pub result_by_segment :
    AccessContext → Processor → List State → Request → Option Segment → Reply × List State
result_by_segment context p states a None = (replies.Access no_segment_reply, states)
result_by_segment context p states a (Some seg) =
    result_by_line context states seg a (current_line states (cached_line p.cache seg.page))

-- ---- accesses of devices
-- The reply with these receipts, and the states after it.
abbrev pub device_result :
    List Grant → ℕ → Bool → List Receipt × List State → Reply × List State
device_result grants ioba write run =
    (replies.Device (device_reply_with (device_outcome grants ioba write run.0) run.0), run.1)

-- The result of a device's access: by the entry of its page, if the window has one.
abbrev pub device_by_entry :
    List Grant → ℕ → Bool → List State → Option ℕ → Reply × List State
device_by_entry grants ioba write states None = (replies.Device no_window_reply, states)
device_by_entry grants ioba write states (Some entry) =
    device_result grants ioba write (trial_run (λ answer. true) states (call Read entry ∷ []))

-- The result of a device's access on a store: by the window whose entries these are, if they are a
-- window's.
abbrev pub device_by_window :
    List Grant → Option BusWindow → ℕ → Bool → List State → Reply × List State
device_by_window grants None ioba write states = (replies.Device no_window_reply, states)
device_by_window grants (Some w) ioba write states =
    device_by_entry grants ioba write states (entry_at w ioba)

-- ---- one line
-- The reply of a hypervisor call, and the states after it.
abbrev pub call_result : HReply × List State → Reply × List State
call_result x = (replies.Hcall x.0, x.1)

-- The reply to a line that isn't quiet on a store with these states, and the states after it.
unfoldable pub line_result : StoreContext → Processor → List State → Act → Reply × List State
line_result context p states (acts.Call number args spelt) =
    call_result (plan_run (hcall_plan context (hcall_of number) args) states)
line_result context p states (acts.Access want ea user) =
    result_by_segment
    (access_of context)
    p
    states
    (request want ea user p.masks)
    (segment_of p.slots ea)
line_result context p states (acts.Device write liobn ioba) =
    device_by_window context.grants context.window ioba write states
line_result context p states (acts.SlbMte rb rs) =
    (replies.Segment (is_none (mte_refusal rb rs)), states)
line_result context p states (acts.SetMask name value) = (replies.MaskSet, states)
line_result context p states other = (replies.Segment true, states)

-- The reply, and the store after it: these states, and the line's processor.
abbrev pub with_result : Store → TraceLine → Reply × List State → Reply × Store
with_result s l x =
    let processors = processors_after s.processors (record { line = l; reply = x.0 }) in
    (x.0, record s { memory = with_states s.memory x.1; processors = processors })

-- The reply to a line on a store, and the store after it.
unfoldable pub run_on : Store → TraceLine → Reply × Store
run_on s l =
    if is_quiet l.act
    then run_quiet_line s l.act
    else
    with_result
    s
    l
    (line_result (context_of s) (processor_at s.processors l.cpu) (states_of s) l.act)

-- ---- all stores
-- The reply to a line, and the stores after it: it acts on the store that it is on, and leaves the
-- others. Where it is on none, which can't be, H_FUNCTION.
abbrev pub run_line : List BusWindow → List Store → TraceLine → Reply × List Store
run_line ws [] l = (reply_of_code rc.Function, [])
run_line ws (s ∷ ss) l =
    if is_on ws s.window l.act
    then
    (let x = run_on s l in (x.0, x.1 ∷ ss))
    else
    (let x = run_line ws ss l in (x.0, s ∷ x.1))

-- The replies to lines, one after the other.
abbrev pub replies_from : List BusWindow → List Store → List TraceLine → List Reply
replies_from ws ss [] = []
replies_from ws ss (l ∷ ls) =
    let x = run_line ws ss l in x.0 ∷ replies_from ws x.1 ls

-- The stores after these lines.
abbrev pub stores_after : List BusWindow → List Store → List TraceLine → List Store
stores_after ws ss [] = ss
stores_after ws ss (l ∷ ls) = stores_after ws (run_line ws ss l).1 ls

-- The replies of the serial run.
abbrev pub serial_replies : AcceptedTrace → List Reply
serial_replies t = replies_from t.config.windows (opening_stores t.config) t.lines

-- The first of the stores: the page table. The given one where there is none, which can't be.
abbrev pub first_store : Store → List Store → Store
first_store s [] = s
first_store s (x ∷ xs) = x

-- The page table after these lines of the serial run of a configuration.
abbrev pub table_after : Configuration → List TraceLine → Store
table_after c lines =
    first_store (page_table c) (stores_after c.windows (opening_stores c) lines)
