-- In a good run a refused line on a window leaves the entries of its receipts, but that an
-- H_PUT_TCE may have removed the TCE that was there.
use Rattle.std.proofs.Common.{◌≡◌, ℕ, List, [], ◌∷◌, Bool, true, false, sym, refl, subst, Option, Some, None}
use Rattle.std.specs.Prelude.{◌==◌}
use Rattle.std.specs.List.{AllByRecursion}
use Rattle.std.proofs.lemmas.Bool.{false≢true}
use Rattle.bus_window.specs.Windows.{BusWindow, entry_at}
use Rattle.dma_window.specs.Devices.{IsDeviceReplyBy}
use Rattle.frame_grants.specs.declared.grant.Grant.{Grant}
use Rattle.papr_codes.specs.Hcalls.{hcall_of}
use Rattle.entry_model.specs.Reply.{reply_of}
use Rattle.entry_model.specs.Trial.{IsTrial, call}
use Rattle.entry_model.specs.declared.device_reply.DeviceReply.{DeviceReply}
use Rattle.entry_model.specs.declared.operation.Op.TheVariants as ops
use Rattle.entry_model.specs.declared.receipt.Receipt.{Receipt}
use Rattle.tlb_model.specs.Processor.{Processor}
use Rattle.trace_line.specs.declared.act.Act.{Act}
use Rattle.trace_line.specs.declared.act.Act.TheVariants as acts
use Rattle.trace_read.specs.Trace.{AcceptedTrace}
use Rattle.trace_reply.specs.declared.reply.Reply.{Reply}
use Rattle.trace_reply.specs.declared.reply.Reply.TheVariants as replies
use Rattle.trace_reply.specs.Replies.{RepliedLine, receipts_in, lines_with_replies}
use Rattle.run_model.specs.Processors.{processor_after}
use Rattle.run_model.specs.Quiet.{QuietPart, cut}
use Rattle.run_model.specs.StoreContexts.{StoreContext}
use Rattle.run_model.specs.GoodRun.{EachLineOfProcessor, IsGoodSection, IsGoodOn, IsGoodRun}
use Rattle.run_model.specs.Sections.{closing, after_quiet, quiet_on, section_of, sections_from, window_sections}
use Rattle.run_model.specs.Stores.{Store, context_of, opening_store, is_on, lines_on}
use Rattle.run_model.specs.LineReplies.{IsDeviceLine, IsCallReply}
use Rattle.run_model.specs.RefusedCalls.{is_refused, LeavesEntry, LeavesAll, RefusedWindowLinesLeave}
use Rattle.basics.proofs.Each.{each_map, each_filter, each_passes, under_map}
use Rattle.run_model.proofs.CallLines.{IsWindowAct, on_window_act}
use Rattle.run_model.proofs.Refusals.{hcall_leaves}

-- ---- an access of a device
-- It only reads.
read_leaves :
    (entry : ℕ) (rs : List Receipt)
    → IsTrial (λ answer. true) (call ops.Read entry ∷ []) rs
    → AllByRecursion (LeavesEntry false) rs
read_leaves entry [] trial = tt
read_leaves entry (r ∷ []) trial =
    (subst (λ op. (reply_of r.before op).1 ≡ r.before) (sym trial.0.op) refl, tt)
read_leaves entry (r ∷ x ∷ rs) trial = absurd trial.1

entry_leaves :
    (grants : List Grant) (ioba : ℕ) (write : Bool) (entry : Option ℕ) (d : DeviceReply)
    → IsDeviceReplyBy grants ioba write d entry
    → AllByRecursion (LeavesEntry false) d.receipts
entry_leaves grants ioba write None d is =
    subst (λ (x : DeviceReply). AllByRecursion (LeavesEntry false) x.receipts) (sym is) tt
entry_leaves grants ioba write (Some entry) d is = read_leaves entry d.receipts is.trial

device_leaves :
    (grants : List Grant) (window : Option BusWindow) (ioba : ℕ) (write : Bool) (d : DeviceReply)
    → IsDeviceLine grants window write ioba (replies.Device d)
    → AllByRecursion (LeavesEntry false) d.receipts
device_leaves grants None ioba write d is =
    subst (λ (x : Reply). AllByRecursion (LeavesEntry false) (receipts_in x)) (sym is) tt
device_leaves grants (Some w) ioba write d is =
    entry_leaves grants ioba write (entry_at w ioba) d is

-- ---- lines
line_leaves :
    (context : StoreContext) (p : Processor) (act : Act) (reply : Reply)
    → IsWindowAct act
    → IsCallReply context act reply
    → is_refused act reply ≡ true
    → LeavesAll p act reply
line_leaves context p (acts.Call number args spelt) (replies.Hcall h) is told refused =
    record {
      entries = hcall_leaves context (hcall_of number) args h told refused;
      slots = refl;
      cache = refl;
    }
line_leaves context p (acts.Device write liobn ioba) (replies.Device d) is told refused =
    record {
      entries = device_leaves context.grants context.window ioba write d told;
      slots = refl;
      cache = refl;
    }
line_leaves context p (acts.Access want ea user) reply is told refused = absurd is
line_leaves context p (acts.SlbMte rb rs) reply is told refused = absurd is
line_leaves context p act reply is told refused = absurd (false≢true refused)

lines_leave :
    (context : StoreContext) (p : Processor) (ts : List RepliedLine)
    → AllByRecursion (λ (t : RepliedLine). IsWindowAct t.line.act) ts
    → EachLineOfProcessor (λ q t. IsCallReply context t.line.act t.reply) p ts
    → EachLineOfProcessor
    (λ q t. is_refused t.line.act t.reply ≡ true → LeavesAll q t.line.act t.reply) p ts
lines_leave context p [] on told = tt
lines_leave context p (t ∷ ts) on told = (
  line_leaves context p t.line.act t.reply on.0 told.0,
  lines_leave context (processor_after p t.line.act t.reply) ts on.1 told.1,
)

-- ---- sections
-- The lines on the store are such as windows have.
abbrev OfWindow : (Act → Bool) → Type 0
OfWindow on = (act : Act) → on act ≡ true → IsWindowAct act

section_leaves :
    (on : Act → Bool) (s : Store) (ts : List RepliedLine) (quiet : Option RepliedLine)
    → OfWindow on
    → IsGoodSection (section_of on s ts quiet)
    → RefusedWindowLinesLeave (section_of on s ts quiet)
section_leaves on s ts quiet of good = λ cpu.
    let here = each_map (λ (t : RepliedLine). on t.line.act ≡ true)
    (λ (t : RepliedLine). IsWindowAct t.line.act) (lines_on on ts) (λ t. of t.line.act)
    (each_passes (λ (t : RepliedLine). on t.line.act) ts) in
    lines_leave (context_of s) _ _
    (each_filter (λ (t : RepliedLine). IsWindowAct t.line.act)
    (λ (t : RepliedLine). t.line.cpu == cpu) (lines_on on ts) here) (good.calls cpu)

sections_leave :
    (on : Act → Bool) (s : Store) (ts : List RepliedLine) (qs : List QuietPart)
    → OfWindow on
    → AllByRecursion IsGoodSection (sections_from on s ts qs)
    → AllByRecursion RefusedWindowLinesLeave (sections_from on s ts qs)
sections_leave on s ts [] of good = (section_leaves on s ts None of good.0, tt)
sections_leave on s ts (q ∷ qs) of good =
    let x = section_of on s ts (quiet_on on q.0) in (
      section_leaves on s ts x.quiet of good.0,
      sections_leave on (after_quiet (closing x) x.quiet) q.1 qs of good.1,
    )

pub refused_window_lines_leave :
    (t : AcceptedTrace) (rs : List Reply)
    → IsGoodRun t rs
    → AllByRecursion
    (λ (w : BusWindow). AllByRecursion RefusedWindowLinesLeave (window_sections t rs w))
    t.config.windows
refused_window_lines_leave t rs good =
    let c = cut (lines_with_replies t.lines rs) in
    under_map (λ (w : BusWindow). AllByRecursion RefusedWindowLinesLeave (window_sections t rs w))
    (IsGoodOn t rs) (opening_store t.config) t.config.windows
    (λ w h.
    sections_leave (is_on t.config.windows (Some w)) (opening_store t.config w) c.0 c.1
    (on_window_act w) h) good.stores.1
