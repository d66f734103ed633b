-- H_PUT_TCE is H_BUSY exactly if a receipt says Taken, and never in the serial run.
use Rattle.std.specs.Prelude.{◌≢◌}
use Rattle.std.proofs.Common.{◌≡◌, ℕ, ◌↔◌, List, [], ◌∷◌, true, ap, sym, ◌∙◌, Option, Some, None}
use Rattle.std.specs.List.{AllByRecursion}
use Rattle.std.proofs.lemmas.Bool.{cond_both, false≢true}
use Rattle.bus_window.specs.Windows.{BusWindow}
use Rattle.dma_window.specs.Laws.{HasTaken}
use Rattle.dma_window.proofs.Alone.{never_busy}
use Rattle.dma_window.proofs.BusyCalls.{busy_exactly}
use Rattle.frame_grants.specs.declared.grant.Grant.{Grant}
use Rattle.papr_codes.specs.Hcalls.{hcall_of}
use Rattle.papr_codes.specs.declared.calls.Hcall.{Hcall}
use Rattle.papr_codes.specs.declared.calls.Hcall.TheVariants as calls
use Rattle.papr_codes.specs.declared.codes.Rc.{Rc}
use Rattle.papr_codes.specs.declared.codes.Rc.TheVariants as rc
use Rattle.entry_model.specs.State.{State}
use Rattle.entry_model.specs.declared.hreply.HReply.{HReply}
use Rattle.entry_model.specs.declared.receipt.Receipt.{Receipt}
use Rattle.entry_model.specs.Trial.{IsTrial, IsReplyOf, plan_of_code, plan_run}
use Rattle.tlb_model.specs.Processor.{Processor}
use Rattle.trace_line.specs.Lines.{is_quiet, is_resize}
use Rattle.trace_line.specs.declared.act.Act.{Act}
use Rattle.trace_line.specs.declared.act.Act.TheVariants as acts
use Rattle.trace_line.specs.declared.line.TraceLine.{TraceLine}
use Rattle.trace_read.specs.Trace.{AcceptedTrace, IsAccepted}
use Rattle.trace_reply.specs.declared.reply.Reply.{Reply}
use Rattle.trace_reply.specs.declared.reply.Reply.TheVariants as replies
use Rattle.trace_reply.specs.Replies.{RepliedLine, lines_with_replies}
use Rattle.run_model.specs.QuietLines.{reply_of_code, run_quiet_line}
use Rattle.run_model.specs.SerialRun.{line_result, with_result, run_on, run_line, replies_from, serial_replies}
use Rattle.run_model.specs.StoreContexts.{StoreContext}
use Rattle.run_model.specs.Stores.{Store, context_of, states_of, opening_stores, is_on}
use Rattle.run_model.specs.LineReplies.{put_plan, hcall_plan, IsCallReply}
use Rattle.run_model.specs.Processors.{processor_at}
use Rattle.run_model.specs.GoodRun.{IsGoodRun}
use Rattle.run_model.specs.BusyCalls.{IsBusyWhereTaken, BusyWhereTaken, IsNotBusy, PutIsNotBusy}
use Rattle.run_model.proofs.CallLines.{each_call}

-- ---- in good runs
-- On the page table the code is H_PARAMETER, and there is no receipt.
none_busy :
    (h : HReply) → IsReplyOf (plan_of_code rc.Parameter) h → (h.rc ≡ rc.Busy) ↔ HasTaken h.receipts
none_busy h is = (other, none h.receipts is.trial) where
  other : h.rc ≡ rc.Busy → HasTaken h.receipts
  other e = let clash :
      rc.Parameter ≡ rc.Busy = sym (ap (λ (x : Rc × List ℕ). x.0) is.told) ∙ e in cc

  none : (rs : List Receipt) → IsTrial (λ answer. true) [] rs → HasTaken rs → h.rc ≡ rc.Busy
  none [] trial taken = absurd taken
  none (r ∷ rs) trial taken = absurd trial

put_busy :
    (grants : List Grant) (window : Option BusWindow) (ioba tce : ℕ) (h : HReply)
    → IsReplyOf (put_plan grants window ioba tce) h
    → (h.rc ≡ rc.Busy) ↔ HasTaken h.receipts
put_busy grants None ioba tce h is = none_busy h is
put_busy grants (Some w) ioba tce h is = busy_exactly grants w ioba tce h is

call_busy :
    (context : StoreContext) (call : Hcall) (args : List ℕ) (h : HReply)
    → IsReplyOf (hcall_plan context call args) h
    → IsBusyWhereTaken call h
unfolding hcall_plan
call_busy context calls.PutTce args h is = put_busy context.grants context.window _ _ h is
call_busy context other args h is = tt

line_busy :
    (context : StoreContext) (act : Act) (reply : Reply)
    → IsCallReply context act reply
    → BusyWhereTaken act reply
line_busy context (acts.Call number args spelt) (replies.Hcall h) is =
    call_busy context (hcall_of number) args h is
line_busy context act reply is = tt

-- No quiet line is an H_PUT_TCE.
quiet_call :
    (call : Hcall) (h : HReply)
    → is_resize call ≡ true
    → IsBusyWhereTaken call h × IsNotBusy call h.rc
quiet_call calls.PutTce h quiet = absurd (false≢true quiet)
quiet_call other h quiet = (tt, tt)

quiet_line :
    (act : Act) (reply : Reply)
    → is_quiet act ≡ true
    → BusyWhereTaken act reply × PutIsNotBusy act reply
unfolding is_quiet
quiet_line (acts.Call number args spelt) (replies.Hcall h) quiet =
    quiet_call (hcall_of number) h quiet
quiet_line act reply quiet = (tt, tt)

pub puts_are_busy_where_taken :
    (t : AcceptedTrace) (rs : List Reply)
    → IsGoodRun t rs
    → AllByRecursion (λ (x : RepliedLine). BusyWhereTaken x.line.act x.reply)
    (lines_with_replies t.lines rs)
puts_are_busy_where_taken t rs good =
    each_call (λ (x : RepliedLine). BusyWhereTaken x.line.act x.reply) t rs
    (λ context x. line_busy context x.line.act x.reply)
    (λ x quiet. (quiet_line x.line.act x.reply quiet).0) good

-- ---- in the serial run
put_alone :
    (grants : List Grant) (window : Option BusWindow) (ioba tce : ℕ) (states : List State)
    → (plan_run (put_plan grants window ioba tce) states).0.rc ≢ rc.Busy
unfolding plan_run
put_alone grants None ioba tce states e = let clash : rc.Parameter ≡ rc.Busy = e in cc
put_alone grants (Some w) ioba tce states e = never_busy grants w ioba tce states e

call_alone :
    (context : StoreContext) (call : Hcall) (args : List ℕ) (states : List State)
    → IsNotBusy call (plan_run (hcall_plan context call args) states).0.rc
unfolding hcall_plan
call_alone context calls.PutTce args states = put_alone context.grants context.window _ _ states
call_alone context other args states = tt

line_alone :
    (context : StoreContext) (p : Processor) (states : List State) (act : Act)
    → PutIsNotBusy act (line_result context p states act).0
unfolding line_result
line_alone context p states (acts.Call number args spelt) =
    call_alone context (hcall_of number) args states
line_alone context p states other = tt

on_store_alone : (w : Store) (l : TraceLine) → PutIsNotBusy l.act (run_on w l).0
unfolding run_on
on_store_alone w l =
    let own = line_result (context_of w) (processor_at w.processors l.cpu) (states_of w) l.act in
    cond_both (is_quiet l.act) (run_quiet_line w l.act) (with_result w l own)
    (λ (x : Reply × Store). PutIsNotBusy l.act x.0)
    (λ quiet. (quiet_line l.act (run_quiet_line w l.act).0 quiet).1)
    (λ _. line_alone (context_of w) (processor_at w.processors l.cpu) (states_of w) l.act)

-- Where no store has the line, it is H_FUNCTION.
function_alone : (call : Hcall) → IsNotBusy call rc.Function
function_alone calls.PutTce = λ e. let clash : rc.Function ≡ rc.Busy = e in cc
function_alone other = tt

none_alone : (act : Act) → PutIsNotBusy act (reply_of_code rc.Function)
none_alone (acts.Call number args spelt) = function_alone (hcall_of number)
none_alone act = tt

any_alone :
    (ws : List BusWindow) (ss : List Store) (l : TraceLine)
    → PutIsNotBusy l.act (run_line ws ss l).0
any_alone ws [] l = none_alone l.act
any_alone ws (s ∷ ss) l =
    let x = run_on s l in
    cond_both (is_on ws s.window l.act) (x.0, x.1 ∷ ss)
    ((run_line ws ss l).0, s ∷ (run_line ws ss l).1)
    (λ (y : Reply × List Store). PutIsNotBusy l.act y.0) (λ _. on_store_alone s l)
    (λ _. any_alone ws ss l)

all_alone :
    (ws : List BusWindow) (ss : List Store) (ls : List TraceLine)
    → AllByRecursion (λ (x : RepliedLine). PutIsNotBusy x.line.act x.reply)
    (lines_with_replies ls (replies_from ws ss ls))
all_alone ws ss [] = tt
all_alone ws ss (l ∷ ls) = (any_alone ws ss l, all_alone ws (run_line ws ss l).1 ls)

pub serial_puts_are_not_busy :
    (t : AcceptedTrace)
    → IsAccepted t
    → AllByRecursion (λ (x : RepliedLine). PutIsNotBusy x.line.act x.reply)
    (lines_with_replies t.lines (serial_replies t))
serial_puts_are_not_busy t is = all_alone t.config.windows (opening_stores t.config) t.lines
