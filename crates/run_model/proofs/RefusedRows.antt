-- Worked refusals, and what they leave.
use Rattle.std.specs.Prelude.{replicate}
use Rattle.std.proofs.Common.{◌≡◌, ℕ, [], ◌∷◌, true, false, Some, None, inl, inr, refl, ap}
use Rattle.std.specs.List.{AllByRecursion}
use Rattle.papr_codes.specs.Hcalls.{hcall_of, row_of}
use Rattle.papr_codes.specs.declared.codes.Rc.TheVariants.{Busy, LongBusy, NoMem, Parameter, PtegFull, Success}
use Rattle.frame_grants.specs.Grants.{machine_range}
use Rattle.bus_window.specs.Windows.{BusWindow, bus_window}
use Rattle.dma_window.specs.Calls.{put_tce_plan}
use Rattle.dma_window.specs.Entries.{first_word, second_word}
use Rattle.dma_window.specs.Pages.{is_ram}
use Rattle.hpt_pool.specs.Pool.{block_at, lowest_place, multiples, taken_without}
use Rattle.entry_model.specs.State.{State, empty_state}
use Rattle.entry_model.specs.declared.device_reply.DeviceOutcome.TheVariants.{Denied}
use Rattle.entry_model.specs.declared.hreply.HReply.{HReply}
use Rattle.entry_model.specs.declared.receipt.Receipt.{Receipt}
use Rattle.entry_model.specs.Reply.{entered_state, no_test}
use Rattle.entry_model.specs.Receipt.{receipt_of, after_of}
use Rattle.entry_model.specs.Replies.{device_reply_with, no_window_reply}
use Rattle.entry_model.specs.Trial.{IsReplyOf, trial_run, plan_run}
use Rattle.page_grants.specs.Suited.{suits_grants}
use Rattle.call_plan.specs.Checks.{h_enter_plan}
use Rattle.call_plan.specs.Enter.{candidates}
use Rattle.call_plan.specs.Bulk.{asked_by, bulk_calls, bulk_told, h_bulk_remove_plan}
use Rattle.hpt_resize.specs.Resize.{outcome_of_prepare}
use Rattle.hpt_resize.specs.TableMemory.{prepare_result}
use Rattle.tlb_model.specs.Processor.{new_processor}
use Rattle.trace_line.specs.declared.act.Act.{Act}
use Rattle.trace_line.specs.declared.act.Act.TheVariants.{Call, Device, SlbMte}
use Rattle.trace_line.specs.declared.line.TraceLine.{TraceLine}
use Rattle.trace_line.specs.Lines.{is_quiet}
use Rattle.trace_reply.specs.declared.reply.Reply.{Reply}
use Rattle.trace_reply.specs.Replies.{receipts_in}
use Rattle.run_model.specs.BusyCalls.{BusyWhereTaken}
use Rattle.run_model.specs.LineReplies.{put_plan, hcall_plan}
use Rattle.run_model.specs.Stores.{Store}
use Rattle.run_model.specs.QuietLines.{reply_of_code, run_resize, run_quiet_line}
use Rattle.run_model.specs.SerialRun.{device_by_window, line_result, run_on}
use Rattle.run_model.specs.RefusedCalls.{is_refused, keeps_removals_by, LeavesEntry, run_left, DropsAnother}
use Rattle.run_model.proofs.SmallPartition.{small, memory_of, calls}
use Rattle.entry_model.specs.declared.operation.Op.TheVariants as ops
use Rattle.trace_reply.specs.declared.reply.Reply.TheVariants as replies

-- ---- a table whose entry 0 is valid
entry : State
entry =
    record {
      valid = true;
      dword0 = 0x1001;
      dword1 = 0x3012;
      referenced = false;
      changed = false;
      stamp = 1;
    }

with_entry : Store
with_entry = record (small 1) { memory = memory_of (entry ∷ replicate 15 (empty_state 0)) }

reply_to : TraceLine → Reply
reply_to l = (run_on with_entry l).0

-- ---- H_ENTER of a taken entry
enter : TraceLine
enter = calls 5 0x08 (0x8000000000 ∷ 0 ∷ 0x1001 ∷ 0x3012 ∷ [])

enter_is_refused : is_refused enter.act (reply_to enter) ≡ true
unfolding enter reply_to with_entry entry run_on line_result hcall_plan is_quiet hcall_of row_of
    plan_run trial_run candidates suits_grants h_enter_plan machine_range new_processor
enter_is_refused = refl

-- All that the run carries stands.
enter_leaves : (run_on with_entry enter).1 ≡ with_entry
unfolding enter with_entry entry run_on line_result hcall_plan is_quiet hcall_of row_of plan_run
    trial_run candidates suits_grants h_enter_plan machine_range new_processor
enter_leaves = refl

-- ---- a device, and H_PUT_TCE, where there is no window
device : TraceLine
device = record { number = 5; cpu = 0; act = Device true 1 0x5008 }

device_finds_no_window : reply_to device ≡ replies.Device no_window_reply
unfolding device reply_to with_entry entry run_on line_result is_quiet new_processor
device_finds_no_window = refl

device_is_refused : is_refused device.act (reply_to device) ≡ true
unfolding device reply_to with_entry entry run_on line_result is_quiet new_processor
device_is_refused = refl

put : TraceLine
put = calls 5 0x20 (1 ∷ 0x5000 ∷ 0x3001 ∷ [])

put_finds_no_window : reply_to put ≡ reply_of_code Parameter
unfolding put reply_to with_entry entry run_on line_result hcall_plan is_quiet hcall_of row_of
    plan_run trial_run new_processor
put_finds_no_window = refl

put_leaves : (run_on with_entry put).1 ≡ with_entry
unfolding put with_entry entry run_on line_result hcall_plan is_quiet hcall_of row_of plan_run
    trial_run new_processor
put_leaves = refl

put_keeps_no_removals : keeps_removals_by put.act (reply_to put) ≡ false
unfolding put reply_to with_entry entry run_on line_result hcall_plan is_quiet hcall_of row_of
    plan_run trial_run new_processor
put_keeps_no_removals = refl

-- ---- H_PUT_TCE on a window, while another call enters a TCE
-- The window's entry 1 had the TCE 0x4001, which this call removes. Then it has the other call's,
-- 0x6001.
window : BusWindow
window = bus_window 1 0x4000 2

with_tce : ℕ → ℕ → State
with_tce tce stamp = record (entered_state (first_word tce) (second_word tce)) { stamp = stamp }

emptied : Receipt
emptied = receipt_of 1 (with_tce 0x4001 7) (ops.Remove no_test)

taken : Receipt
taken = receipt_of 1 (with_tce 0x6001 9) (ops.Enter (first_word 0x3001) (second_word 0x3001))

busy : HReply
busy = record { rc = Busy; words = []; receipts = emptied ∷ taken ∷ [] }

-- H_BUSY with these receipts is a reply to this H_PUT_TCE: its entry was taken in between.
put_is_busy : IsReplyOf (put_plan (small 1).grants (Some window) 0x5008 0x3001) busy
unfolding busy emptied taken with_tce window put_tce_plan is_ram machine_range
put_is_busy =
    record {
      trial = (record { entry = refl; op = refl }, (record { entry = refl; op = refl }, tt));
      told = refl;
    }

busy_where_taken : BusyWhereTaken put.act (replies.Hcall busy)
unfolding put busy emptied taken with_tce hcall_of row_of
busy_where_taken = ((λ _. inr (inl refl)), (λ _. refl))

-- No other code may come with these receipts.
success_where_taken : BusyWhereTaken put.act (replies.Hcall (record busy { rc = Success })) → ⊥
unfolding put busy emptied taken with_tce hcall_of row_of
success_where_taken h = let no : Success ≡ Busy = h.1 (inr (inl refl)) in cc

busy_is_refused : is_refused put.act (replies.Hcall busy) ≡ true
unfolding put busy
busy_is_refused = refl

busy_keeps_removals : keeps_removals_by put.act (replies.Hcall busy) ≡ true
unfolding put busy hcall_of row_of
busy_keeps_removals = refl

-- The TCE that was there is gone, and the other call's stands.
put_leaves_the_other : AllByRecursion (LeavesEntry true) busy.receipts
unfolding busy emptied taken with_tce
put_leaves_the_other =
    ((λ stands. absurd (let clash : true ≡ false = stands in cc)), ((λ _. refl), tt))

emptied_is_gone : after_of emptied ≡ empty_state 8
unfolding emptied with_tce
emptied_is_gone = refl

-- ---- a device on a window
-- Its TCE permits no write: the access is denied, and its entry stands.
read_tce : Receipt
read_tce = receipt_of 1 (with_tce 0x4001 7) ops.Read

denied : Reply
denied = replies.Device (device_reply_with Denied (read_tce ∷ []))

device_is_denied :
    (device_by_window (small 1).grants (Some window) 0x5008 true
    (empty_state 0 ∷ with_tce 0x4001 7 ∷ [])).0
    ≡ denied
unfolding denied read_tce with_tce window trial_run
device_is_denied = refl

denied_is_refused : is_refused device.act denied ≡ true
unfolding device denied
denied_is_refused = refl

denied_leaves :
    AllByRecursion (LeavesEntry (keeps_removals_by device.act denied)) (receipts_in denied)
unfolding device denied read_tce with_tce
denied_leaves = (refl, tt)

-- ---- H_BULK_REMOVE of entries 0 and 1, and an ill-formed third pair
bulk_remove : TraceLine
bulk_remove =
    calls 5 0x124
    (0x4000000000000000
    ∷ 0
    ∷ 0x4000000000000001
    ∷ 0
    ∷ 0x4300000000000002
    ∷ 0
    ∷ 0x4000000000000000
    ∷ 0
    ∷ [])

removed : Receipt
removed = receipt_of 0 entry (ops.Remove (record { avpn = None; andcond = None }))

not_found : Receipt
not_found = receipt_of 1 (empty_state 0) (ops.Remove (record { avpn = None; andcond = None }))

bulk_remove_is_refused : is_refused bulk_remove.act (reply_to bulk_remove) ≡ true
unfolding bulk_remove reply_to with_entry entry run_on line_result hcall_plan is_quiet hcall_of
    row_of plan_run trial_run h_bulk_remove_plan bulk_calls bulk_told asked_by new_processor
bulk_remove_is_refused = refl

removals_are_kept : keeps_removals_by bulk_remove.act (reply_to bulk_remove) ≡ true
unfolding bulk_remove reply_to with_entry entry run_on line_result hcall_plan is_quiet hcall_of
    row_of plan_run trial_run h_bulk_remove_plan bulk_calls bulk_told asked_by new_processor
removals_are_kept = refl

-- The pair after the removed one leaves its entry, and the removed entry is empty.
pairs_leave : AllByRecursion (LeavesEntry true) (removed ∷ not_found ∷ [])
unfolding removed not_found entry
pairs_leave = ((λ stands. absurd (let clash : true ≡ false = stands in cc)), ((λ _. refl), tt))

removed_is_gone : after_of removed ≡ empty_state 2
unfolding removed entry
removed_is_gone = refl

-- In no other call would such a receipt pass.
no_removal_elsewhere : LeavesEntry false removed → ⊥
unfolding removed entry
no_removal_elsewhere h = let clash : false ≡ true = ap (λ (s : State). s.valid) h in cc

-- ---- H_RESIZE_HPT_PREPARE that finds no block
-- A table of order 19 is pending in the pool, which has no room for one of order 20.
with_pending : Store
with_pending = record with_entry {
  memory = record (memory_of []) {
    pool =
        record {
          base = 0x1000000000;
          order = 20;
          taken = block_at 0x1000000000 18 ∷ block_at 0x1000080000 19 ∷ [];
        };
    pending = Some (record { order = 19; place = 0x1000080000; ready = 16384 });
  };
}

prepare : Act
prepare = Call 0x36C (0 ∷ 20 ∷ []) true

no_memory : (run_quiet_line with_pending prepare).0 ≡ reply_of_code NoMem
unfolding prepare with_pending with_entry run_quiet_line run_resize hcall_of row_of prepare_result
    outcome_of_prepare lowest_place multiples taken_without
no_memory = refl

prepare_is_refused : is_refused prepare (reply_of_code NoMem) ≡ true
unfolding prepare
prepare_is_refused = refl

-- The pending table is dropped and its block given back, and all else stands.
prepare_leaves :
    (run_quiet_line with_pending prepare).1 ≡ record with_entry { memory = memory_of [] }
unfolding prepare with_pending with_entry run_quiet_line run_resize hcall_of row_of prepare_result
    outcome_of_prepare lowest_place multiples taken_without
prepare_leaves = refl

left_without_memory :
    run_left prepare (reply_of_code NoMem) with_pending
    ≡ record with_entry { memory = memory_of [] }
unfolding prepare with_pending with_entry hcall_of row_of taken_without
left_without_memory = refl

-- The pending table was of another order than the one that was asked for.
of_another_order : DropsAnother prepare (reply_of_code NoMem) with_pending
unfolding prepare with_pending with_entry hcall_of row_of
of_another_order = refl

of_the_order_itself :
    DropsAnother (Call 0x36C (0 ∷ 19 ∷ []) true) (reply_of_code NoMem) with_pending → ⊥
unfolding with_pending with_entry hcall_of row_of
of_the_order_itself h = let clash : true ≡ false = h in cc

-- With another code it is kept.
left_in_place : run_left prepare (reply_of_code Parameter) with_pending ≡ with_pending
unfolding prepare with_pending with_entry hcall_of row_of
left_in_place = refl

left_by_a_commit :
    run_left (Call 0x370 (0 ∷ 19 ∷ []) true) (reply_of_code PtegFull) with_pending
    ≡ record with_entry { memory = memory_of [] }
unfolding with_pending with_entry hcall_of row_of taken_without
left_by_a_commit = refl

-- ---- what is no refusal
still_at_work : is_refused prepare (reply_of_code LongBusy) ≡ false
unfolding prepare
still_at_work = refl

refused_segment : is_refused (SlbMte 0 0) (replies.Segment false) ≡ true
refused_segment = refl

accepted_segment : is_refused (SlbMte 0 0) (replies.Segment true) ≡ false
accepted_segment = refl
