-- Worked lines on two windows, and the sections of one.
use Rattle.std.specs.Prelude.{map}
use Rattle.std.proofs.Common.{◌≡◌, ℕ, List, [], ◌∷◌, true, false, Some, None, refl}
use Rattle.bus_window.specs.Windows.{BusWindow, bus_window}
use Rattle.dma_window.specs.Calls.{put_tce_plan}
use Rattle.dma_window.specs.Pages.{is_ram}
use Rattle.frame_grants.specs.declared.grant.Grant.{Grant}
use Rattle.frame_grants.specs.declared.grant.Kind.TheVariants.{Ram}
use Rattle.frame_grants.specs.Grants.{machine_range}
use Rattle.papr_codes.specs.Hcalls.{hcall_of, row_of}
use Rattle.papr_codes.specs.declared.codes.Rc.TheVariants.{Success}
use Rattle.entry_model.specs.State.{State, empty_state}
use Rattle.entry_model.specs.Receipt.{receipt_of}
use Rattle.entry_model.specs.Reply.{entered_state, no_test}
use Rattle.entry_model.specs.Replies.{no_window_reply}
use Rattle.entry_model.specs.Trial.{trial_run, plan_run}
use Rattle.entry_model.specs.History.{place, pair_of, state_eq}
use Rattle.entry_model.specs.declared.device_reply.DeviceOutcome.TheVariants.{At}
use Rattle.trace_line.specs.Lines.{bus_of, is_quiet}
use Rattle.trace_line.specs.declared.act.Act.{Act}
use Rattle.trace_line.specs.declared.act.Act.TheVariants.{Call, Device, Dump}
use Rattle.trace_reply.specs.Replies.{RepliedLine}
use Rattle.run_model.specs.Histories.{closing_states}
use Rattle.run_model.specs.LineReplies.{hcall_plan}
use Rattle.run_model.specs.Quiet.{cut}
use Rattle.run_model.specs.SerialRun.{line_result, run_on, run_line}
use Rattle.trace_line.specs.declared.line.TraceLine.{TraceLine}
use Rattle.run_model.specs.Stores.{Store, is_on, window_store}
use Rattle.run_model.specs.Sections.{Section, section_end, sections_from}
use Rattle.run_model.proofs.SmallPartition.{small as small_run}
use Rattle.entry_model.specs.declared.operation.Op.TheVariants as ops
use Rattle.trace_reply.specs.declared.reply.Reply.TheVariants as replies

grants : List Grant
grants = record { kind = Ram; logical = 0; machine = 0x2000000000; length = 0x10000 } ∷ []

-- Two windows of two pages, from the same bus address on.
one : BusWindow
one = bus_window 1 0x10000 2

other : BusWindow
other = bus_window 2 0x10000 2

-- The window with this state in its second entry and the first one empty.
having : BusWindow → State → Store
having w s = window_store grants 1 (empty_state 0 ∷ s ∷ []) w

-- The page table before them.
table : Store
table = small_run 1

windows : List BusWindow
windows = one ∷ other ∷ []

set_read : State
set_read = record (entered_state 0x09 0x3010) { stamp = 1 }

-- H_PUT_TCE, by its number, of the second page of the window 2.
put : Act
put = Call 0x20 (2 ∷ 0x11008 ∷ 0x3001 ∷ 0 ∷ 0 ∷ 0 ∷ 0 ∷ 0 ∷ []) false

putting : RepliedLine
putting = record {
  line = record { number = 5; cpu = 0; act = put };
  reply =
      replies.Hcall
      (record {
        rc = Success;
        words = [];
        receipts =
            receipt_of 1 (empty_state 0) (ops.Remove no_test)
            ∷ receipt_of 1 (empty_state 0) (ops.Enter 0x09 0x3010)
            ∷ [];
      });
}

-- The H_PUT_TCE is on the window 2, and on no other store.
on_the_second : is_on (one ∷ []) None put ≡ true
unfolding put one bus_of hcall_of row_of
on_the_second = refl

not_on_the_table : is_on (one ∷ other ∷ []) None put ≡ false
unfolding put one other bus_of hcall_of row_of
not_on_the_table = refl

-- Its entry is emptied and entered, and the first window stays.
put_on_the_second :
    run_line windows (table ∷ having one (empty_state 0) ∷ having other (empty_state 0) ∷ [])
    putting.line
    ≡ (putting.reply, table ∷ having one (empty_state 0) ∷ having other set_read ∷ [])
unfolding table windows run_on is_quiet having one other put putting set_read grants bus_of hcall_of
    row_of line_result hcall_plan put_tce_plan plan_run trial_run is_ram machine_range
put_on_the_second = refl

-- A device of the window 2 reaches the page, one of the window 1 is denied, and the number 3 is
-- none's.
read_by : ℕ → TraceLine
read_by number = record { number = 6; cpu = 0; act = Device false number 0x11008 }

reached :
    run_line windows (table ∷ having one (empty_state 0) ∷ having other set_read ∷ []) (read_by 2)
    ≡ (
      replies.Device
          (record { outcome = At 0x2000003008; receipts = receipt_of 1 set_read ops.Read ∷ [] }),
      table ∷ having one (empty_state 0) ∷ having other set_read ∷ [],
    )
unfolding table windows run_on is_quiet having one other read_by set_read grants bus_of line_result
    trial_run is_ram machine_range
reached = refl

none_of_three :
    run_line windows (table ∷ having one (empty_state 0) ∷ having other set_read ∷ []) (read_by 3)
    ≡ (
      replies.Device no_window_reply,
      table ∷ having one (empty_state 0) ∷ having other set_read ∷ [],
    )
unfolding table windows run_on is_quiet having one other read_by set_read grants bus_of line_result
none_of_three = refl

-- ---- sections
-- A dump cuts the window's lines as it cuts the page table's, and the second section opens on what
-- the first leaves.
dumped : RepliedLine
dumped =
    record {
      line = record { number = 6; cpu = 0; act = Dump };
      reply = replies.Dump (record { number = 0; order = 18; place = 0; states = [] });
    }

opens :
    map (λ (s : Section). s.before.memory.table.states)
    (let c = cut (putting ∷ dumped ∷ []) in
    sections_from (is_on windows (Some other)) (having other (empty_state 0)) c.0 c.1)
    ≡ (empty_state 0 ∷ empty_state 0 ∷ []) ∷ (empty_state 0 ∷ set_read ∷ []) ∷ []
unfolding windows having grants one section_end other put putting dumped set_read bus_of hcall_of
    row_of is_quiet closing_states place pair_of state_eq
opens = refl

-- The other window has no line of these, so it opens twice as it was.
stays :
    map (λ (s : Section). s.before.memory.table.states)
    (let c = cut (putting ∷ dumped ∷ []) in
    sections_from (is_on windows (Some one)) (having one (empty_state 0)) c.0 c.1)
    ≡ (empty_state 0 ∷ empty_state 0 ∷ []) ∷ (empty_state 0 ∷ empty_state 0 ∷ []) ∷ []
unfolding windows having grants other section_end one put putting dumped bus_of hcall_of row_of
    is_quiet closing_states
stays = refl
