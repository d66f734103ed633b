-- Worked values of the definitions, which the checker computes.
use Rattle.std.proofs.Common.{◌≡◌, List, [], ◌∷◌, map, true, false, refl}
use Rattle.bus_window.specs.Windows.{BusWindow, bus_window}
use Rattle.frame_grants.specs.declared.grant.Grant.{Grant}
use Rattle.frame_grants.specs.declared.grant.Kind.TheVariants.{Ram, Io}
use Rattle.frame_grants.specs.Grants.{machine_range}
use Rattle.entry_model.specs.declared.operation.Answer.{Answer}
use Rattle.entry_model.specs.declared.operation.Answer.TheVariants.{Removed, NotFound, Entered}
use Rattle.entry_model.specs.declared.operation.Op.TheVariants.{Enter, Remove}
use Rattle.entry_model.specs.declared.receipt.Receipt.{Receipt}
use Rattle.entry_model.specs.Reply.{entered_state, no_test}
use Rattle.entry_model.specs.State.{State, empty_state}
use Rattle.entry_model.specs.Trial.{call, plan_run, trial_run}
use Rattle.entry_model.specs.declared.device_reply.DeviceOutcome.TheVariants.{At, Denied, Ungranted}
use Rattle.dma_window.specs.Pages.{is_ram}
use Rattle.dma_window.specs.Entries.{first_word, second_word, tce_of}
use Rattle.dma_window.specs.Calls.{put_tce_plan}
use Rattle.dma_window.specs.Devices.{outcome_by}

-- ---- words: the page at 0x3000, to be read and written; bits of neither address nor permission
-- are dropped
both_permissions : first_word 0x3003 ≡ 0x19
both_permissions = refl

read_alone : first_word 0x3001 ≡ 0x09
read_alone = refl

coherent : second_word 0x3003 ≡ 0x3010
coherent = refl

top_bits_dropped : second_word 0xF000000000003FF3 ≡ 0x3010
top_bits_dropped = refl

read_back :
    tce_of (entered_state (first_word 0xF000000000003FF3) (second_word 0xF000000000003FF3)) ≡ 0x3003
read_back = refl

nothing_kept : tce_of (empty_state 7) ≡ 0
nothing_kept = refl

-- ---- a device
grants : List Grant
grants =
    record { kind = Ram; logical = 0; machine = 0x2000000000; length = 0x10000 }
    ∷ record { kind = Io; logical = 0x10000; machine = 0x3000000000; length = 0x1000 }
    ∷ []

allowed : outcome_by grants 0x10ABC false 0x3001 ≡ At 0x2000003ABC
unfolding grants is_ram machine_range
allowed = refl

no_write : outcome_by grants 0x10ABC true 0x3001 ≡ Denied
unfolding grants is_ram machine_range
no_write = refl

not_of_io : outcome_by grants 0x10ABC true 0x10002 ≡ Ungranted 0x10ABC
unfolding grants is_ram machine_range
not_of_io = refl

-- ---- H_PUT_TCE, through a window of two pages from 0x10000 on
window : BusWindow
window = bus_window 0x80000001 0x10000 2

two_steps :
    (put_tce_plan grants window 0x11000 0x3003).calls
    ≡ call (Remove no_test) 1 ∷ call (Enter 0x19 0x3010) 1 ∷ []
unfolding grants window put_tce_plan is_ram machine_range
two_steps = refl

page_of_io : (put_tce_plan grants window 0x11000 0x10003).calls ≡ []
unfolding grants window put_tce_plan is_ram machine_range
page_of_io = refl

-- With nobody else, over a TCE that is there, and on an entry that the states don't have.
states : List State
states = empty_state 4 ∷ record (entered_state 0x09 0x4010) { stamp = 7 } ∷ []

abbrev answers_on : List State → List Answer
answers_on s =
    map (λ (r : Receipt). r.answer)
    (plan_run (put_tce_plan grants window 0x11000 0x3003) s).0.receipts

removed_first : answers_on states ≡ Removed ∷ Entered ∷ []
unfolding states grants window put_tce_plan plan_run trial_run is_ram machine_range
removed_first = refl

no_such_entry : answers_on [] ≡ NotFound ∷ Entered ∷ []
unfolding grants window put_tce_plan plan_run trial_run is_ram machine_range
no_such_entry = refl
