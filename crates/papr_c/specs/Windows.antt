-- H_PUT_TCE, H_GET_TCE and a device's access by C, over the entries of a window. The window has one
-- entry for each page.
use Rattle.std.specs.Prelude.{ℕ, Bool, if◌then◌else◌, List, [], ◌∷◌, length, map, min, Option, Some, None}
use Rattle.frame_grants.specs.declared.grant.Grant.{Grant}
use Rattle.bus_window.specs.Windows.{BusWindow, bus_window, is_window, entry_at}
use Rattle.entry_model.specs.State.{State}
use Rattle.entry_model.specs.Receipt.{receipt_of}
use Rattle.entry_model.specs.Run.{state_at}
use Rattle.entry_model.specs.Trial.{Plan}
use Rattle.entry_model.specs.declared.receipt.Receipt.{Receipt}
use Rattle.entry_model.specs.declared.operation.Op.TheVariants.{Read}
use Rattle.entry_model.specs.declared.device_reply.DeviceOutcome.{DeviceOutcome}
use Rattle.entry_model.specs.declared.device_reply.DeviceOutcome.TheVariants.{At, Denied, NoWindow, Ungranted}
use Rattle.dma_window.specs.Devices.{outcome_of}
use Rattle.c_layout.specs.declared.receipts.PaprReceipt.{PaprReceipt}
use Rattle.c_layout.specs.declared.reply.PaprReply.{PaprReply}
use Rattle.papr_c.specs.declared.windows.PaprDevice.{PaprDevice}
use Rattle.papr_c.specs.Calls.{LentMemory, outcome_where}
use Rattle.c_layout.specs.Slots.{filled, shown_receipt}

-- The window of so many entries, from this bus address on. Its number is its caller's own.
abbrev pub window_of : ℕ → List State → BusWindow
window_of base entries = bus_window 0 base (length entries)

-- The entry of the page that has this bus address, where there can be such a window and it has it.
abbrev pub page_entry : ℕ → List State → ℕ → Option ℕ
page_entry base entries ioba =
    if is_window (window_of base entries) then entry_at (window_of base entries) ioba else None

-- A call on the entries of a window; where there can be no such window it is H_PARAMETER, and
-- nothing changes.
abbrev pub outcome_of_tce : ℕ → (BusWindow → Plan) → LentMemory → PaprReply × LentMemory
outcome_of_tce base plan m =
    outcome_where (is_window (window_of base m.entries)) (plan (window_of base m.entries)) m

-- ---- a device
-- The access as C has it: the machine address, or for a page that isn't granted the logical one.
abbrev pub device_told : DeviceOutcome → ℕ → PaprDevice
device_told (At machine) receipts = record { address = machine; outcome = 0; receipts = receipts }
device_told Denied receipts = record { address = 0; outcome = 1; receipts = receipts }
device_told NoWindow receipts = record { address = 0; outcome = 2; receipts = receipts }
device_told (Ungranted logical) receipts =
    record { address = logical; outcome = 3; receipts = receipts }

-- An access that isn't made.
abbrev pub refused_device : PaprDevice
refused_device = record { address = 0; outcome = 4; receipts = 0 }

-- The receipt of the page's entry, which is read, where the window has the page.
abbrev pub device_receipts : List State → Option ℕ → List Receipt
device_receipts entries None = []
device_receipts entries (Some e) = receipt_of e (state_at entries e) Read ∷ []

-- The answer to a device's access by the receipt of its page's entry, and the slots for receipts.
abbrev pub device_by :
    List Grant → ℕ → Bool → List PaprReceipt → List Receipt → PaprDevice × List PaprReceipt
device_by grants ioba write slots rs = (
  device_told (outcome_of grants ioba write rs) (min (length slots) (length rs)),
  filled slots (map shown_receipt rs),
)

-- A device's read or write at a bus address, and the slots for its receipt.
abbrev pub outcome_of_device :
    ℕ
    → List State
    → List Grant
    → ℕ
    → Bool
    → List PaprReceipt
    → PaprDevice × List PaprReceipt
outcome_of_device base entries grants ioba write slots =
    if is_window (window_of base entries)
    then
    device_by
    grants
    ioba
    write
    slots
    (device_receipts entries (entry_at (window_of base entries) ioba))
    else (refused_device, slots)
