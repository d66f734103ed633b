-- A device's access at a bus address: the read of its page's entry, and where the access ends.
use Rattle.std.specs.Prelude.{◌≡◌, ℕ, ◌+◌, ◌%◌, Bool, true, List, [], ◌∷◌, Option, Some, None, if◌then◌else◌}
use Rattle.frame_grants.specs.declared.grant.Grant.{Grant}
use Rattle.frame_grants.specs.declared.grant.Kind.{Kind}
use Rattle.frame_grants.specs.Grants.{machine_range}
use Rattle.entry_model.specs.declared.operation.Op.TheVariants.{Read}
use Rattle.entry_model.specs.declared.receipt.Receipt.{Receipt}
use Rattle.entry_model.specs.Trial.{IsTrial, call}
use Rattle.entry_model.specs.Replies.{no_window_reply}
use Rattle.pool_range.specs.Ranges.{page_bytes}
use Rattle.bus_window.specs.Windows.{BusWindow, entry_at}
use Rattle.entry_model.specs.declared.device_reply.DeviceReply.{DeviceReply}
use Rattle.entry_model.specs.declared.device_reply.DeviceOutcome.{DeviceOutcome}
use Rattle.entry_model.specs.declared.device_reply.DeviceOutcome.TheVariants.{At, Denied, NoWindow, Ungranted}
use Rattle.dma_window.specs.Pages.{is_ram}
use Rattle.dma_window.specs.Entries.{address_of, permits, tce_of}

-- The logical address: the TCE's page, and the bus address's offset in it.
abbrev pub logical_of : ℕ → ℕ → ℕ
logical_of ioba tce = address_of tce + ioba % page_bytes

-- At the machine address of this logical address, where it has one.
abbrev pub landing_at : Option (ℕ × Kind) → ℕ → DeviceOutcome
landing_at None logical = Ungranted logical
landing_at (Some x) logical = At x.0

-- Where an access ends by the page's TCE. Its page has to lie in one grant of ram.
abbrev pub outcome_by : List Grant → ℕ → Bool → ℕ → DeviceOutcome
outcome_by grants ioba write tce =
    if permits tce write
    then
    (if is_ram grants (address_of tce)
    then landing_at (machine_range grants (logical_of ioba tce) 1) (logical_of ioba tce)
    else Ungranted (logical_of ioba tce))
    else Denied

-- Where a device's access ends by the receipt of its page's entry, or without one.
abbrev pub outcome_of : List Grant → ℕ → Bool → List Receipt → DeviceOutcome
outcome_of grants ioba write [] = NoWindow
outcome_of grants ioba write (r ∷ rs) = outcome_by grants ioba write (tce_of r.before)

-- The page's entry was read once, and the access ends by its receipt.
pub record IsDeviceReplyAt
    (grants : List Grant)
    (ioba : ℕ)
    (write : Bool)
    (reply : DeviceReply)
    (entry : ℕ)
    : Type 0
  where
    pub trial : IsTrial (λ answer. true) (call Read entry ∷ []) reply.receipts
    pub outcome : reply.outcome ≡ outcome_of grants ioba write reply.receipts

-- The reply to an access, by the entry of the page, if the window has one.
abbrev pub IsDeviceReplyBy :
    List Grant → ℕ → Bool → DeviceReply → Option ℕ → Type 0
IsDeviceReplyBy grants ioba write reply None = reply ≡ no_window_reply
IsDeviceReplyBy grants ioba write reply (Some entry) =
    IsDeviceReplyAt grants ioba write reply entry

-- The reply to an access of a device.
abbrev pub IsDeviceReply : List Grant → BusWindow → ℕ → Bool → DeviceReply → Type 0
IsDeviceReply grants window ioba write reply =
    IsDeviceReplyBy grants ioba write reply (entry_at window ioba)
