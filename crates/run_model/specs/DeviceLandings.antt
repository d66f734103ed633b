-- Where accesses of devices land: where the TCE in their receipt maps the page, in granted main
-- storage, and in no table.
use Rattle.std.specs.Prelude.{◌≡◌, ℕ, Bool, true, IsTrue, List, [], ◌∷◌, Some}
use Rattle.dma_window.specs.Devices.{logical_of}
use Rattle.dma_window.specs.Entries.{address_of, permits, tce_of}
use Rattle.dma_window.specs.Pages.{is_ram}
use Rattle.frame_grants.specs.declared.grant.Kind.TheVariants.{Ram}
use Rattle.frame_grants.specs.Grants.{GrantedMemory, machine_range}
use Rattle.entry_model.specs.declared.device_reply.DeviceOutcome.{DeviceOutcome}
use Rattle.entry_model.specs.declared.device_reply.DeviceOutcome.TheVariants.{At, Ungranted}
use Rattle.entry_model.specs.declared.receipt.Receipt.{Receipt}
use Rattle.trace_line.specs.declared.act.Act.{Act}
use Rattle.trace_reply.specs.declared.reply.Reply.{Reply}
use Rattle.run_model.specs.Landings.{IsInPool}
use Rattle.trace_line.specs.declared.act.Act.TheVariants as acts
use Rattle.trace_reply.specs.declared.reply.Reply.TheVariants as replies

-- The TCE that the receipt found permits the access, and a single grant of main storage holds its
-- page. The address is the one that a grant of main storage gives that page, with the bus address's
-- offset in it; it is none of the pool's, in which all tables lie.
pub record IsDeviceLanding
    (granted : GrantedMemory)
    (write : Bool)
    (ioba : ℕ)
    (r : Receipt)
    (address : ℕ)
    : Type 0
  where
    pub permitted : IsTrue (permits (tce_of r.before) write)
    pub in_ram : is_ram granted.grants (address_of (tce_of r.before)) ≡ true
    pub in_grant :
        machine_range granted.grants (logical_of ioba (tce_of r.before)) 1
        ≡ Some (address, Ram)
    pub off_pool : IsInPool granted address → ⊥

-- An access that is allowed has one receipt, and lands so by it; and none ends outside the grants.
abbrev pub DeviceLandsBy :
    GrantedMemory → Bool → ℕ → DeviceOutcome → List Receipt → Type 0
DeviceLandsBy granted write ioba (At address) (r ∷ []) =
    IsDeviceLanding granted write ioba r address
DeviceLandsBy granted write ioba (At address) rs = ⊥
DeviceLandsBy granted write ioba (Ungranted address) rs = ⊥
DeviceLandsBy granted write ioba other rs = Unit {0}

-- The line is no access of a device, or the access lands so.
abbrev pub DeviceLands : GrantedMemory → Act → Reply → Type 0
DeviceLands granted (acts.Device write liobn ioba) (replies.Device r) =
    DeviceLandsBy granted write ioba r.outcome r.receipts
DeviceLands granted act reply = Unit {0}
