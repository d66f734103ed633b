-- Where a device's access lands.
use Rattle.std.specs.Prelude.{if◌then◌else◌}
use Rattle.std.proofs.Common.{◌≡◌, ℕ, ◌↔◌, Bool, true, false, List, Option, Some, None, refl, ap}
use Rattle.frame_grants.specs.declared.grant.Grant.{Grant}
use Rattle.frame_grants.specs.declared.grant.Kind.{Kind}
use Rattle.frame_grants.specs.Grants.{machine_range}
use Rattle.entry_model.specs.declared.device_reply.DeviceOutcome.{DeviceOutcome}
use Rattle.entry_model.specs.declared.device_reply.DeviceOutcome.TheVariants as outcomes
use Rattle.dma_window.specs.Pages.{is_ram}
use Rattle.dma_window.specs.Entries.{address_of, permits}
use Rattle.dma_window.specs.Devices.{logical_of, landing_at, outcome_by}
use Rattle.dma_window.specs.Laws.{Lands}

-- The outcome by what it is made of.
abbrev ending_by : Bool → Bool → Option (ℕ × Kind) → ℕ → DeviceOutcome
ending_by permitted ram place logical =
    if permitted then (if ram then landing_at place logical else outcomes.Ungranted logical) else
    outcomes.Denied

landed :
    (permitted ram : Bool) (place : Option (ℕ × Kind)) (logical address : ℕ)
    → ending_by permitted ram place logical ≡ outcomes.At address
    → (permitted ≡ true) × ((ram ≡ true) × ((kind : Kind) × (place ≡ Some (address, kind))))
landed true true (Some x) logical address e =
    let same : x.0 ≡ address = cc in
    (refl, (refl, (x.1, ap (λ (a : ℕ). Some (a, x.1)) same)))
landed true true None logical address e = cc
landed true false place logical address e = cc
landed false ram place logical address e = cc

pub lands_where :
    (grants : List Grant) (ioba tce address : ℕ) (write : Bool)
    → (outcome_by grants ioba write tce ≡ outcomes.At address) ↔ Lands grants ioba write tce address
lands_where grants ioba tce address write = (to, back) where
  to : outcome_by grants ioba write tce ≡ outcomes.At address → Lands grants ioba write tce address
  to e =
      let parts = landed (permits tce write) (is_ram grants (address_of tce))
      (machine_range grants (logical_of ioba tce) 1) (logical_of ioba tce) address e in
      record { permitted = parts.0; ram = parts.1.0; landing = parts.1.1 }

  back :
      Lands grants ioba write tce address → outcome_by grants ioba write tce ≡ outcomes.At address
  back l = rw (l.permitted, l.ram, l.landing.1) refl
