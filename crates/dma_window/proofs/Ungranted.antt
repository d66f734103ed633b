-- When a device's access ends outside the grants.
use Rattle.std.proofs.Common.{◌≡◌, ℕ, ◌↔◌, ◌⊎◌, inl, inr, ◌%◌, ◌<◌, Bool, true, false, List, Option, Some, None, refl, arith}
use Rattle.std.specs.Prelude.{IsTrue}
use Rattle.std.specs.Option.{option_map_or}
use Rattle.std.proofs.lemmas.Bool.{cases_Bool}
use Rattle.std.proofs.Math.Nat.{mod-lt}
use Rattle.frame_grants.specs.declared.grant.Grant.{Grant}
use Rattle.frame_grants.specs.declared.grant.Kind.{Kind}
use Rattle.frame_grants.specs.Grants.{machine_range}
use Rattle.frame_grants.proofs.Landing.{part_range}
use Rattle.entry_model.specs.declared.device_reply.DeviceOutcome.TheVariants as outcomes
use Rattle.pool_range.specs.Ranges.{page_bytes}
use Rattle.dma_window.specs.Pages.{is_ram_kind, is_ram}
use Rattle.dma_window.specs.Entries.{address_of, permits}
use Rattle.dma_window.specs.Devices.{logical_of, landing_at, outcome_by}

ram_found :
    (place : Option (ℕ × Kind))
    → option_map_or (λ (x : ℕ × Kind). is_ram_kind x.1) place false ≡ true
    → (x : ℕ × Kind) × (place ≡ Some x)
ram_found None e = cc
ram_found (Some x) e = (x, refl)

-- Each byte of a page of ram has a machine address.
byte_found :
    (grants : List Grant) (ioba tce : ℕ)
    → is_ram grants (address_of tce) ≡ true
    → (x : ℕ × Kind) × (machine_range grants (logical_of ioba tce) 1 ≡ Some x)
unfolding is_ram
byte_found grants ioba tce ram =
    let page = ram_found (machine_range grants (address_of tce) page_bytes) ram in
    let small : ioba % page_bytes < page_bytes = mod-lt ioba
    (let some : 0 < page_bytes = omega arith in some) in
    part_range grants (address_of tce) page_bytes (logical_of ioba tce) page.0 page.1 (omega arith)
    (omega arith)

landed_elsewhere :
    (place : Option (ℕ × Kind)) (logical : ℕ) (x : ℕ × Kind)
    → place ≡ Some x
    → landing_at place logical ≡ outcomes.Ungranted logical
    → ⊥
landed_elsewhere None logical x found e = cc
landed_elsewhere (Some y) logical x found e = cc

pub ungranted_where :
    (grants : List Grant) (ioba tce : ℕ) (write : Bool)
    → IsTrue (permits tce write)
    → (outcome_by grants ioba write tce ≡ outcomes.Ungranted (logical_of ioba tce)) ↔
    (is_ram grants (address_of tce) ≡ false)
ungranted_where grants ioba tce write permitted =
    (to (cases_Bool (is_ram grants (address_of tce))), back) where
      to :
          (is_ram grants (address_of tce) ≡ true) ⊎ (is_ram grants (address_of tce) ≡ false)
          → outcome_by grants ioba write tce ≡ outcomes.Ungranted (logical_of ioba tce)
          → is_ram grants (address_of tce) ≡ false
      to (inl ram) e =
          let found = byte_found grants ioba tce ram in
          absurd
          (landed_elsewhere (machine_range grants (logical_of ioba tce) 1) (logical_of ioba tce)
          found.0 found.1 (rw (permitted, ram) at e))
      to (inr off) e = off

      back :
          is_ram grants (address_of tce) ≡ false
          → outcome_by grants ioba write tce ≡ outcomes.Ungranted (logical_of ioba tce)
      back off = rw (permitted, off) refl
