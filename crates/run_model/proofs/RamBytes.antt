-- Each byte of a page of main storage lies in a grant of main storage.
use Rattle.std.proofs.Common.{◌≡◌, ℕ, ◌%◌, ◌<◌, true, false, Option, Some, None, refl, sym, ap, ◌∙◌, arith}
use Rattle.std.specs.Option.{option_map_or}
use Rattle.std.proofs.Math.Nat.{mod-lt}
use Rattle.pool_range.specs.Ranges.{page_bytes}
use Rattle.dma_window.specs.Devices.{logical_of}
use Rattle.dma_window.specs.Entries.{address_of}
use Rattle.dma_window.specs.Pages.{is_ram_kind, is_ram}
use Rattle.frame_grants.specs.declared.grant.Grant.{Grant}
use Rattle.frame_grants.specs.declared.grant.Kind.{Kind}
use Rattle.frame_grants.specs.declared.grant.Kind.TheVariants.{Ram, Io}
use Rattle.frame_grants.specs.Grants.{GrantedMemory, AreApart, holds, machine_range}
use Rattle.frame_grants.proofs.Holding.{machine_range-within, one_holds}
use Rattle.frame_grants.proofs.Landing.{part_held}

kind_of : (kind : Kind) → is_ram_kind kind ≡ true → kind ≡ Ram
kind_of Ram ram = refl
kind_of Io ram = cc

page_found :
    (place : Option (ℕ × Kind))
    → option_map_or (λ (x : ℕ × Kind). is_ram_kind x.1) place false ≡ true
    → (x : ℕ × Kind) × ((place ≡ Some x) × (x.1 ≡ Ram))
page_found None ram = cc
page_found (Some x) ram = (x, (refl, kind_of x.1 ram))

-- The grant of a byte is the one that holds the byte's page.
pub byte_is_ram :
    (granted : GrantedMemory) (ioba tce : ℕ) (found : ℕ × Kind)
    → AreApart granted
    → is_ram granted.grants (address_of tce) ≡ true
    → machine_range granted.grants (logical_of ioba tce) 1 ≡ Some found
    → found.1 ≡ Ram
unfolding is_ram
byte_is_ram granted ioba tce found apart ram byte =
    let (page, (at, kind)) = page_found (machine_range granted.grants (address_of tce) page_bytes)
    ram in
    let (whole, of_page) = machine_range-within granted (address_of tce) page_bytes page apart at in
    let (one, of_byte) = machine_range-within granted (logical_of ioba tce) 1 found apart byte in
    let small : ioba % page_bytes < page_bytes = mod-lt ioba
    (let some : 0 < page_bytes = omega arith in some) in
    let held : holds (logical_of ioba tce) 1 whole ≡ true = part_held (address_of tce) page_bytes
    (logical_of ioba tce) whole of_page.holding (omega arith) (omega arith) in
    let same : one ≡ whole = one_holds granted (logical_of ioba tce) 1 one whole apart (omega arith)
    of_byte.granted_is of_page.granted_is of_byte.holding held in
    of_byte.kind_is ∙ ap (λ (g : Grant). g.kind) same ∙ sym of_page.kind_is ∙ kind
