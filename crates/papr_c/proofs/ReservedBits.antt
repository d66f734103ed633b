-- Protection bits that have no row allow nothing.
use Rattle.std.proofs.Common.{◌≡◌, ℕ, ◌<◌, Bool, arith, refl}
use Rattle.std.proofs.lemmas.Bool.{ne_eqb}
use Rattle.storage_prot.specs.Protection.{Permission, permission, rows}
use Rattle.papr_c.specs.Decoding.{protection_rights}

past_rows :
    (protection : ℕ) (key : Bool) → 7 < protection → permission protection key ≡ Permission.Nothing
unfolding permission rows
past_rows protection key past =
    rw (
      ne_eqb 0 protection (λ e. omega arith),
      ne_eqb 1 protection (λ e. omega arith),
      ne_eqb 2 protection (λ e. omega arith),
      ne_eqb 3 protection (λ e. omega arith),
      ne_eqb 6 protection (λ e. omega arith),
    ) refl

pub nothing_past :
    (protection : ℕ) (key : Bool) → 7 < protection → 0 ≡ protection_rights protection key
nothing_past protection key past = rw (past_rows protection key past) refl
