use Rattle.std.proofs.Common.{◌≡◌, ◌<◌, false, ℕ}
use Rattle.std.specs.Prelude.{is_err}
use Rattle.c_layout.specs.Grants.{listed}
use Rattle.papr_c.specs.Transfers.{entry_of_bytes}
use Rattle.papr_c.proofs.importing.first_refused.Given as goal

abbrev pub invariant-loop-i : goal.invariant-loop-i
invariant-loop-i l =
    let grants = listed l.grants.grants l.grants.count in
    (k : ℕ) → k < l.i → is_err (entry_of_bytes grants l.layout l.bytes k) ≡ false
