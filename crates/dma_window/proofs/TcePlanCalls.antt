-- The calls of a plan on a window, and the code that the last of their receipts gives.
use Rattle.std.proofs.Common.{◌≡◌, ℕ, zero, suc, ◌-◌, ◌^◌, ◌<◌, ◌≤◌, List, [], ◌∷◌, length, get_or, refl, arith}
use Rattle.std.proofs.Math.Pow.{pow_mono}
use Rattle.hpte_fields.specs.TableSize.{entry_count, least_order}
use Rattle.entry_model.specs.declared.receipt.Receipt.{Receipt}
use Rattle.entry_model.specs.Calls.{AreCallsIn}
use Rattle.dma_window.specs.Calls.{code_of, code_by_last}
use Rattle.dma_window.specs.TcePlans.{plan_of, FitsWindow}
use Rattle.dma_window.specs.declared.tce_plan.TcePlan.{TcePlan}
use Rattle.dma_window.specs.declared.tce_plan.TcePlan.TheVariants.{Code, Reads, Empties, Replaces}

-- The least table has 2 ^ 14 entries.
pub in_least : (entry order : ℕ) → entry < 2 ^ 14 → least_order ≤ order → entry < entry_count order
in_least entry order small low =
    let least : 2 ^ 14 ≤ 2 ^ (order - 4) = pow_mono {i = 14} {j = order - 4} (omega arith) in
    omega arith

pub tce_calls_in :
    (order : ℕ) (plan : TcePlan)
    → least_order ≤ order
    → FitsWindow plan
    → AreCallsIn order (plan_of plan).calls
tce_calls_in order (Code rc) low fits = record { in_table = tt; normal = tt; few = omega arith }
tce_calls_in order (Reads entry) low fits =
    record { in_table = (in_least entry order fits low, tt); normal = (tt, tt); few = omega arith }
tce_calls_in order (Empties entry) low fits =
    record { in_table = (in_least entry order fits low, tt); normal = (tt, tt); few = omega arith }
tce_calls_in order (Replaces entry op) low fits =
    let inside = in_least entry order fits.0 low in
    record {
      in_table = (inside, (inside, tt));
      normal = (tt, (fits.1, tt));
      few = omega arith;
    }

pub last_tells :
    (rs : List Receipt) (i : ℕ) (none : Receipt)
    → suc i ≡ length rs
    → code_of (get_or rs i none).answer ≡ code_by_last rs
last_tells [] i none last = absurd (omega (arith, last))
last_tells (r ∷ []) zero none last = refl
last_tells (r ∷ []) (suc i) none last = absurd (omega (arith, last))
last_tells (r ∷ x ∷ rs) zero none last = absurd (omega (arith, last))
last_tells (r ∷ x ∷ rs) (suc i) none last = last_tells (x ∷ rs) i none (omega (arith, last))
