-- The operations of H_PUT_TCE.
use Rattle.std.specs.Prelude.{◌||◌, if◌then◌else◌}
use Rattle.std.proofs.Common.{◌≡◌, ℕ, inl, inr, List, Bool, true, false, Option, Some, None, refl}
use Rattle.std.specs.List.{AllByRecursion}
use Rattle.std.specs.Option.{option_map_or}
use Rattle.frame_grants.specs.declared.grant.Grant.{Grant}
use Rattle.papr_codes.specs.declared.codes.Rc.TheVariants as rc
use Rattle.entry_model.specs.declared.operation.Op.TheVariants.{Enter}
use Rattle.entry_model.specs.Trial.{Call, Plan, plan_of_code}
use Rattle.bus_window.specs.Windows.{BusWindow, entry_at}
use Rattle.dma_window.specs.Pages.{is_ram}
use Rattle.dma_window.specs.Entries.{address_of, permits, first_word, second_word}
use Rattle.dma_window.specs.Calls.{clear_plan, replace_plan, put_plan_at, put_tce_plan}
use Rattle.dma_window.specs.Laws.{IsTceCall}

abbrev AreTceCalls : List Grant → ℕ → Plan → Type 0
AreTceCalls grants tce plan = AllByRecursion (λ (c : Call). IsTceCall grants tce c.op) plan.calls

put_calls :
    (grants : List Grant) (tce entry : ℕ) (permitted ram : Bool)
    → is_ram grants (address_of tce) ≡ ram
    → AreTceCalls grants tce
    (if permitted then
    (if ram then replace_plan entry (Enter (first_word tce) (second_word tce)) else
    plan_of_code rc.Parameter) else clear_plan entry)
put_calls grants tce entry true true page = (inl refl, (inr (refl, page), tt))
put_calls grants tce entry true false page = tt
put_calls grants tce entry false ram page = (inl refl, tt)

at_calls :
    (grants : List Grant) (tce : ℕ) (entry : Option ℕ)
    → AreTceCalls grants tce
    (option_map_or (put_plan_at grants tce) entry (plan_of_code rc.Parameter))
at_calls grants tce None = tt
at_calls grants tce (Some entry) =
    put_calls grants tce entry (permits tce false || permits tce true)
    (is_ram grants (address_of tce)) refl

pub tce_calls :
    (grants : List Grant) (window : BusWindow) (ioba tce : ℕ)
    → AllByRecursion (λ (c : Call). IsTceCall grants tce c.op)
    (put_tce_plan grants window ioba tce).calls
unfolding put_tce_plan
tce_calls grants window ioba tce = at_calls grants tce (entry_at window ioba)
