-- What holds of the plan of every call on entries, by its number.
use Rattle.std.specs.Prelude.{slice_index}
use Rattle.std.proofs.Common.{◌≡◌, ℕ, ◌-◌, ◌^◌, ◌≤◌, List, Some}
use Rattle.hpte_fields.specs.TableSize.{least_order}
use Rattle.papr_codes.specs.declared.calls.Hcall.{Hcall}
use Rattle.frame_grants.specs.declared.grant.Grant.{Grant}
use Rattle.page_grants.specs.Suited.{entered_words}
use Rattle.entry_model.proofs.PlanBounds.{IsTame, answered_tame}
use Rattle.entry_model.proofs.Trials.{Within}
use Rattle.call_plan.specs.Hcalls.{entries_plan}
use Rattle.call_plan.proofs.EnterInTable.{h_enter_within}
use Rattle.call_plan.proofs.InTable.{h_remove_within, h_protect_within, h_read_within, h_clear_ref_within, h_clear_mod_within, h_bulk_remove_within}
use Rattle.call_plan.proofs.Suited.{h_enter_tame}
use Rattle.call_plan.proofs.Tame.{h_remove_tame, h_protect_tame, h_read_tame, h_clear_ref_tame, h_clear_mod_tame, h_bulk_remove_tame}
use Rattle.papr_codes.specs.declared.calls.Hcall.TheVariants as calls
use Rattle.papr_codes.specs.declared.codes.Rc.TheVariants as rc

-- It enters only words that H_ENTER stores, raises few stamps, and gives H_HARDWARE only where an
-- entry was worn.
pub each_tame :
    (W : ℕ → ℕ → Type 0) (order : ℕ) (grants : List Grant) (hcall : Hcall) (ws : List ℕ)
    → ((pteh ptel : ℕ) (w : ℕ × ℕ) → entered_words grants pteh ptel ≡ Some w → W w.0 w.1)
    → IsTame W (entries_plan order grants hcall ws)
each_tame W order grants calls.Enter ws stored =
    h_enter_tame W order grants _ _ _ _
    (stored (slice_index ws 2) (slice_index ws 3))
each_tame W order grants calls.Remove ws stored = h_remove_tame W order _ _ _
each_tame W order grants calls.Protect ws stored = h_protect_tame W order _ _ _
each_tame W order grants calls.Read ws stored = h_read_tame W order _ _
each_tame W order grants calls.ClearRef ws stored = h_clear_ref_tame W order _
each_tame W order grants calls.ClearMod ws stored = h_clear_mod_tame W order _
each_tame W order grants calls.BulkRemove ws stored = h_bulk_remove_tame W order ws
each_tame W order grants other ws stored = answered_tame W rc.Function (λ e. cc)

-- The operations of a call's plan are on entries of the table.
pub each_within :
    (order : ℕ) (grants : List Grant) (hcall : Hcall) (ws : List ℕ)
    → least_order ≤ order
    → Within (2 ^ (order - 4)) (entries_plan order grants hcall ws).calls
each_within order grants calls.Enter ws low = h_enter_within order grants _ _ _ _ low
each_within order grants calls.Remove ws low = h_remove_within order _ _ _ low
each_within order grants calls.Protect ws low = h_protect_within order _ _ _ low
each_within order grants calls.Read ws low = h_read_within order _ _ low
each_within order grants calls.ClearRef ws low = h_clear_ref_within order _ low
each_within order grants calls.ClearMod ws low = h_clear_mod_within order _ low
each_within order grants calls.BulkRemove ws low = h_bulk_remove_within order ws low
each_within order grants other ws low = tt
