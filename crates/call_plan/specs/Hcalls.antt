-- Which plan each hypervisor call on entries has, by its words.
use Rattle.std.specs.Prelude.{ℕ, List, slice_index, Option, Some, None}
use Rattle.papr_codes.specs.declared.calls.Hcall.{Hcall}
use Rattle.papr_codes.specs.declared.calls.Hcall.TheVariants.{Remove, Enter, Read, ClearMod, ClearRef, Protect, BulkRemove}
use Rattle.frame_grants.specs.declared.grant.Grant.{Grant}
use Rattle.papr_codes.specs.declared.codes.Rc.TheVariants.{Function}
use Rattle.entry_model.specs.Trial.{Plan, plan_of_code}
use Rattle.call_plan.specs.Checks.{h_enter_plan}
use Rattle.call_plan.specs.Single.{h_read_plan, h_remove_plan, h_protect_plan, h_clear_ref_plan, h_clear_mod_plan}
use Rattle.call_plan.specs.Bulk.{h_bulk_remove_plan}

-- The plan of a call on entries of a table of 2 ^ order bytes, under these grants, with its words;
-- of another call there is none.
abbrev pub plan_of_hcall : ℕ → List Grant → List ℕ → Hcall → Option Plan
plan_of_hcall order grants ws Enter =
    Some
    (h_enter_plan order grants (slice_index ws 0) (slice_index ws 1) (slice_index ws 2)
    (slice_index ws 3))
plan_of_hcall order grants ws Remove =
    Some (h_remove_plan order (slice_index ws 0) (slice_index ws 1) (slice_index ws 2))
plan_of_hcall order grants ws Protect =
    Some (h_protect_plan order (slice_index ws 0) (slice_index ws 1) (slice_index ws 2))
plan_of_hcall order grants ws Read = Some (h_read_plan order (slice_index ws 0) (slice_index ws 1))
plan_of_hcall order grants ws ClearRef = Some (h_clear_ref_plan order (slice_index ws 1))
plan_of_hcall order grants ws ClearMod = Some (h_clear_mod_plan order (slice_index ws 1))
plan_of_hcall order grants ws BulkRemove = Some (h_bulk_remove_plan order ws)
plan_of_hcall order grants ws other = None

-- The plan, or that of a call that there isn't.
abbrev pub or_function : Option Plan → Plan
or_function None = plan_of_code Function
or_function (Some plan) = plan

-- The plan of a call by its number: any that isn't one on entries is answered H_FUNCTION here.
abbrev pub entries_plan : ℕ → List Grant → Hcall → List ℕ → Plan
entries_plan order grants hcall ws = or_function (plan_of_hcall order grants ws hcall)
