-- A hypervisor call that C makes by its number, with its words as in registers 4 to 11.
use Rattle.std.specs.Prelude.{ℕ, Bool, false, List, [], Option, Some, None, is_some}
use Rattle.papr_codes.specs.ReturnCodes.{rc_code}
use Rattle.papr_codes.specs.declared.calls.Hcall.{Hcall}
use Rattle.papr_codes.specs.declared.codes.Rc.TheVariants.{Function}
use Rattle.papr_codes.specs.Hcalls.{hcall_of}
use Rattle.frame_grants.specs.declared.grant.Grant.{Grant}
use Rattle.entry_model.specs.Trial.{Plan}
use Rattle.c_layout.specs.declared.reply.PaprReply.{PaprReply}
use Rattle.call_plan.specs.Hcalls.{plan_of_hcall}
use Rattle.papr_c.specs.Calls.{LentMemory, outcome_of_call}

-- H_FUNCTION, and no place filled.
abbrev pub function_reply : PaprReply
function_reply = record { rc = rc_code Function; words = 0; receipts = 0; stale = false }

-- The outcome of a call by its plan. Without a plan it answers H_FUNCTION, and nothing changes.
abbrev pub outcome_by_plan : ℕ → LentMemory → Option Plan → PaprReply × LentMemory
outcome_by_plan order m None = (function_reply, m)
outcome_by_plan order m (Some plan) = outcome_of_call order plan m

-- The call with this number, whose words are the slots for those that it gives.
abbrev pub outcome_of_hcall : ℕ → List Grant → ℕ → LentMemory → PaprReply × LentMemory
outcome_of_hcall order grants number m =
    outcome_by_plan order m (plan_of_hcall order grants m.words (hcall_of number))

-- Whether a call is one on entries: whether it has a plan, whatever the table and its words are.
abbrev pub is_on_entries : Hcall → Bool
is_on_entries hcall = is_some (plan_of_hcall 0 [] [] hcall)
