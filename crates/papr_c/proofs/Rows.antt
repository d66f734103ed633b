-- Worked values of the definitions, which the checker computes.
use Rattle.std.proofs.Common.{◌≡◌, ℕ, [], ◌∷◌, true, false, Some, refl, replicate}
use Rattle.entry_model.specs.State.{empty_state}
use Rattle.call_plan.specs.Single.{h_remove_plan}
use Rattle.pool_range.specs.Ranges.{range_refusal}
use Rattle.frame_grants.specs.Grants.{add_refusal, refusals, with_grant}
use Rattle.frame_grants.specs.declared.grant.Kind.TheVariants.{Io}
use Rattle.c_layout.specs.declared.grants.PaprGrant.{PaprGrant}
use Rattle.papr_c.specs.Calls.{memory, outcome_of_call}
use Rattle.c_layout.specs.Replies.{refused_reply}
use Rattle.papr_c.specs.Grants.{making_of, making_told, range_told}

-- ---- tables
-- Eight entries are no table of order 18: H_PARAMETER, and nothing changes.
eight :
    outcome_of_call 18 (h_remove_plan 18 0 0 0) (memory (replicate 8 (empty_state 0)) (5 ∷ []) [])
    ≡ (refused_reply, memory (replicate 8 (empty_state 0)) (5 ∷ []) [])
eight = refl

-- ---- grants
grant : ℕ → ℕ → ℕ → PaprGrant
grant logical machine length =
    record { logical = logical; machine = machine; length = length; is_io = false }

-- The second of these isn't aligned.
unaligned :
    making_told
    (making_of 0x1000000000 24
    (grant 0 0x2000000000 0x1000 ∷ grant 0x1800 0x2000010000 0x1000 ∷ []))
    ≡ record { index = 1; refusal = 2 }
unfolding grant making_of range_refusal add_refusal refusals with_grant
unaligned = refl

-- A pool of 2 ^ 17 bytes is none.
small_pool : making_told (making_of 0x1000000000 17 []) ≡ record { index = 0; refusal = 7 }
unfolding making_of range_refusal
small_pool = refl

device : range_told (Some (0x20, Io)) ≡ record { machine = 0x20; granted = true; is_io = true }
device = refl
