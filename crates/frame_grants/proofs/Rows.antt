-- Worked values, which the checker computes.
use Rattle.std.proofs.Common.{◌≡◌, ℕ, List, [], ◌∷◌, Some, None, refl, length}
use Rattle.frame_grants.specs.declared.error.GrantError.TheVariants.{Empty, Unaligned, Past, Overlap, PoolOverlap}
use Rattle.frame_grants.specs.declared.grant.Grant.{Grant}
use Rattle.frame_grants.specs.declared.grant.Kind.TheVariants.{Ram}
use Rattle.frame_grants.specs.Grants.{GrantedMemory, no_grants, refusals, add_refusal, with_grant, machine_range}

ram : ℕ → ℕ → ℕ → Grant
ram logical machine length =
    record { logical = logical; machine = machine; length = length; kind = Ram }

-- Two grants side by side.
two : List Grant
two = ram 0 0x2000000000 0x1f000 ∷ ram 0x1f000 0x200001f000 0x1000 ∷ []

pool : GrantedMemory
pool = no_grants 0x1000000000 24

-- ---- ranges
across : machine_range two 0x10000 0x10000 ≡ None
unfolding machine_range two ram
across = refl

in_first : machine_range two 0x11000 0x1000 ≡ Some (0x2000011000, Ram)
unfolding machine_range two ram
in_first = refl

whole_second : machine_range two 0x1f000 0x1000 ≡ Some (0x200001f000, Ram)
unfolding machine_range two ram
whole_second = refl

past_second : machine_range two 0x1f000 0x1001 ≡ None
unfolding machine_range two ram
past_second = refl

no_byte : machine_range two 0x11000 0 ≡ None
unfolding machine_range two ram
no_byte = refl

-- ---- refusals, and their order
fine : add_refusal pool (ram 0 0x2000000000 0x1f000) ≡ None
unfolding add_refusal refusals pool ram
fine = refl

empty_first : add_refusal pool (ram 1 0x1000000000 0) ≡ Some Empty
unfolding add_refusal refusals pool ram
empty_first = refl

unaligned_first : add_refusal pool (ram 1 0x1000000000 0x2000000000000000) ≡ Some Unaligned
unfolding add_refusal refusals pool ram
unaligned_first = refl

past_first : add_refusal pool (ram 0 0x1000000000 0x1000000000001000) ≡ Some Past
unfolding add_refusal refusals pool ram
past_first = refl

-- A range may end at 2 ^ 60.
to_the_top : add_refusal pool (ram 0xffffffffffff000 0x2000000000 0x1000) ≡ None
unfolding add_refusal refusals pool ram
to_the_top = refl

overlap_first :
    add_refusal (with_grant pool (ram 0 0x2000000000 0x1000)) (ram 0 0x1000000000 0x1000)
    ≡ Some Overlap
unfolding add_refusal refusals with_grant pool ram
overlap_first = refl

machine_overlap :
    add_refusal (with_grant pool (ram 0 0x2000000000 0x2000)) (ram 0x2000 0x2000001000 0x1000)
    ≡ Some Overlap
unfolding add_refusal refusals with_grant pool ram
machine_overlap = refl

last_of_pool : add_refusal pool (ram 0 0x1000fff000 0x1000) ≡ Some PoolOverlap
unfolding add_refusal refusals pool ram
last_of_pool = refl

past_pool : add_refusal pool (ram 0 0x1001000000 0x1000) ≡ None
unfolding add_refusal refusals pool ram
past_pool = refl

-- ---- the order of the list
in_order :
    (with_grant
    (with_grant (with_grant pool (ram 0x5000 0x2000005000 0x1000))
    (ram 0x9000 0x2000009000 0x1000)) (ram 0x7000 0x2000007000 0x1000)).grants
    ≡ ram 0x5000 0x2000005000 0x1000
    ∷ ram 0x7000 0x2000007000 0x1000
    ∷ ram 0x9000 0x2000009000 0x1000
    ∷ []
unfolding with_grant pool ram
in_order = refl
