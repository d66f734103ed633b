-- Where one address of a logical range that lies in a grant lands.
use Rattle.std.specs.Prelude.{option_map}
use Rattle.std.proofs.Common.{◌≡◌, ℕ, ◌+◌, ◌<◌, ◌≤◌, ◌^◌, ◌==◌, true, false, List, find, Option, Some, None, refl, sym, ap, ◌∙◌, arith, length}
use Rattle.std.proofs.lemmas.Bool.Decides.{nat_tests}
use Rattle.std.proofs.lemmas.List.Elements.{All-contains}
use Rattle.frame_grants.specs.declared.grant.Grant.{Grant}
use Rattle.frame_grants.specs.declared.grant.Kind.{Kind}
use Rattle.frame_grants.specs.Ranges.{ranges_meet}
use Rattle.frame_grants.specs.Grants.{GrantedMemory, AreApart, holds, machine_at, machine_range}
use Rattle.basics.proofs.Lists.{find-Some, find-None}
use Rattle.frame_grants.proofs.Holding.{found_of, machine_range-off_pool}

pub part_held :
    (logical length part : ℕ) (grant : Grant)
    → holds logical length grant ≡ true
    → logical ≤ part
    → part + 1 ≤ logical + length
    → holds part 1 grant ≡ true
part_held logical length part grant whole low high = grind (arith, nat_tests, whole, low, high)

-- Each address of a range that has a machine range has one itself.
pub part_range :
    (grants : List Grant) (logical length part : ℕ) (found : ℕ × Kind)
    → machine_range grants logical length ≡ Some found
    → logical ≤ part
    → part + 1 ≤ logical + length
    → (x : ℕ × Kind) × (machine_range grants part 1 ≡ Some x)
unfolding machine_range
part_range grants logical length part found some low high =
    at (find (holds part 1) grants) refl where
      at :
          (o : Option Grant)
          → find (holds part 1) grants ≡ o
          → (x : ℕ × Kind) × (option_map (machine_at part) (find (holds part 1) grants) ≡ Some x)
      at (Some grant) e = (machine_at part grant, ap (option_map (machine_at part)) e)
      at None e =
          let (has_bytes, (grant, is, there)) = found_of (length == 0)
          (find (holds logical length) grants) (machine_at logical) found some in
          let (whole, here) = find-Some (holds logical length) grants grant is in
          let held : holds part 1 grant ≡ true = part_held logical length part grant whole low high
          in
          let off :
          holds part 1 grant ≡ false = All-contains (λ g. holds part 1 g ≡ false) grants grant
          (find-None (holds part 1) grants e) here in
          absurd (let no : true ≡ false = sym held ∙ off in cc)

one_off :
    (address base size : ℕ)
    → ranges_meet address 1 base size ≡ false
    → base ≤ address
    → address < base + size
    → ⊥
one_off address base size off low high = grind (arith, nat_tests, off, low, high)

-- The machine address of a logical one is none of the pool's.
pub lands_off_pool :
    (granted : GrantedMemory) (logical : ℕ) (found : ℕ × Kind)
    → AreApart granted
    → machine_range granted.grants logical 1 ≡ Some found
    → granted.pool_base ≤ found.0
    → found.0 < granted.pool_base + 2 ^ granted.pool_order
    → ⊥
lands_off_pool granted logical found apart some low high =
    one_off found.0 granted.pool_base (2 ^ granted.pool_order)
    (machine_range-off_pool granted logical 1 found apart some) low high
