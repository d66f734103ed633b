-- Two ranges that are not empty meet exactly if some address lies in both.
use Rattle.std.proofs.Common.{◌≡◌, ℕ, ◌+◌, ◌<◌, Bool, true, false, max, IsTrue, ◌↔◌, refl, sym, arith, length}
use Rattle.std.proofs.lemmas.Bool.Decides.{nat_tests}
use Rattle.frame_grants.specs.Ranges.{ShareAddress, ranges_meet}

pub meet_from_shared :
    (start length other other_length : ℕ)
    → ShareAddress start length other other_length
    → ranges_meet start length other other_length ≡ true
meet_from_shared start length other other_length (address, one, two) =
    grind (arith, nat_tests, one.from_start, one.before_end, two.from_start, two.before_end)

-- The higher of the two starts lies in both.
pub shared_from_meet :
    (start length other other_length : ℕ)
    → 0 < length
    → 0 < other_length
    → ranges_meet start length other other_length ≡ true
    → ShareAddress start length other other_length
shared_from_meet start length other other_length some others meet =
    let below : start < other + other_length = grind (arith, nat_tests, meet) in
    let above : other < start + length = grind (arith, nat_tests, meet) in (
      max start other,
      record { from_start = omega arith; before_end = omega arith },
      record { from_start = omega arith; before_end = omega arith },
    )

-- So an answer that is `ranges_meet` says whether they share an address.
pub meet_law :
    (answer : Bool) (start length other other_length : ℕ)
    → answer ≡ ranges_meet start length other other_length
    → 0 < length
    → 0 < other_length
    → IsTrue answer ↔ ShareAddress start length other other_length
meet_law true start length other other_length is some others =
    (λ _. shared_from_meet start length other other_length some others (sym is), λ _. refl)
meet_law false start length other other_length is some others = (
  λ no.
      absurd (cc),
  λ shared. let meet = meet_from_shared start length other other_length shared in cc,
)
