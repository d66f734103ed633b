-- Leaves that are held: a further one has another place, and taking it keeps them.
use Rattle.std.proofs.Common.{◌≡◌, ◌≢◌, ℕ, false, All, Contains, Option, IfSome, IfNone, List, arith}
use Rattle.std.proofs.lemmas.Bool.Decides.{nat_tests}
use Rattle.std.proofs.lemmas.List.Elements.{All-contains}
use Rattle.hpt_pool.specs.Pool.{Block, PoolState, block_at, overlap, with_block, IsLowest}
use Rattle.hpt_pool.proofs.Kept.{take_keeps}
use Rattle.hpt_pool.proofs.Placing.{fits_in}

-- At each of these places a leaf of 2 ^ 18 bytes is taken.
abbrev pub AreHeld : PoolState → List ℕ → Type 0
AreHeld pool_state places = All (λ place. Contains pool_state.taken (block_at place 18)) places

pub other_place :
    (pool_state : PoolState) (place held : ℕ)
    → IsLowest pool_state 18 place
    → Contains pool_state.taken (block_at held 18)
    → held ≢ place
other_place pool_state place held lowest here same =
    let fit = fits_in pool_state 18 place (omega arith) lowest.fitting in
    let apart = All-contains (λ (other : Block). overlap (block_at place 18) other ≡ false)
    pool_state.taken (block_at held 18) fit.apart here in
    grind (arith, nat_tests, apart, same)

pub held_still :
    (old new : PoolState) (answer : Option ℕ) (places : List ℕ)
    → IfSome answer (λ place. new ≡ with_block old (block_at place 18))
    → IfNone answer (new ≡ old)
    → AreHeld old places
    → AreHeld new places
held_still old new answer places made same held k d inside =
    take_keeps old new 18 answer _ made same (held k d inside)
