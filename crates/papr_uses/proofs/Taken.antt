-- The taken blocks of a pool after a block is taken, and after it is given back.
use Rattle.std.proofs.Common.{◌≡◌, ℕ, suc, ◌<◌, ◌≤◌, ◌+◌, ◌^◌, ◌==◌, Bool, true, false, not, List, [], ◌∷◌, ◌++◌, length, get_or, filter, All, AllPairs, Contains, refl, sym, ap, ◌∙◌, subst, inl, inr, ◌⊎◌, arith}
use Rattle.std.specs.List.{list_any}
use Rattle.std.proofs.lemmas.Bool.{cases_Bool, cases_lt, lt-ltb, le-ltb, eq-eqb, ne_eqb, and_from, and_parts, not-true}
use Rattle.std.proofs.lemmas.Nat.{pow_pos}
use Rattle.std.proofs.lemmas.List.Elements.{All-head, All-tail, All-contains_itself, All-weaker, All-filter, filter-append, All-contains}
use Rattle.std.proofs.lemmas.List.Folds.{list_any_at}
use Rattle.hpt_pool.proofs.Placing.{apart_places, fits_apart, parts_join}
use Rattle.hpt_pool.specs.Pool.{Block, PoolState, block_at, begins_below, fits, overlap, taken_with, taken_without, with_block, without_block, IsLowest, IsSound, AreApart}
use Rattle.basics.proofs.Lists.{filter_none, filter_all}

-- ---- the blocks
abbrev not_below : Block → Block → Bool
not_below block other = not (begins_below block other)

given_back :
    (pool : PoolState) (block : Block)
    → AreApart pool
    → All (λ (other : Block). overlap block other ≡ false) pool.taken
    → taken_without (taken_with pool.taken block) block.place ≡ pool.taken
unfolding taken_with taken_without
given_back pool block sound apart =
    let p : Block → Bool = λ (b : Block). not (b.place == block.place) in
    let stays : All (λ (b : Block). p b ≡ true) pool.taken =
    All-weaker (λ (other : Block). overlap block other ≡ false) (λ (b : Block). p b ≡ true)
    (λ b clear.
    ap not (ne_eqb b.place block.place (λ same. apart_places block b clear (sym same)))) pool.taken
    apart in
    let goes : p block ≡ false = ap not (eq-eqb block.place block.place refl) in
    let front = filter (begins_below block) pool.taken in
    let rest = filter (not_below block) pool.taken in
    let low : filter p front ≡ front =
    filter_all p front
    (All-filter (begins_below block) (λ (b : Block). p b ≡ true) pool.taken stays) in
    let high : filter p rest ≡ rest =
    filter_all p rest (All-filter (not_below block) (λ (b : Block). p b ≡ true) pool.taken stays)
    in
    let behind : filter p (block ∷ rest) ≡ rest = rw goes high in
    filter-append p front (block ∷ rest) ∙ rw (low, behind) (parts_join pool block sound)

-- A pool to which the block is given back that was taken from it.
pub same_again :
    (pool : PoolState) (order place : ℕ)
    → IsSound pool
    → IsLowest pool order place
    → without_block (with_block pool (block_at place order)) place ≡ pool
same_again pool order place sound lowest =
    ap (λ (taken : List Block). record pool { taken = taken })
    (given_back pool (block_at place order) sound.blocks
    (fits_apart pool order place lowest.fitting))

-- A block that was taken overlaps none that was there.
pub taken_apart :
    (pool : PoolState) (order place : ℕ) (other : Block)
    → IsLowest pool order place
    → Contains pool.taken other
    → overlap (block_at place order) other ≡ false
taken_apart pool order place other lowest here =
    All-contains (λ (b : Block). overlap (block_at place order) b ≡ false) pool.taken other
    (fits_apart pool order place lowest.fitting) here
