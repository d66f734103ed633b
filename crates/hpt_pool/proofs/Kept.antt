-- Which blocks are taken after a call.
use Rattle.std.proofs.Common.{◌≡◌, ℕ, zero, suc, ◌==◌, Bool, true, false, not, List, [], ◌∷◌, ◌++◌, filter, Contains, Option, Some, None, IfSome, IfNone, refl, sym, ap, subst, inl, inr, ◌⊎◌, arith}
use Rattle.std.proofs.lemmas.Bool.{cases_Bool, ne_eqb}
use Rattle.std.proofs.lemmas.List.Elements.{Contains-append_left, Contains-append_right}
use Rattle.hpt_pool.specs.Pool.{Block, PoolState, block_at, begins_below, taken_with, taken_without, with_block, without_block}

pub contains_more : {X : Type 0} (x y : X) (xs : List X) → Contains xs y → Contains (x ∷ xs) y
contains_more x y xs (k, inside, is) = (suc k, omega arith, is)

-- An element that passes is kept.
pub Contains-filter :
    {X : Type 0} (p : X → Bool) (xs : List X) (x : X)
    → p x ≡ true
    → Contains xs x
    → Contains (filter p xs) x
Contains-filter p [] x passes (k, inside, is) = absurd (omega arith)
Contains-filter {X} p (y ∷ ys) x passes (zero, inside, is) =
    let here : p y ≡ true = subst (λ (z : X). p z ≡ true) (sym is) passes in
    rw here (0, omega arith, is)
Contains-filter {X} p (y ∷ ys) x passes (suc k, inside, is) =
    at (Contains-filter p ys x passes (k, omega arith, is)) (cases_Bool (p y)) where
      at : Contains (filter p ys) x → (p y ≡ true) ⊎ (p y ≡ false) → Contains (filter p (y ∷ ys)) x
      at later (inl kept) = rw kept (contains_more y x (filter p ys) later)
      at later (inr dropped) = rw dropped later

pub with_contains : (taken : List Block) (block : Block) → Contains (taken_with taken block) block
unfolding taken_with
with_contains taken block =
    Contains-append_right (filter (begins_below block) taken)
    (block ∷ filter (λ other. not (begins_below block other)) taken) block
    (0, omega arith, refl)

pub with_keeps :
    (taken : List Block) (block kept : Block)
    → Contains taken kept
    → Contains (taken_with taken block) kept
unfolding taken_with
with_keeps taken block kept here = at (cases_Bool (begins_below block kept)) where
  at :
      (begins_below block kept ≡ true) ⊎ (begins_below block kept ≡ false)
      → Contains
      (filter (begins_below block) taken
      ++ block
      ∷ filter (λ other. not (begins_below block other)) taken) kept
  at (inl below) =
      Contains-append_left (filter (begins_below block) taken)
      (block ∷ filter (λ other. not (begins_below block other)) taken) kept
      (Contains-filter (begins_below block) taken kept below here)
  at (inr above) =
      Contains-append_right (filter (begins_below block) taken)
      (block ∷ filter (λ other. not (begins_below block other)) taken) kept
      (contains_more block kept (filter (λ other. not (begins_below block other)) taken)
      (Contains-filter (λ other. not (begins_below block other)) taken kept (ap not above)
      here))

pub without_keeps :
    (taken : List Block) (place : ℕ) (kept : Block)
    → (kept.place ≡ place → ⊥)
    → Contains taken kept
    → Contains (taken_without taken place) kept
unfolding taken_without
without_keeps taken place kept other here =
    Contains-filter (λ block. not (block.place == place)) taken kept
    (ap not (ne_eqb kept.place place other)) here

-- ---- after `take` and `give`, by their clauses
pub take_holds :
    (old new : PoolState) (order place : ℕ)
    → new ≡ with_block old (block_at place order)
    → Contains new.taken (block_at place order)
take_holds old new order place made =
    subst (λ (p : PoolState). Contains p.taken (block_at place order)) (sym made)
    (with_contains old.taken (block_at place order))

pub take_keeps :
    (old new : PoolState) (order : ℕ) (answer : Option ℕ) (kept : Block)
    → IfSome answer (λ place. new ≡ with_block old (block_at place order))
    → IfNone answer (new ≡ old)
    → Contains old.taken kept
    → Contains new.taken kept
take_keeps old new order (Some place) kept made same here =
    subst (λ (p : PoolState). Contains p.taken kept) (sym made)
    (with_keeps old.taken (block_at place order) kept here)
take_keeps old new order None kept made same here =
    subst (λ (p : PoolState). Contains p.taken kept) (sym same) here

pub give_keeps :
    (old new : PoolState) (place : ℕ) (kept : Block)
    → new ≡ without_block old place
    → (kept.place ≡ place → ⊥)
    → Contains old.taken kept
    → Contains new.taken kept
give_keeps old new place kept made other here =
    subst (λ (p : PoolState). Contains p.taken kept) (sym made)
    (without_keeps old.taken place kept other here)
