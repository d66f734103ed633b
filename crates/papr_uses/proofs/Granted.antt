-- Grants of which one was added last.
use Rattle.std.proofs.Common.{◌≡◌, ℕ, ◌<◌, ◌≤◌, ◌+◌, ◌-◌, ◌&&◌, Bool, true, false, not, List, [], ◌∷◌, ◌++◌, filter, find, option_map, nat_lt, Some, None, refl, sym, ap, ◌∙◌, inl, inr, ◌⊎◌, arith}
use Rattle.basics.specs.Words.{first_refusal}
use Rattle.std.specs.List.{list_any}
use Rattle.std.proofs.lemmas.Bool.{cases_Bool, and_from, and_parts, or_parts, ltb-false, lt-ltb, le-leb, leb-true}
use Rattle.frame_grants.proofs.Accepting.{IsAccepted}
use Rattle.frame_grants.specs.declared.error.GrantError.{GrantError}
use Rattle.frame_grants.specs.declared.grant.Grant.{Grant}
use Rattle.frame_grants.specs.Grants.{GrantedMemory, add_refusal, refusals, holds, machine_at, machine_range, overlaps, starts_below, with_grant}
use Rattle.pool_range.specs.Ranges.{address_end}

-- Another grant that holds one of its bytes overlaps it.
held_overlaps :
    (grant other : Grant) (offset : ℕ)
    → offset < grant.length
    → holds (grant.logical + offset) 1 other ≡ true
    → overlaps grant other ≡ true
held_overlaps grant other offset within held =
    let from : other.logical ≤ grant.logical + offset = leb-true _ _ (and_parts _ _ held).0 in
    let to : grant.logical + offset + 1 ≤ other.logical + other.length = leb-true _ _
    (and_parts _ _ held).1 in
    let meets :
    (nat_lt grant.logical (other.logical + other.length) && nat_lt other.logical
    (grant.logical + grant.length)) ≡ true = and_from _ _
    (lt-ltb grant.logical (other.logical + other.length) (omega arith))
    (lt-ltb other.logical (grant.logical + grant.length) (omega arith)) in
    rw meets refl

-- Where no other grant overlaps this one none of them holds one of its bytes, whichever are kept.
none_holds :
    (grant : Grant) (offset : ℕ) (p : Grant → Bool) (others : List Grant)
    → offset < grant.length
    → list_any (overlaps grant) others ≡ false
    → find (holds (grant.logical + offset) 1) (filter p others) ≡ None
none_holds grant offset p [] within apart = refl
none_holds grant offset p (other ∷ others) within apart =
    at (none_holds grant offset p others within (or_parts _ _ apart).1) (cases_Bool (p other))
    (cases_Bool (holds (grant.logical + offset) 1 other)) where
      at :
          find (holds (grant.logical + offset) 1) (filter p others) ≡ None
          → (p other ≡ true) ⊎ (p other ≡ false)
          → (holds (grant.logical + offset) 1 other ≡ true)
          ⊎ (holds (grant.logical + offset) 1 other ≡ false)
          → find (holds (grant.logical + offset) 1) (filter p (other ∷ others)) ≡ None
      at later kept (inl held) =
          let meets : overlaps grant other ≡ true = held_overlaps grant other offset within held in
          let differs : overlaps grant other ≡ false = (or_parts _ _ apart).0 in
          let wrong : true ≡ false = sym meets ∙ differs in
          absurd (cc)
      at later (inl kept) (inr passed) = rw (kept, passed) later
      at later (inr dropped) (inr passed) = rw dropped later

-- After grants none of which passes the first that does is found.
find_behind :
    (p : Grant → Bool) (xs : List Grant) (grant : Grant) (ys : List Grant)
    → find p xs ≡ None
    → p grant ≡ true
    → find p (xs ++ grant ∷ ys) ≡ Some grant
find_behind p [] grant ys none passes = rw passes refl
find_behind p (x ∷ xs) grant ys none passes =
    at (find_behind p xs grant ys) (cases_Bool (p x)) where
      at :
          (find p xs ≡ None → p grant ≡ true → find p (xs ++ grant ∷ ys) ≡ Some grant)
          → (p x ≡ true) ⊎ (p x ≡ false)
          → find p (x ∷ (xs ++ grant ∷ ys)) ≡ Some grant
      at later (inl here) = let wrong : Some x ≡ None = rw here at none in absurd (cc)
      at later (inr there) = rw there (later (rw there at none) passes)

-- The machine address of one byte of the grant.
pub byte_of :
    (granted : GrantedMemory) (grant : Grant) (offset : ℕ)
    → offset < grant.length
    → IsAccepted granted grant
    → machine_range (with_grant granted grant).grants (grant.logical + offset) 1
    ≡ Some (grant.machine + offset, grant.kind)
unfolding machine_range with_grant
byte_of granted grant offset within fine =
    let here : holds (grant.logical + offset) 1 grant ≡ true = and_from _ _
    (le-leb grant.logical (grant.logical + offset) (omega arith))
    (le-leb (grant.logical + offset + 1) (grant.logical + grant.length) (omega arith)) in
    let none = none_holds grant offset (starts_below grant) granted.grants within fine.apart in
    let found = find_behind (holds (grant.logical + offset) 1)
    (filter (starts_below grant) granted.grants) grant
    (filter (λ (other : Grant). not (starts_below grant other)) granted.grants) none here in
    let same : grant.machine + (grant.logical + offset - grant.logical) ≡ grant.machine + offset =
    omega arith in
    ap (option_map (machine_at (grant.logical + offset))) found ∙ rw same refl
