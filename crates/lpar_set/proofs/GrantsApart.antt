-- Grants of two partitions that don't meet, while one of them gets another.
use Rattle.std.specs.List.{AllByRecursion, AllPairs}
use Rattle.std.proofs.Common.{◌≡◌, ◌≢◌, ℕ, ◌<◌, ◌≤◌, Bool, true, false, List, ◌∷◌, length, get_or, filter, slice_set, Option, None, sym, ap, ◌∙◌, subst, inl, inr, ◌⊎◌, not, arith}
use Rattle.std.proofs.lemmas.Bool.{cases_eq, cases_lt, not-true}
use Rattle.std.proofs.lemmas.List.{get_or-set_same, get_or-set_other, length-set}
use Rattle.std.proofs.lemmas.List.Elements.{All-from_recursion, recursion_from_All, All-append, All-cons, All-filter}
use Rattle.frame_grants.proofs.Accepting.{machine_back}
use Rattle.basics.proofs.Lists.{list_any-false}
use Rattle.frame_grants.specs.declared.grant.Grant.{Grant}
use Rattle.frame_grants.specs.Grants.{GrantedMemory, meets_machine, starts_below, with_grant}
use Rattle.trace_read.specs.Grammar.{Reading}
use Rattle.lpar_set.specs.SetTrace.{AreStrangers}
use Rattle.lpar_set.specs.SetGrammar.{SetReading, grants_read, meets_any, meets_stranger}
use Rattle.lpar_set.specs.SetReadings.{reading_at}

-- ---- pairs of a list
-- One element is another now.
pub pairs_set :
    {X : Type 0} (R : X → X → Type 0) (xs : List X) (n : ℕ) (a : X)
    → AllPairs R xs
    → ((k : ℕ) (d : X) → k < length xs → k ≢ n → R a (get_or xs k d) × R (get_or xs k d) a)
    → AllPairs R (slice_set xs n a)
pairs_set R xs n a pairs each i j d before inside =
    let within : j < length xs = subst (λ l. j < l) (length-set xs n a) inside in
    let under : i < length xs = omega (arith, before, within) in
    by (cases_eq i n) (cases_eq j n) within under
  where
    by :
        (i ≡ n) ⊎ (i ≡ n → ⊥)
        → (j ≡ n) ⊎ (j ≡ n → ⊥)
        → j < length xs
        → i < length xs
        → R (get_or (slice_set xs n a) i d) (get_or (slice_set xs n a) j d)
    by (inl one) (inl two) within under = absurd (omega (arith, before, one, two))
    by (inl one) (inr other) within under =
        let here : get_or (slice_set xs n a) i d ≡ a = ap (λ m. get_or (slice_set xs n a) m d) one ∙
        get_or-set_same xs n a d (subst (λ m. m < length xs) one under) in
        rw (here, get_or-set_other xs n j a d other) (each j d within other).0
    by (inr other) (inl two) within under =
        let here : get_or (slice_set xs n a) j d ≡ a = ap (λ m. get_or (slice_set xs n a) m d) two ∙
        get_or-set_same xs n a d (subst (λ m. m < length xs) two within) in
        rw (here, get_or-set_other xs n i a d other) (each i d under other).1
    by (inr one) (inr two) within under =
        rw (get_or-set_other xs n i a d one, get_or-set_other xs n j a d two)
        (pairs i j d before within)

-- A relation that goes both ways holds of each two.
pub pairs_both :
    {X : Type 0} (R : X → X → Type 0) (xs : List X)
    → ((a b : X) → R a b → R b a)
    → AllPairs R xs
    → (i j : ℕ) (d : X)
    → i ≢ j
    → i < length xs
    → j < length xs
    → R (get_or xs i d) (get_or xs j d)
pairs_both R xs back pairs i j d other low high = by (cases_lt i j) where
  by : (i < j) ⊎ (j ≤ i) → R (get_or xs i d) (get_or xs j d)
  by (inl before) = pairs i j d before high
  by (inr behind) = back _ _ (pairs j i d (omega (arith, behind, other)) low)

-- ---- two grants
-- Grants that don't meet do not meet the other way round.
pub strangers_back : (gs hs : List Grant) → AreStrangers gs hs → AreStrangers hs gs
strangers_back gs hs apart =
    let From : Grant → Type 0 = λ g. AllByRecursion
    (λ (other : Grant). meets_machine g other ≡ false) hs in
    recursion_from_All
    (λ (g : Grant). AllByRecursion (λ (other : Grant). meets_machine g other ≡ false) gs) hs
    (λ j e inside.
    recursion_from_All (λ (other : Grant). meets_machine (get_or hs j e) other ≡ false) gs
    (λ i d within. machine_back (get_or gs i d) (get_or hs j e)
    (All-from_recursion (λ (other : Grant). meets_machine (get_or gs i d) other ≡ false) hs
    (All-from_recursion From gs apart i d within) j e inside)))

-- ---- one more grant
-- A further grant that meets none of the other's leaves the two apart.
pub granted_strangers :
    (granted : GrantedMemory) (grant : Grant) (others : List Grant)
    → AreStrangers granted.grants others
    → AllByRecursion (λ (other : Grant). meets_machine grant other ≡ false) others
    → AreStrangers (with_grant granted grant).grants others
unfolding with_grant
granted_strangers granted grant others apart clear =
    let P : Grant → Type 0 = λ g. AllByRecursion (λ (other : Grant). meets_machine g other ≡ false)
    others in
    let gs = granted.grants in
    let all = All-from_recursion P gs apart in
    let higher : Grant → Bool = λ other. not (starts_below grant other) in
    recursion_from_All P (with_grant granted grant).grants
    (All-append P (filter (starts_below grant) gs) (grant ∷ filter higher gs)
    (All-filter (starts_below grant) P gs all)
    (All-cons P grant (filter higher gs) clear (All-filter higher P gs all)))

any_clear :
    (grant : Grant) (o : Option Reading)
    → meets_any grant o ≡ false
    → AllByRecursion (λ (other : Grant). meets_machine grant other ≡ false) (grants_read o)
any_clear grant o clear =
    recursion_from_All (λ (other : Grant). meets_machine grant other ≡ false) (grants_read o)
    (list_any-false (meets_machine grant) (grants_read o) clear)

-- A grant that meets no other partition's meets none of one of them.
pub stranger_clear :
    (r : SetReading) (number m : ℕ) (grant : Grant)
    → not (meets_stranger r number grant) ≡ true
    → m ≢ number
    → m < length r.readings
    → AllByRecursion (λ (other : Grant). meets_machine grant other ≡ false)
    (grants_read (reading_at r m))
stranger_clear r number m grant strange other inside =
    let all = list_any-false (meets_any grant) (slice_set r.readings number None)
    (not-true _ strange) in
    let within : m < length (slice_set r.readings number None) = subst (λ l. m < l)
    (sym (length-set r.readings number None)) inside in
    any_clear grant (reading_at r m)
    (subst (λ o. meets_any grant o ≡ false)
    (get_or-set_other r.readings number m None None other) (all m None within))
