-- A grant that is not refused: the list stays apart, and the place that the code counts is the
-- grant's.
use Rattle.std.specs.Prelude.{option_map}
use Rattle.std.proofs.Common.{◌≡◌, ℕ, ◌<◌, get_or, Bool, true, false, not, nat_le, List, [], ◌∷◌, ◌++◌, length, filter, find, insert, count_by, All, AllPairs, None, refl, sym, ap, ◌∙◌, subst, arith}
use Rattle.std.specs.List.{list_any, AllByRecursion}
use Rattle.std.proofs.lemmas.Bool.Decides.{nat_tests}
use Rattle.std.proofs.lemmas.List.Elements.{All-cons, All-append, All-filter, filter_passes}
use Rattle.std.proofs.lemmas.List.Sums.{length-filter}
use Rattle.std.proofs.Math.Seq.{take-append_seam, drop-append_seam}
use Rattle.std.proofs.lemmas.Bool.{not-true}
use Rattle.frame_grants.specs.declared.grant.Grant.{Grant}
use Rattle.frame_grants.specs.declared.error.GrantError.{GrantError}
use Rattle.frame_grants.specs.Grants.{GrantedMemory, IsPlaced, AreApart, IsSound, is_empty, is_aligned, ends_past, meets_logical, meets_machine, overlaps, meets_pool, starts_below, refusals, add_refusal, with_grant, most_grants}
use Rattle.basics.proofs.Lists.{AllPairs-between, filters_join, list_any-false}

-- ---- what a grant has that is not refused
-- Nothing is wrong with the grant as a further one: it has bytes, is aligned, ends in range, isn't
-- one too many, and meets neither another grant nor the pool.
pub record IsAccepted (granted : GrantedMemory) (grant : Grant) : Type 0 where
  pub has_bytes : is_empty grant ≡ false
  pub aligned : is_aligned grant ≡ true
  pub below_top : ends_past grant ≡ false
  pub room : nat_le most_grants (length granted.grants) ≡ false
  pub apart : list_any (overlaps grant) granted.grants ≡ false
  pub off_pool : meets_pool granted grant ≡ false

none_wrong :
    (rows : List (Bool × GrantError))
    → option_map (λ (row : Bool × GrantError). row.1)
    (find (λ (row : Bool × GrantError). row.0) rows)
    ≡ None
    → AllByRecursion (λ (row : Bool × GrantError). row.0 ≡ false) rows
none_wrong [] none = tt
none_wrong ((true, e) ∷ rows) none = absurd (cc)
none_wrong ((false, e) ∷ rows) none = (refl, none_wrong rows none)

pub accepted :
    (granted : GrantedMemory) (grant : Grant)
    → add_refusal granted grant ≡ None
    → IsAccepted granted grant
unfolding add_refusal refusals
accepted granted grant none =
    let right = none_wrong (refusals granted grant) none in
    let aligned : is_aligned grant ≡ true = grind (arith, right.1.0) in
    record {
      has_bytes = right.0;
      aligned = aligned;
      below_top = right.1.1.0;
      room = right.1.1.1.0;
      apart = right.1.1.1.1.0;
      off_pool = right.1.1.1.1.1.0;
    }

pub is_placed :
    (granted : GrantedMemory) (grant : Grant) → IsAccepted granted grant → IsPlaced grant
is_placed granted grant ok = grind (arith, nat_tests, ok.has_bytes, ok.aligned, ok.below_top)

-- ---- where it stands
-- Two grants that don't meet, the other way round.
logical_back :
    (grant other : Grant) → meets_logical grant other ≡ false → meets_logical other grant ≡ false
logical_back grant other apart = grind (arith, nat_tests, apart)

pub machine_back :
    (grant other : Grant) → meets_machine grant other ≡ false → meets_machine other grant ≡ false
machine_back grant other apart = grind (arith, nat_tests, apart)

pub logical_apart :
    (grant other : Grant) → overlaps grant other ≡ false → meets_logical grant other ≡ false
logical_apart grant other apart = grind (arith, apart)

pub machine_apart :
    (grant other : Grant) → overlaps grant other ≡ false → meets_machine grant other ≡ false
machine_apart grant other apart = grind (arith, apart)

-- A grant that has bytes and doesn't start below one that it doesn't meet starts above it.
above :
    (grant other : Grant)
    → IsPlaced grant
    → IsPlaced other
    → overlaps grant other ≡ false
    → starts_below grant other ≡ false
    → grant.logical < other.logical
above grant other here there apart below =
    let meet = logical_apart grant other apart in
    grind (arith, nat_tests, here.has_bytes, there.has_bytes, meet, below)

-- The grants whose logical range starts below that of a further one.
abbrev pub lower_part : GrantedMemory → Grant → List Grant
lower_part granted grant = filter (starts_below grant) granted.grants

-- The grants whose logical range doesn't start below that of a further one.
abbrev pub higher_part : GrantedMemory → Grant → List Grant
higher_part granted grant =
    filter (λ (other : Grant). not (starts_below grant other)) granted.grants

parts_join :
    (granted : GrantedMemory) (grant : Grant)
    → AreApart granted
    → lower_part granted grant ++ higher_part granted grant ≡ granted.grants
parts_join granted grant apart =
    filters_join (starts_below grant) granted.grants (λ i j d before inside.
    let rise = apart.rising i j d before inside in
    λ fails. grind (arith, nat_tests, rise, fails))

insert_seam : {X : Type 0} (xs ys : List X) (x : X) → insert (xs ++ ys) (length xs) x ≡ xs ++ x ∷ ys
insert_seam xs ys x = rw (take-append_seam xs ys, drop-append_seam xs ys) refl

-- What the code makes is the list that the definition says.
pub place_is :
    (granted : GrantedMemory) (grant : Grant)
    → AreApart granted
    → insert granted.grants (count_by (starts_below grant) granted.grants) grant
    ≡ (with_grant granted grant).grants
unfolding with_grant
place_is granted grant apart =
    ap (λ n. insert granted.grants n grant)
    (sym (length-filter (starts_below grant) granted.grants))
    ∙ ap (λ gs. insert gs (length (lower_part granted grant)) grant)
    (sym (parts_join granted grant apart))
    ∙ insert_seam (lower_part granted grant) (higher_part granted grant) grant

-- ---- the list stays apart
starts_lower :
    (grant other : Grant) → starts_below grant other ≡ true → other.logical < grant.logical
starts_lower grant other below = grind (arith, nat_tests, below)

pub stays_apart :
    (granted : GrantedMemory) (grant : Grant)
    → AreApart granted
    → IsAccepted granted grant
    → AreApart (with_grant granted grant)
unfolding with_grant
stays_apart granted grant apart ok =
    let gs = granted.grants in
    let below = starts_below grant in
    let others : Grant → Bool = λ other. not (starts_below grant other) in
    let low = lower_part granted grant in
    let high = higher_part granted grant in
    let join = parts_join granted grant apart in
    let here = is_placed granted grant ok in
    let clear : All (λ (other : Grant). overlaps grant other ≡ false) gs = list_any-false
    (overlaps grant) gs ok.apart in
    let clear_low = All-filter below (λ (other : Grant). overlaps grant other ≡ false) gs clear in
    let clear_high = All-filter others (λ (other : Grant). overlaps grant other ≡ false) gs clear in
    let Rise : Grant → Grant → Type 0 = λ lower higher. lower.logical < higher.logical in
    let Logical : Grant → Grant → Type 0 = λ lower higher. meets_logical lower higher ≡ false in
    let Machine : Grant → Grant → Type 0 = λ lower higher. meets_machine lower higher ≡ false in
    let OffPool : Grant → Type 0 = λ other. meets_pool granted other ≡ false in
    let low_placed = All-filter below IsPlaced gs apart.placed in
    let high_placed = All-filter others IsPlaced gs apart.placed in
    record {
      placed =
          All-append IsPlaced low (grant ∷ high) low_placed
          (All-cons IsPlaced grant high here high_placed);
      rising =
          AllPairs-between Rise grant low high (subst (AllPairs Rise) (sym join) apart.rising)
          (λ k d inside. starts_lower grant (get_or low k d) (filter_passes below gs k d inside))
          (λ k d inside.
          above grant (get_or high k d) here (high_placed k d inside) (clear_high k d inside)
          (not-true _ (filter_passes others gs k d inside)));
      logical_apart =
          AllPairs-between Logical grant low high
          (subst (AllPairs Logical) (sym join) apart.logical_apart)
          (λ k d inside.
          logical_back grant (get_or low k d)
          (logical_apart grant (get_or low k d) (clear_low k d inside)))
          (λ k d inside. logical_apart grant (get_or high k d) (clear_high k d inside));
      machine_apart =
          AllPairs-between Machine grant low high
          (subst (AllPairs Machine) (sym join) apart.machine_apart)
          (λ k d inside.
          machine_back grant (get_or low k d)
          (machine_apart grant (get_or low k d) (clear_low k d inside)))
          (λ k d inside. machine_apart grant (get_or high k d) (clear_high k d inside));
      off_pool =
          All-append OffPool low (grant ∷ high) (All-filter below OffPool gs apart.off_pool)
          (All-cons OffPool grant high ok.off_pool
          (All-filter others OffPool gs apart.off_pool));
    }

sound_with :
    (granted : GrantedMemory) (grant : Grant)
    → IsSound granted
    → AreApart (with_grant granted grant)
    → IsSound (record granted { grants = (with_grant granted grant).grants })
unfolding with_grant
sound_with granted grant sound kept = record { pool = sound.pool; apart = kept }

with_is :
    (granted : GrantedMemory) (grant : Grant)
    → record granted { grants = (with_grant granted grant).grants } ≡ with_grant granted grant
unfolding with_grant
with_is granted grant = refl

pub room_left :
    (granted : GrantedMemory) (grant : Grant)
    → add_refusal granted grant ≡ None
    → length granted.grants < most_grants
room_left granted grant none =
    let room = (accepted granted grant none).room in grind (arith, nat_tests, room)

-- ---- what the code makes of the grants before
-- They are `now` to the caller, and the list becomes `items` by an insert at the place that was
-- counted.
pub record IsInserted (before now : GrantedMemory) (grant : Grant) (place : ℕ) (items : List Grant)
    :
    Type 0 where
  pub same : before ≡ now
  pub sound : IsSound before
  pub fine : add_refusal now grant ≡ None
  pub counted : place ≡ count_by (starts_below grant) now.grants
  pub inserted : items ≡ insert before.grants place grant

items_are :
    (before now : GrantedMemory) (grant : Grant) (place : ℕ) (items : List Grant)
    → IsInserted before now grant place items
    → items ≡ (with_grant before grant).grants
items_are before now grant place items made =
    made.inserted
    ∙ ap (λ n. insert before.grants n grant)
    (made.counted
    ∙ ap (λ (g : GrantedMemory). count_by (starts_below grant) g.grants) (sym made.same))
    ∙ place_is before grant made.sound.apart

pub made_sound :
    (before now : GrantedMemory) (grant : Grant) (place : ℕ) (items : List Grant)
    → IsInserted before now grant place items
    → IsSound (record before { grants = items })
made_sound before now grant place items made =
    let fine : add_refusal before grant ≡ None = ap (λ g. add_refusal g grant) made.same ∙ made.fine
    in
    let kept = stays_apart before grant made.sound.apart (accepted before grant fine) in
    subst (λ (gs : List Grant). IsSound (record before { grants = gs }))
    (sym (items_are before now grant place items made))
    (sound_with before grant made.sound kept)

pub made_is :
    (before now : GrantedMemory) (grant : Grant) (place : ℕ) (items : List Grant)
    → IsInserted before now grant place items
    → record before { grants = items } ≡ with_grant now grant
made_is before now grant place items made =
    ap (λ (gs : List Grant). record before { grants = gs })
    (items_are before now grant place items made)
    ∙ with_is before grant
    ∙ ap (λ g. with_grant g grant) made.same
