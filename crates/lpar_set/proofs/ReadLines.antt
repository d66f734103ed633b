-- What the code that reads a line of a set does is what the line says.
use Rattle.std.specs.Prelude.{unwrap_or}
use Rattle.std.proofs.Common.{◌≡◌, ◌∙◌, ℕ, ◌<◌, ◌≤◌, true, false, List, length, get_or, slice_set, Option, Some, None, Result, Ok, Err, refl, sym, ap, subst, if◌then◌else◌, arith}
use Rattle.std.proofs.lemmas.List.{set-set, get_or_default, get_or-set_same}
use Rattle.frame_grants.specs.declared.grant.Grant.{Grant}
use Rattle.trace_read.specs.declared.given.Given.{Given}
use Rattle.trace_read.specs.declared.given.Given.TheVariants as givens
use Rattle.trace_read.specs.declared.stop.Stop.{Stop}
use Rattle.trace_read.specs.declared.why.Why.{Why}
use Rattle.trace_read.specs.declared.why.Why.TheVariants.{Place}
use Rattle.trace_read.specs.Givens.{given_of, refused_grant}
use Rattle.trace_read.specs.Grammar.{Reading, after_text, reading_beside}
use Rattle.trace_read.specs.Places.{is_running}
use Rattle.lpar_set.specs.SetGrammar.{SetReading, is_of_the_whole, reading_of, meets_stranger, refusal_beside, with_given, after_own, after_member}
use Rattle.lpar_set.specs.SetReadings.{reading_at}
use Rattle.lpar_set.specs.SetRead.{TakesTo, MayBeGiven, is_early, with_own}
use Rattle.lpar_set.proofs.EarlyLines.{own_line, member_by}
use Rattle.lpar_set.proofs.LineMoves.{HasMoved, Moves}
use Rattle.lpar_set.proofs.OwnLines.{own_moves}
use Rattle.hpte_fields.specs.TableSize.{greatest_order, least_order}

-- The set with something else in the place of a partition's reading.
abbrev pub told_so : SetReading → ℕ → Option Reading → SetReading
told_so r number o = record r { readings = slice_set r.readings number o }

-- ---- what a line does doesn't look at the partition's own reading in the list
stranger_so :
    (r : SetReading) (number : ℕ) (o : Option Reading) (grant : Grant)
    → meets_stranger (told_so r number o) number grant ≡ meets_stranger r number grant
stranger_so r number o grant = rw (set-set r.readings number o None) refl

refusal_so :
    (r : SetReading) (number : ℕ) (o : Option Reading) (why : Why) (grant : Option Grant)
    → refusal_beside (told_so r number o) number why grant ≡ refusal_beside r number why grant
refusal_so r number o why None = refl
refusal_so r number o why (Some grant) = rw (stranger_so r number o grant) refl

-- What an accepted line adds doesn't look at the partition's own reading in the list either.
given_so :
    (r : SetReading) (number : ℕ) (o : Option Reading) (old new : Reading) (given : Given)
    → with_given (told_so r number o) number old new given ≡ with_given r number old new given
unfolding with_given
given_so r number o old new (givens.Grant grant) = simp set-set
given_so r number o old new (givens.Begin order) = simp set-set
given_so r number o old new givens.Run = simp set-set
given_so r number o old new givens.Remark = simp set-set
given_so r number o old new givens.Setting = simp set-set

own_so :
    (r : SetReading) (number : ℕ) (o : Option Reading) (old : Reading) (ws : List (List ℕ))
    (said : Result Reading Why)
    → after_own (told_so r number o) number old ws said ≡ after_own r number old ws said
unfolding after_own
own_so r number o old ws (Ok new) = given_so r number o old new (given_of old.config ws)
own_so r number o old ws (Err why) = ap Err (refusal_so r number o why (refused_grant why ws))

-- ---- a line by the partition's own reading
-- An accepted line of a partition, whose new reading is in the list.
own_taken :
    (r s : SetReading) (number : ℕ) (old new : Reading) (ws : List (List ℕ)) (given : Given)
    (result : Result (Unit {0}) Stop)
    → after_text (record old { taken = r.taken }) ws ≡ Ok new → given ≡ given_of old.config ws
    → TakesTo (with_given (told_so r number (Some new)) number old new given) result s
    → TakesTo (after_own r number old ws (after_text (record old { taken = r.taken }) ws)) result s
unfolding after_own
own_taken r s number old new ws given result said is taken =
    rw (said, ← is, ← given_so r number (Some new) old new given) taken

-- ---- a line of a partition whose reading is among the others
-- A reading that is in the list is the same as before.
opened_same :
    (r : SetReading) (number : ℕ)
    → number < length r.readings
    → reading_of (with_own r number) number ≡ reading_of r number
opened_same r number inside =
    ap (λ (o : Option Reading). unwrap_or o (reading_beside r.pool_base r.pool_order))
    (get_or-set_same r.readings number (Some (reading_of r number)) None inside)

-- So a line of the partition may be read after its reading was put there.
pub member_opened :
    (r s : SetReading) (number : ℕ) (ws : List (List ℕ)) (result : Result (Unit {0}) Stop)
    → number < length r.readings
    → is_early r number ws ≡ false
    → TakesTo
    (after_own (with_own r number) number (reading_of (with_own r number) number) ws
    (after_text (record (reading_of (with_own r number) number) { taken = r.taken }) ws))
    result s
    → TakesTo (after_member r number ws) result s
member_opened r s number ws result inside early taken =
    let old : Reading = reading_of r number in
    let said : after_member r number ws ≡ own_line r number ws = member_by r number ws ∙ ap
    (λ b. if b then Err Place else own_line r number ws) early in
    subst (λ (say : Result SetReading Why). TakesTo say result s) (sym said)
    (subst (λ (say : Result SetReading Why). TakesTo say result s)
    (own_so r number (Some old) old ws (after_text (record old { taken = r.taken }) ws))
    (subst
    (λ (x : Reading).
    TakesTo
    (after_own (with_own r number) number x ws
    (after_text (record x { taken = r.taken }) ws)) result s)
    (opened_same r number inside) taken))

-- A line that comes too early is refused for its place.
pub member_early :
    (r : SetReading) (number : ℕ) (ws : List (List ℕ))
    → is_early r number ws ≡ true
    → after_member r number ws ≡ Err Place
member_early r number ws early =
    member_by r number ws ∙ ap (λ b. if b then Err Place else own_line r number ws) early

-- ---- what a line may give
by_given :
    (r : SetReading) (given : Given) (old new : Reading)
    → Moves given old new
    → least_order ≤ old.config.order
    → old.config.order ≤ greatest_order
    → (is_running old.stage ≡ false → length r.begun < 8)
    → MayBeGiven r given
by_given r givens.Remark old new moves low high place = tt
by_given r givens.Setting old new moves low high place = tt
by_given r (givens.Grant grant) old new moves low high place = tt
by_given r (givens.Begin order) old new moves low high place =
    let same : order ≡ old.config.order = moves.order in
    record { order_fits = (omega arith, omega arith); place = place moves.before }
by_given r givens.Run old new moves low high place = tt

-- A `begin` asks for a table of the partition's order, and its partition had not begun.
may_be_given :
    (r : SetReading) (old new : Reading) (ws : List (List ℕ)) (given : Given)
    → is_of_the_whole ws ≡ false
    → after_text (record old { taken = r.taken }) ws ≡ Ok new → given ≡ given_of old.config ws
    → least_order ≤ old.config.order
    → old.config.order ≤ greatest_order
    → (is_running old.stage ≡ false → length r.begun < 8)
    → MayBeGiven r given
may_be_given r old new ws given allowed said is low high place =
    let moved : HasMoved (given_of old.config ws) (record old { taken = r.taken }) new = own_moves
    (record old { taken = r.taken }) new ws allowed said in
    rw is
    (by_given r (given_of old.config ws) (record old { taken = r.taken }) new moved.moves low
    high place)

-- ---- by the place of the partition's reading in the list
-- The set was opened to these fields, and the reading at this index is the partition's.
pub record IsAt (v r : SetReading) (number index : ℕ) (o : Option Reading) (old : Reading) :
    Type 0 where
  pub view : v ≡ r
  pub placed : index ≡ number
  pub inside : length v.readings ≡ 8
  pub below : number < 8
  pub value : o ≡ get_or v.readings index o
  pub is : o ≡ Some old

old_there :
    (v r : SetReading) (number index : ℕ) (o : Option Reading) (old : Reading)
    → IsAt v r number index o old
    → reading_of r number ≡ old
old_there v r number index o old at =
    let inside : index < length v.readings = omega (arith, at.placed, at.inside, at.below) in
    let there : get_or v.readings index None ≡ Some old = get_or_default v.readings index None o
    inside ∙ sym at.value ∙ at.is in
    let here : reading_of v index ≡ old = ap
    (λ (x : Option Reading). unwrap_or x (reading_beside v.pool_base v.pool_order)) there in
    subst (λ (x : SetReading). reading_of x number ≡ old) at.view
    (subst (λ (n : ℕ). reading_of v n ≡ old) at.placed here)

-- What an accepted line of the reading at this index may add.
pub own_may :
    (v r : SetReading) (number index : ℕ) (o : Option Reading) (old new : Reading)
    (ws : List (List ℕ)) (given : Given)
    → IsAt v r number index o old
    → (is_running (reading_of r number).stage ≡ false → length r.begun < 8)
    → is_of_the_whole ws ≡ false
    → least_order ≤ old.config.order
    → old.config.order ≤ greatest_order
    → after_text (record old { taken = v.taken }) ws ≡ Ok new → given ≡ given_of old.config ws
    → MayBeGiven (told_so v index (Some new)) given
own_may v r number index o old new ws given at place allowed low high said is =
    let same : reading_of r number ≡ old = old_there v r number index o old at in
    may_be_given (told_so v index (Some new)) old new ws given allowed said is low high
    (λ stopped.
    subst (λ (x : SetReading). length x.begun < 8) (sym at.view)
    (place (subst (λ (x : Reading). is_running x.stage ≡ false) (sym same) stopped)))

-- What is added for it is what the line says.
pub own_adds :
    (v r s : SetReading) (number index line : ℕ) (o : Option Reading) (old new : Reading)
    (ws : List (List ℕ)) (given : Given) (result : Result (Unit {0}) Stop)
    → IsAt v r number index o old
    → line ≡ length old.lines
    → after_text (record old { taken = v.taken }) ws ≡ Ok new → given ≡ given_of old.config ws
    →
    ((x y : Reading)
    → reading_at (told_so v index (Some new)) number ≡ Some y
    → length x.lines ≡ line
    → TakesTo (with_given (told_so v index (Some new)) number x y given) result s)
    → TakesTo
    (after_own r number (reading_of r number) ws
    (after_text (record (reading_of r number) { taken = r.taken }) ws)) result s
own_adds v r s number index line o old new ws given result at count said is adds =
    let inside : index < length v.readings = omega (arith, at.placed, at.inside, at.below) in
    let there : reading_at (told_so v index (Some new)) number ≡ Some new = subst
    (λ (n : ℕ). get_or (slice_set v.readings index (Some new)) n None ≡ Some new) at.placed
    (get_or-set_same v.readings index (Some new) None inside) in
    let added : TakesTo (with_given (told_so v index (Some new)) number old new given) result s =
    adds old new there (sym count) in
    let here : TakesTo (with_given (told_so v number (Some new)) number old new given) result s =
    subst
    (λ (n : ℕ). TakesTo (with_given (told_so v n (Some new)) number old new given) result s)
    at.placed added in
    let taken : TakesTo (after_own v number old ws (after_text (record old { taken = v.taken }) ws))
    result s = own_taken v s number old new ws given result said is here in
    let mine : TakesTo (after_own r number old ws (after_text (record old { taken = r.taken }) ws))
    result s = subst
    (λ (x : SetReading).
    TakesTo (after_own x number old ws (after_text (record old { taken = x.taken }) ws)) result
    s) at.view taken in
    subst
    (λ (x : Reading).
    TakesTo (after_own r number x ws (after_text (record x { taken = r.taken }) ws)) result s)
    (sym (old_there v r number index o old at)) mine
