-- What the code of a join leaves of the list of actors.
use Rattle.std.specs.Prelude.{slice_get, slice_index_or}
use Rattle.std.proofs.Common.{◌≡◌, ◌≢◌, ℕ, true, List, set, get_or, sym, ap, ◌∙◌, Some}
use Rattle.std.proofs.lemmas.Option.{get_or_from_slice_get}
use Rattle.std.proofs.lemmas.List.{set-set, set_comm}
use Rattle.lock_core.specs.Machine.{Actor, nobody}
use Rattle.lock_core.specs.Steps.{joined_actor}
use Rattle.lock_core.proofs.Lists.{set_else, set_again}
use Rattle.lock_core.proofs.Whole.{live_there}

-- x stands at `from`, and y at i once z has come in x's place.
module _ (actors : List Actor) (i from : ℕ) (x y z : Actor)
    (live : (slice_index_or actors i nobody).live ≡ true)
    (other : (slice_index_or actors from nobody).live ≡ true) (apart : from ≢ i)
    (x_is : x ≡ get_or actors from x) (y_is : y ≡ get_or (set actors from z) i y) where
  at_from : slice_get actors from ≡ Some (slice_index_or actors from nobody)
  at_from = live_there actors from other

  at_i : slice_get (set actors from z) i ≡ Some (slice_index_or actors i nobody)
  at_i = set_else actors from i z (λ e. apart (sym e)) ∙ live_there actors i live

  first : x ≡ slice_index_or actors from nobody
  first = x_is ∙ get_or_from_slice_get actors from _ x at_from

  second : y ≡ slice_index_or actors i nobody
  second = y_is ∙ get_or_from_slice_get (set actors from z) i _ y at_i

  pub join_lists :
      (o j : Actor)
      → z ≡ nobody
      → o ≡ x
      → j ≡ joined_actor y o
      → set (set actors from z) i j
      ≡ set
      (set actors i
      (joined_actor (slice_index_or actors i nobody) (slice_index_or actors from nobody)))
      from nobody
  join_lists o j z_is o_is j_is =
      let j_is' : j ≡ joined_actor (slice_index_or actors i nobody)
      (slice_index_or actors from nobody) = j_is ∙
      (λ k. joined_actor (second k) ((o_is ∙ first) k)) in
      (λ k. set (set actors from (z_is k)) i (j_is' k)) ∙ set_comm actors from i nobody _ apart

  pub join_undone :
      (o j : Actor) → o ≡ x → j ≡ y → set (set (set actors from z) i j) from o ≡ actors
  join_undone o j o_is j_is =
      let same : set (set actors from z) i j ≡ set actors from z = ap
      (λ v. set (set actors from z) i v) (j_is ∙ second) ∙ set_again (set actors from z) i _
      at_i in
      (λ k. set (same k) from ((o_is ∙ first) k))
      ∙ set-set actors from z _
      ∙ set_again actors from _ at_from
