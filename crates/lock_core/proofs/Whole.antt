-- Over every list of steps.
use Rattle.std.specs.Prelude.{slice_get, slice_index_or, is_none, option_map}
use Rattle.std.proofs.Common.{◌≡◌, ℕ, zero, suc, ◌≢◌, ◌==◌, not, Bool, true, false, List, [], ◌∷◌, length, refl, sym, ◌∙◌, Some, eq-eqb, find}
use Rattle.std.proofs.lemmas.Bool.{and_parts, cond_both, false≢true, ltb-true, not-true}
use Rattle.std.proofs.lemmas.Option.{slice_get-get_or}
use Rattle.entry_model.specs.State.{State, empty_state}
use Rattle.entry_model.specs.declared.receipt.Receipt.{Receipt}
use Rattle.entry_model.specs.Receipt.{is_access}
use Rattle.lock_core.specs.declared.entry.Entry.{Entry}
use Rattle.lock_core.specs.declared.error.CoreError.{CoreError}
use Rattle.lock_core.specs.declared.error.CoreError.TheVariants.{Actor as ActorFault, Entry as EntryFault, Phase as PhaseFault}
use Rattle.lock_core.specs.declared.phase.Phase.{Phase}
use Rattle.lock_core.specs.declared.phase.Phase.TheVariants.{Idle, Held, HeldShut, Looked}
use Rattle.lock_core.specs.declared.step.Step.{Step}
use Rattle.lock_core.specs.declared.step.Step.TheVariants.{Lock, Look, LoadData, Shut, StoreData, Settle, Release, Mark, Split, Join}
use Rattle.lock_core.specs.Words.{unheld_entry}
use Rattle.lock_core.specs.Machine.{Actor, Machine, nobody, actor_at, entry_at, words_seen}
use Rattle.lock_core.specs.Steps.{fits_entry, entry_of, fits, step_result, step_result_of, with_result, split_off, join_in, is_idle, may_act, names_entry, fits_phase, refusals, refusal, is_allowed, after_allowed_step, after_step}
use Rattle.lock_core.proofs.Kept.{logged, Kept}
use Rattle.lock_core.proofs.Moves.{Change, both_kept}
use Rattle.lock_core.proofs.Steps.{lock_change, load_change, shut_change, store_change, settle_change, release_change}
use Rattle.lock_core.proofs.Looks.{look_change, looked_load_change}
use Rattle.lock_core.proofs.Marks.{second_change, mark_change}
use Rattle.lock_core.proofs.Passing.{split_kept, join_kept}

-- ---- what an allowed step meets
pub no_refusal :
    (a b c : Bool)
    → is_none
    (option_map (λ (row : Bool × CoreError). row.1)
    (find (λ (row : Bool × CoreError). row.0)
    ((not a, ActorFault) ∷ (not b, EntryFault) ∷ (not c, PhaseFault) ∷ [])))
    ≡ true
    → (a ≡ true) × (b ≡ true) × (c ≡ true)
no_refusal true true true h = (refl, refl, refl)
no_refusal true true false h = absurd (false≢true h)
no_refusal true false c h = absurd (false≢true h)
no_refusal false b c h = absurd (false≢true h)

pub allowed_parts :
    (m : Machine) (i : ℕ) (s : Step)
    → is_allowed m i s ≡ true
    → (may_act m i s ≡ true) × (names_entry m s ≡ true) × (fits_phase m i s ≡ true)
unfolding is_allowed refusal refusals
allowed_parts m i s h = no_refusal (may_act m i s) (names_entry m s) (fits_phase m i s) h

-- An actor that is live is there.
pub live_there :
    (as' : List Actor) (i : ℕ)
    → (slice_index_or as' i nobody).live ≡ true
    → slice_get as' i ≡ Some (slice_index_or as' i nobody)
live_there [] i h = absurd (false≢true h)
live_there (a ∷ rest) zero h = refl
live_there (a ∷ rest) (suc i) h = live_there rest i h

idle_is : (p : Phase) → is_idle p ≡ true → p ≡ Idle
idle_is Idle h = refl
idle_is (Held d) h = absurd (false≢true h)
idle_is (HeldShut d) h = absurd (false≢true h)
idle_is (Looked d) h = absurd (false≢true h)

-- What is kept holds of the machine, with some log.
abbrev pub Goes : List State → Machine → Type 0
Goes opening m = (log : List Receipt) × Kept opening m log

-- ---- a step on an entry
module _ (opening : List State) (m : Machine) (log : List Receipt) (k : Kept opening m log) where
  module _ (i : ℕ) (a : Actor) (me : slice_get m.actors i ≡ Some a) (live : a.live ≡ true) where
    pub result_change :
        (p : Phase) (s : Step) (x : Entry)
        → a.phase ≡ p
        → slice_get m.entries (entry_of p s) ≡ Some x
        → fits x p s ≡ true
        → Change m (entry_of p s) i x a
        (step_result (words_seen m a (entry_of p s) x.control) x p s)
    unfolding fits step_result
    result_change Idle (Lock e op) x is at fit =
        lock_change opening m log k i a me live e x op at is (not-true (is_access op) fit)
    result_change Idle (Look e op) x is at fit =
        look_change opening m log k i a me live e x op at is fit
    result_change (Held d) (LoadData second) x is at fit =
        load_change opening m log k i a me live d x at is second
    result_change (Held d) Shut x is at fit = shut_change opening m log k i a me live d x at is fit
    result_change (Held d) Release x is at fit =
        release_change opening m log k i a me live d x at is fit
    result_change (HeldShut d) (StoreData second) x is at fit =
        store_change opening m log k i a me live d x at is second
    result_change (HeldShut d) Settle x is at fit =
        settle_change opening m log k i a me live d x at is fit
    result_change (Looked d) (LoadData second) x is at fit =
        looked_load_change opening m log k i a me live d x at is second
    result_change (Looked d) (Look e op) x is at fit =
        second_change opening m log k i a me live d x at is (and_parts _ _ fit).1
    result_change (Looked d) Mark x is at fit =
        mark_change opening m log k i a me live d x at is fit
    result_change p s x is at fit = absurd (false≢true fit)

  -- By what an actor that takes a step on an entry is allowed.
  pub step_change : (i : ℕ) (s : Step) → (actor_at m i).live ≡ true → fits_entry m i s ≡ true
      → Change m (entry_of (actor_at m i).phase s) i (entry_at m (entry_of (actor_at m i).phase s))
      (actor_at m i) (step_result_of m i s)
  step_change i s live fit =
      let a : Actor = actor_at m i in
      let e : ℕ = entry_of a.phase s in
      let parts = and_parts _ _ fit in
      let at : slice_get m.entries e ≡ Some (entry_at m e) = slice_get-get_or m.entries e
      (unheld_entry (empty_state 0)) (ltb-true e (length m.entries) parts.0) in
      result_change i a (live_there m.actors i live) live a.phase s (entry_at m e) refl at parts.1

  pub result_goes : (i : ℕ) (s : Step) → (actor_at m i).live ≡ true → fits_entry m i s ≡ true
      → Goes opening (with_result m (entry_of (actor_at m i).phase s) i (step_result_of m i s))
  result_goes i s live fit =
      let a : Actor = actor_at m i in
      let e : ℕ = entry_of a.phase s in (
        logged log (step_result_of m i s).made,
        both_kept opening m log e i (entry_at m e) a (step_result_of m i s) k
            (step_change i s live fit),
      )

  -- ---- splits and joins
  split_goes : (i to : ℕ) → may_act m i (Split to) ≡ true → Goes opening (split_off m i to)
  unfolding may_act
  split_goes i to may =
      let parts = and_parts _ _ may in
      let other = and_parts _ _ parts.1 in
      let at : slice_get m.actors to ≡ Some (actor_at m to) = slice_get-get_or m.actors to nobody
      (ltb-true to (length m.actors) other.0) in (
        log,
        split_kept opening m log k i to (actor_at m i) (actor_at m to)
            (live_there m.actors i parts.0) at (not-true (actor_at m to).live other.1),
      )

  join_goes :
      (i from : ℕ)
      → may_act m i (Join from) ≡ true
      → fits_phase m i (Join from) ≡ true
      → Goes opening (join_in m i from)
  unfolding may_act fits_phase
  join_goes i from may fit =
      let parts = and_parts _ _ may in
      let other = and_parts _ _ parts.1 in
      let idle = and_parts _ _ fit in
      let apart : from ≢ i =
      λ e. false≢true (sym (not-true (from == i) other.1) ∙ eq-eqb from i e) in (
        log,
        join_kept opening m log k i from (actor_at m i) (actor_at m from)
            (live_there m.actors i parts.0) parts.0 (idle_is (actor_at m i).phase idle.0)
            (live_there m.actors from other.0) apart (idle_is (actor_at m from).phase idle.1),
      )

  stepped_goes :
      (i : ℕ) (s : Step) → is_allowed m i s ≡ true → Goes opening (after_allowed_step m i s)
  unfolding after_allowed_step may_act fits_phase
  stepped_goes i (Split to) may = split_goes i to (allowed_parts m i (Split to) may).0
  stepped_goes i (Join from) may =
      join_goes i from (allowed_parts m i (Join from) may).0 (allowed_parts m i (Join from) may).2
  stepped_goes i s may = result_goes i s (allowed_parts m i s may).0 (allowed_parts m i s may).2

  pub moved_goes : (i : ℕ) (s : Step) → Goes opening (after_step m i s)
  unfolding after_step
  moved_goes i s =
      cond_both (is_allowed m i s) (after_allowed_step m i s) m (Goes opening) (stepped_goes i s)
      (λ _. (log, k))
