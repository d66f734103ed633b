-- The machine after a step of an actor on an entry, by the actor's phase.
use Rattle.std.specs.Prelude.{slice_get, is_none, option_map}
use Rattle.std.proofs.Common.{◌≡◌, ℕ, ◌&&◌, not, Bool, true, [], ◌∷◌, length, find, refl, sym, ap, ◌∙◌, Some}
use Rattle.std.proofs.lemmas.Bool.{lt-ltb}
use Rattle.std.proofs.lemmas.Option.{get_or_from_slice_get, slice_get_within}
use Rattle.entry_model.specs.State.{empty_state}
use Rattle.lock_core.specs.declared.entry.Entry.{Entry}
use Rattle.lock_core.specs.declared.error.CoreError.{CoreError}
use Rattle.lock_core.specs.declared.error.CoreError.TheVariants.{Actor as ActorFault, Entry as EntryFault, Phase as PhaseFault}
use Rattle.lock_core.specs.declared.phase.Phase.{Phase}
use Rattle.lock_core.specs.declared.step.Step.{Step}
use Rattle.lock_core.specs.declared.step.Step.TheVariants.{Split, Join}
use Rattle.lock_core.specs.declared.step_result.StepResult.{StepResult}
use Rattle.lock_core.specs.Words.{unheld_entry}
use Rattle.lock_core.specs.Machine.{Actor, Machine, nobody, actor_at, entry_at, in_table, words_seen}
use Rattle.lock_core.specs.Steps.{entry_of, fits, step_result, actor_after, may_act, names_entry, fits_entry, fits_phase, refusal, refusals, is_allowed, after_allowed_step, after_step}
use Rattle.entry_lock.specs.Laws.{IsOnEntry}
use Rattle.lock_core.proofs.Moves.{put_both}
use Rattle.lock_core.proofs.Telling.{result_parts, moved_if}

none_wrong :
    (a b c : Bool)
    → a ≡ true
    → b ≡ true
    → c ≡ true
    → is_none
    (option_map (λ (row : Bool × CoreError). row.1)
    (find (λ (row : Bool × CoreError). row.0)
    ((not a, ActorFault) ∷ (not b, EntryFault) ∷ (not c, PhaseFault) ∷ [])))
    ≡ true
none_wrong a b c p q r =
    λ i.
    is_none
    (option_map (λ (row : Bool × CoreError). row.1)
    (find (λ (row : Bool × CoreError). row.0)
    ((not (p i), ActorFault)
    ∷ (not (q i), EntryFault)
    ∷ (not (r i), PhaseFault)
    ∷ [])))

pub allowed_by :
    (m : Machine) (i : ℕ) (s : Step)
    → may_act m i s ≡ true
    → names_entry m s ≡ true
    → fits_phase m i s ≡ true
    → is_allowed m i s ≡ true
unfolding is_allowed refusal refusals
allowed_by m i s may names fit =
    none_wrong (may_act m i s) (names_entry m s) (fits_phase m i s) may names fit

pub may_is : (m : Machine) (i : ℕ) (s : Step) → IsOnEntry s → may_act m i s ≡ (actor_at m i).live
unfolding may_act
may_is m i (Split to) on = absurd (on.no_split to refl)
may_is m i (Join from) on = absurd (on.no_join from refl)
may_is m i s on = refl

pub phase_is : (m : Machine) (i : ℕ) (s : Step) → IsOnEntry s → fits_phase m i s ≡ fits_entry m i s
unfolding fits_phase
phase_is m i (Split to) on = absurd (on.no_split to refl)
phase_is m i (Join from) on = absurd (on.no_join from refl)
phase_is m i s on = refl

pub in_table_is :
    (m : Machine) (e : ℕ) (x : Entry) → slice_get m.entries e ≡ Some x → in_table m e ≡ true
in_table_is m e x at = lt-ltb e (length m.entries) (slice_get_within m.entries e x at)

pub actor_is : (m : Machine) (i : ℕ) (a : Actor) → slice_get m.actors i ≡ Some a → actor_at m i ≡ a
actor_is m i a me = get_or_from_slice_get m.actors i a nobody me

pub entry_is : (m : Machine) (e : ℕ) (x : Entry) → slice_get m.entries e ≡ Some x → entry_at m e ≡ x
entry_is m e x at = get_or_from_slice_get m.entries e x (unheld_entry (empty_state 0)) at

-- The machine takes the step, which is on an entry, and this is what it leaves.
pub record Moves (m : Machine) (i : ℕ) (s : Step) (after : Machine) : Type 0 where
  pub on : IsOnEntry s
  pub allowed : is_allowed m i s ≡ true
  pub is : after_step m i s ≡ after

module _ (m : Machine) (i : ℕ) (a : Actor) (s : Step) (p : Phase) (x : Entry) (on : IsOnEntry s)
    (names : names_entry m s ≡ true) (me : slice_get m.actors i ≡ Some a) (live : a.live ≡ true)
    (is : a.phase ≡ p) (at : slice_get m.entries (entry_of p s) ≡ Some x) (fit : fits x p s ≡ true)
  where
    fits_is : fits_entry m i s ≡ true
    fits_is =
        ap
        (λ (b : Actor).
        in_table m (entry_of b.phase s) && fits (entry_at m (entry_of b.phase s)) b.phase s)
        (actor_is m i a me)
        ∙ ap (λ (q : Phase). in_table m (entry_of q s) && fits (entry_at m (entry_of q s)) q s) is
        ∙ (λ j. in_table_is m (entry_of p s) x at j && fits (entry_is m (entry_of p s) x at j) p s)
        ∙ fit

    pub may : is_allowed m i s ≡ true
    may =
        allowed_by m i s (may_is m i s on ∙ ap (λ (b : Actor). b.live) (actor_is m i a me) ∙ live)
        names (phase_is m i s on ∙ fits_is)

    abbrev by_parts : Actor → Phase → Entry → Machine
    by_parts b q z =
        let t : StepResult = step_result (words_seen m b (entry_of q s) z.control) z q s in
        put_both m (entry_of q s) t.entry i (actor_after b t.phase t.made)

    pub moved_turn :
        (t : StepResult)
        → step_result (words_seen m a (entry_of p s) x.control) x p s ≡ t
        → after_step m i s ≡ put_both m (entry_of p s) t.entry i (actor_after a t.phase t.made)
    moved_turn t is' =
        let steps : after_allowed_step m i s ≡ by_parts (actor_at m i) (actor_at m i).phase
        (entry_at m (entry_of (actor_at m i).phase s)) =
        (result_parts m i s on.no_split on.no_join may).stepped_is in
        sym (moved_if m i s may) ∙ steps
        ∙ ap (λ (b : Actor). by_parts b b.phase (entry_at m (entry_of b.phase s)))
        (actor_is m i a me)
        ∙ ap (λ (q : Phase). by_parts a q (entry_at m (entry_of q s))) is
        ∙ ap (by_parts a p) (entry_is m (entry_of p s) x at)
        ∙ ap
        (λ (u : StepResult). put_both m (entry_of p s) u.entry i (actor_after a u.phase u.made))
        is'
