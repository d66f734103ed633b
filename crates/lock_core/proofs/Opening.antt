-- What holds of the opened machine, and after every list of steps.
use Rattle.std.specs.Prelude.{slice_get, slice_index_or, All, Contains}
use Rattle.std.proofs.Common.{◌≡◌, ◌⊎◌, ℕ, zero, suc, ◌≢◌, ◌<◌, false, List, [], ◌∷◌, ◌++◌, length, replicate, set, inl, inr, ⊎_elim, refl, sym, ap, ◌∙◌, subst, arith, Some}
use Rattle.std.proofs.lemmas.List.{length-map}
use Rattle.std.proofs.lemmas.Bool.{false≢true}
use Rattle.std.proofs.lemmas.Option.{slice_get-get_or, slice_get_within, get_or_from_slice_get}
use Rattle.entry_model.specs.State.{State, empty_state, Follows}
use Rattle.entry_model.specs.declared.line.Line.{Line}
use Rattle.entry_model.specs.CachedLines.{Holds, IsCurrent}
use Rattle.entry_model.specs.History.{IsLegal, history, Regrouped, nothing}
use Rattle.entry_model.proofs.Follows.{stays}
use Rattle.entry_model.proofs.LineLaws.{holds_on}
use Rattle.entry_model.proofs.Logged.{logged_history}
use Rattle.lock_core.specs.declared.entry.Entry.{Entry}
use Rattle.lock_core.specs.declared.phase.Phase.TheVariants.{Idle}
use Rattle.lock_core.specs.declared.sighting.Sighting.{Sighting}
use Rattle.lock_core.specs.declared.step.Step.{Step}
use Rattle.lock_core.specs.Words.{state_of, unheld_entry, settled_word}
use Rattle.lock_core.specs.Machine.{Actor, Machine, nobody, newcomer, opening_machine, actor_at, entry_at, opening_at, HoldsEntry}
use Rattle.lock_core.specs.Runs.{run, receipts_of}
use Rattle.lock_core.specs.Laws.{IsFair, published_state, sighting_by, HasSeen}
use Rattle.lock_core.proofs.Kept.{IsOn, EntryOk, as_line, Kept}
use Rattle.lock_core.proofs.Lists.{none_some, at_set, same_at, at_copies, at_mapped}
use Rattle.lock_core.proofs.Noted.{state_is}
use Rattle.lock_core.proofs.Whole.{Goes, moved_goes}

quiet_ok : (s : State) → IsFair s → EntryOk (unheld_entry s)
quiet_ok s fair =
    record {
      free =
          λ _.
          state_is s (settled_word s) s.dword0 s.dword1 fair.canonical refl refl
          (λ _. (refl, refl)) (λ _. (refl, refl));
      shut = λ h. absurd (false≢true h);
      low = fair.low;
    }

abbrev Idles : Actor → Type 0
Idles a = (a.phase ≡ Idle) × (a.receipts ≡ []) × (a.lines ≡ [])

-- Each actor of the opened machine is nobody, or the one newcomer.
first_actors :
    (n i : ℕ) (a : Actor)
    → slice_get (set (replicate n nobody) 0 (newcomer [])) i ≡ Some a
    → (newcomer [] ≡ a) ⊎ (nobody ≡ a)
first_actors n i a h =
    ⊎_elim {C = (newcomer [] ≡ a) ⊎ (nobody ≡ a)} (λ (p : (i ≡ 0) × (newcomer [] ≡ a)). inl p.1)
    (λ (p : (i ≢ 0) × (slice_get (replicate n nobody) i ≡ Some a)).
    inr (at_copies n i nobody a p.1)) (at_set (replicate n nobody) 0 i (newcomer []) a h)

first_idle :
    (n i : ℕ) (a : Actor)
    → slice_get (set (replicate n nobody) 0 (newcomer [])) i ≡ Some a
    → Idles a
first_idle n i a h =
    ⊎_elim {C = Idles a} (λ (p : newcomer [] ≡ a). subst Idles p (refl, refl, refl))
    (λ (p : nobody ≡ a). subst Idles p (refl, refl, refl)) (first_actors n i a h)

first_quiet :
    (n i : ℕ) (a : Actor)
    → slice_get (set (replicate n nobody) 0 (newcomer [])) i ≡ Some a
    → a.live ≡ false
    → a ≡ nobody
first_quiet n i a h dead =
    ⊎_elim {C = a ≡ nobody}
    (λ (p : newcomer [] ≡ a).
    absurd (false≢true (sym dead ∙ ap (λ (z : Actor). z.live) (sym p))))
    (λ (p : nobody ≡ a). sym p) (first_actors n i a h)

no_receipts :
    (as' : List Actor)
    → ((i : ℕ) (a : Actor) → slice_get as' i ≡ Some a → a.receipts ≡ [])
    → [] ≡ receipts_of as'
no_receipts [] h = refl
no_receipts (a ∷ rest) h =
    no_receipts rest (λ i b e. h (suc i) b e) ∙ ap (λ l. l ++ receipts_of rest) (sym (h 0 a refl))

-- Who has a line is there.
someone :
    (as' : List Actor) (i j : ℕ) (l : Sighting)
    → slice_get (slice_index_or as' i nobody).lines j ≡ Some l
    → slice_get as' i ≡ Some (slice_index_or as' i nobody)
someone [] i j l h = absurd (none_some l h)
someone (a ∷ rest) zero j l h = refl
someone (a ∷ rest) (suc i) j l h = someone rest i j l h

module _ (states : List State) (fair : All IsFair states) where
  fair_at : (e : ℕ) (s : State) → slice_get states e ≡ Some s → IsFair s
  fair_at e s h =
      subst IsFair (get_or_from_slice_get states e s s h) (fair e s (slice_get_within states e s h))

  opened_kept : (n : ℕ) → Kept states (opening_machine states n) []
  unfolding opening_machine
  opened_kept n = record {
    opens = refl;
    size = length-map states unheld_entry;
    quiet = first_quiet n;
    entries =
        λ e x h.
        (let o = at_mapped unheld_entry states e x h in
        subst EntryOk o.2 (quiet_ok o.0 (fair_at e o.0 o.1)));
    actors = λ i e a x h on at. absurd (subst (IsOn e) (first_idle n i a h).0 on);
    held =
        λ e x h locked.
        (let o = at_mapped unheld_entry states e x h in
        absurd (false≢true (ap (λ (z : Entry). z.control.locked) o.2 ∙ locked)));
    one = λ e i j a b h h' u v. absurd (subst (HoldsEntry e) (first_idle n i a h).0 u);
    lines =
        λ i k a l x h on at.
        absurd (none_some l (subst (λ z. slice_get z k ≡ Some l) (first_idle n i a h).2 on));
    since =
        λ e s x from h.
        (let o = at_mapped unheld_entry states e x h in
        let same : s ≡ x.published = same_at states e s o.0 from o.1 ∙ ap
        (λ (z : Entry). z.published) o.2 in
        subst (λ z. Follows s z) same (stays s));
    chain =
        λ e s x from h.
        (let o = at_mapped unheld_entry states e x h in
        sym (same_at states e s o.0 from o.1 ∙ ap (λ (z : Entry). z.published) o.2));
    listed =
        subst (λ l. Regrouped [] l)
        (no_receipts (set (replicate n nobody) 0 (newcomer []))
        (λ i a h. (first_idle n i a h).1)) nothing;
  }

  -- Over every list of steps.
  pub run_kept :
      (n : ℕ) (steps : List (ℕ × Step)) → Goes states (run (opening_machine states n) steps)
  unfolding run
  run_kept n [] = ([], opened_kept n)
  run_kept n (s ∷ older) =
      let h = run_kept n older in
      moved_goes states (run (opening_machine states n) older) h.0 h.1 s.0 s.1

  module _ (n : ℕ) (steps : List (ℕ × Step)) where
    abbrev reached : Machine
    reached = run (opening_machine states n) steps

    there : (e : ℕ) → e < length states → slice_get reached.entries e ≡ Some (entry_at reached e)
    there e within =
        let size = (run_kept n steps).1.size in
        slice_get-get_or reached.entries e (unheld_entry (empty_state 0)) (omega arith)

    from :
        (e : ℕ)
        → e < length states
        → slice_get states e ≡ Some (slice_index_or states e (empty_state 0))
    from e within = slice_get-get_or states e (empty_state 0) within

    pub state_in_words :
        (e : ℕ)
        → e < length states
        →
        (let x : Entry = entry_at reached e in
        x.control.shut ≡ false → x.published ≡ state_of x.control x.dword0 x.dword1)
    state_in_words e within =
        ((run_kept n steps).1.entries e (entry_at reached e) (there e within)).free

    pub legal_history :
        (e : ℕ)
        → e < length states
        → IsLegal (slice_index_or states e (empty_state 0)) (history e (receipts_of reached.actors))
        (published_state reached e)
    legal_history e within =
        let k = run_kept n steps in
        logged_history e (slice_index_or states e (empty_state 0)) (published_state reached e) k.0
        (receipts_of reached.actors)
        (k.1.chain e (slice_index_or states e (empty_state 0)) (entry_at reached e)
        (from e within) (there e within)) k.1.listed

    with_page : (line : Line) (s : State) → Holds (as_line (sighting_by line)) s → Holds line s
    with_page line s h =
        ⊎_elim {C = Holds line s} (λ (past : line.stamp < s.stamp). inl past)
        (λ (now : IsCurrent (as_line (sighting_by line)) s).
        inr
        (record {
          valid = now.valid;
          stamp = now.stamp;
          dword0 = now.dword0;
          dword1 = now.dword1;
        })) h

    listed_line :
        (i : ℕ) (line : Line)
        → line.entry < length states
        → Contains (actor_at reached i).lines (sighting_by line)
        → Holds line (published_state reached line.entry)
    listed_line i line within has =
        let a : Actor = actor_at reached i in
        let l : Sighting = sighting_by line in
        let at : slice_get a.lines has.0 ≡ Some l = slice_get-get_or a.lines has.0 l has.1 ∙ ap
        (λ z. Some z) has.2 in
        let me : slice_get reached.actors i ≡ Some a = someone reached.actors i has.0 l at in
        with_page line (published_state reached line.entry)
        ((run_kept n steps).1.lines i has.0 a l (entry_at reached line.entry) me at
        (there line.entry within))

    opening_line :
        (line : Line)
        → line.entry < length states
        → Holds line (opening_at reached line.entry)
        → Holds line (published_state reached line.entry)
    opening_line line within holds =
        let k = run_kept n steps in
        let s : State = slice_index_or states line.entry (empty_state 0) in
        let start : opening_at reached line.entry ≡ s = ap
        (λ l. slice_index_or l line.entry (empty_state 0)) k.1.opens in
        holds_on line s (published_state reached line.entry)
        (k.1.since line.entry s (entry_at reached line.entry) (from line.entry within)
        (there line.entry within)) (subst (Holds line) start holds)

    pub seen_line :
        (i : ℕ) (line : Line)
        → line.entry < length states
        → HasSeen reached i line
        → Holds line (published_state reached line.entry)
    seen_line i line within seen =
        ⊎_elim {C = Holds line (published_state reached line.entry)} (listed_line i line within)
        (opening_line line within) seen
