-- What each step on the table asks for.
use Rattle.std.proofs.Common.{◌∷◌, ◌≡◌, ℕ, ◌<◌, ◌==◌, ◌&&◌, not, Bool, true, false, List, length, get_or, refl, sym, ap, ◌∙◌, subst, arith, None}
use Rattle.std.specs.Int.Bits.{bit_or, bit_and}
use Rattle.std.proofs.lemmas.List.{set-get_or}
use mathlib.Core.Option.{none}
use Rattle.atomic_table.specs.Table.{Me, keeps, step, Allows}
use Rattle.entry_model.specs.declared.operation.Op.{Op}
use Rattle.entry_model.specs.Receipt.{is_access}
use Rattle.lock_core.specs.declared.doing.Doing.{Doing}
use Rattle.lock_core.specs.declared.phase.Phase.TheVariants.{Idle, Held, HeldShut, Looked}
use Rattle.lock_core.specs.declared.step.Step.TheVariants.{Lock, Look, LoadData, Shut, StoreData, Settle, Release, Mark}
use Rattle.lock_core.specs.Words.{next_state, is_read, changes, settled_word}
use Rattle.entry_lock.specs.declared.rule.View.{View}
use Rattle.entry_lock.specs.declared.rule.Opening.{Opening}
use Rattle.entry_lock.specs.Layout.{word_of, control_place, data_place, doubleword}
use Rattle.entry_lock.specs.Views.{states_of}
use Rattle.entry_lock.specs.Rule.{ShowsRun}
use Rattle.entry_lock.specs.HolderSteps.{LockTells, LoadTells, ShutTells, StoreTells, SettleTells, ReleaseTells}
use Rattle.entry_lock.specs.AccessSteps.{LookTells, LookedLoadTells, SecondLookTells, MarkTells, IsLooking}
use Rattle.entry_lock.specs.SeenLines.{IsSeen}
use Rattle.entry_lock.specs.LineSteps.{LineLookTells, LineSecondLookTells, LineMarkTells}
use Rattle.entry_lock.specs.Plays.{BeginPlay, HeldPlay, HeldDataPlay, ShutPlay, ShutDataPlay, LookedDataPlay, DecidingPlay, SharesPlay, LinePlay}
use Rattle.entry_lock.specs.PassInvariants.{IsActing}
use Rattle.atomic_table.proofs.Lists.{set_again as view_again}
use Rattle.entry_lock.proofs.ViewLists.{total_one}
use Rattle.entry_model.specs.declared.line.Line.{Line}
use Rattle.entry_lock.proofs.LineOperations.{known_step, known_again_step, known_mark_step}
use Rattle.entry_lock.proofs.PassSteps.{numbered}
use Rattle.entry_lock.proofs.HolderOperations.{lock_step, load_step, shut_step, store_step, settle_may, settle_step, release_step}
use Rattle.entry_lock.proofs.AccessOperations.{look_step, looked_load_step, look_again_step, mark_step}
use prog.Atomic.{either}
use Rattle.lock_core.proofs.Kept.{held_same, shut_same, looked_same}

same_entry : (e e' : ℕ) → control_place e ≡ control_place e' → e ≡ e'
same_entry e e' h = omega arith

same_half : (e : ℕ) (b b' : Bool) → data_place e b ≡ data_place e b' → b ≡ b'
same_half e false false h = refl
same_half e false true h = absurd (omega arith)
same_half e true false h = absurd (omega arith)
same_half e true true h = refl

-- ---- hypervisor calls
pub lock_allowed :
    (key : Opening) (slots id : ℕ) (m : Me ℕ View) (e : ℕ) (op : Op)
    → IsActing m.0
    → e < length (states_of key)
    → m.0.actor.phase ≡ Idle
    → is_access op ≡ false
    → Allows (ShowsRun key) slots id m (control_place e) (λ k. bit_or k 9223372036854775808)
    (BeginPlay LockTells op (step slots (control_place e) 9223372036854775808 0 none) m)
lock_allowed key slots id m e op acts inside idle other s h deep at fits =
    let a = numbered m.0 acts in
    let l = lock_step key s h.0 h.1 id a.0 a.1 m.0 at a.2 acts.live e op inside idle other in (
      l.0,
      keeps,
      tt,
      ((a.0, Lock e op) ∷ h.0, l.1),
      (
        (λ e' same.
            subst (λ z. LockTells op z m.0 (get_or s.words (control_place e) 0) l.0)
            (same_entry e e' same) l.2),
        refl,
      ),
    )

pub look_allowed :
    (key : Opening) (slots id : ℕ) (m : Me ℕ View) (e : ℕ) (op : Op)
    → IsActing m.0
    → e < length (states_of key)
    → m.0.actor.phase ≡ Idle
    → is_access op ≡ true
    → Allows (ShowsRun key) slots id m (control_place e) (λ k. k)
    (BeginPlay LookTells op (step slots (control_place e) 0 0 none) m)
look_allowed key slots id m e op acts inside idle access s h deep at fits =
    let a = numbered m.0 acts in
    let l = look_step key s h.0 h.1 id a.0 a.1 m.0 at a.2 acts.live e op inside idle access in (
      l.0,
      keeps,
      tt,
      ((a.0, Look e op) ∷ h.0, l.1),
      (
        (λ e' same.
            subst (λ z. LookTells op z m.0 (get_or s.words (control_place e) 0) l.0)
            (same_entry e e' same) l.2),
        refl,
      ),
    )

module _ (key : Opening) (slots id : ℕ) (m : Me ℕ View) (acts : IsActing m.0) (d : Doing)
    (inside : d.entry < length (states_of key)) where
  pub load_allowed : (second : Bool) → m.0.actor.phase ≡ Held d → d.noted.valid ≡ true
      → Allows (ShowsRun key) slots id m (data_place d.entry second) (λ k. k)
      (HeldDataPlay (step slots (data_place d.entry second) 0 0 none) m)
  load_allowed second is valid s h deep at fits =
      let a = numbered m.0 acts in
      let l = load_step key s h.0 h.1 id a.0 a.1 m.0 at a.2 acts.live d second inside is valid in (
        l.0,
        keeps,
        tt,
        ((a.0, LoadData second) ∷ h.0, l.1),
        (
          (λ d' b is' word. let q : d ≡ d' = held_same d d' (sym is ∙ is') in
              let same : second ≡ b = same_half d.entry second b
              (word ∙ ap (λ (z : Doing). data_place z.entry b) (sym q)) in
              subst
              (λ (z : Bool × Doing).
              LoadTells z.0 z.1 m.0 (get_or s.words (data_place d.entry second) 0) l.0)
              (λ i. (same i, q i)) l.2),
          refl,
        ),
      )

  pub shut_allowed : m.0.actor.phase ≡ Held d → (is_read d && changes d) ≡ true
      → Allows (ShowsRun key) slots id m (control_place d.entry) (λ k. bit_or k 4611686018427387904)
      (HeldPlay ShutTells (step slots (control_place d.entry) 4611686018427387904 0 none) m)
  shut_allowed is may s h deep at fits =
      let a = numbered m.0 acts in
      let l = shut_step key s h.0 h.1 id a.0 a.1 m.0 at a.2 acts.live d inside is may in (
        l.0,
        keeps,
        tt,
        ((a.0, Shut) ∷ h.0, l.1),
        (
          (λ d' is'.
              subst (λ z. ShutTells z m.0 (get_or s.words (control_place d.entry) 0) l.0)
              (held_same d d' (sym is ∙ is')) l.2),
          refl,
        ),
      )

  pub release_allowed : m.0.actor.phase ≡ Held d → (is_read d && not (changes d)) ≡ true
      → Allows (ShowsRun key) slots id m (control_place d.entry)
      (λ k. bit_and k 9223372036854775807)
      (HeldPlay ReleaseTells (step slots (control_place d.entry) 9223372036854775807 0 none) m)
  release_allowed is may s h deep at fits =
      let a = numbered m.0 acts in
      let l = release_step key s h.0 h.1 id a.0 a.1 m.0 at a.2 acts.live d inside is may in (
        l.0,
        keeps,
        tt,
        ((a.0, Release) ∷ h.0, l.1),
        (
          (λ d' is'.
              subst (λ z. ReleaseTells z m.0 (get_or s.words (control_place d.entry) 0) l.0)
              (held_same d d' (sym is ∙ is')) l.2),
          refl,
        ),
      )

  pub store_allowed :
      (second : Bool) (new : ℕ)
      → m.0.actor.phase ≡ HeldShut d
      → new ≡ doubleword second (next_state d)
      → Allows (ShowsRun key) slots id m (data_place d.entry second) (λ _. new)
      (λ _. ShutDataPlay (step slots (data_place d.entry second) new 0 none) m new)
  store_allowed second new is means s h deep at fits =
      let a = numbered m.0 acts in
      let l = store_step key s h.0 h.1 id a.0 a.1 m.0 at a.2 acts.live d second new inside is means
      in (
        l.0,
        keeps,
        tt,
        ((a.0, StoreData second) ∷ h.0, l.1),
        (
          (λ d' b is' word. let q : d ≡ d' = shut_same d d' (sym is ∙ is') in
              let same : second ≡ b = same_half d.entry second b
              (word ∙ ap (λ (z : Doing). data_place z.entry b) (sym q)) in
              subst (λ (z : Bool × Doing). StoreTells z.0 z.1 m.0 new l.0) (λ i. (same i, q i))
              l.2),
          refl,
        ),
      )

  pub settle_allowed :
      (new : ℕ)
      → m.0.actor.phase ≡ HeldShut d
      → ((next_state d).valid ≡ true → (m.0.first_stored ≡ true) × (m.0.second_stored ≡ true))
      → new ≡ word_of (settled_word (next_state d))
      → Allows (ShowsRun key) slots id m (control_place d.entry) (λ _. new)
      (λ _. ShutPlay SettleTells (step slots (control_place d.entry) new 0 none) m new)
  settle_allowed new is done means s h deep at fits =
      let a = numbered m.0 acts in
      let l = settle_step key s h.0 h.1 id a.0 a.1 m.0 at a.2 acts.live d new inside is
      (settle_may key s h.0 h.1 id a.0 a.1 m.0 at a.2 acts.live d inside is done) means in (
        l.0,
        keeps,
        tt,
        ((a.0, Settle) ∷ h.0, l.1),
        (
          (λ d' is'. subst (λ z. SettleTells z m.0 new l.0) (shut_same d d' (sym is ∙ is')) l.2),
          refl,
        ),
      )

  -- ---- accesses
  pub looked_load_allowed : (second : Bool) → m.0.actor.phase ≡ Looked d → d.noted.valid ≡ true
      → Allows (ShowsRun key) slots id m (data_place d.entry second) (λ k. k)
      (LookedDataPlay (step slots (data_place d.entry second) 0 0 none) m)
  looked_load_allowed second is valid s h deep at fits =
      let a = numbered m.0 acts in
      let l = looked_load_step key s h.0 h.1 id a.0 a.1 m.0 at a.2 acts.live d second inside is
      valid in (
        l.0,
        keeps,
        tt,
        ((a.0, LoadData second) ∷ h.0, l.1),
        (
          (λ d' b is' word. let q : d ≡ d' = looked_same d d' (sym is ∙ is') in
              let same : second ≡ b = same_half d.entry second b
              (word ∙ ap (λ (z : Doing). data_place z.entry b) (sym q)) in
              subst
              (λ (z : Bool × Doing).
              LookedLoadTells z.0 z.1 m.0 (get_or s.words (data_place d.entry second) 0) l.0)
              (λ i. (same i, q i)) l.2),
          refl,
        ),
      )

module _ (key : Opening) (slots id : ℕ) (m : Me ℕ View) (acts : IsActing m.0) (a : Doing)
    (inside : a.entry < length (states_of key)) (looks : IsLooking m.0 a) (read : is_read a ≡ true)
  where
    inside' : looks.0.entry < length (states_of key)
    inside' = subst (λ e. e < length (states_of key)) (sym looks.2.entry) inside

    pub again_allowed :
        changes a ≡ false
        → Allows (ShowsRun key) slots id m (control_place a.entry) (λ k. k)
        (DecidingPlay SecondLookTells a (step slots (control_place a.entry) 0 0 none) m)
    again_allowed still =
        subst
        (λ e.
        Allows (ShowsRun key) slots id m (control_place e) (λ k. k)
        (DecidingPlay SecondLookTells a (step slots (control_place e) 0 0 none) m))
        looks.2.entry (λ s h deep at fits.
        let n = numbered m.0 acts in
        let l = look_again_step key s h.0 h.1 id n.0 n.1 m.0 at n.2 acts.live a looks.0 inside'
        looks.1 looks.2 read still in
        (l.0, keeps, tt, ((n.0, Look looks.0.entry looks.0.op) ∷ h.0, l.1), (l.2, refl)))

    pub mark_allowed :
        (new : ℕ)
        → changes a ≡ true
        → new
        ≡ word_of
        (record a.noted {
          referenced = (next_state a).referenced;
          changed = (next_state a).changed;
        })
        → Allows (ShowsRun key) slots id m (control_place a.entry)
        (λ k. either (k == word_of a.noted) new k)
        (DecidingPlay MarkTells a (step slots (control_place a.entry) (word_of a.noted) new none)
        m)
    mark_allowed new change means =
        subst
        (λ e.
        Allows (ShowsRun key) slots id m (control_place e)
        (λ k. either (k == word_of a.noted) new k)
        (DecidingPlay MarkTells a (step slots (control_place e) (word_of a.noted) new none)
        m)) looks.2.entry (λ s h deep at fits.
        let n = numbered m.0 acts in
        let l = mark_step key s h.0 h.1 id n.0 n.1 m.0 at n.2 acts.live a looks.0 inside' looks.1
        looks.2 read new change means in
        (l.0, keeps, tt, ((n.0, Mark) ∷ h.0, l.1), (l.2, refl)))

-- ---- word 0
pub shares_allowed :
    (key : Opening) (slots id : ℕ) (m : Me ℕ View)
    → IsActing m.0
    → Allows (ShowsRun key) slots id m 0 (λ k. k) (SharesPlay (step slots 0 0 0 none) m)
shares_allowed key slots id m acts s h deep at fits = (
  m.0,
  keeps,
  tt,
  subst
      (λ (z : List ℕ × List View).
      ShowsRun key (record { words = z.0; homes = s.homes; views = z.1 }))
      (λ i. (sym (set-get_or s.words 0 0) i, sym (view_again s.views id m.0 at) i)) h,
  (
    refl,
    (let t = total_one (λ (v : View). length v.numbers) s.views id m.0 at in
        let e = h.1.shows.shares in
        let w = (h.1.shows.whole id m.0 at acts.some_share).0 in
        omega arith),
  ),
)

-- ---- by a line that was seen
pub known_allowed :
    (key : Opening) (slots id : ℕ) (m : Me ℕ View) (line : Line) (op : Op)
    → IsActing m.0
    → line.entry < length (states_of key)
    → IsSeen m.0.actor.lines (states_of key) line
    → m.0.actor.phase ≡ Idle
    → is_access op ≡ true
    → Allows (ShowsRun key) slots id m (control_place line.entry) (λ k. k)
    (LinePlay (LineLookTells line op) (step slots (control_place line.entry) 0 0 none) m)
known_allowed key slots id m line op acts inside seen idle access s h deep at fits =
    let a = numbered m.0 acts in
    let l = known_step key s h.0 h.1 id a.0 a.1 m.0 at a.2 acts.live line op inside seen idle access
    in
    (l.0, keeps, tt, l.1, (l.2, refl))

module _ (key : Opening) (slots id : ℕ) (m : Me ℕ View) (acts : IsActing m.0) (line : Line)
    (a : Doing) (inside : a.entry < length (states_of key)) (looks : IsLooking m.0 a)
    (read : is_read a ≡ true) (on : a.entry ≡ line.entry) (stamp : a.noted.stamp ≡ line.stamp)
    (seen : IsSeen m.0.actor.lines (states_of key) line) where
  within : looks.0.entry < length (states_of key)
  within = subst (λ e. e < length (states_of key)) (sym looks.2.entry) inside

  pub known_again_allowed :
      a.first ≡ None
      → a.second ≡ None
      → changes a ≡ false
      → Allows (ShowsRun key) slots id m (control_place a.entry) (λ k. k)
      (LinePlay (LineSecondLookTells line a) (step slots (control_place a.entry) 0 0 none) m)
  known_again_allowed first second still =
      subst
      (λ e.
      Allows (ShowsRun key) slots id m (control_place e) (λ k. k)
      (LinePlay (LineSecondLookTells line a) (step slots (control_place e) 0 0 none) m))
      looks.2.entry (λ s h deep at fits.
      let n = numbered m.0 acts in
      let l = known_again_step key s h.0 h.1 id n.0 n.1 m.0 at n.2 acts.live line a looks.0 within
      looks.1 looks.2 read on stamp seen first second still in
      (l.0, keeps, tt, l.1, (l.2, refl)))

  pub known_mark_allowed :
      (new : ℕ)
      → changes a ≡ true
      → new
      ≡ word_of
      (record a.noted {
        referenced = (next_state a).referenced;
        changed = (next_state a).changed;
      })
      → Allows (ShowsRun key) slots id m (control_place a.entry)
      (λ k. either (k == word_of a.noted) new k)
      (LinePlay (LineMarkTells line a)
      (step slots (control_place a.entry) (word_of a.noted) new none) m)
  known_mark_allowed new change means =
      subst
      (λ e.
      Allows (ShowsRun key) slots id m (control_place e)
      (λ k. either (k == word_of a.noted) new k)
      (LinePlay (LineMarkTells line a)
      (step slots (control_place e) (word_of a.noted) new none) m)) looks.2.entry
      (λ s h deep at fits.
      let n = numbered m.0 acts in
      let l = known_mark_step key s h.0 h.1 id n.0 n.1 m.0 at n.2 acts.live line a looks.0 within
      looks.1 looks.2 read on stamp seen new change means in
      (l.0, keeps, tt, l.1, (l.2, refl)))
