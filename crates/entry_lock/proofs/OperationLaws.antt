-- By which step of the machine the table goes on, at each atomic operation.
use Rattle.std.specs.Prelude.{if◌then◌else◌}
use Rattle.std.proofs.Common.{◌≡◌, ℕ, ◌<◌, ◌==◌, ◌&&◌, Bool, true, false, List, [], ◌∷◌, length, set, get_or, ◌⊎◌, inl, inr, ⊎_elim, refl, sym, ap, ◌∙◌, subst, arith}
use Rattle.std.proofs.lemmas.Bool.{false≢true, and_parts, ltb-true, eqb-true, not-true, cases_Bool}
use mathlib.Core.Logic.{dite}
use native.Mathlib.Decide.{ℕ_discrete}
use Rattle.atomic_table.specs.Table.{State as TableState}
use Rattle.authority_mask.specs.declared.masks.Masks.{Masks}
use Rattle.basics.proofs.Bools.{bool_same}
use Rattle.storage_prot.specs.declared.want.Want.{Want}
use Rattle.storage_prot.specs.declared.want.Want.TheVariants.{Load, Store, Fetch}
use Rattle.entry_model.specs.declared.line.Line.{Line}
use Rattle.entry_model.specs.declared.operation.Op.{Op}
use Rattle.entry_model.specs.declared.operation.Op.TheVariants.{Access}
use Rattle.entry_model.specs.Receipt.{is_access}
use Rattle.lock_core.specs.declared.doing.Doing.{Doing}
use Rattle.lock_core.specs.declared.phase.Phase.{Phase}
use Rattle.lock_core.specs.declared.phase.Phase.TheVariants.{Idle, Held, HeldShut, Looked}
use Rattle.lock_core.specs.declared.step.Step.{Step}
use Rattle.lock_core.specs.declared.step.Step.TheVariants.{Lock, Look, LoadData, Shut, StoreData, Settle, Release, Mark}
use Rattle.lock_core.specs.Words.{same_access, want_eq, masks_eq}
use Rattle.lock_core.specs.Machine.{Actor, Machine, actor_at, entry_at, in_table}
use Rattle.lock_core.specs.Steps.{entry_of, fits, names_entry}
use Rattle.entry_lock.specs.declared.rule.View.{View}
use Rattle.entry_lock.specs.declared.rule.Opening.{Opening}
use Rattle.entry_lock.specs.Layout.{word_of, control_place}
use Rattle.entry_lock.specs.Views.{states_of}
use Rattle.entry_lock.specs.Rule.{ShowsSteps, machine_after}
use Rattle.entry_lock.specs.StepViews.{view_with_step}
use Rattle.entry_lock.specs.HolderSteps.{LockTells}
use Rattle.entry_lock.specs.AccessSteps.{AreAlike, LookTells, is_decided, SecondLookTells, MarkTells}
use Rattle.entry_lock.specs.LineSteps.{is_gone_from, LineLookTells, LineSecondLookTells, LineMarkTells}
use Rattle.entry_lock.specs.CallSteps.{Took}
use Rattle.entry_lock.specs.SingleSteps.{OperationsAreSingleSteps}
use Rattle.entry_lock.specs.Operations.{marked_word, operation_of, words_after}
use Rattle.entry_lock.specs.Laws.{ShowsPass, TablesOpenOnTheirStates, EachOperationIsAStep, LooksThatFindGoneAreNoSteps, SplitsAreSteps, JoinsAreSteps}
use Rattle.entry_lock.proofs.MachineMoves.{may_is, phase_is, actor_is}
use Rattle.entry_lock.proofs.PassSteps.{kept, me}
use Rattle.entry_lock.proofs.StoredWords.{stored_numbers, stored_taken}
use Rattle.entry_lock.proofs.HolderOperations.{lock_step, load_step, shut_step, store_step, settle_step, release_step}
use Rattle.entry_lock.proofs.AccessOperations.{look_step, looked_load_step, look_again_step, mark_step}
use Rattle.entry_lock.proofs.LineOperations.{raise_shown}
use Rattle.entry_lock.proofs.SplitsAndJoins.{shows_split, shows_join}
use Rattle.entry_lock.proofs.Openings.{opens}
use prog.Atomic.{either}
use Rattle.lock_core.proofs.Whole.{allowed_parts}

-- ---- a step leaves the numbers of its pass, which knows that it took it
abbrev IsBy : View → View → Step → Type 0
IsBy v w step = (w.numbers ≡ v.numbers) × (w.taken ≡ step ∷ v.taken)

is_by : (v w u : View) (step : Step) → w ≡ u → IsBy v u step → IsBy v w step
is_by v w u step is by = subst (λ z. IsBy v z step) (sym is) by

lock_by :
    (op : Op) (e : ℕ) (v : View) (found : ℕ) (w : View)
    → LockTells op e v found w
    → IsBy v w (Lock e op)
lock_by op e v found w t =
    ⊎_elim {C = IsBy v w (Lock e op)}
    (λ (q : t.0.locked ≡ true). is_by v w _ (Lock e op) (t.3 q) (refl, refl))
    (λ (q : t.0.locked ≡ false). is_by v w _ (Lock e op) (t.4 q) (refl, refl))
    (cases_Bool t.0.locked)

look_by :
    (op : Op) (e : ℕ) (v : View) (found : ℕ) (w : View)
    → LookTells op e v found w
    → IsBy v w (Look e op)
look_by op e v found w t =
    ⊎_elim {C = IsBy v w (Look e op)}
    (λ (q : t.0.shut ≡ true). is_by v w _ (Look e op) (t.3 q) (refl, refl))
    (λ (q : t.0.shut ≡ false). is_by v w _ (Look e op) (t.4 q).1 (refl, refl))
    (cases_Bool t.0.shut)

second_by :
    (d : Doing) (v : View) (found : ℕ) (w : View)
    → SecondLookTells d v found w
    → IsBy v w (Look d.entry d.op)
second_by d v found w t =
    ⊎_elim {C = IsBy v w (Look d.entry d.op)}
    (λ (q : is_decided t.0 d ≡ true). is_by v w _ (Look d.entry d.op) (t.3 q).0.0 (refl, refl))
    (λ (q : is_decided t.0 d ≡ false). is_by v w _ (Look d.entry d.op) (t.4 q) (refl, refl))
    (cases_Bool (is_decided t.0 d))

mark_by : (d : Doing) (v : View) (found : ℕ) (w : View) → MarkTells d v found w → IsBy v w Mark
mark_by d v found w t =
    dite {C = IsBy v w Mark} (ℕ_discrete found (word_of d.noted))
    (λ hit. is_by v w _ Mark (t.3 hit).0 (refl, refl))
    (λ miss. is_by v w _ Mark (t.4 miss) (refl, refl))

want_same : (a b : Want) → want_eq a b ≡ true → a ≡ b
want_same Load Load h = refl
want_same Store Store h = refl
want_same Fetch Fetch h = refl
want_same Load Store h = absurd (false≢true h)
want_same Load Fetch h = absurd (false≢true h)
want_same Store Load h = absurd (false≢true h)
want_same Store Fetch h = absurd (false≢true h)
want_same Fetch Load h = absurd (false≢true h)
want_same Fetch Store h = absurd (false≢true h)

masks_same : (m n : Masks) → masks_eq m n ≡ true → m ≡ n
masks_same m n h =
    let p = and_parts _ _ h in
    let a = eqb-true m.amr n.amr p.0 in
    let b = eqb-true m.iamr n.iamr p.1 in
    λ i. record { amr = a i; iamr = b i }

-- The second look names its operation again.
access_same : (op op' : Op) → same_access op op' ≡ true → op ≡ op'
unfolding same_access
access_same (Access tag base key no_execute want masks)
    (Access tag' base' key' no_execute' want' masks') h =
    let p = and_parts _ _ h in
    let q = and_parts _ _ p.0 in
    let r = and_parts _ _ q.0 in
    let t = and_parts _ _ r.0 in
    let u = and_parts _ _ t.0 in
    let a = eqb-true tag tag' u.0 in
    let b = eqb-true base base' u.1 in
    let c = bool_same key key' t.1 in
    let d = bool_same no_execute no_execute' r.1 in
    let e = want_same want want' q.1 in
    let f = masks_same masks masks' p.1 in
    λ i. Access (a i) (b i) (c i) (d i) (e i) (f i)
access_same op op' h = absurd (false≢true h)

alike_self : (d : Doing) → AreAlike d d
alike_self d =
    record {
      entry = refl;
      op = refl;
      noted = refl;
      first = refl;
      second = refl;
      read = λ h. h;
      words = λ h. (refl, refl);
    }

either_if : (b : Bool) (x y : ℕ) → either b x y ≡ (if b then x else y)
either_if true x y = refl
either_if false x y = refl

-- ---- a step by the phase of the pass
module _ (key : Opening) (steps : List (ℕ × Step)) (words : List ℕ) (views : List View) (j n : ℕ)
    (v : View) (shown : ShowsPass key steps words views j n v) where
  abbrev s : TableState ℕ View
  s = record { words = words; homes = []; views = views }

  abbrev C : Machine
  C = machine_after key steps

  abbrev Result : Phase → Step → Type 0
  Result p step =
      (w : View)
      × (w.numbers ≡ v.numbers)
      × (w.taken ≡ step ∷ v.taken)
      × ShowsSteps key ((n, step) ∷ steps) (words_after words (operation_of p step)) (set views j w)

  inside_if : (e : ℕ) → in_table C e ≡ true → e < length (states_of key)
  inside_if e h =
      let l = ltb-true e (length C.entries) h in
      let k = (kept key s steps shown.shows j n shown.others v shown.pass shown.numbers).1.size in
      omega arith

  by_phase :
      (p : Phase) (step : Step)
      → v.actor.phase ≡ p
      → v.actor.live ≡ true
      → names_entry C step ≡ true
      → in_table C (entry_of p step) ≡ true
      → fits (entry_at C (entry_of p step)) p step ≡ true
      → Result p step
  unfolding fits
  by_phase Idle (Lock e op) is live names inside fit =
      let l = lock_step key s steps shown.shows j n shown.others v shown.pass shown.numbers live e
      op (inside_if e inside) is (not-true (is_access op) fit) in
      let b = lock_by op e v _ l.0 l.2 in
      (l.0, b.0, b.1, l.1)
  by_phase Idle (Look e op) is live names inside fit =
      let l = look_step key s steps shown.shows j n shown.others v shown.pass shown.numbers live e
      op (inside_if e inside) is fit in
      let b = look_by op e v _ l.0 l.2 in
      (l.0, b.0, b.1, l.1)
  by_phase (Held d) (LoadData second) is live names inside fit =
      let l = load_step key s steps shown.shows j n shown.others v shown.pass shown.numbers live d
      second (inside_if d.entry inside) is fit in
      let b = is_by v l.0 _ (LoadData second) l.2 (refl, refl) in
      (l.0, b.0, b.1, l.1)
  by_phase (Held d) Shut is live names inside fit =
      let l = shut_step key s steps shown.shows j n shown.others v shown.pass shown.numbers live d
      (inside_if d.entry inside) is fit in
      let b = is_by v l.0 _ Shut l.2.4 (refl, refl) in
      (l.0, b.0, b.1, l.1)
  by_phase (Held d) Release is live names inside fit =
      let l = release_step key s steps shown.shows j n shown.others v shown.pass shown.numbers live
      d (inside_if d.entry inside) is fit in
      let b = is_by v l.0 _ Release l.2.4 (refl, refl) in
      (l.0, b.0, b.1, l.1)
  by_phase (HeldShut d) (StoreData second) is live names inside fit =
      let l = store_step key s steps shown.shows j n shown.others v shown.pass shown.numbers live d
      second _ (inside_if d.entry inside) is refl in (
        l.0,
        ap (λ (z : View). z.numbers) l.2
            ∙ stored_numbers second (view_with_step v (StoreData second)),
        ap (λ (z : View). z.taken) l.2 ∙ stored_taken second (view_with_step v (StoreData second)),
        l.1,
      )
  by_phase (HeldShut d) Settle is live names inside fit =
      let l = settle_step key s steps shown.shows j n shown.others v shown.pass shown.numbers live d
      _ (inside_if d.entry inside) is fit refl in
      let b = is_by v l.0 _ Settle l.2.0 (refl, refl) in
      (l.0, b.0, b.1, l.1)
  by_phase (Looked d) (LoadData second) is live names inside fit =
      let l = looked_load_step key s steps shown.shows j n shown.others v shown.pass shown.numbers
      live d second (inside_if d.entry inside) is fit in
      let b = is_by v l.0 _ (LoadData second) l.2 (refl, refl) in
      (l.0, b.0, b.1, l.1)
  by_phase (Looked d) (Look e op) is live names inside fit =
      let both = and_parts _ _ fit in
      let named = and_parts _ _ both.0 in
      let may = and_parts _ _ both.1 in
      let same : Look d.entry d.op ≡ Look e op =
      (let a = sym (eqb-true e d.entry named.0) in
      let b = sym (access_same op d.op named.1) in
      λ i. Look (a i) (b i)) in
      let l = look_again_step key s steps shown.shows j n shown.others v shown.pass shown.numbers
      live d d (inside_if d.entry inside) is (alike_self d) may.0 (not-true _ may.1) in
      let b = second_by d v _ l.0 l.2 in
      let done : Result (Looked d) (Look d.entry d.op) = (l.0, b.0, b.1, l.1) in
      subst (Result (Looked d)) same done
  by_phase (Looked d) Mark is live names inside fit =
      let may = and_parts _ _ fit in
      let l = mark_step key s steps shown.shows j n shown.others v shown.pass shown.numbers live d d
      (inside_if d.entry inside) is (alike_self d) may.0 (marked_word d) may.1 refl in
      let found : ℕ = get_or words (control_place d.entry) 0 in
      let b = mark_by d v _ l.0 l.2 in (
        l.0,
        b.0,
        b.1,
        subst
            (λ m.
            ShowsSteps key ((n, Mark) ∷ steps) (set words (control_place d.entry) m)
            (set views j l.0)) (either_if (found == word_of d.noted) (marked_word d) found) l.1,
      )
  by_phase p step is live names inside fit = absurd (false≢true fit)

-- ---- the laws
pub each_is_a_step : EachOperationIsAStep
each_is_a_step key steps words views j n v step shown on ok =
    let m : Machine = machine_after key steps in
    let parts = allowed_parts m n step ok in
    let actor : actor_at m n ≡ v.actor = actor_is m n v.actor
    (me key (record { words = words; homes = []; views = views }) steps shown.shows j n
    shown.others v shown.pass shown.numbers) in
    let live : v.actor.live ≡ true = ap (λ (a : Actor). a.live) (sym actor) ∙ sym
    (may_is m n step on) ∙ parts.0 in
    let fit :
    (in_table m (entry_of v.actor.phase step) && fits (entry_at m (entry_of v.actor.phase step))
    v.actor.phase step)
    ≡ true =
    ap
    (λ (a : Actor).
    in_table m (entry_of a.phase step) && fits (entry_at m (entry_of a.phase step)) a.phase
    step) (sym actor)
    ∙ sym (phase_is m n step on)
    ∙ parts.2 in
    let both = and_parts _ _ fit in
    by_phase key steps words views j n v shown v.actor.phase step refl live parts.1 both.0 both.1

pub looks_are_none : LooksThatFindGoneAreNoSteps
looks_are_none key steps words views j n v cached noted shown idle inside seen means gone =
    raise_shown key (record { words = words; homes = []; views = views }) steps shown.shows j n
    shown.others v shown.pass shown.numbers cached noted _ inside seen idle means gone refl refl
    refl refl refl refl

pub splits_are : SplitsAreSteps
splits_are key steps words views j n m v ms shows at mine idle live =
    shows_split key (record { words = words; homes = []; views = views }) steps shows j n v at m ms
    mine idle live

pub joins_are : JoinsAreSteps
joins_are key steps words views j k n m v w shown idle live other idle' live' away =
    shows_join key (record { words = words; homes = []; views = views }) steps shown.shows j n v
    shown.pass shown.others shown.numbers idle live k m w other.others away other.pass
    other.numbers idle' live'

pub tables_open : TablesOpenOnTheirStates
tables_open = opens

-- ---- each operation is one step
line_look_took :
    (line : Line) (op : Op) (v w : View) (found : ℕ)
    → LineLookTells line op v found w
    → Took [] v w ⊎ Took (Look line.entry op ∷ []) v w
line_look_took line op v w found t = ⊎_elim {C = Took [] v w ⊎ Took (Look line.entry op ∷ []) v w}
    (λ (left : is_gone_from t.0 line.stamp ≡ true). inl (ap (λ (z : View). z.taken) (t.2 left).0))
    (λ (stay : is_gone_from t.0 line.stamp ≡ false).
    inr (ap (λ (z : View). z.taken) (t.3 stay).2)) (cases_Bool (is_gone_from t.0 line.stamp))

line_again_took :
    (line : Line) (d : Doing) (v w : View) (found : ℕ)
    → LineSecondLookTells line d v found w
    → Took (Look d.entry d.op ∷ []) v w
line_again_took line d v w found t =
    ⊎_elim {C = Took (Look d.entry d.op ∷ []) v w}
    (λ (q : is_decided t.0 d ≡ true). ap (λ (z : View). z.taken) (t.2 q).0.0)
    (λ (q : is_decided t.0 d ≡ false). ap (λ (z : View). z.taken) (t.3 q).0.0)
    (cases_Bool (is_decided t.0 d))

line_mark_took :
    (line : Line) (d : Doing) (v w : View) (found : ℕ)
    → LineMarkTells line d v found w
    → Took (Mark ∷ []) v w
line_mark_took line d v w found t =
    dite {C = Took (Mark ∷ []) v w} (ℕ_discrete found (word_of d.noted))
    (λ hit. ap (λ (z : View). z.taken) (t.3 hit).0)
    (λ miss.
    ⊎_elim {C = Took (Mark ∷ []) v w}
    (λ (q : is_gone_from t.0 line.stamp ≡ true). ap (λ (z : View). z.taken) (t.4 miss q).0)
    (λ (q : is_gone_from t.0 line.stamp ≡ false). ap (λ (z : View). z.taken) (t.5 miss q))
    (cases_Bool (is_gone_from t.0 line.stamp)))

pub single_steps : OperationsAreSingleSteps
single_steps = (
  record {
    lock = λ op e v w found t. (lock_by op e v found w t).1;
    load = λ second d v w found t. ap (λ (z : View). z.taken) t;
    shut = λ d v w found t. ap (λ (z : View). z.taken) t.4;
    store =
        λ second d v w found t.
        ap (λ (z : View). z.taken) t ∙ stored_taken second (view_with_step v (StoreData second));
    settle = λ d v w found t. ap (λ (z : View). z.taken) t.0;
    release = λ d v w found t. ap (λ (z : View). z.taken) t.4;
  },
  record {
    look = λ op e v w found t. (look_by op e v found w t).1;
    load = λ second d v w found t. ap (λ (z : View). z.taken) t;
    again = λ d v w found t. (second_by d v found w t).1;
    mark = λ d v w found t. (mark_by d v found w t).1;
  },
  record { look = line_look_took; again = line_again_took; mark = line_mark_took },
)
