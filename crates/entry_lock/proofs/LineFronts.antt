-- Fronts that rise, words that have left a stamp, and lines that were seen.
use Rattle.std.specs.Prelude.{slice_get, is_some, option_map}
use Rattle.std.proofs.Common.{◌≡◌, ◌≢◌, ◌⊎◌, ℕ, zero, suc, ◌+◌, ◌*◌, ◌<◌, ◌≤◌, ◌==◌, ◌&&◌, ◌||◌, not, Bool, true, false, List, [], ◌∷◌, length, inl, inr, ⊎_elim, refl, sym, ap, ◌∙◌, arith, eq-eqb, find, Option, Some, None}
use Rattle.std.proofs.lemmas.Bool.{false≢true, eqb-true, cases_Bool}
use Rattle.std.specs.Option.{option_or}
use Rattle.entry_model.specs.State.{State}
use Rattle.entry_model.specs.declared.line.Line.{Line}
use Rattle.entry_model.specs.CachedLines.{Holds, IsCurrent}
use Rattle.entry_model.specs.History.{pair_of}
use Rattle.entry_model.specs.Fronts.{front_at}
use Rattle.lock_core.specs.declared.control.Control.{Control}
use Rattle.lock_core.specs.declared.doing.Doing.{Doing}
use Rattle.lock_core.specs.declared.entry.Entry.{Entry}
use Rattle.lock_core.specs.declared.phase.Phase.TheVariants.{Idle}
use Rattle.lock_core.specs.declared.sighting.Sighting.{Sighting}
use Rattle.lock_core.specs.Words.{state_of, is_still}
use Rattle.lock_core.specs.Machine.{words_in, HoldsEntry}
use Rattle.lock_core.proofs.Lists.{some_same, none_some}
use Rattle.entry_lock.specs.Rule.{FrontFits}
use Rattle.entry_lock.specs.StepViews.{raised_fronts}
use Rattle.entry_lock.specs.LineSteps.{is_gone_from}
use Rattle.entry_lock.proofs.PassSteps.{pair_low, pair_high}

-- ---- fronts that rise
pub raised_low :
    (f : List ℕ) (e n m : ℕ) → front_at f e ≤ m → n ≤ m → front_at (raised_fronts f e n) e ≤ m
raised_low [] e n m a b = a
raised_low (x ∷ xs) zero n m a b = omega arith
raised_low (x ∷ xs) (suc e) n m a b = raised_low xs e n m a b

pub raised_else :
    (f : List ℕ) (e n e' : ℕ) → e' ≢ e → front_at (raised_fronts f e n) e' ≡ front_at f e'
raised_else [] e n e' other = refl
raised_else (x ∷ xs) zero n zero other = absurd (other refl)
raised_else (x ∷ xs) zero n (suc e') other = refl
raised_else (x ∷ xs) (suc e) n zero other = refl
raised_else (x ∷ xs) (suc e) n (suc e') other = raised_else xs e n e' (λ q. other (ap suc q))

pub raised_length : (f : List ℕ) (e n : ℕ) → length (raised_fronts f e n) ≡ length f
raised_length [] e n = refl
raised_length (x ∷ xs) zero n = refl
raised_length (x ∷ xs) (suc e) n = ap suc (raised_length xs e n)

pub raised_high : (f : List ℕ) (e n : ℕ) → e < length f → n ≤ front_at (raised_fronts f e n) e
raised_high [] e n h = absurd (omega arith)
raised_high (x ∷ xs) zero n h = omega arith
raised_high (x ∷ xs) (suc e) n h = raised_high xs e n (omega arith)

pub both_ok :
    (e : ℕ) (x : Entry) (a b c : ℕ)
    → FrontFits Idle e x a
    → FrontFits Idle e x b
    → ((m : ℕ) → a ≤ m → b ≤ m → c ≤ m)
    → FrontFits Idle e x c
both_ok e x a b c f g up = let high = pair_high x.published in
    ⊎_elim {C = FrontFits Idle e x c}
    (λ (l : a ≤ pair_of x.published).
    ⊎_elim {C = FrontFits Idle e x c}
    (λ (k : b ≤ pair_of x.published). inl (up (pair_of x.published) l k))
    (λ (t : (x.control.shut ≡ true) × (b ≤ (x.published.stamp + 1) * 4) × ¬ HoldsEntry e Idle).
    inr (t.0, up ((x.published.stamp + 1) * 4) (omega arith) t.1, t.2)) g)
    (λ (t : (x.control.shut ≡ true) × (a ≤ (x.published.stamp + 1) * 4) × ¬ HoldsEntry e Idle).
    let low : b ≤ (x.published.stamp + 1) * 4 = ⊎_elim {C = b ≤ (x.published.stamp + 1) * 4}
    (λ (k : b ≤ pair_of x.published). omega arith)
    (λ (k : (x.control.shut ≡ true) × (b ≤ (x.published.stamp + 1) * 4) × ¬ HoldsEntry e Idle).
    k.1) g in
    inr (t.0, up ((x.published.stamp + 1) * 4) t.1 low, t.2)) f

-- ---- words that have left a stamp
left_cases :
    (shut valid same : Bool)
    → (shut || (not valid || not same)) ≡ false
    → (shut ≡ false) × (valid ≡ true) × (same ≡ true)
left_cases true valid same h = absurd (false≢true (sym h))
left_cases false false same h = absurd (false≢true (sym h))
left_cases false true false h = absurd (false≢true (sym h))
left_cases false true true h = (refl, refl, refl)

pub stays :
    (k : Control) (stamp : ℕ)
    → is_gone_from k stamp ≡ false
    → (k.shut ≡ false) × (k.valid ≡ true) × (k.stamp ≡ stamp)
stays k stamp h =
    let p = left_cases k.shut k.valid (k.stamp == stamp) h in (p.0, p.1, eqb-true k.stamp stamp p.2)

left_if :
    (shut valid same : Bool)
    → (true && valid && not shut && same) ≡ false
    → (shut || (not valid || not same)) ≡ true
left_if true valid same h = refl
left_if false false same h = refl
left_if false true false h = refl
left_if false true true h = absurd (false≢true (sym h))

-- Where no data word was loaded, a word that isn't still at the noted stamp has left it.
pub gone_still :
    (d : Doing) (k : Control) (stamp : ℕ)
    → d.first ≡ None
    → d.second ≡ None
    → d.noted.stamp ≡ stamp
    → is_still k d ≡ false
    → is_gone_from k stamp ≡ true
unfolding is_still
gone_still d k stamp first second same h = left_if k.shut k.valid (k.stamp == stamp)
    (sym
    (λ i.
    (not (is_some (first i)) && not (is_some (second i))) && k.valid && not k.shut &&
    (k.stamp == same i))
    ∙ h)

-- A line that holds of an entry whose word has left the line's stamp: the front is past the line.
pub gone_front :
    (e : ℕ) (x : Entry) (line : Line)
    → (x.control.shut ≡ false → x.published ≡ state_of x.control x.dword0 x.dword1)
    → Holds line x.published
    → is_gone_from x.control line.stamp ≡ true
    → FrontFits Idle e x ((line.stamp + 1) * 4)
gone_front e x line free holds left = let low = pair_low x.published in
    ⊎_elim {C = FrontFits Idle e x ((line.stamp + 1) * 4)}
    (λ (past : line.stamp < x.published.stamp). inl (omega arith))
    (λ (now : IsCurrent line x.published). let s = now.stamp in
    ⊎_elim {C = FrontFits Idle e x ((line.stamp + 1) * 4)}
    (λ (shut : x.control.shut ≡ true). inr (shut, (omega arith), (λ q. q)))
    (λ (open' : x.control.shut ≡ false).
    let is = free open' in
    let valid : x.control.valid ≡ true = ap (λ (z : State). z.valid) (sym is) ∙ now.valid in
    let stamp : x.control.stamp ≡ line.stamp = ap (λ (z : State). z.stamp) (sym is) ∙ now.stamp in
    absurd
    (false≢true
    (sym
    (λ i.
    open' i || (not (valid i) || not (eq-eqb x.control.stamp line.stamp stamp i)))
    ∙ left)))
    (cases_Bool x.control.shut)) holds

-- ---- lines that were seen
pub find_has :
    (p : Sighting → Bool) (ls : List Sighting) (i : ℕ) (l : Sighting)
    → slice_get ls i ≡ Some l
    → p l ≡ true
    → is_some (find p ls) ≡ true
find_has p [] i l at is = absurd (none_some l at)
find_has p (x ∷ xs) zero l at is = by (cases_Bool (p x)) where
  by : (p x ≡ true) ⊎ (p x ≡ false) → is_some (find p (x ∷ xs)) ≡ true
  by (inl here) = rw here refl
  by (inr none') = absurd (false≢true (sym none' ∙ ap p (some_same x l at) ∙ is))
find_has p (x ∷ xs) (suc i) l at is = by (cases_Bool (p x)) (find_has p xs i l at is) where
  by : (p x ≡ true) ⊎ (p x ≡ false) → is_some (find p xs) ≡ true → is_some (find p (x ∷ xs)) ≡ true
  by (inl here) rest = rw here refl
  by (inr none') rest = rw none' rest

pub or_first :
    (o : Option Sighting) (other : Option (ℕ × ℕ))
    → is_some o ≡ true
    → is_some (option_or (option_map words_in o) other) ≡ true
or_first None other h = absurd (false≢true h)
or_first (Some l) other h = refl

pub or_second :
    (o : Option Sighting) (w : ℕ × ℕ) → is_some (option_or (option_map words_in o) (Some w)) ≡ true
or_second None w = refl
or_second (Some l) w = refl
