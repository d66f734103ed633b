-- The fronts of all processors, where those of one are kept.
use Rattle.std.proofs.Common.{◌≡◌, ℕ, zero, suc, ◌<◌, List, [], ◌∷◌, ◌++◌, ap, sym, ◌∙◌, refl, subst, arith, length, get_or, set}
use Rattle.std.proofs.lemmas.Bool.{eqb-false}
use Rattle.entry_model.specs.Fronts.{front_at}
use Rattle.run_model.specs.Histories.{Event, InOrder}
use Rattle.history_check.specs.declared.fronts.Fronts.{Fronts}
use Rattle.history_check.specs.FrontKeeping.{front_of, fronts_of, LeadsTo, AllLeadTo}

pub own_fronts :
    (ms : List Fronts) (opening : List ℕ) (cpu e : ℕ) (m : Fronts)
    → cpu < length ms
    → m ≡ get_or ms cpu m
    → fronts_of ms opening cpu e ≡ front_of m opening e
own_fronts [] opening cpu e m low at = absurd (omega arith)
own_fronts (x ∷ ms) opening zero e m low at = ap (λ z. front_of z opening e) (sym at)
own_fronts (x ∷ ms) opening (suc cpu) e m low at = own_fronts ms opening cpu e m (omega arith) at

own_set :
    (ms : List Fronts) (opening : List ℕ) (cpu e : ℕ) (m : Fronts)
    → cpu < length ms
    → fronts_of (set ms cpu m) opening cpu e ≡ front_of m opening e
own_set [] opening cpu e m low = absurd (omega arith)
own_set (x ∷ ms) opening zero e m low = refl
own_set (x ∷ ms) opening (suc cpu) e m low = own_set ms opening cpu e m (omega arith)

other_set :
    (ms : List Fronts) (opening : List ℕ) (cpu c e : ℕ) (m : Fronts)
    → (cpu ≡ c → ⊥)
    → fronts_of (set ms cpu m) opening c e ≡ fronts_of ms opening c e
other_set [] opening cpu c e m h = refl
other_set (x ∷ ms) opening zero zero e m h = absurd (h refl)
other_set (x ∷ ms) opening zero (suc c) e m h = refl
other_set (x ∷ ms) opening (suc cpu) zero e m h = refl
other_set (x ∷ ms) opening (suc cpu) (suc c) e m h =
    other_set ms opening cpu c e m (λ same. h (ap suc same))

pub own_lead :
    (ms ns : List Fronts) (opening : List ℕ) (cpu : ℕ) (m n : Fronts) (events : List Event)
    → cpu < length ms
    → m ≡ get_or ms cpu m
    → ns ≡ set ms cpu n
    → LeadsTo (front_of m opening) events (front_of n opening)
    → AllLeadTo (fronts_of ms opening) cpu events (fronts_of ns opening)
own_lead ms ns opening cpu m n events low at new h = record {
  own = record {
    with_events =
        λ e later k.
        subst (λ p. InOrder e p (events ++ later)) (sym (own_fronts ms opening cpu e m low at))
        (h.with_events e later
        (subst (λ p. InOrder e p later)
        (ap (λ l. fronts_of l opening cpu e) new ∙ own_set ms opening cpu e n low)
        k));
    without =
        λ e later k.
        subst (λ p. InOrder e p later)
        (sym (ap (λ l. fronts_of l opening cpu e) new ∙ own_set ms opening cpu e n low))
        (h.without e later
        (subst (λ p. InOrder e p (events ++ later)) (own_fronts ms opening cpu e m low at)
        k));
  };
  others =
      λ c other e.
      ap (λ l. fronts_of l opening c e) new
      ∙ other_set ms opening cpu c e n (eqb-false cpu c other);
}

-- one more that has left nothing
pub more_fronts :
    (ms : List Fronts) (m : Fronts) (opening : List ℕ) (cpu e : ℕ)
    → ((q : ℕ) → front_of m opening q ≡ front_at opening q)
    → ((c : ℕ) → fronts_of ms opening c e ≡ front_at opening e)
    → fronts_of (ms ++ m ∷ []) opening cpu e ≡ front_at opening e
more_fronts [] m opening zero e none h = none e
more_fronts [] m opening (suc cpu) e none h = refl
more_fronts (x ∷ ms) m opening zero e none h = h zero
more_fronts (x ∷ ms) m opening (suc cpu) e none h =
    more_fronts ms m opening cpu e none (λ c. h (suc c))
