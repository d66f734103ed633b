-- One event after the other, from fronts to fronts.
use Rattle.std.proofs.Common.{◌≡◌, ℕ, ◌<◌, ◌+◌, List, [], ◌∷◌, ◌++◌, ap, sym, ◌∙◌, refl, subst, map, take, drop, get_or, length, append_assoc}
use Rattle.std.proofs.lemmas.List.{drop_more, take_more, take-append-drop}
use Rattle.entry_model.specs.declared.receipt.Receipt.{Receipt}
use Rattle.run_model.specs.Histories.{Event, made, InOrder}
use Rattle.history_check.specs.FrontKeeping.{LeadsTo, LeadsNowhere}

abbrev Fronts : Type 0
Fronts = ℕ → ℕ

-- The events that these receipts are, in their order.
abbrev pub all_made : List Receipt → List Event
all_made rs = map (λ (r : Receipt). made r) rs

-- ---- one event

-- ---- events one after the other
pub leads_on :
    (f g h : Fronts) (xs ys : List Event) → LeadsTo f xs g → LeadsTo g ys h → LeadsTo f (xs ++ ys) h
leads_on f g h xs ys a b = record {
  with_events =
      λ e later k.
      subst (InOrder e (f e)) (sym (append_assoc xs ys later))
      (a.with_events e (ys ++ later) (b.with_events e later k));
  without =
      λ e later k.
      b.without e later
      (a.without e (ys ++ later) (subst (InOrder e (f e)) (append_assoc xs ys later) k));
}

pub leads_off :
    (f g : Fronts) (xs ys : List Event)
    → LeadsTo f xs g
    → LeadsNowhere g ys
    → LeadsNowhere f (xs ++ ys)
leads_off f g xs ys a none later h =
    none later
    (λ e. a.without e (ys ++ later) (subst (InOrder e (f e)) (append_assoc xs ys later) (h e)))

-- ---- the receipts of a line
map_append : (xs ys : List Receipt) → all_made (xs ++ ys) ≡ all_made xs ++ all_made ys
map_append [] ys = refl
map_append (x ∷ xs) ys = ap (λ l. made x ∷ l) (map_append xs ys)

pub one_kept :
    (f g h : Fronts) (rs : List Receipt) (i : ℕ) (r : Receipt)
    → i < length rs
    → r ≡ get_or rs i r
    → LeadsTo f (all_made (take i rs)) g
    → LeadsTo g (made r ∷ []) h
    → LeadsTo f (all_made (take (i + 1) rs)) h
one_kept f g h rs i r low at before here =
    let e : take (i + 1) rs ≡ take i rs ++ r ∷ [] = take_more rs i r low ∙ ap
    (λ z. take i rs ++ z ∷ []) (sym at) in
    subst (λ l. LeadsTo f l h) (sym (ap all_made e ∙ map_append (take i rs) (r ∷ [])))
    (leads_on f g h (all_made (take i rs)) (made r ∷ []) before here)

pub none_kept :
    (f g : Fronts) (rs : List Receipt) (i : ℕ) (r : Receipt)
    → i < length rs
    → r ≡ get_or rs i r
    → LeadsTo f (all_made (take i rs)) g
    → ((later : List Event) → LeadsNowhere g (made r ∷ later))
    → LeadsNowhere f (all_made rs)
none_kept f g rs i r low at before none =
    let e : rs ≡ take i rs ++ r ∷ drop (i + 1) rs = sym (take-append-drop i rs) ∙ ap
    (λ z. take i rs ++ z) (drop_more rs i r low ∙ ap (λ z. z ∷ drop (i + 1) rs) (sym at)) in
    subst (LeadsNowhere f) (sym (ap all_made e ∙ map_append (take i rs) (r ∷ drop (i + 1) rs)))
    (leads_off f g (all_made (take i rs)) (made r ∷ all_made (drop (i + 1) rs)) before
    (none (all_made (drop (i + 1) rs))))
