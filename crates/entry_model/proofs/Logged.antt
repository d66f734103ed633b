-- Receipts in the order of their making, and the same receipts listed in another order.
use Rattle.std.specs.Prelude.{filter}
use Rattle.std.proofs.Common.{◌≡◌, ℕ, List, [], ◌∷◌, ◌++◌, sym, ◌∙◌, subst, append_assoc, append-nil, eqb}
use Rattle.entry_model.specs.State.{State}
use Rattle.entry_model.specs.declared.receipt.Receipt.{Receipt}
use Rattle.entry_model.specs.Receipt.{after_of}
use Rattle.entry_model.specs.History.{IsLegal, history, Regrouped, nothing, kept, swapped, twice}
use Rattle.entry_model.proofs.Regroup.{regrouped_self, regrouped_filter, legal_regrouped}

-- ---- chains
-- One more receipt at the end.
pub legal_more :
    (a m b : State) (xs : List Receipt) (r : Receipt)
    → IsLegal a xs m
    → r.before ≡ m
    → after_of r ≡ b
    → IsLegal a (xs ++ r ∷ []) b
legal_more a m b [] r legal before after = (before ∙ legal, sym after)
legal_more a m b (x ∷ xs) r legal before after =
    (legal.0, legal_more (after_of x) m b xs r legal.1 before after)

-- Receipts that were made one after the other are a legal history, however they are listed.
pub logged_history :
    (e : ℕ) (a b : State) (log rs : List Receipt)
    → IsLegal a (filter (λ r. eqb r.entry e) log) b
    → Regrouped log rs
    → IsLegal a (history e rs) b
logged_history e a b log rs legal same =
    legal_regrouped a b (filter (λ r. eqb r.entry e) log) (filter (λ r. eqb r.entry e) rs)
    (regrouped_filter (λ r. eqb r.entry e) same) legal

-- ---- lists regrouped, put one after the other
pub regrouped_before :
    (xs : List Receipt) {ys zs : List Receipt} → Regrouped ys zs → Regrouped (xs ++ ys) (xs ++ zs)
regrouped_before [] h = h
regrouped_before (x ∷ xs) h = kept x (regrouped_before xs h)

pub regrouped_behind :
    {xs ys : List Receipt} (zs : List Receipt) → Regrouped xs ys → Regrouped (xs ++ zs) (ys ++ zs)
regrouped_behind zs nothing = regrouped_self zs
regrouped_behind zs (kept r h) = kept r (regrouped_behind zs h)
regrouped_behind zs (swapped r s xs) = swapped r s (xs ++ zs)
regrouped_behind zs (twice a b) = twice (regrouped_behind zs a) (regrouped_behind zs b)

-- One receipt goes after others.
pub regrouped_last : (r : Receipt) (xs : List Receipt) → Regrouped (r ∷ xs) (xs ++ r ∷ [])
regrouped_last r [] = regrouped_self (r ∷ [])
regrouped_last r (x ∷ xs) = twice (swapped r x xs) (kept x (regrouped_last r xs))

pub regrouped_along : {xs ys zs : List Receipt} → ys ≡ zs → Regrouped xs ys → Regrouped xs zs
regrouped_along {xs} e h = subst (λ l. Regrouped xs l) e h

pub regrouped_swap : (xs ys : List Receipt) → Regrouped (xs ++ ys) (ys ++ xs)
regrouped_swap [] ys = regrouped_along (sym (append-nil ys)) (regrouped_self ys)
regrouped_swap (x ∷ xs) ys =
    twice (kept x (regrouped_swap xs ys))
    (twice (regrouped_behind xs (regrouped_last x ys))
    (regrouped_along (append_assoc ys (x ∷ []) xs)
    (regrouped_self ((ys ++ x ∷ []) ++ xs))))
