-- Entries that a caller lends: a list of what they hold, and states that they are given.
use Rattle.std.proofs.Common.{◌≡◌, ℕ, zero, suc, ◌+◌, ◌<◌, ◌≤◌, List, [], ◌∷◌, ◌++◌, length, take, drop, set, get_or, refl, sym, ap, ◌∙◌, arith}
use Rattle.std.proofs.lemmas.List.{take_all, drop_all, append-nil}
use Rattle.std.proofs.Math.Numerals.{add-one}
use Rattle.entry_model.specs.State.{State}
use Rattle.c_layout.specs.Entries.{Entry, states_of, entry_with, entries_with, AreMarked}
use Rattle.c_layout.proofs.Filling.{fill_more, get_rest}
use Rattle.c_layout.proofs.Marks.{given_states}

-- ---- a list of states
take_more :
    (es : List Entry) (i : ℕ) (d : Entry)
    → i < length es
    → states_of (take (suc i) es) ≡ states_of (take i es) ++ (get_or es i d).state ∷ []
take_more [] i d below = absurd (omega (arith, below))
take_more (e ∷ es) zero d below = refl
take_more (e ∷ es) (suc i) d below =
    ap (λ ss. e.state ∷ ss) (take_more es i d (omega (arith, below)))

pub listed_more :
    (es : List Entry) (i : ℕ) (d : Entry) (s : State) (old new : List State)
    → i < length es
    → s ≡ (get_or es i d).state
    → old ≡ states_of (take i es)
    → new ≡ old ++ s ∷ []
    → new ≡ states_of (take (i + 1) es)
listed_more es i d s old new below is so_far pushed =
    rw add-one
    (pushed ∙ (λ k. so_far k ++ is k ∷ []) ∙ sym (take_more es i d below))

-- ---- states that are given
with-length :
    (es : List Entry) (ss : List State) → length (entries_with es ss) ≡ length es
with-length [] ss = refl
with-length (e ∷ es) [] = refl
with-length (e ∷ es) (s ∷ ss) = ap suc (with-length es ss)

with_at :
    (es : List Entry) (ss : List State) (i : ℕ) (d : Entry) (t : State)
    → i < length es
    → i < length ss
    → get_or (entries_with es ss) i d ≡ entry_with (get_or es i d) (get_or ss i t)
with_at [] ss i d t below inside = absurd (omega (arith, below))
with_at (e ∷ es) [] i d t below inside = absurd (omega (arith, inside))
with_at (e ∷ es) (s ∷ ss) zero d t below inside = refl
with_at (e ∷ es) (s ∷ ss) (suc i) d t below inside =
    with_at es ss i d t (omega (arith, below)) (omega (arith, inside))

pub given_more :
    (old now : List Entry) (ss : List State) (i : ℕ) (d e : Entry) (s : State)
    → i < length old
    → length ss ≡ length old
    → s ≡ get_or ss i s
    → e ≡ entry_with (get_or now i d) s
    → now ≡ take i (entries_with old ss) ++ drop i old
    → set now i e ≡ take (i + 1) (entries_with old ss) ++ drop (i + 1) old
given_more old now ss i d e s below long read held so_far =
    let inside : i < length (entries_with old ss) = omega (arith, below, with-length old ss) in
    let was : get_or now i d ≡ get_or old i d =
    ap (λ es. get_or es i d) so_far ∙ get_rest (entries_with old ss) old i d inside below in
    fill_more (entries_with old ss) old now i d e inside below so_far
    (held
    ∙ (λ k. entry_with (was k) (read k))
    ∙ sym (with_at old ss i d s below (omega (arith, below, long))))

pub given_all :
    (old now : List Entry) (ss : List State) (i : ℕ)
    → length old ≤ i
    → now ≡ take i (entries_with old ss) ++ drop i old
    → now ≡ entries_with old ss
given_all old now ss i all so_far =
    let whole : take i (entries_with old ss) ≡ entries_with old ss =
    take_all i (entries_with old ss) (omega (arith, all, with-length old ss)) in
    let gone : drop i old ≡ [] = drop_all i old all in
    so_far ∙ (λ k. whole k ++ gone k) ∙ append-nil (entries_with old ss)

pub given_marked :
    (old new : List Entry) (ss : List State)
    → length ss ≡ length old
    → new ≡ entries_with old ss
    → AreMarked old new
given_marked old new ss long is =
    is
    ∙ ap (entries_with old)
    (sym (ap (λ (xs : List Entry). states_of xs) is ∙ given_states old ss long))
