-- Fronts in a list, or in a map where the list doesn't go so far.
use Rattle.std.specs.Prelude.{◌==◌, if◌then◌else◌, nat_eq, nat_lt, slice_index}
use Rattle.std.specs.HashMap.{get, HashMap}
use Rattle.std.proofs.Common.{◌≡◌, ◌≢◌, ℕ, ◌<◌, ◌≤◌, List, [], true, false, ap, sym, ◌∙◌, refl, ◌⊎◌, inl, inr, length, length-set, set, get_or-set_same, get_or-set_other, eqb, arith, None}
use Rattle.std.proofs.lemmas.Bool.{cases_Bool, eqb-true, eq-eqb, false≢true, ltb-true, lt-ltb}
use Rattle.entry_model.specs.Fronts.{front_at}
use Rattle.history_check.specs.FrontKeeping.{kept_front}

-- The front by a list of the first ones.
abbrev pub listed_front : List ℕ → (ℕ → ℕ) → ℕ → ℕ
listed_front list others e = if nat_lt e (length list) then slice_index list e else others e

-- ---- fronts that none has left
module _ {S : Type 0} where
  kept_none :
      (kept : HashMap ℕ ℕ S) (opening : List ℕ) (e : ℕ)
      → ((q : ℕ) → get nat_eq kept q ≡ None)
      → kept_front kept opening e ≡ front_at opening e
  kept_none kept opening e none = rw (none e) refl

  pub all_listed :
      (kept : HashMap ℕ ℕ S) (opening : List ℕ) (e : ℕ)
      → ((q : ℕ) → get nat_eq kept q ≡ None)
      → listed_front opening (kept_front kept opening) e ≡ front_at opening e
  all_listed kept opening e none =
      at (cases_Bool (nat_lt e (length opening))) (kept_none kept opening e none) where
        at :
            (nat_lt e (length opening) ≡ true) ⊎ (nat_lt e (length opening) ≡ false)
            → kept_front kept opening e ≡ front_at opening e
            → listed_front opening (kept_front kept opening) e ≡ front_at opening e
        at (inl within) rest = rw within refl
        at (inr past) rest = rw past rest

  pub none_listed :
      (kept : HashMap ℕ ℕ S) (opening : List ℕ) (e : ℕ)
      → ((q : ℕ) → get nat_eq kept q ≡ None)
      → listed_front [] (kept_front kept opening) e ≡ front_at opening e
  none_listed kept opening e none =
      at (cases_Bool (nat_lt e 0)) (kept_none kept opening e none) where
        at :
            (nat_lt e 0 ≡ true) ⊎ (nat_lt e 0 ≡ false)
            → kept_front kept opening e ≡ front_at opening e
            → listed_front [] (kept_front kept opening) e ≡ front_at opening e
        at (inl within) rest = absurd (omega (arith, ltb-true e 0 within))
        at (inr past) rest = rw past rest

-- ---- one front set
pub set_listed :
    (list : List ℕ) (entry front : ℕ) (others : ℕ → ℕ) (e : ℕ)
    → entry < length list
    → listed_front (set list entry front) others e
    ≡ (if entry == e then front else listed_front list others e)
set_listed list entry front others e low = at (cases_Bool (eqb entry e)) where
  size : length (set list entry front) ≡ length list
  size = length-set list entry front

  at :
      (eqb entry e ≡ true) ⊎ (eqb entry e ≡ false)
      → listed_front (set list entry front) others e
      ≡ (if entry == e then front else listed_front list others e)
  at (inl own) =
      let here : nat_lt entry (length (set list entry front)) ≡ true = lt-ltb entry
      (length (set list entry front)) (omega (arith, low, size)) in
      rw own
      (ap (listed_front (set list entry front) others) (sym (eqb-true entry e own))
      ∙ rw here (get_or-set_same list entry front 0 low))
  at (inr other) =
      let apart : e ≢ entry = λ same. false≢true (sym other ∙ eq-eqb entry e (sym same)) in
      rw other
      (λ i.
      if nat_lt e (size i) then get_or-set_other list entry e front 0 apart i else others e)

pub set_kept :
    (list : List ℕ) (entry front : ℕ) (old new : ℕ → ℕ) (e : ℕ)
    → length list ≤ entry
    → new e ≡ (if entry == e then front else old e)
    → listed_front list new e ≡ (if entry == e then front else listed_front list old e)
set_kept list entry front old new e past set =
    at (cases_Bool (nat_lt e (length list))) (cases_Bool (eqb entry e)) where
      at :
          (nat_lt e (length list) ≡ true) ⊎ (nat_lt e (length list) ≡ false)
          → (eqb entry e ≡ true) ⊎ (eqb entry e ≡ false)
          → listed_front list new e ≡ (if entry == e then front else listed_front list old e)
      at (inl within) (inl own) =
          absurd (omega (arith, ltb-true e (length list) within, eqb-true entry e own))
      at (inl within) (inr other) = rw (within, other) refl
      at (inr behind) own = rw behind set
