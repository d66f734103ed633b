-- What a walk found.
use Rattle.std.specs.Prelude.{IsTrue}
use Rattle.std.proofs.Common.{◌≡◌, ℕ, suc, List, [], ◌∷◌, ◌++◌, length, true, false, ap, sym, ◌∙◌, refl, subst, ◌⊎◌, inl, inr, Some, None}
use Rattle.std.specs.List.{AllByRecursion}
use Rattle.std.proofs.lemmas.Bool.{cases_Bool}
use Rattle.entry_model.specs.declared.receipt.Receipt.{Receipt}
use Rattle.entry_model.specs.declared.operation.Op.{Op}
use Rattle.entry_model.specs.Receipt.{is_no_match, is_decided, found_of}
use Rattle.entry_model.specs.CachedLines.{ShowsLine, line_of}
use Rattle.entry_model.specs.Trial.{Call, IsTrial}
use Rattle.power_addr.specs.Pages.{VirtualPage}

-- ---- one receipt before others
pub found-on :
    (r : Receipt) (rs : List Receipt)
    → is_no_match r.answer ≡ true
    → found_of (r ∷ rs) ≡ found_of rs
found-on r rs on = rw on refl

pub found-off :
    (r : Receipt) (rs : List Receipt) → is_no_match r.answer ≡ false → found_of (r ∷ rs) ≡ Some r
found-off r rs off = rw off refl

-- ---- the search of one group, and then of another
-- What ended in the first group needs no further one.
ends_one :
    (c : Call) (cs ds : List Call) (r x : Receipt) (rs : List Receipt)
    → IsTrial is_no_match (c ∷ cs) (r ∷ rs)
    → found_of (r ∷ rs) ≡ Some x
    → (IsTrial is_no_match cs rs → found_of rs ≡ Some x → IsTrial is_no_match (cs ++ ds) rs)
    → IsTrial is_no_match (c ∷ (cs ++ ds)) (r ∷ rs)
ends_one c cs ds r x rs s found rest = at (cases_Bool (is_no_match r.answer)) where
  at :
      (is_no_match r.answer ≡ true) ⊎ (is_no_match r.answer ≡ false)
      → IsTrial is_no_match (c ∷ (cs ++ ds)) (r ∷ rs)
  at (inl on) = (s.0, rw on (rest (rw on at s.1) (sym (found-on r rs on) ∙ found)))
  at (inr off) = (s.0, rw off (rw off at s.1))

pub trial_ends :
    (cs ds : List Call) (rs : List Receipt) (x : Receipt)
    → IsTrial is_no_match cs rs
    → found_of rs ≡ Some x
    → IsTrial is_no_match (cs ++ ds) rs
trial_ends [] ds [] x s found = cc
trial_ends [] ds (r ∷ rs) x s found = absurd s
trial_ends (c ∷ cs) ds [] x s found = absurd s
trial_ends (c ∷ cs) ds (r ∷ rs) x s found =
    ends_one c cs ds r x rs s found (λ s' found'. trial_ends cs ds rs x s' found')

-- Where nothing was found in the first group, the second follows.
joined_one :
    (c : Call) (cs ds : List Call) (r : Receipt) (rs ss : List Receipt)
    → IsTrial is_no_match (c ∷ cs) (r ∷ rs)
    → found_of (r ∷ rs) ≡ None
    → (IsTrial is_no_match cs rs → found_of rs ≡ None → IsTrial is_no_match (cs ++ ds) (rs ++ ss))
    → IsTrial is_no_match (c ∷ (cs ++ ds)) (r ∷ (rs ++ ss))
joined_one c cs ds r rs ss s none rest = at (cases_Bool (is_no_match r.answer)) where
  at :
      (is_no_match r.answer ≡ true) ⊎ (is_no_match r.answer ≡ false)
      → IsTrial is_no_match (c ∷ (cs ++ ds)) (r ∷ (rs ++ ss))
  at (inl on) = (s.0, rw on (rest (rw on at s.1) (sym (found-on r rs on) ∙ none)))
  at (inr off) = let some : Some r ≡ None = sym (found-off r rs off) ∙ none in cc

pub trial_joined :
    (cs ds : List Call) (rs ss : List Receipt)
    → IsTrial is_no_match cs rs
    → found_of rs ≡ None
    → IsTrial is_no_match ds ss
    → IsTrial is_no_match (cs ++ ds) (rs ++ ss)
trial_joined [] ds [] ss s none more = more
trial_joined [] ds (r ∷ rs) ss s none more = absurd s
trial_joined (c ∷ cs) ds [] ss s none more = absurd s
trial_joined (c ∷ cs) ds (r ∷ rs) ss s none more =
    joined_one c cs ds r rs ss s none (λ s' none'. trial_joined cs ds rs ss s' none' more)

pub found_joined : (rs ss : List Receipt) → found_of rs ≡ None → found_of (rs ++ ss) ≡ found_of ss
found_joined [] ss none = refl
found_joined (r ∷ rs) ss none = at (cases_Bool (is_no_match r.answer)) (found_joined rs ss) where
  at :
      (is_no_match r.answer ≡ true) ⊎ (is_no_match r.answer ≡ false)
      → (found_of rs ≡ None → found_of (rs ++ ss) ≡ found_of ss)
      → found_of (r ∷ (rs ++ ss)) ≡ found_of ss
  at (inl on) rest = found-on r (rs ++ ss) on ∙ rest (sym (found-on r rs on) ∙ none)
  at (inr off) rest = let some : Some r ≡ None = sym (found-off r rs off) ∙ none in cc

-- ---- nothing found
-- Each receipt says NoMatch.
abbrev pub EachNoMatch : List Receipt → Type 0
EachNoMatch rs = AllByRecursion (λ (r : Receipt). IsTrue (is_no_match r.answer)) rs

pub none_of_each : (rs : List Receipt) → EachNoMatch rs → found_of rs ≡ None
none_of_each [] each = refl
none_of_each (r ∷ rs) each = found-on r rs each.0 ∙ none_of_each rs each.1

pub each_of_none : (rs : List Receipt) → found_of rs ≡ None → EachNoMatch rs
each_of_none [] none = tt
each_of_none (r ∷ rs) none = at (cases_Bool (is_no_match r.answer)) (each_of_none rs) where
  at :
      (is_no_match r.answer ≡ true) ⊎ (is_no_match r.answer ≡ false)
      → (found_of rs ≡ None → EachNoMatch rs)
      → EachNoMatch (r ∷ rs)
  at (inl on) rest = (on, rest (sym (found-on r rs on) ∙ none))
  at (inr off) rest = let some : Some r ≡ None = sym (found-off r rs off) ∙ none in cc

-- Where each receipt of a trial says NoMatch, each of its calls was made.
pub trial_whole :
    (cs : List Call) (rs : List Receipt)
    → IsTrial is_no_match cs rs
    → EachNoMatch rs
    → length rs ≡ length cs
trial_whole [] [] s each = refl
trial_whole [] (r ∷ rs) s each = absurd s
trial_whole (c ∷ cs) [] s each = absurd s
trial_whole (c ∷ cs) (r ∷ rs) s each = ap suc (trial_whole cs rs (rw each.0 at s.1) each.1)

-- ---- something found
-- What holds of each receipt holds of the one that was found, and that one doesn't say NoMatch.
pub found_has :
    (P : Receipt → Type 0) (rs : List Receipt) (x : Receipt)
    → AllByRecursion P rs
    → found_of rs ≡ Some x
    → P x × (is_no_match x.answer ≡ false)
found_has P [] x all found = cc
found_has P (r ∷ rs) x all found =
    at (cases_Bool (is_no_match r.answer)) (found_has P rs x all.1) where
      at :
          (is_no_match r.answer ≡ true) ⊎ (is_no_match r.answer ≡ false)
          → (found_of rs ≡ Some x → P x × (is_no_match x.answer ≡ false))
          → P x × (is_no_match x.answer ≡ false)
      at (inl on) rest = rest (sym (found-on r rs on) ∙ found)
      at (inr off) rest =
          let some : Some r ≡ Some x = sym (found-off r rs off) ∙ found in
          let same : r ≡ x = cc in
          subst (λ y. P y × (is_no_match y.answer ≡ false)) same (all.0, off)

-- A walk shows the line of the entry that it found.
pub found_shows :
    (page : VirtualPage) (rs : List Receipt) (x : Receipt)
    → found_of rs ≡ Some x
    → IsTrue (is_decided x.answer)
    → ShowsLine (line_of page x) rs
found_shows page [] x found decided = cc
found_shows page (r ∷ rs) x found decided =
    at (cases_Bool (is_no_match r.answer)) (found_shows page rs x) where
      at :
          (is_no_match r.answer ≡ true) ⊎ (is_no_match r.answer ≡ false)
          → (found_of rs ≡ Some x → IsTrue (is_decided x.answer) → ShowsLine (line_of page x) rs)
          → ShowsLine (line_of page x) (r ∷ rs)
      at (inl on) rest = inr (rest (sym (found-on r rs on) ∙ found) decided)
      at (inr off) rest =
          let some : Some r ≡ Some x = sym (found-off r rs off) ∙ found in
          let same : x ≡ r = cc in
          inl (
            subst (λ y. IsTrue (is_decided y.answer)) same decided,
            record {
              entry = ap (λ y. y.entry) same;
              stamp = ap (λ y. y.before.stamp) same;
              dword0 = ap (λ y. y.before.dword0) same;
              dword1 = ap (λ y. y.before.dword1) same;
            },
          )

-- ---- the calls of a trial's receipts
-- What holds of each call, by its operation and its entry, holds of each receipt.
pub trial_calls :
    (P : Op → ℕ → Type 0) (cs : List Call) (rs : List Receipt)
    → AllByRecursion (λ (c : Call). P c.op c.entry) cs
    → IsTrial is_no_match cs rs
    → AllByRecursion (λ (r : Receipt). P r.op r.entry) rs
trial_calls P [] [] all s = tt
trial_calls P [] (r ∷ rs) all s = absurd s
trial_calls P (c ∷ cs) [] all s = absurd s
trial_calls P (c ∷ cs) (r ∷ rs) all s =
    at (cases_Bool (is_no_match r.answer)) (trial_calls P cs rs all.1) where
      first : P r.op r.entry
      first = subst (λ o. P o r.entry) (sym s.0.op) (subst (P c.op) (sym s.0.entry) all.0)

      at :
          (is_no_match r.answer ≡ true) ⊎ (is_no_match r.answer ≡ false)
          → (IsTrial is_no_match cs rs → AllByRecursion (λ (x : Receipt). P x.op x.entry) rs)
          → AllByRecursion (λ (x : Receipt). P x.op x.entry) (r ∷ rs)
      at (inl on) rest = (first, rest (rw on at s.1))
      at (inr off) rest = let none :
          rs ≡ [] =
          rw off at s.1 in
          (first, subst (AllByRecursion (λ (x : Receipt). P x.op x.entry)) (sym none) tt)

pub trial_ops :
    (P : Op → Type 0) (cs : List Call) (rs : List Receipt)
    → AllByRecursion (λ (c : Call). P c.op) cs
    → IsTrial is_no_match cs rs
    → AllByRecursion (λ (r : Receipt). P r.op) rs
trial_ops P cs rs all s = trial_calls (λ op entry. P op) cs rs all s
