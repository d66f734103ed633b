-- What a caller's words and a quiet tlbie say of the state and of the places.
use Rattle.std.specs.Prelude.{slice_get, if◌then◌else◌}
use Rattle.std.proofs.Common.{◌≡◌, ℕ, zero, suc, ◌&&◌, not, Bool, true, false, List, [], ◌∷◌, refl, sym, subst, Some}
use Rattle.std.proofs.lemmas.Bool.{and_parts, false≢true}
use Rattle.entry_model.specs.State.{IsCanonicalState}
use Rattle.hardware_walk.specs.Words.{Entry, seen_state}
use Rattle.hardware_walk.specs.Machine.{Place, Empty, HalfWalked, Translated, is_on, is_old}
use Rattle.hardware_walk.specs.Steps.{protocol, is_quiet}
use Rattle.hardware_walk.proofs.Kept.{Memory, Same, NoneOn, AllOld, PlaceOk}

-- ---- words
pub word_is :
    (v v' : Bool) (a b : ℕ)
    → v ≡ v'
    → (v' ≡ true → a ≡ b)
    → (v' ≡ false → b ≡ 0)
    → b ≡ (if v then a else 0)
word_is true true a b e f g = sym (f refl)
word_is true false a b e f g = absurd (false≢true (sym e))
word_is false true a b e f g = absurd (false≢true e)
word_is false false a b e f g = g refl

pub bit_is :
    (v v' a b : Bool)
    → v ≡ v'
    → (v' ≡ true → a ≡ b)
    → (v' ≡ false → b ≡ false)
    → b ≡ (if v then a else false)
bit_is true true a b e f g = sym (f refl)
bit_is true false a b e f g = absurd (false≢true (sym e))
bit_is false true a b e f g = absurd (false≢true e)
bit_is false false a b e f g = g refl

-- The words that are those of the state stand for it.
pub seen_is : (x : Entry) → IsCanonicalState x.published → Same x → x.published ≡ seen_state x
seen_is x c same =
    let s = x.published in
    λ i.
    record {
      valid = sym same.valid i;
      dword0 = word_is x.valid s.valid x.dword0 s.dword0 same.valid same.dword0 c.no_first i;
      dword1 =
          word_is x.valid s.valid x.dword1 s.dword1 same.valid (λ v. (same.memory v).dword1)
          c.no_second i;
      referenced =
          bit_is x.valid s.valid x.referenced s.referenced same.valid
          (λ v. (same.memory v).referenced) c.no_reference i;
      changed =
          bit_is x.valid s.valid x.changed s.changed same.valid (λ v. (same.memory v).changed)
          c.no_change i;
      stamp = sym same.stamp i;
    }

-- Doubleword 0 and the stamp don't matter to what hardware has.
pub memory_along :
    (x : Entry) (l v : Bool) (d n : ℕ)
    → Memory x
    → Memory (record x { locked = l; valid = v; dword0 = d; stamp = n })
memory_along x l v d n h = record {
  dword1 = h.dword1;
  referenced = h.referenced;
  changed = h.changed;
}

pub place_along :
    (w : Place) (x : Entry) (l v : Bool) (d n : ℕ)
    → PlaceOk w x
    → PlaceOk w (record x { locked = l; valid = v; dword0 = d; stamp = n })
place_along Empty x l v d n h = tt
place_along (HalfWalked old word) x l v d n h = record {
  valid = h.valid;
  dword0 = h.dword0;
  memory = memory_along x l v d n h.memory;
}
place_along (Translated old p owed) x l v d n h = record {
  translation = h.translation;
  memory = memory_along x l v d n h.memory;
  referenced = h.referenced;
  changed = h.changed;
  allowed = h.allowed;
}

pub same_along : (x : Entry) (l : Bool) → Same x → Same (record x { locked = l })
same_along x l h = record {
  valid = h.valid;
  dword0 = h.dword0;
  memory = λ v. memory_along x l x.valid x.dword0 x.stamp (h.memory v);
  stamp = h.stamp;
}

pub off_ok : (w : Place) (x : Entry) → is_on w ≡ false → PlaceOk w x
off_ok Empty x h = tt
off_ok (HalfWalked old word) x h = absurd (false≢true (sym h))
off_ok (Translated old p owed) x h = absurd (false≢true (sym h))

pub place_valid : (w : Place) (x : Entry) → PlaceOk w x → is_on w ≡ true → x.published.valid ≡ true
place_valid Empty x h on = absurd (false≢true on)
place_valid (HalfWalked old word) x h on = h.valid
place_valid (Translated old p owed) x h on = h.translation.valid

-- ---- a tlbie that has waited for all that is old, where all is old
pub quiet_none : (ws : List Place) → AllOld ws → is_quiet protocol ws ≡ true → NoneOn ws
quiet_none [] old q k w at = none k w at where
  none : (k : ℕ) (w : Place) → slice_get ([]) k ≡ Some w → is_on w ≡ false
  none k w h = absurd (cc)
quiet_none (v ∷ ws) old q zero w at =
    let same : v ≡ w = (let e : Some v ≡ Some w = at in cc) in
    subst (λ z. is_on z ≡ false) same (first v (old zero v refl) (and_parts _ _ q).0) where
      first :
          (v : Place)
          → (is_on v ≡ true → is_old v ≡ true)
          → not (elim v as
          (λ x. Bool) [ Empty ↦ false | HalfWalked o w' ↦ o && true | Translated o p w' ↦ o ])
          ≡ true
          → is_on v ≡ false
      first Empty o n = refl
      first (HalfWalked true word) o n = absurd (false≢true n)
      first (HalfWalked false word) o n = absurd (false≢true (o refl))
      first (Translated true p owed) o n = absurd (false≢true n)
      first (Translated false p owed) o n = absurd (false≢true (o refl))
quiet_none (v ∷ ws) old q (suc k) w at =
    quiet_none ws (λ l. old (suc l)) (and_parts _ _ q).1 k w at
