-- The state that an actor noted, and what the laws of replies say of it.
use Rattle.std.specs.Prelude.{is_some}
use Rattle.std.proofs.Common.{◌≡◌, ℕ, ◌+◌, ◌||◌, not, Bool, true, false, if◌then◌else◌, Option, Some, None, ◌⊎◌, inl, inr, refl, sym, ap, ◌∙◌, subst, arith, bit_and, bit_xor, unwrap_or}
use Rattle.std.specs.Int.Bits.{xor_zero_r}
use Rattle.std.proofs.lemmas.Bool.{and_parts, cases_Bool, false≢true, eqb-true, not-false}
use Rattle.std.proofs.lemmas.Nat.Bits.{same_from_bits, bit_at_and, bit_at_xor}
use Rattle.entry_model.specs.State.{State, IsCanonicalState}
use Rattle.entry_model.specs.Reply.{reply_of}
use Rattle.entry_model.specs.Receipt.{is_access}
use Rattle.entry_model.specs.History.{state_eq}
use Rattle.entry_model.proofs.Sorted.{state_same, state_self}
use Rattle.basics.proofs.Bools.{bool_same}
use Rattle.entry_model.proofs.OperationLaws.{other_rises, other_still, reply_canonical}
use Rattle.lock_core.specs.declared.control.Control.{Control}
use Rattle.lock_core.specs.declared.doing.Doing.{Doing}
use Rattle.lock_core.specs.Words.{without_bits, state_of, known_words, known_of, noted_state, next_state, changes, is_noted}
use Rattle.lock_core.specs.Steps.{with_noted}

pub or_has : (a b : Bool) → (not a || b) ≡ true → a ≡ true → b ≡ true
or_has true b h e = h
or_has false b h e = absurd (false≢true e)

-- ---- the second data word
pub bits_cleared : (dword1 : ℕ) → bit_and (without_bits dword1) 0x180 ≡ 0
bits_cleared d = same_from_bits _ _ (λ i. simp (bit_at_and, bit_at_xor) (omega arith))

pub cleared_same : (dword1 : ℕ) → bit_and dword1 0x180 ≡ 0 → without_bits dword1 ≡ dword1
cleared_same d apart = ap (bit_xor d) apart ∙ xor_zero_r d

-- ---- the state of words
pub state_canonical :
    (k : Control) (dword0 dword1 : ℕ) → IsCanonicalState (state_of k dword0 dword1)
state_canonical k dword0 dword1 = at (cases_Bool k.valid) where
  at : (k.valid ≡ true) ⊎ (k.valid ≡ false) → IsCanonicalState (state_of k dword0 dword1)
  at (inl v) = record {
    apart = rw v (bits_cleared dword1);
    no_first = λ e. absurd (false≢true (sym e ∙ v));
    no_second = λ e. absurd (false≢true (sym e ∙ v));
    no_reference = λ e. absurd (false≢true (sym e ∙ v));
    no_change = λ e. absurd (false≢true (sym e ∙ v));
  }
  at (inr v) =
      record {
        apart = rw v refl;
        no_first = λ e. rw v refl;
        no_second = λ e. rw v refl;
        no_reference = λ e. rw v refl;
        no_change = λ e. rw v refl;
      }

-- Only the words of a valid entry count.
pub same_words :
    (k : Control) (a b a' b' : ℕ)
    → (k.valid ≡ true → (a ≡ a') × (without_bits b ≡ without_bits b'))
    → state_of k a b ≡ state_of k a' b'
same_words k a b a' b' same = at (cases_Bool k.valid) where
  at : (k.valid ≡ true) ⊎ (k.valid ≡ false) → state_of k a b ≡ state_of k a' b'
  at (inl v) =
      let e = same v in
      λ i.
      record (state_of k a b) {
        dword0 = if k.valid then e.0 i else 0;
        dword1 = if k.valid then e.1 i else 0;
      }
  at (inr v) = rw v refl

pick : (v : Bool) (a b : ℕ) → (v ≡ true → a ≡ b) → (v ≡ false → a ≡ 0) → a ≡ (if v then b else 0)
pick true a b p q = p refl
pick false a b p q = q refl

pick_bit :
    (v a b : Bool) → (v ≡ true → a ≡ b) → (v ≡ false → a ≡ false) → a ≡ (if v then b else false)
pick_bit true a b p q = p refl
pick_bit false a b p q = q refl

-- A canonical state is that of a control word with its parts, and of its doublewords.
pub state_is :
    (s : State) (k : Control) (a b : ℕ)
    → IsCanonicalState s
    → k.valid ≡ s.valid
    → k.stamp ≡ s.stamp
    → (s.valid ≡ true → (k.referenced ≡ s.referenced) × (k.changed ≡ s.changed))
    → (s.valid ≡ true → (a ≡ s.dword0) × (without_bits b ≡ without_bits s.dword1))
    → s ≡ state_of k a b
state_is s k a b can valid stamp bits words = λ i. record {
  valid = sym valid i;
  dword0 =
      pick k.valid s.dword0 a (λ v. sym (words (sym valid ∙ v)).0)
      (λ v. can.no_first (sym valid ∙ v)) i;
  dword1 =
      pick k.valid s.dword1 (without_bits b)
      (λ v. sym (cleared_same s.dword1 can.apart) ∙ sym (words (sym valid ∙ v)).1)
      (λ v. can.no_second (sym valid ∙ v)) i;
  referenced =
      pick_bit k.valid s.referenced k.referenced (λ v. sym (bits (sym valid ∙ v)).0)
      (λ v. can.no_reference (sym valid ∙ v)) i;
  changed =
      pick_bit k.valid s.changed k.changed (λ v. sym (bits (sym valid ∙ v)).1)
      (λ v. can.no_change (sym valid ∙ v)) i;
  stamp = sym stamp i;
}

-- ---- what an actor knows
-- Words that agree with what was loaded or seen are those known.
pub known_words_of :
    (f s : Option ℕ) (g : Option (ℕ × ℕ)) (a b : ℕ)
    → is_some (known_of f s g) ≡ true
    → ((n : ℕ) → f ≡ Some n → a ≡ n)
    → ((n : ℕ) → s ≡ Some n → b ≡ n)
    → ((w : ℕ × ℕ) → g ≡ Some w → (a ≡ w.0) × (without_bits b ≡ without_bits w.1))
    → (a ≡ (unwrap_or (known_of f s g) (0, 0)).0)
    × (without_bits b ≡ without_bits (unwrap_or (known_of f s g) (0, 0)).1)
known_words_of None None None a b h p q r = absurd (false≢true h)
known_words_of None None (Some w) a b h p q r = r w refl
known_words_of None (Some n) g a b h p q r = absurd (false≢true h)
known_words_of (Some n) None g a b h p q r = absurd (false≢true h)
known_words_of (Some n) (Some n') g a b h p q r = (p n refl, ap without_bits (q n' refl))

-- ---- whether the reply changes the entry
pub still_is : (d : Doing) → changes d ≡ false → next_state d ≡ noted_state d
unfolding changes
still_is d h = state_same (next_state d) (noted_state d) (not-false _ h)

pub still_if : (d : Doing) → next_state d ≡ noted_state d → changes d ≡ false
unfolding changes
still_if d same =
    ap (λ s. not (state_eq s (noted_state d))) same ∙ ap not (state_self (noted_state d))

pub noted_canonical : (d : Doing) → IsCanonicalState (noted_state d)
unfolding noted_state
noted_canonical d = state_canonical d.noted _ _

pub next_canonical : (d : Doing) → IsCanonicalState (next_state d)
unfolding next_state
next_canonical d = reply_canonical (noted_state d) d.op (noted_canonical d)

pub noted_stamp : (d : Doing) → (noted_state d).stamp ≡ d.noted.stamp
unfolding noted_state
noted_stamp d = refl

-- An operation other than an access that changes the entry raises the stamp by one.
pub raised :
    (d : Doing)
    → is_access d.op ≡ false
    → changes d ≡ true
    → (next_state d).stamp ≡ d.noted.stamp + 1
unfolding next_state
raised d other change = at (other_rises (noted_state d) d.op other) where
  at :
      (next_state d ≡ noted_state d) ⊎ ((next_state d).stamp ≡ (noted_state d).stamp + 1)
      → (next_state d).stamp ≡ d.noted.stamp + 1
  at (inl same) = absurd (false≢true (sym (still_if d same) ∙ change))
  at (inr up) = let e = noted_stamp d in omega arith

-- By another control word of the same stamp it changes the entry as well, or as little: R and C
-- don't count.
still_alike :
    (d : Doing) (k : Control)
    → is_access d.op ≡ false
    → k.valid ≡ d.noted.valid
    → k.stamp ≡ d.noted.stamp
    → next_state d ≡ noted_state d
    → next_state (with_noted d k) ≡ noted_state (with_noted d k)
unfolding next_state noted_state
still_alike d k other valid stamp same =
    let s : State = noted_state d in
    let t : State = noted_state (with_noted d k) in
    let is : record s { referenced = t.referenced; changed = t.changed } ≡ t = λ i. record {
      valid = sym valid i;
      dword0 = if sym valid i then (unwrap_or (known_words d) (0, 0)).0 else 0;
      dword1 = if sym valid i then without_bits (unwrap_or (known_words d) (0, 0)).1 else 0;
      referenced = t.referenced;
      changed = t.changed;
      stamp = sym stamp i;
    } in
    subst (λ (z : State). (reply_of z d.op).1 ≡ z) is
    (other_still s t.referenced t.changed d.op other same)

pub changes_alike :
    (d : Doing) (k : Control)
    → is_access d.op ≡ false
    → k.valid ≡ d.noted.valid
    → k.stamp ≡ d.noted.stamp
    → changes (with_noted d k) ≡ changes d
changes_alike d k other valid stamp =
    at (cases_Bool (changes d)) (cases_Bool (changes (with_noted d k))) where
      at :
          (changes d ≡ true) ⊎ (changes d ≡ false)
          → (changes (with_noted d k) ≡ true) ⊎ (changes (with_noted d k) ≡ false)
          → changes (with_noted d k) ≡ changes d
      at (inl p) (inl q) = q ∙ sym p
      at (inr p) (inr q) = q ∙ sym p
      at (inr p) (inl q) =
          still_if (with_noted d k) (still_alike d k other valid stamp (still_is d p)) ∙ sym p
      at (inl p) (inr q) =
          q
          ∙ sym
          (still_if d
          (still_alike (with_noted d k) d.noted other (sym valid) (sym stamp)
          (still_is (with_noted d k) q)))

-- ---- the word that was noted
pub noted_same : (k l : Control) → is_noted k l ≡ true → k ≡ l
unfolding is_noted
noted_same k l h =
    let halves = and_parts _ _ h in
    let left = and_parts _ _ halves.0 in
    let left' = and_parts _ _ left.0 in
    let right = and_parts _ _ halves.1 in
    let right' = and_parts _ _ right.0 in
    let a = bool_same k.locked l.locked left'.0 in
    let b = bool_same k.shut l.shut left'.1 in
    let c = bool_same k.valid l.valid left.1 in
    let d = bool_same k.referenced l.referenced right'.0 in
    let e = bool_same k.changed l.changed right'.1 in
    let f = eqb-true k.stamp l.stamp right.1 in
    λ i.
    record { locked = a i; shut = b i; valid = c i; referenced = d i; changed = e i; stamp = f i }
