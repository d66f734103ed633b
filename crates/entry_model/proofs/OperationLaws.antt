-- What each operation does to an entry: accesses on one side, and the operations of hypervisor
-- calls on the other.
use Rattle.std.specs.Prelude.{◌≡◌, ℕ, ◌+◌, ◌<◌, ◌^◌, ◌⊎◌, Bool, true, false, if◌then◌else◌, ◌==◌, ◌||◌, bit_and}
use Rattle.std.proofs.Common.{arith, inl, inr, refl, ◌∙◌, ap, sym, subst}
use Rattle.std.specs.Int.Bits.{and_zero_r}
use Rattle.std.proofs.lemmas.Bool.{cond_both, false≢true}
use Rattle.std.proofs.lemmas.Nat.{and_assoc}
use Rattle.hpte_fields.specs.Fields.{protected_word}
use Rattle.hpte_fields.proofs.KeptBits.{protected_keeps_rc}
use Rattle.storage_prot.specs.declared.want.Want.{Want}
use Rattle.authority_mask.specs.declared.masks.Masks.{Masks}
use Rattle.entry_model.specs.State.{State, empty_state, IsCanonicalState, OnlyRaisesBits}
use Rattle.entry_model.specs.declared.operation.Answer.{Answer}
use Rattle.entry_model.specs.declared.operation.Answer.TheVariants.{Entered, Taken, Removed, Protected, Was, NotFound, NoMatch, Denied, Masked, At, Worn}
use Rattle.entry_model.specs.declared.operation.Op.{Op}
use Rattle.entry_model.specs.declared.operation.Op.TheVariants.{Enter, Remove, Protect, Read, ClearRef, ClearMod, Access}
use Rattle.entry_model.specs.Reply.{reply_of, change_to, change_where, entered_state, is_found, is_match, answer_of_match, answer_of_access, answer_of_allowed, touched_state, is_store, access_mode, AccessMode, is_allowed, masks_refuse}
use Rattle.entry_model.specs.Receipt.{is_access, is_decided, is_at}
use Rattle.entry_model.proofs.Replied.{Changes, enters, removes, protects, clears_r, clears_c, Replied, replied, left, changed, accessed}
use Rattle.entry_model.proofs.Follows.{no_further, with_bits, with_its_bits, touched_further}

-- ---- accesses
-- An access leaves valid, the doublewords and the stamp, and lowers no bit.
pub access_further :
    (s : State) (op : Op) → is_access op ≡ true → OnlyRaisesBits s (reply_of s op).1
access_further s op = at (replied s op) where
  at : {op : Op} {x : Answer × State} → Replied s op x → is_access op ≡ true → OnlyRaisesBits s x.1
  at (left a is) e = no_further s
  at (changed a next changes is) e = absurd (false≢true (sym is.access ∙ e))
  at (accessed tag base key no_execute want masks valid) e = touched_further s want

-- One that isn't At changes nothing.
pub access_undone :
    (s : State) (op : Op)
    → is_access op ≡ true
    → is_at (reply_of s op).0 ≡ false
    → (reply_of s op).1 ≡ s
access_undone s op = at (replied s op) where
  at :
      {op : Op} {x : Answer × State}
      → Replied s op x
      → is_access op ≡ true
      → is_at x.0 ≡ false
      → x.1 ≡ s
  at (left a is) e h = refl
  at (changed a next changes is) e h = absurd (false≢true (sym is.access ∙ e))
  at (accessed tag base key no_execute want masks valid) e h = absurd (false≢true (sym h))

-- At, Masked and Denied come only on a valid entry, whatever the operation.
pub decided_valid : (s : State) (op : Op) → is_decided (reply_of s op).0 ≡ true → s.valid ≡ true
decided_valid s op = at (replied s op) where
  at : {op : Op} {x : Answer × State} → Replied s op x → is_decided x.0 ≡ true → s.valid ≡ true
  at (left a is) h = is.decided h
  at (changed a next changes is) h = absurd (false≢true (sym is.undecided ∙ h))
  at (accessed tag base key no_execute want masks valid) h = valid

-- An access of an entry that translates its page is At, Masked or Denied.
pub decided_match :
    (s : State) (tag base : ℕ) (mode : AccessMode)
    → is_match s tag base ≡ true
    → is_decided (answer_of_access s tag base mode).0 ≡ true
decided_match s tag base mode match =
    rw match
    (cond_both (is_allowed s mode) (answer_of_allowed s mode) (Denied, s)
    (λ (p : Answer × State). is_decided p.0 ≡ true)
    (λ _.
    cond_both (masks_refuse s mode) (Masked, s) (At, touched_state s mode.want)
    (λ (p : Answer × State). is_decided p.0 ≡ true) (λ _. refl) (λ _. refl))
    (λ _. refl))

-- ---- the same access on the same entry with further bits
-- What holds of both replies where it holds of each pair that they can be.
both_have :
    (Q : Answer × State → Answer × State → Type 0) (b : Bool) (p q p' q' : Answer × State)
    → Q p p'
    → Q q q'
    → Q (if b then p else q) (if b then p' else q')
both_have Q true p q p' q' h k = h
both_have Q false p q p' q' h k = k

or_absorbs : (a c w : Bool) → (a || w) ≡ a → (a ≡ true → c ≡ true) → (c || w) ≡ c
or_absorbs a true w e f = refl
or_absorbs a false false e f = refl
or_absorbs true false true e f = sym (f refl)
or_absorbs false false true e f = absurd (false≢true (sym e))

-- The second reply changes nothing and answers as the first, where the first changes nothing.
abbrev StaysStill : State → State → Answer × State → Answer × State → Type 0
StaysStill s t p q = p.1 ≡ s → (q.1 ≡ t) × (q.0 ≡ p.0)

touched_still :
    (s : State) (r c : Bool) (want : Want)
    → (s.referenced ≡ true → r ≡ true)
    → (s.changed ≡ true → c ≡ true)
    → touched_state s want ≡ s
    → touched_state (with_bits s r c) want ≡ with_bits s r c
touched_still s r c want f g e =
    let referenced : true ≡ r = sym (f (sym (ap (λ (t : State). t.referenced) e))) in
    let changed : (c || is_store want) ≡ c = or_absorbs s.changed c (is_store want)
    (ap (λ (t : State). t.changed) e) g in
    λ i. with_bits s (referenced i) (changed i)

still_with_bits :
    (s : State) (r c : Bool) (tag base : ℕ) (key no_execute : Bool) (want : Want) (masks : Masks)
    → (s.referenced ≡ true → r ≡ true)
    → (s.changed ≡ true → c ≡ true)
    → StaysStill s (with_bits s r c)
    (answer_of_access s tag base (access_mode key no_execute want masks))
    (answer_of_access (with_bits s r c) tag base (access_mode key no_execute want masks))
still_with_bits s r c tag base key no_execute want masks f g =
    let t : State = with_bits s r c in
    both_have (StaysStill s t) (is_match s tag base)
    (answer_of_match s (access_mode key no_execute want masks)) (NoMatch, s)
    (answer_of_match t (access_mode key no_execute want masks)) (NoMatch, t)
    (both_have (StaysStill s t) (is_allowed s (access_mode key no_execute want masks))
    (answer_of_allowed s (access_mode key no_execute want masks)) (Denied, s)
    (answer_of_allowed t (access_mode key no_execute want masks)) (Denied, t)
    (both_have (StaysStill s t) (masks_refuse s (access_mode key no_execute want masks)) (Masked, s)
    (At, touched_state s want) (Masked, t) (At, touched_state t want) (λ e. (refl, refl))
    (λ e. (touched_still s r c want f g e, refl)))
    (λ e. (refl, refl)))
    (λ e. (refl, refl))

-- An access that changes nothing on a state changes nothing, with the same answer, on the same
-- entry with further bits.
pub access_still :
    (s t : State) (op : Op)
    → is_access op ≡ true
    → OnlyRaisesBits s t
    → (reply_of s op).1 ≡ s
    → ((reply_of t op).1 ≡ t) × ((reply_of t op).0 ≡ (reply_of s op).0)
access_still s t (Access tag base key no_execute want masks) e h =
    subst
    (λ u.
    StaysStill s u (answer_of_access s tag base (access_mode key no_execute want masks))
    (answer_of_access u tag base (access_mode key no_execute want masks)))
    (sym (with_its_bits s t h))
    (still_with_bits s t.referenced t.changed tag base key no_execute want masks h.referenced
    h.changed)
access_still s t (Enter dword0 dword1) e h = cc
access_still s t (Remove test) e h = cc
access_still s t (Protect test flags) e h = cc
access_still s t Read e h = cc
access_still s t ClearRef e h = cc
access_still s t ClearMod e h = cc

-- ---- the operations of hypervisor calls
-- Each leaves the state or raises the stamp by one.
abbrev Rises : State → Answer × State → Type 0
Rises s p = (p.1 ≡ s) ⊎ (p.1.stamp ≡ s.stamp + 1)

pub other_rises : (s : State) (op : Op) → is_access op ≡ false → Rises s (reply_of s op)
other_rises s op = at (replied s op) where
  at : {op : Op} {x : Answer × State} → Replied s op x → is_access op ≡ false → Rises s x
  at (left a is) e = inl refl
  at (changed a next changes is) e = inr refl
  at (accessed tag base key no_execute want masks valid) e = cc

-- Their answer and the stamp after don't depend on R and C.
abbrev Alike : Answer × State → Answer × State → Type 0
Alike p q = (p.0 ≡ q.0) × (p.1.stamp ≡ q.1.stamp)

changed_alike :
    (s : State) (r c : Bool) (answer : Answer) (n n' : State)
    → Alike (change_to (with_bits s r c) answer n) (change_to s answer n')
changed_alike s r c answer n n' =
    both_have Alike (s.stamp == 0xFFFFFFFF) (Worn, with_bits s r c)
    (answer, record n { stamp = s.stamp + 1 }) (Worn, s)
    (answer, record n' { stamp = s.stamp + 1 }) (refl, refl) (refl, refl)

where_alike :
    (found : Bool) (s : State) (r c : Bool) (answer : Answer) (n n' : State)
    → Alike (change_where found (with_bits s r c) answer n) (change_where found s answer n')
where_alike found s r c answer n n' =
    both_have Alike found (change_to (with_bits s r c) answer n) (NotFound, with_bits s r c)
    (change_to s answer n') (NotFound, s) (changed_alike s r c answer n n') (refl, refl)

pub other_alike :
    (s : State) (r c : Bool) (op : Op)
    → is_access op ≡ false
    → ((reply_of (with_bits s r c) op).0 ≡ (reply_of s op).0)
    × ((reply_of (with_bits s r c) op).1.stamp ≡ (reply_of s op).1.stamp)
other_alike s r c (Enter dword0 dword1) e =
    both_have Alike s.valid (Taken, with_bits s r c)
    (change_to (with_bits s r c) Entered (entered_state dword0 dword1)) (Taken, s)
    (change_to s Entered (entered_state dword0 dword1)) (refl, refl)
    (changed_alike s r c Entered (entered_state dword0 dword1) (entered_state dword0 dword1))
other_alike s r c (Remove test) e =
    where_alike (is_found s test) s r c Removed (empty_state 0) (empty_state 0)
other_alike s r c (Protect test flags) e =
    where_alike (is_found s test) s r c Protected
    (record (with_bits s r c) { dword1 = protected_word s.dword1 flags })
    (record s { dword1 = protected_word s.dword1 flags })
other_alike s r c Read e = (refl, refl)
other_alike s r c ClearRef e =
    where_alike s.valid s r c Was (record (with_bits s r c) { referenced = false })
    (record s { referenced = false })
other_alike s r c ClearMod e =
    where_alike s.valid s r c Was (record (with_bits s r c) { changed = false })
    (record s { changed = false })
other_alike s r c (Access tag base key no_execute want masks) e = cc

-- Whether an operation that is no access leaves an entry doesn't depend on the entry's R and C.
pub other_still :
    (s : State) (r c : Bool) (op : Op)
    → is_access op ≡ false
    → (reply_of s op).1 ≡ s
    → (reply_of (with_bits s r c) op).1 ≡ with_bits s r c
other_still s r c op e still = at (other_rises (with_bits s r c) op e) where
  at :
      Rises (with_bits s r c) (reply_of (with_bits s r c) op)
      → (reply_of (with_bits s r c) op).1 ≡ with_bits s r c
  at (inl same) = same
  at (inr higher) =
      let level : (reply_of (with_bits s r c) op).1.stamp ≡ s.stamp = (other_alike s r c op e).1 ∙
      ap (λ (t : State). t.stamp) still in
      absurd (omega arith)

-- ---- all operations
-- Each keeps a state canonical.
canonical_if_valid : (s : State) → s.valid ≡ true → bit_and s.dword1 0x180 ≡ 0 → IsCanonicalState s
canonical_if_valid s valid apart = record {
  apart = apart;
  no_first = λ e. absurd (false≢true (sym e ∙ valid));
  no_second = λ e. absurd (false≢true (sym e ∙ valid));
  no_reference = λ e. absurd (false≢true (sym e ∙ valid));
  no_change = λ e. absurd (false≢true (sym e ∙ valid));
}

-- What a change leaves of a canonical state.
changed_canonical :
    (s : State) {op : Op} {a : Answer} {next : State}
    → IsCanonicalState s
    → Changes s op a next
    → IsCanonicalState (record next { stamp = s.stamp + 1 })
changed_canonical s h (enters dword0 dword1 valid) =
    canonical_if_valid (record (entered_state dword0 dword1) { stamp = s.stamp + 1 }) refl
    (and_assoc 0x180 dword1 0xFFFFFFFFFFFFFE7F ∙ and_zero_r dword1)
changed_canonical s h (removes test valid) =
    record {
      apart = refl;
      no_first = λ e. refl;
      no_second = λ e. refl;
      no_reference = λ e. refl;
      no_change = λ e. refl;
    }
changed_canonical s h (protects test flags valid) =
    canonical_if_valid (record s { dword1 = protected_word s.dword1 flags; stamp = s.stamp + 1 })
    valid (protected_keeps_rc s.dword1 flags ∙ h.apart)
changed_canonical s h (clears_r valid) =
    canonical_if_valid (record s { referenced = false; stamp = s.stamp + 1 }) valid h.apart
changed_canonical s h (clears_c valid) =
    canonical_if_valid (record s { changed = false; stamp = s.stamp + 1 }) valid h.apart

pub reply_canonical :
    (s : State) (op : Op) → IsCanonicalState s → IsCanonicalState (reply_of s op).1
reply_canonical s op h = at (replied s op) where
  at : {op : Op} {x : Answer × State} → Replied s op x → IsCanonicalState x.1
  at (left a is) = h
  at (changed a next changes is) = changed_canonical s h changes
  at (accessed tag base key no_execute want masks valid) =
      canonical_if_valid (touched_state s want) valid h.apart

-- Stamps stay below 2 ^ 32.
pub stamp_fits : (s : State) (op : Op) → s.stamp < 2 ^ 32 → (reply_of s op).1.stamp < 2 ^ 32
stamp_fits s op h = at (replied s op) where
  at : {op : Op} {x : Answer × State} → Replied s op x → x.1.stamp < 2 ^ 32
  at (left a is) = h
  at (changed a next changes is) = let more : s.stamp ≡ 0xFFFFFFFF → ⊥ = is.fresh in omega arith
  at (accessed tag base key no_execute want masks valid) = h
