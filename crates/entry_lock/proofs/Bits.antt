-- What atomic steps do to a control word.
use Rattle.std.proofs.Common.{◌≡◌, ℕ, ◌+◌, ◌-◌, ◌*◌, ◌<◌, ◌^◌, Bool, true, false, refl, sym, ap, ◌∙◌, arith, ◌==◌, eq-eqb, ne_eqb}
use Rattle.std.specs.Int.Bits.{bit_or, bit_and, or_zero_r, and_zero_r}
use Rattle.std.proofs.lemmas.Nat.{or_block, and_block, and_mask, pow_pos}
use Rattle.lock_core.specs.declared.control.Control.{Control}
use Rattle.entry_lock.specs.Layout.{bit, word_of, Means, control_of_word}

bit_le : (b : Bool) → bit b < 2
bit_le true = omega arith
bit_le false = omega arith

-- ---- the word without its highest bits
abbrev below_lock : Control → ℕ
below_lock k =
    bit k.shut * 2 ^ 62
    + (bit k.valid * 2 ^ 61 + (bit k.referenced * 2 ^ 60 + (bit k.changed * 2 ^ 59 + k.stamp)))

abbrev below_shut : Control → ℕ
below_shut k =
    bit k.valid * 2 ^ 61 + (bit k.referenced * 2 ^ 60 + (bit k.changed * 2 ^ 59 + k.stamp))

abbrev below_valid : Control → ℕ
below_valid k = bit k.referenced * 2 ^ 60 + (bit k.changed * 2 ^ 59 + k.stamp)

abbrev below_referenced : Control → ℕ
below_referenced k = bit k.changed * 2 ^ 59 + k.stamp

lock_fits : (k : Control) → k.stamp < 2 ^ 32 → below_lock k < 2 ^ 63
lock_fits k f =
    let a = bit_le k.shut in
    let b = bit_le k.valid in
    let c = bit_le k.referenced in
    let d = bit_le k.changed in
    omega arith

shut_fits : (k : Control) → k.stamp < 2 ^ 32 → below_shut k < 2 ^ 62
shut_fits k f =
    let b = bit_le k.valid in let c = bit_le k.referenced in let d = bit_le k.changed in omega arith

valid_fits : (k : Control) → k.stamp < 2 ^ 32 → below_valid k < 2 ^ 61
valid_fits k f = let c = bit_le k.referenced in let d = bit_le k.changed in omega arith

referenced_fits : (k : Control) → k.stamp < 2 ^ 32 → below_referenced k < 2 ^ 60
referenced_fits k f = let d = bit_le k.changed in omega arith

-- ---- single bits
or_one : (b : Bool) → bit_or (bit b) 1 ≡ 1
or_one true = refl
or_one false = refl

or_none : (b : Bool) → bit_or (bit b) 0 ≡ bit b
or_none true = refl
or_none false = refl

and_none : (b : Bool) → bit_and (bit b) 0 ≡ 0
and_none true = refl
and_none false = refl

and_one : (b : Bool) → bit_and (bit b) 1 ≡ bit b
and_one true = refl
and_one false = refl

-- ---- the bits that steps write
pub lock_word :
    (k : Control)
    → k.stamp < 2 ^ 32
    → bit_or (word_of k) 9223372036854775808 ≡ word_of (record k { locked = true })
lock_word k f =
    or_block 63 (bit k.locked) 1 (below_lock k) 0 (lock_fits k f) (omega arith)
    ∙ (λ i. or_one k.locked i * 2 ^ 63 + or_zero_r (below_lock k) i)

and_all : (r : ℕ) → r < 2 ^ 63 → bit_and r (2 ^ 63 - 1) ≡ r
and_all r f = and_mask r 63 ∙ omega arith

pub unlock_word :
    (k : Control)
    → k.stamp < 2 ^ 32
    → bit_and (word_of k) 9223372036854775807 ≡ word_of (record k { locked = false })
unlock_word k f =
    and_block 63 (bit k.locked) 0 (below_lock k) (2 ^ 63 - 1) (lock_fits k f) (omega arith)
    ∙ (λ i. and_none k.locked i * 2 ^ 63 + and_all (below_lock k) (lock_fits k f) i)

pub shut_word :
    (k : Control)
    → k.stamp < 2 ^ 32
    → bit_or (word_of k) 4611686018427387904 ≡ word_of (record k { shut = true })
shut_word k f =
    or_block 63 (bit k.locked) 0 (below_lock k) 4611686018427387904 (lock_fits k f) (omega arith)
    ∙
    (λ i.
    or_none k.locked i * 2 ^ 63
    +
    (or_block 62 (bit k.shut) 1 (below_shut k) 0 (shut_fits k f) (omega arith)
    ∙ (λ j. or_one k.shut j * 2 ^ 62 + or_zero_r (below_shut k) j)) i)

-- ---- the tests of bits
bit_test : (n : ℕ) (b : Bool) (m : ℕ) → bit_and n m ≡ bit b * m → 0 < m → (bit_and n m == m) ≡ b
bit_test n true m is some = eq-eqb (bit_and n m) m (omega arith)
bit_test n false m is some = ne_eqb (bit_and n m) m (λ h. omega arith)

drop_high :
    (j : ℕ) (b : Bool) (r m : ℕ)
    → r < 2 ^ j
    → m < 2 ^ j
    → bit_and (bit b * 2 ^ j + r) m ≡ bit_and r m
drop_high j b r m f h = let e : m ≡ 0 * 2 ^ j + m = omega arith in
    ap (bit_and (bit b * 2 ^ j + r)) e
    ∙ and_block j (bit b) 0 r m f h
    ∙ ap (λ z. z * 2 ^ j + bit_and r m) (and_none b)
    ∙ omega arith

in_lock :
    (k : Control) (m : ℕ)
    → k.stamp < 2 ^ 32
    → m < 2 ^ 63
    → bit_and (word_of k) m ≡ bit_and (below_lock k) m
in_lock k m f h = drop_high 63 k.locked (below_lock k) m (lock_fits k f) h

in_shut :
    (k : Control) (m : ℕ)
    → k.stamp < 2 ^ 32
    → m < 2 ^ 62
    → bit_and (below_lock k) m ≡ bit_and (below_shut k) m
in_shut k m f h = drop_high 62 k.shut (below_shut k) m (shut_fits k f) h

in_valid :
    (k : Control) (m : ℕ)
    → k.stamp < 2 ^ 32
    → m < 2 ^ 61
    → bit_and (below_shut k) m ≡ bit_and (below_valid k) m
in_valid k m f h = drop_high 61 k.valid (below_valid k) m (valid_fits k f) h

in_referenced :
    (k : Control) (m : ℕ)
    → k.stamp < 2 ^ 32
    → m < 2 ^ 60
    → bit_and (below_valid k) m ≡ bit_and (below_referenced k) m
in_referenced k m f h = drop_high 60 k.referenced (below_referenced k) m (referenced_fits k f) h

top_bit :
    (j a r : ℕ) (b : Bool) → r < 2 ^ j → a ≡ bit b * 2 ^ j + r → bit_and a (2 ^ j) ≡ bit b * 2 ^ j
top_bit j a r b f is =
    ap (λ z. bit_and z (2 ^ j)) is
    ∙ (λ i. bit_and (bit b * 2 ^ j + r) ((let e : 2 ^ j ≡ 1 * 2 ^ j + 0 = omega arith in e) i))
    ∙ and_block j (bit b) 1 r 0 f (pow_pos j)
    ∙ (λ i. and_one b i * 2 ^ j + and_zero_r r i)
    ∙ omega arith

locked_is :
    (k : Control)
    → k.stamp < 2 ^ 32
    → (bit_and (word_of k) 9223372036854775808 == 9223372036854775808) ≡ k.locked
locked_is k f =
    bit_test (word_of k) k.locked 9223372036854775808
    (top_bit 63 (word_of k) (below_lock k) k.locked (lock_fits k f) refl) (omega arith)

shut_is :
    (k : Control)
    → k.stamp < 2 ^ 32
    → (bit_and (word_of k) 4611686018427387904 == 4611686018427387904) ≡ k.shut
shut_is k f =
    bit_test (word_of k) k.shut 4611686018427387904
    (in_lock k 4611686018427387904 f (omega arith)
    ∙ top_bit 62 (below_lock k) (below_shut k) k.shut (shut_fits k f) refl) (omega arith)

valid_is :
    (k : Control)
    → k.stamp < 2 ^ 32
    → (bit_and (word_of k) 2305843009213693952 == 2305843009213693952) ≡ k.valid
valid_is k f =
    bit_test (word_of k) k.valid 2305843009213693952
    (in_lock k 2305843009213693952 f (omega arith)
    ∙ in_shut k 2305843009213693952 f (omega arith)
    ∙ top_bit 61 (below_shut k) (below_valid k) k.valid (valid_fits k f) refl) (omega arith)

referenced_is :
    (k : Control)
    → k.stamp < 2 ^ 32
    → (bit_and (word_of k) 1152921504606846976 == 1152921504606846976) ≡ k.referenced
referenced_is k f = bit_test (word_of k) k.referenced 1152921504606846976
    (in_lock k 1152921504606846976 f (omega arith)
    ∙ in_shut k 1152921504606846976 f (omega arith)
    ∙ in_valid k 1152921504606846976 f (omega arith)
    ∙ top_bit 60 (below_valid k) (below_referenced k) k.referenced (referenced_fits k f) refl)
    (omega arith)

changed_is :
    (k : Control)
    → k.stamp < 2 ^ 32
    → (bit_and (word_of k) 576460752303423488 == 576460752303423488) ≡ k.changed
changed_is k f = bit_test (word_of k) k.changed 576460752303423488
    (in_lock k 576460752303423488 f (omega arith)
    ∙ in_shut k 576460752303423488 f (omega arith)
    ∙ in_valid k 576460752303423488 f (omega arith)
    ∙ in_referenced k 576460752303423488 f (omega arith)
    ∙ top_bit 59 (below_referenced k) k.stamp k.changed (omega arith) refl) (omega arith)

stamp_is : (k : Control) → k.stamp < 2 ^ 32 → bit_and (word_of k) 4294967295 ≡ k.stamp
stamp_is k f = and_mask (word_of k) 32 ∙ omega arith

pub control_is : (word : ℕ) (k : Control) → Means word k → control_of_word word ≡ k
control_is word k m =
    ap control_of_word m.0
    ∙
    (λ i.
    record {
      locked = locked_is k m.1 i;
      shut = shut_is k m.1 i;
      valid = valid_is k m.1 i;
      referenced = referenced_is k m.1 i;
      changed = changed_is k m.1 i;
      stamp = stamp_is k m.1 i;
    })

-- A word has one meaning.
pub same_word : (word : ℕ) (k l : Control) → Means word k → Means word l → k ≡ l
same_word word k l m n = sym (control_is word k m) ∙ control_is word l n
