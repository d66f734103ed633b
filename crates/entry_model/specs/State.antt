-- The state of one page table entry: its doublewords without R and C, these two bits, and its
-- stamp.
use Rattle.std.specs.Prelude.{◌≡◌, ℕ, ◌+◌, ◌<◌, ◌⊎◌, Bool, false, bit_and, true, if◌then◌else◌}
use Rattle.hpte_fields.specs.Fields.{rc_bits}

-- The two doublewords without R and C, the two bits, and the stamp: how often the entry has
-- changed, except for R and C that accesses set.
pub record State : Type 0 where
  pub valid : Bool
  pub dword0 : ℕ
  pub dword1 : ℕ
  pub referenced : Bool
  pub changed : Bool
  pub stamp : ℕ

-- R and C stand apart from doubleword 1, and an entry that isn't valid has nothing: each state is
-- written in one way.
pub record IsCanonical (valid : Bool) (dword0 dword1 : ℕ) (referenced changed : Bool) : Type 0 where
  pub apart : bit_and dword1 rc_bits ≡ 0
  pub no_first : valid ≡ false → dword0 ≡ 0
  pub no_second : valid ≡ false → dword1 ≡ 0
  pub no_reference : valid ≡ false → referenced ≡ false
  pub no_change : valid ≡ false → changed ≡ false

-- The state is written in that way.
abbrev pub IsCanonicalState : State → Type 0
IsCanonicalState s = IsCanonical s.valid s.dword0 s.dword1 s.referenced s.changed

-- An entry with nothing in it.
abbrev pub empty_state : ℕ → State
empty_state stamp = record {
  valid = false;
  dword0 = 0;
  dword1 = 0;
  referenced = false;
  changed = false;
  stamp = stamp;
}

-- ---- R and C
-- The second state has what the first has, and each of its bits.
pub record OnlyRaisesBits (s t : State) : Type 0 where
  pub valid : t.valid ≡ s.valid
  pub dword0 : t.dword0 ≡ s.dword0
  pub dword1 : t.dword1 ≡ s.dword1
  pub stamp : t.stamp ≡ s.stamp
  pub referenced : s.referenced ≡ true → t.referenced ≡ true
  pub changed : s.changed ≡ true → t.changed ≡ true

-- The second state comes from the first by operations: it is a later one, or the same with further
-- bits.
abbrev pub Follows : State → State → Type 0
Follows s t = OnlyRaisesBits s t ⊎ (s.stamp < t.stamp)

-- R and C as one number: R counts 2, and C counts 1.
abbrev pub bits_number : State → ℕ
bits_number s = (if s.referenced then 2 else 0) + (if s.changed then 1 else 0)

-- The state with these R and C.
abbrev pub with_these_bits : State → Bool → Bool → State
with_these_bits s referenced changed = record s { referenced = referenced; changed = changed }
