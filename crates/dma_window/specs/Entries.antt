-- Translation control entries: the word that the guest gives, and how an entry keeps it.
use Rattle.std.specs.Prelude.{ℕ, ◌+◌, ◌==◌, Bool, true, false, bit_and, bit_or, if◌then◌else◌}
use Rattle.entry_model.specs.State.{State}

-- ---- the word
-- The logical address of the page.
abbrev pub address_of : ℕ → ℕ
address_of tce = bit_and tce 0x0FFFFFFFFFFFF000

-- The bit that permits a write, or a read.
abbrev pub permission : Bool → ℕ
permission write = if write then 2 else 1

-- The word permits a write, or a read.
abbrev pub permits : ℕ → Bool → Bool
permits tce write = bit_and tce (permission write) == permission write

-- ---- in an entry
-- Doubleword 0: V, and the permissions among the bits that software may use.
abbrev pub first_word : ℕ → ℕ
first_word tce =
    1 + (if permits tce false then 0x08 else 0) + (if permits tce true then 0x10 else 0)

-- Doubleword 1: the address, and M.
abbrev pub second_word : ℕ → ℕ
second_word tce = bit_or (address_of tce) 0x10

-- The word that an entry keeps; an empty one keeps 0.
abbrev pub tce_of : State → ℕ
tce_of s =
    if s.valid
    then
    bit_or
    (bit_or (address_of s.dword1) (if bit_and s.dword0 0x08 == 0x08 then 1 else 0))
    (if bit_and s.dword0 0x10 == 0x10 then 2 else 0)
    else 0
