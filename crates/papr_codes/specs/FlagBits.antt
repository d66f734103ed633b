-- The flags of a hypervisor call, as bits of its first argument.
use Rattle.std.specs.Prelude.{ℕ, ◌==◌, bit_and, Bool}

-- H_EXACT: H_ENTER tries the named entry, and no other of its group.
abbrev pub h_exact : ℕ
h_exact = 0x8000000000

-- H_READ_4: H_READ reads the four entries that the named one lies among.
abbrev pub h_read_4 : ℕ
h_read_4 = 0x2000000000

-- H_AVPN: the entry must have the given abbreviated virtual page number.
abbrev pub h_avpn : ℕ
h_avpn = 0x80000000

-- H_ANDCOND: the entry must have none of the given bits in doubleword 0.
abbrev pub h_andcond : ℕ
h_andcond = 0x40000000

-- All bits of the four flags together.
abbrev pub known_flags : ℕ
known_flags = 0xA0C0000000

-- All bits of the flag are set in the word.
abbrev pub has_flag : ℕ → ℕ → Bool
has_flag word flag = bit_and word flag == flag
