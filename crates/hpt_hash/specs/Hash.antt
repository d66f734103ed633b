-- The hash of a page, and the two groups of a hashed page table in which its entry may stand.
-- Power ISA 2.07 Book III-S, virtual to real translation: the primary and the secondary hash.
use Rattle.std.specs.Prelude.{ℕ, ◌-◌, ◌*◌, ◌%◌, ◌^◌, Bool, true, false, bit_xor}
use Rattle.hpte_fields.specs.TableSize.{group_count}
use Rattle.power_addr.specs.Pages.{VirtualPage}

-- What the hash mixes: the segment's number and the page's index, and in a segment of 1 TB also the
-- number shifted by 25 bits.
abbrev pub mixed_bits : Bool → ℕ → ℕ → ℕ
mixed_bits false vsid index = bit_xor vsid index
mixed_bits true vsid index = bit_xor (bit_xor vsid (vsid * 2 ^ 25)) index

-- The hash has 39 bits.
abbrev pub hash_of : VirtualPage → ℕ
hash_of p = mixed_bits p.one_tb p.vsid p.index % 2 ^ 39

-- The primary group is the hash under the mask of the number of groups, and the secondary group the
-- complement of the hash under that mask.
unfoldable pub group_of : VirtualPage → ℕ → Bool → ℕ
group_of p order false = hash_of p % group_count order
group_of p order true = group_count order - 1 - hash_of p % group_count order
