-- What an entry keeps of a TCE.
use Rattle.std.proofs.Common.{◌≡◌, ℕ, Bool, true, false, Some, refl, ap, ◌∙◌, bit_and, bit_or}
use Rattle.std.specs.Prelude.{◌+◌, ◌==◌, if◌then◌else◌}
use Rattle.std.specs.Int.Bits.{or_zero_r, and_zero_r}
use Rattle.std.proofs.lemmas.Nat.{and_assoc}
use Rattle.hpte_fields.specs.Fields.{normal_words, stored_second, without_rc}
use Rattle.hpte_fields.proofs.Masks.{mask_of_or}
use Rattle.entry_model.specs.Reply.{entered_state}
use Rattle.dma_window.specs.Entries.{address_of, permission, permits, first_word, second_word, tce_of}
use Rattle.dma_window.specs.Laws.{IsKept}

-- ---- normal words
-- Doubleword 0 by the two permissions.
abbrev word_by : Bool → Bool → ℕ
word_by read write = 1 + (if read then 0x08 else 0) + (if write then 0x10 else 0)

normal_by :
    (read write : Bool) (dword1 : ℕ)
    → normal_words (word_by read write) dword1 ≡ Some (word_by read write, stored_second dword1)
normal_by true true dword1 = refl
normal_by true false dword1 = refl
normal_by false true dword1 = refl
normal_by false false dword1 = refl

second_stays : (tce : ℕ) → stored_second (second_word tce) ≡ second_word tce
second_stays tce =
    mask_of_or (address_of tce) 0x10 0xBFFFFFFFFFFFFFFF
    ∙ ap (λ a. bit_or a 0x10) (and_assoc 0xBFFFFFFFFFFFFFFF tce 0x0FFFFFFFFFFFF000)

pub kept_words_normal :
    (tce : ℕ)
    → normal_words (first_word tce) (second_word tce) ≡ Some (first_word tce, second_word tce)
kept_words_normal tce =
    normal_by (permits tce false) (permits tce true) (second_word tce)
    ∙ ap (λ w. Some (first_word tce, w)) (second_stays tce)

-- ---- read back
-- A mask of the word that an entry with these doublewords keeps, part by part.
abbrev kept : ℕ → Bool → Bool → ℕ
kept address read write =
    bit_or (bit_or address (if bit_and (word_by read write) 0x08 == 0x08 then 1 else 0))
    (if bit_and (word_by read write) 0x10 == 0x10 then 2 else 0)

masked :
    (address m : ℕ) (read write : Bool)
    → bit_and (kept address read write) m
    ≡ bit_or (bit_or (bit_and address m) (bit_and (if read then 1 else 0) m))
    (bit_and (if write then 2 else 0) m)
masked address m true true =
    mask_of_or _ 2 m ∙ ap (λ x. bit_or x (bit_and 2 m)) (mask_of_or address 1 m)
masked address m true false =
    mask_of_or _ 0 m ∙ ap (λ x. bit_or x (bit_and 0 m)) (mask_of_or address 1 m)
masked address m false true =
    mask_of_or _ 2 m ∙ ap (λ x. bit_or x (bit_and 2 m)) (mask_of_or address 0 m)
masked address m false false =
    mask_of_or _ 0 m ∙ ap (λ x. bit_or x (bit_and 0 m)) (mask_of_or address 0 m)

-- The address of doubleword 1, without R and C, under a mask.
address_under :
    (tce m : ℕ)
    → bit_and (address_of (without_rc (second_word tce))) m
    ≡ bit_and tce (bit_and 0x0FFFFFFFFFFFF000 m)
address_under tce m =
    ap (λ x. bit_and x m)
    (and_assoc 0x0FFFFFFFFFFFF000 (second_word tce) 0xFFFFFFFFFFFFFE7F
    ∙ mask_of_or (address_of tce) 0x10 0x0FFFFFFFFFFFF000
    ∙ or_zero_r _
    ∙ and_assoc 0x0FFFFFFFFFFFF000 tce 0x0FFFFFFFFFFFF000)
    ∙ and_assoc m tce 0x0FFFFFFFFFFFF000

address_kept :
    (tce : ℕ) (read write : Bool)
    → bit_and (kept (address_of (without_rc (second_word tce))) read write) 0x0FFFFFFFFFFFF000
    ≡ address_of tce
address_kept tce true true =
    masked (address_of (without_rc (second_word tce))) 0x0FFFFFFFFFFFF000 true true
    ∙ or_zero_r _
    ∙ or_zero_r _
    ∙ address_under tce 0x0FFFFFFFFFFFF000
address_kept tce true false =
    masked (address_of (without_rc (second_word tce))) 0x0FFFFFFFFFFFF000 true false
    ∙ or_zero_r _
    ∙ or_zero_r _
    ∙ address_under tce 0x0FFFFFFFFFFFF000
address_kept tce false true =
    masked (address_of (without_rc (second_word tce))) 0x0FFFFFFFFFFFF000 false true
    ∙ or_zero_r _
    ∙ or_zero_r _
    ∙ address_under tce 0x0FFFFFFFFFFFF000
address_kept tce false false =
    masked (address_of (without_rc (second_word tce))) 0x0FFFFFFFFFFFF000 false false
    ∙ or_zero_r _
    ∙ or_zero_r _
    ∙ address_under tce 0x0FFFFFFFFFFFF000

-- No permission is in the address.
none_in_address :
    (tce : ℕ) (write : Bool)
    → bit_and (address_of (without_rc (second_word tce))) (permission write) ≡ 0
none_in_address tce true = address_under tce 2 ∙ and_zero_r tce
none_in_address tce false = address_under tce 1 ∙ and_zero_r tce

permission_by :
    (tce : ℕ) (read write asked : Bool)
    →
    (bit_and (kept (address_of (without_rc (second_word tce))) read write) (permission asked) ==
    permission asked)
    ≡ (if asked then write else read)
permission_by tce read write asked =
    ap (λ x. x == permission asked)
    (masked (address_of (without_rc (second_word tce))) (permission asked) read write
    ∙ ap
    (λ a.
    bit_or (bit_or a (bit_and (if read then 1 else 0) (permission asked)))
    (bit_and (if write then 2 else 0) (permission asked)))
    (none_in_address tce asked))
    ∙ computed read write asked
  where
    computed :
        (read write asked : Bool)
        →
        (bit_or (bit_or 0 (bit_and (if read then 1 else 0) (permission asked)))
        (bit_and (if write then 2 else 0) (permission asked)) == permission asked)
        ≡ (if asked then write else read)
    computed true true true = refl
    computed true true false = refl
    computed true false true = refl
    computed true false false = refl
    computed false true true = refl
    computed false true false = refl
    computed false false true = refl
    computed false false false = refl

asked_of :
    (tce : ℕ) (asked : Bool)
    → (if asked then permits tce true else permits tce false) ≡ permits tce asked
asked_of tce true = refl
asked_of tce false = refl

pub kept_words : (tce : ℕ) → IsKept tce (tce_of (entered_state (first_word tce) (second_word tce)))
kept_words tce = record {
  address = address_kept tce (permits tce false) (permits tce true);
  permissions =
      λ asked. permission_by tce (permits tce false) (permits tce true) asked ∙ asked_of tce asked;
}
