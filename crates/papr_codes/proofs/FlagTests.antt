-- Tests of flags on a word that keeps some of its bits.
use Rattle.std.proofs.Common.{◌≡◌, ℕ, ◌==◌, ap, ◌∙◌, bit_and}
use Rattle.std.proofs.lemmas.Nat.{and_assoc, and_comm}
use Rattle.papr_codes.specs.FlagBits.{has_flag}

-- A flag inside a mask is tested on the masked word as on the word.
pub mask_keeps_test :
    (word mask one : ℕ)
    → bit_and one mask ≡ one
    → has_flag (bit_and word mask) one ≡ has_flag word one
mask_keeps_test word mask one inside =
    ap (λ x. x == one)
    (and_assoc one word mask ∙ ap (λ x. bit_and word x) (and_comm mask one ∙ inside))
