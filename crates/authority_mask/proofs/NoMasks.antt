-- Masks that are 0 refuse nothing.
use Rattle.std.proofs.Common.{◌≡◌, ℕ, ◌%◌, None, ap}
use Rattle.std.proofs.Math.Nat.{zero-div}
use Rattle.std.specs.Prelude.{◌^◌, ◌*◌, ◌-◌}
use Rattle.storage_prot.specs.declared.want.Want.{Want}
use Rattle.storage_prot.specs.declared.want.Want.TheVariants.{Load, Store, Fetch}
use Rattle.authority_mask.specs.declared.masks.MaskName.TheVariants.{Amr, Iamr}
use Rattle.authority_mask.specs.Authority.{Row, key_rows, row_says, field_of, named_if, no_masks, forbidden}

no_bits : (key : ℕ) → field_of 0 key ≡ 0
no_bits key = ap (λ n. n % 4) (zero-div (2 ^ (62 - 2 * key)))

pub none_refused : (key : ℕ) (want : Want) → forbidden no_masks key want ≡ None
unfolding row_says key_rows
none_refused key Load = ap (λ n. named_if Amr (row_says (λ (row : Row). row.loads) n)) (no_bits key)
none_refused key Store =
    ap (λ n. named_if Amr (row_says (λ (row : Row). row.stores) n)) (no_bits key)
none_refused key Fetch =
    ap (λ n. named_if Iamr (row_says (λ (row : Row). row.fetches) n)) (no_bits key)
