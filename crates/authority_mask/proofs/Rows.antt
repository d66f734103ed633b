-- Rows of the table, which the checker computes.
use Rattle.std.proofs.Common.{◌≡◌, Some, None, refl}
use Rattle.storage_prot.specs.declared.want.Want.TheVariants.{Load, Store, Fetch}
use Rattle.authority_mask.specs.declared.masks.MaskName.TheVariants.{Amr, Iamr}
use Rattle.authority_mask.specs.Authority.{key_rows, row_says, forbidden, no_masks, with_mask}

-- Key 0 has the top two bits of AMR: the first refuses stores, the second loads.
no_stores : forbidden (with_mask no_masks Amr 0x8000000000000000) 0 Store ≡ Some Amr
unfolding row_says key_rows
no_stores = refl

loads_still : forbidden (with_mask no_masks Amr 0x8000000000000000) 0 Load ≡ None
unfolding row_says key_rows
loads_still = refl

no_loads : forbidden (with_mask no_masks Amr 0x4000000000000000) 0 Load ≡ Some Amr
unfolding row_says key_rows
no_loads = refl

-- Key 1 has the next two.
of_key_1 : forbidden (with_mask no_masks Amr 0x2000000000000000) 1 Store ≡ Some Amr
unfolding row_says key_rows
of_key_1 = refl

not_of_key_0 : forbidden (with_mask no_masks Amr 0x2000000000000000) 0 Store ≡ None
unfolding row_says key_rows
not_of_key_0 = refl

-- Key 31 has the lowest two.
of_key_31 : forbidden (with_mask no_masks Amr 0x1) 31 Load ≡ Some Amr
unfolding row_says key_rows
of_key_31 = refl

-- AMR says nothing of fetches, and IAMR nothing of loads and stores.
fetches_pass_amr : forbidden (with_mask no_masks Amr 0xFFFFFFFFFFFFFFFF) 5 Fetch ≡ None
unfolding row_says key_rows
fetches_pass_amr = refl

stores_pass_iamr : forbidden (with_mask no_masks Iamr 0xFFFFFFFFFFFFFFFF) 5 Store ≡ None
unfolding row_says key_rows
stores_pass_iamr = refl

-- The second bit of IAMR refuses fetches, and the first nothing.
no_fetches : forbidden (with_mask no_masks Iamr 0x1000000000000000) 1 Fetch ≡ Some Iamr
unfolding row_says key_rows
no_fetches = refl

first_of_iamr : forbidden (with_mask no_masks Iamr 0x2000000000000000) 1 Fetch ≡ None
unfolding row_says key_rows
first_of_iamr = refl
