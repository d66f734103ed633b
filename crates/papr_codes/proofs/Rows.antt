-- Worked values of the definitions, which the checker computes.
use Rattle.std.proofs.Common.{◌≡◌, ◌+◌, ◌^◌, refl, true, false, codes, pos, negsuc}
use Rattle.papr_codes.specs.declared.calls.Hcall.TheVariants.{Remove, Enter, Read, ClearMod, ClearRef, Protect, GetTce, PutTce, BulkRemove, Prepare, Commit, Other}
use Rattle.papr_codes.specs.declared.codes.Rc.TheVariants.{LongBusy, PtegFull, Resource}
use Rattle.papr_codes.specs.Hcalls.{row_of, hcall_of, hcall_number, hcall_name}
use Rattle.papr_codes.specs.ReturnCodes.{rc_code}
use Rattle.papr_codes.specs.FlagBits.{known_flags, has_flag}

four_is_remove : hcall_of 4 ≡ Remove
unfolding row_of hcall_of
four_is_remove = refl

eight_is_enter : hcall_of 8 ≡ Enter
unfolding row_of hcall_of
eight_is_enter = refl

twelve_is_read : hcall_of 12 ≡ Read
unfolding row_of hcall_of
twelve_is_read = refl

sixteen_is_clear_mod : hcall_of 16 ≡ ClearMod
unfolding row_of hcall_of
sixteen_is_clear_mod = refl

twenty_is_clear_ref : hcall_of 20 ≡ ClearRef
unfolding row_of hcall_of
twenty_is_clear_ref = refl

twenty_four_is_protect : hcall_of 24 ≡ Protect
unfolding row_of hcall_of
twenty_four_is_protect = refl

bulk_remove_is_292 : hcall_of 292 ≡ BulkRemove
unfolding row_of hcall_of
bulk_remove_is_292 = refl

prepare_is_876 : hcall_of 876 ≡ Prepare
unfolding row_of hcall_of
prepare_is_876 = refl

commit_is_880 : hcall_of 880 ≡ Commit
unfolding row_of hcall_of
commit_is_880 = refl

twenty_eight_is_get_tce : hcall_of 28 ≡ GetTce
unfolding row_of hcall_of
twenty_eight_is_get_tce = refl

thirty_two_is_put_tce : hcall_of 32 ≡ PutTce
unfolding row_of hcall_of
thirty_two_is_put_tce = refl

-- H_STUFF_TCE has no row.
no_row_for_312 : hcall_of 312 ≡ Other 312
unfolding row_of hcall_of
no_row_for_312 = refl

prepare_number : hcall_number Prepare ≡ 876
prepare_number = refl

other_number : hcall_number (Other 5) ≡ 5
other_number = refl

commit_name : hcall_name Commit ≡ codes "H_RESIZE_HPT_COMMIT"
commit_name = refl

long_busy_code : rc_code LongBusy ≡ pos 9900
long_busy_code = refl

full_code : rc_code PtegFull ≡ negsuc 5
full_code = refl

resource_code : rc_code Resource ≡ negsuc 15
resource_code = refl

-- H_EXACT is bit 39 of the word, and a word may have it together with bits that mean nothing.
exact_is_set : has_flag (2 ^ 39 + 1) 0x8000000000 ≡ true
exact_is_set = refl

exact_is_clear : has_flag (2 ^ 38 + 2 ^ 40) 0x8000000000 ≡ false
exact_is_clear = refl

-- Of two flags both have to be set.
one_of_two : has_flag 0x80000000 0xC0000000 ≡ false
one_of_two = refl

the_four_flags : known_flags ≡ 2 ^ 39 + 2 ^ 37 + 2 ^ 31 + 2 ^ 30
the_four_flags = refl
