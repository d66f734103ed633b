-- Worked words, which the checker computes.
use Rattle.std.proofs.Common.{◌≡◌, Some, None, true, false, refl}
use Rattle.hpte_fields.specs.Fields.{tag_field, is_bolted, is_secondary, is_valid, is_one_tb, pp_of, key_of, frame_of, is_referenced, is_changed, without_rc, with_rc, wimg_of, is_no_execute, protected_word, normal_words}

-- ---- doubleword 0: B 1, a page number, bolted, L, H, V
tag : tag_field 0x4000000000801097 ≡ 0x4000000000801080
tag = refl

bolted : is_bolted 0x4000000000801097 ≡ true
bolted = refl

secondary : is_secondary 0x4000000000801097 ≡ true
secondary = refl

primary : is_secondary 0x1 ≡ false
primary = refl

valid : is_valid 0x4000000000801097 ≡ true
valid = refl

one_tb : is_one_tb 0x4000000000801097 ≡ true
one_tb = refl

reserved_segment : is_one_tb 0xC000000000000001 ≡ false
reserved_segment = refl

-- ---- doubleword 1: PP0, key high 2, a real page number, key low 5, R, C, W, M, N, PP 1
pp : pp_of 0xA000000012345BD5 ≡ 5
pp = refl

key : key_of 0xA000000012345BD5 ≡ 0x15
key = refl

frame_of_4_kb : frame_of 0xA000000012345BD5 12 ≡ 0x12345000
frame_of_4_kb = refl

frame_of_64_kb : frame_of 0xA000000012345BD5 16 ≡ 0x12340000
frame_of_64_kb = refl

wimg : wimg_of 0xA000000012345BD5 ≡ 10
wimg = refl

no_execute : is_no_execute 0xA000000012345BD5 ≡ true
no_execute = refl

guarded : is_no_execute 0x3008 ≡ true
guarded = refl

executable : is_no_execute 0x3013 ≡ false
executable = refl

referenced : is_referenced 0x3100 ≡ true
referenced = refl

changed : is_changed 0x3100 ≡ false
changed = refl

apart : without_rc 0x3192 ≡ 0x3012
apart = refl

put_back : with_rc 0x3012 true false ≡ 0x3112
put_back = refl

-- Every bit of the flags set, and none: R, C, the storage control bits and the real page number
-- stay.
protected : protected_word 0x3192 0xFFFFFFFFFFFFFFFF ≡ 0xB000000000003F97
protected = refl

unprotected : protected_word 0xB000000000003F97 0 ≡ 0x3190
unprotected = refl

-- ---- the words of H_ENTER
stored : normal_words 0x1070 0x4000000000003192 ≡ Some (0x1011, 0x3192)
stored = refl

no_segment : normal_words 0x8000000000001001 0x3012 ≡ None
no_segment = refl

-- A base page of 4 KB in 64 KB, and one of 64 KB in 16 MB.
stored_in_64_kb : normal_words 0x1005 0x17012 ≡ Some (0x1005, 0x17012)
stored_in_64_kb = refl

stored_in_16_mb : normal_words 0x1584 0x3008012 ≡ Some (0x1585, 0x3008012)
stored_in_16_mb = refl

no_size : normal_words 0x1005 0x2012 ≡ None
no_size = refl
