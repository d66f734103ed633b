-- One entry by itself: what it answers to an operation, and its next state.
use Rattle.std.specs.Prelude.{◌&&◌, ◌||◌, ℕ, ◌+◌, ◌==◌, Bool, true, false, if◌then◌else◌, bit_and, Option, Some, None, is_some}
use Rattle.std.specs.Option.{option_map_or}
use Rattle.entry_model.specs.State.{State, empty_state}
use Rattle.entry_model.specs.declared.operation.Op.{Op}
use Rattle.entry_model.specs.declared.operation.Op.TheVariants.{Enter, Remove, Protect, Read, ClearRef, ClearMod, Access}
use Rattle.entry_model.specs.declared.operation.Test.{Test}
use Rattle.entry_model.specs.declared.operation.Answer.{Answer}
use Rattle.entry_model.specs.declared.operation.Answer.TheVariants.{Entered, Taken, Removed, Protected, Was, Words, NotFound, NoMatch, Denied, Masked, At, Worn}
use Rattle.hpte_fields.specs.Fields.{is_referenced, is_changed, without_rc, with_rc, protected_word, pp_of, key_of, is_no_execute, tag_field}
use Rattle.page_sizes.specs.Sizes.{size_of}
use Rattle.page_sizes.specs.declared.size.PageSize.{PageSize}
use Rattle.storage_prot.specs.declared.want.Want.{Want}
use Rattle.storage_prot.specs.declared.want.Want.TheVariants.{Load, Store, Fetch}
use Rattle.storage_prot.specs.Protection.{allowed}
use Rattle.authority_mask.specs.declared.masks.MaskName.{MaskName}
use Rattle.authority_mask.specs.declared.masks.Masks.{Masks}
use Rattle.authority_mask.specs.Authority.{forbidden}

-- The doublewords with R and C put back.
abbrev pub words_of : State → ℕ × ℕ
words_of s = (s.dword0, with_rc s.dword1 s.referenced s.changed)

-- ---- the test of H_REMOVE and H_PROTECT
-- Under H_AVPN the given word has to be B and the abbreviated virtual page number of doubleword 0.
abbrev pub fits_avpn : ℕ → Option ℕ → Bool
fits_avpn dword0 None = true
fits_avpn dword0 (Some avpn) = tag_field dword0 == avpn

-- Under H_ANDCOND no bit of the given word may be set in doubleword 0.
abbrev pub fits_andcond : ℕ → Option ℕ → Bool
fits_andcond dword0 None = true
fits_andcond dword0 (Some andcond) = bit_and dword0 andcond == 0

-- There is an entry, and it passes both tests.
abbrev pub is_found : State → Test → Bool
is_found s test = s.valid && (fits_avpn s.dword0 test.avpn && fits_andcond s.dword0 test.andcond)

-- Every entry that is valid passes it.
abbrev pub no_test : Test
no_test = record { avpn = None; andcond = None }

-- ---- changes
-- A change raises the stamp by one. At the last stamp there is no further change.
abbrev pub change_to : State → Answer → State → Answer × State
change_to s answer next =
    if s.stamp == 0xFFFFFFFF then (Worn, s) else (answer, record next { stamp = s.stamp + 1 })

-- Where there is an entry to change the stamp rises by one, and at the last stamp nothing changes.
-- Where there is none the answer is NotFound.
abbrev pub change_where : Bool → State → Answer → State → Answer × State
change_where found s answer next = if found then change_to s answer next else (NotFound, s)

-- What H_ENTER makes of an empty entry, except for the stamp: R and C are those of the given
-- doubleword.
abbrev pub entered_state : ℕ → ℕ → State
entered_state dword0 dword1 = record {
  valid = true;
  dword0 = dword0;
  dword1 = without_rc dword1;
  referenced = is_referenced dword1;
  changed = is_changed dword1;
  stamp = 0;
}

-- ---- accesses
-- What an access asks of protection: what it wants, by which key, whether its segment refuses
-- fetches, and with which masks of its processor.
pub record AccessMode : Type 0 where
  pub want : Want
  pub key : Bool
  pub no_execute : Bool
  pub masks : Masks

-- The mode of these parts, in the order in which an access has them.
abbrev pub access_mode : Bool → Bool → Want → Masks → AccessMode
access_mode key no_execute want masks = record {
  want = want;
  key = key;
  no_execute = no_execute;
  masks = masks;
}

-- What an access compares of doubleword 0: B, the abbreviated virtual page number, H and V.
abbrev pub compared_bits : ℕ → ℕ
compared_bits dword0 = bit_and dword0 0xFFFFFFFFFFFFFF83

-- The page size that the doublewords encode has this base size.
unfoldable pub has_base : ℕ → ℕ → ℕ → Bool
has_base dword0 dword1 base =
    option_map_or (λ (size : PageSize). size.base == base) (size_of dword0 dword1) false

-- The entry translates pages with this tag and base size.
abbrev pub is_match : State → ℕ → ℕ → Bool
is_match s tag base =
    s.valid && ((compared_bits s.dword0 == tag) && has_base s.dword0 s.dword1 base)

-- The access is a store.
abbrev pub is_store : Want → Bool
is_store Load = false
is_store Store = true
is_store Fetch = false

-- The same entry after an access that was allowed: R is set, and after a store C.
abbrev pub touched_state : State → Want → State
touched_state s want = record s { referenced = true; changed = s.changed || is_store want }

-- The mode is one that the entry's protection allows: its own N or G refuses fetches as the
-- segment's N does.
abbrev pub is_allowed : State → AccessMode → Bool
is_allowed s mode =
    allowed (pp_of s.dword1) mode.key (mode.no_execute || is_no_execute s.dword1) mode.want

-- The mask that refuses the access for the entry's key, if one does.
abbrev pub mask_against : State → Masks → Want → Option MaskName
mask_against s masks want = forbidden masks (key_of s.dword1) want

-- A mask refuses the access for the entry's key.
abbrev pub masks_refuse : State → AccessMode → Bool
masks_refuse s mode = is_some (mask_against s mode.masks mode.want)

-- What an entry answers whose protection allows the access.
abbrev pub answer_of_allowed : State → AccessMode → Answer × State
answer_of_allowed s mode =
    if masks_refuse s mode then (Masked, s) else (At, touched_state s mode.want)

-- What an entry that translates the page answers: its protection is asked first.
abbrev pub answer_of_match : State → AccessMode → Answer × State
answer_of_match s mode = if is_allowed s mode then answer_of_allowed s mode else (Denied, s)

-- What an entry answers to an access of the pages with this tag and base size.
abbrev pub answer_of_access : State → ℕ → ℕ → AccessMode → Answer × State
answer_of_access s tag base mode =
    if is_match s tag base then answer_of_match s mode else (NoMatch, s)

-- ---- the table of operations
-- The answer of an entry in this state to an operation, and its next state.
abbrev pub reply_of : State → Op → Answer × State
reply_of s (Enter dword0 dword1) =
    if s.valid then (Taken, s) else change_to s Entered (entered_state dword0 dword1)
reply_of s (Remove test) = change_where (is_found s test) s Removed (empty_state 0)
reply_of s (Protect test flags) =
    change_where (is_found s test) s Protected (record s { dword1 = protected_word s.dword1 flags })
reply_of s Read = (Words, s)
reply_of s ClearRef = change_where s.valid s Was (record s { referenced = false })
reply_of s ClearMod = change_where s.valid s Was (record s { changed = false })
reply_of s (Access tag base key no_execute want masks) =
    answer_of_access s tag base (access_mode key no_execute want masks)
