-- The rights that an entry gives an access, and all causes for which one is refused.
use Rattle.std.specs.Prelude.{ℕ, ◌+◌, ◌&&◌, ◌||◌, Bool, true, false, not, if◌then◌else◌, Option, Some}
use Rattle.storage_prot.specs.declared.want.Want.{Want}
use Rattle.storage_prot.specs.declared.want.Want.TheVariants.{Load, Store, Fetch}
use Rattle.storage_prot.specs.Protection.{allowed}
use Rattle.authority_mask.specs.declared.masks.MaskName.{MaskName}
use Rattle.authority_mask.specs.declared.masks.MaskName.TheVariants.{Amr, Iamr}
use Rattle.hpte_fields.specs.Fields.{pp_of, is_no_execute}
use Rattle.entry_model.specs.State.{State}
use Rattle.entry_model.specs.Reply.{AccessMode, is_allowed, is_store, mask_against, masks_refuse}

-- ---- rights
-- R is set, and for a store C: the entry has recorded such an access.
abbrev pub is_recorded : State → Want → Bool
is_recorded s want = s.referenced && (s.changed || not (is_store want))

-- The entry allows the access, and has nothing to record of it. So a store to a page whose C is
-- clear has no right: it has to walk, which sets C.
abbrev pub has_right : State → AccessMode → Bool
has_right s mode = is_allowed s mode && not (masks_refuse s mode) && is_recorded s mode.want

-- The rights of the accesses that want each of the three, and ask else the same: read counts 4,
-- write 2 and execute 1.
abbrev pub rights_of : State → (Want → AccessMode) → ℕ
rights_of s mode =
    (if has_right s (mode Load) then 4 else 0)
    + (if has_right s (mode Store) then 2 else 0)
    + (if has_right s (mode Fetch) then 1 else 0)

-- ---- causes
-- An instruction fetch.
abbrev pub is_fetch : Want → Bool
is_fetch Load = false
is_fetch Store = false
is_fetch Fetch = true

-- The page's protection bits refuse such an access with this key.
abbrev pub protection_refuses : State → AccessMode → Bool
protection_refuses s mode = not (allowed (pp_of s.dword1) mode.key false mode.want)

-- It is a fetch, and the segment's N is set, or the entry's N or G.
abbrev pub execution_refused : State → AccessMode → Bool
execution_refused s mode =
    is_fetch mode.want && (mode.no_execute || is_no_execute s.dword1)

-- A mask of the processor refuses it for the entry's key, and it is this one.
abbrev pub is_mask : MaskName → Option MaskName → Bool
is_mask Amr (Some Amr) = true
is_mask Iamr (Some Iamr) = true
is_mask name other = false

-- The mask of this name refuses such an access through the entry.
abbrev pub mask_refuses : MaskName → State → AccessMode → Bool
mask_refuses name s mode = is_mask name (mask_against s mode.masks mode.want)

-- All causes that hold: protection counts 1, no-execute 2, AMR 4 and IAMR 8.
abbrev pub causes_of : State → AccessMode → ℕ
causes_of s mode =
    (if protection_refuses s mode then 1 else 0)
    + (if execution_refused s mode then 2 else 0)
    + (if mask_refuses Amr s mode then 4 else 0)
    + (if mask_refuses Iamr s mode then 8 else 0)
