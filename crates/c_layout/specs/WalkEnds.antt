-- How a walk ends for C: by the entry that it found, or without one.
use Rattle.std.specs.Prelude.{ℕ, if◌then◌else◌, Option, Some, None}
use Rattle.std.specs.Option.{option_map_or}
use Rattle.storage_prot.specs.declared.want.Want.{Want}
use Rattle.authority_mask.specs.declared.masks.Masks.{Masks}
use Rattle.authority_mask.specs.declared.masks.MaskName.{MaskName}
use Rattle.authority_mask.specs.declared.masks.MaskName.TheVariants.{Amr, Iamr}
use Rattle.page_sizes.specs.declared.size.PageSize.{PageSize}
use Rattle.page_sizes.specs.Sizes.{size_of}
use Rattle.entry_model.specs.State.{State}
use Rattle.entry_model.specs.Reply.{AccessMode, access_mode, words_of}
use Rattle.entry_model.specs.Receipt.{is_at}
use Rattle.entry_model.specs.declared.receipt.Receipt.{Receipt}
use Rattle.hpt_walk.specs.Access.{logical_of, refusing_mask}
use Rattle.c_layout.specs.declared.walking.PaprAccess.{PaprAccess}
use Rattle.c_layout.specs.declared.walking.PaprWalk.{PaprWalk}
use Rattle.c_layout.specs.Rights.{rights_of, causes_of}

-- The masks of the access's processor.
abbrev pub masks_of : PaprAccess → Masks
masks_of a = record { amr = a.amr; iamr = a.iamr }

-- What an access asks of protection and of the masks, if this is what it wants.
abbrev pub mode_of : PaprAccess → Want → AccessMode
mode_of a want = access_mode a.key a.no_execute want (masks_of a)

-- ---- without an entry
-- An outcome, how many slots for receipts are filled, and nothing else.
abbrev pub no_entry : ℕ → ℕ → PaprWalk
no_entry outcome receipts = record {
  logical = 0;
  dword0 = 0;
  dword1 = 0;
  entry = 0;
  outcome = outcome;
  receipts = receipts;
  base_shift = 0;
  actual_shift = 0;
  rights = 0;
  causes = 0;
}

-- Arguments out of range, or entries that are no table.
abbrev pub refused_walk : PaprWalk
refused_walk = no_entry 3 0

-- ---- by the entry
-- The outcome of an access that this mask refuses; without a mask, protection refuses it.
abbrev pub refusal_number : Option MaskName → ℕ
refusal_number None = 1
refusal_number (Some Amr) = 4
refusal_number (Some Iamr) = 5

-- The base page shift that an entry's doublewords encode, or 0.
abbrev pub base_shift_of : State → ℕ
base_shift_of s = option_map_or (λ (size : PageSize). size.base) (size_of s.dword0 s.dword1) 0

-- The actual page shift that an entry's doublewords encode, or 0.
abbrev pub actual_shift_of : State → ℕ
actual_shift_of s = option_map_or (λ (size : PageSize). size.actual) (size_of s.dword0 s.dword1) 0

-- How a walk ends by the receipt of the entry that it found, which now is in this state: the access
-- is allowed, at this logical address, or the entry or a mask refuses it, for these causes. In each
-- case the words, the sizes and the rights are those of the entry as it is now.
abbrev pub end_at : PaprAccess → Want → Receipt → State → ℕ → PaprWalk
end_at a want r now receipts = record {
  logical = if is_at r.answer then logical_of a.ea r.before else 0;
  dword0 = (words_of now).0;
  dword1 = (words_of now).1;
  entry = r.entry;
  outcome = if is_at r.answer then 0 else refusal_number (refusing_mask r);
  receipts = receipts;
  base_shift = base_shift_of now;
  actual_shift = actual_shift_of now;
  rights = rights_of now (mode_of a);
  causes = if is_at r.answer then 0 else causes_of r.before (mode_of a want);
}

-- How a walk ends, whether it found an entry or not. The function gives the state that an entry is
-- in now by its receipt.
abbrev pub walk_end : (Receipt → State) → PaprAccess → Want → Option Receipt → ℕ → PaprWalk
walk_end now a want None receipts = no_entry 2 receipts
walk_end now a want (Some r) receipts = end_at a want r (now r) receipts
