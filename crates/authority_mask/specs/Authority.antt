-- What the authority masks of a processor refuse: a table, looked up by the two bits of a page's
-- key.
use Rattle.std.specs.Prelude.{◌≡◌, ℕ, ◌-◌, ◌*◌, ◌/◌, ◌%◌, ◌^◌, ◌==◌, Bool, true, false, if◌then◌else◌, List, [], ◌∷◌, find, Option, Some, None}
use Rattle.std.specs.Option.{option_map_or}
use Rattle.storage_prot.specs.declared.want.Want.{Want}
use Rattle.storage_prot.specs.declared.want.Want.TheVariants.{Load, Store, Fetch}
use Rattle.authority_mask.specs.declared.masks.MaskName.{MaskName}
use Rattle.authority_mask.specs.declared.masks.MaskName.TheVariants.{Amr, Iamr}
use Rattle.authority_mask.specs.declared.masks.Masks.{Masks}

-- ---- the masks of a processor
-- Masks that refuse nothing: those of a new processor.
abbrev pub no_masks : Masks
no_masks = record { amr = 0; iamr = 0 }

-- The masks after one of them was set.
abbrev pub with_mask : Masks → MaskName → ℕ → Masks
with_mask masks Amr value = record masks { amr = value }
with_mask masks Iamr value = record masks { iamr = value }

-- ---- the bits of a key
-- The two bits of a key in a mask, as a number. Key 0 has the top two of the 64.
abbrev pub field_of : ℕ → ℕ → ℕ
field_of mask key = mask / 2 ^ (62 - 2 * key) % 4

-- What a key's two bits in AMR and in IAMR refuse.
pub record Row : Type 0 where
  pub bits : ℕ
  pub stores : Bool
  pub loads : Bool
  pub fetches : Bool

-- In AMR the first bit, which counts 2, refuses stores and the second loads. In IAMR the second
-- refuses fetches.
unfoldable pub key_rows : List Row
key_rows =
    record { bits = 0; stores = false; loads = false; fetches = false }
    ∷ record { bits = 1; stores = false; loads = true; fetches = true }
    ∷ record { bits = 2; stores = true; loads = false; fetches = false }
    ∷ record { bits = 3; stores = true; loads = true; fetches = true }
    ∷ []

-- What the row of these bits says.
unfoldable pub row_says : (Row → Bool) → ℕ → Bool
row_says what bits = option_map_or what (find (λ (row : Row). row.bits == bits) key_rows) false

-- ---- accesses
-- The mask, where it refuses the access.
abbrev pub named_if : MaskName → Bool → Option MaskName
named_if name refused = if refused then Some name else None

-- The mask that refuses an access to a page with this key, if one does.
abbrev pub forbidden : Masks → ℕ → Want → Option MaskName
forbidden masks key Load = named_if Amr (row_says (λ row. row.loads) (field_of masks.amr key))
forbidden masks key Store = named_if Amr (row_says (λ row. row.stores) (field_of masks.amr key))
forbidden masks key Fetch = named_if Iamr (row_says (λ row. row.fetches) (field_of masks.iamr key))

-- Masks of 0 refuse nothing.
abbrev pub NoMasksRefuseNothing : Type 0
NoMasksRefuseNothing = (key : ℕ) (want : Want) → forbidden no_masks key want ≡ None
