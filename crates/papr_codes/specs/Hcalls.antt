-- The hypervisor calls on the page table and on DMA windows: their numbers and their names.
use Rattle.std.specs.Prelude.{ℕ, ◌==◌, Bool, true, false, List, [], ◌∷◌, Option, find, codes}
use Rattle.std.specs.Option.{option_map_or}
use Rattle.papr_codes.specs.declared.calls.Hcall.{Hcall}
use Rattle.papr_codes.specs.declared.calls.Hcall.TheVariants.{Remove, Enter, Read, ClearMod, ClearRef, Protect, GetTce, PutTce, BulkRemove, Prepare, Commit, Other}

-- Each number of the table, with its call.
abbrev pub hcall_rows : List (ℕ × Hcall)
hcall_rows =
    (0x04, Remove)
    ∷ (0x08, Enter)
    ∷ (0x0C, Read)
    ∷ (0x10, ClearMod)
    ∷ (0x14, ClearRef)
    ∷ (0x18, Protect)
    ∷ (0x1C, GetTce)
    ∷ (0x20, PutTce)
    ∷ (0x124, BulkRemove)
    ∷ (0x36C, Prepare)
    ∷ (0x370, Commit)
    ∷ []

-- The row of a number, or none.
unfoldable pub row_of : ℕ → Option (ℕ × Hcall)
row_of number = find (λ (row : ℕ × Hcall). row.0 == number) hcall_rows

-- The call of a number: that of its row, and `Other` where it has no row.
unfoldable pub hcall_of : ℕ → Hcall
hcall_of number = option_map_or (λ (row : ℕ × Hcall). row.1) (row_of number) (Other number)

-- The number of a call.
abbrev pub hcall_number : Hcall → ℕ
hcall_number Remove = 0x04
hcall_number Enter = 0x08
hcall_number Read = 0x0C
hcall_number ClearMod = 0x10
hcall_number ClearRef = 0x14
hcall_number Protect = 0x18
hcall_number GetTce = 0x1C
hcall_number PutTce = 0x20
hcall_number BulkRemove = 0x124
hcall_number Prepare = 0x36C
hcall_number Commit = 0x370
hcall_number (Other number) = number

-- Whether it is one of the calls that have a name here.
abbrev pub is_named : Hcall → Bool
is_named Remove = true
is_named Enter = true
is_named Read = true
is_named ClearMod = true
is_named ClearRef = true
is_named Protect = true
is_named GetTce = true
is_named PutTce = true
is_named BulkRemove = true
is_named Prepare = true
is_named Commit = true
is_named (Other number) = false

-- The call's name in LoPAR or, of the resize calls, in Linux; `hcall` for any other number.
abbrev pub hcall_name : Hcall → List ℕ
hcall_name Remove = codes "H_REMOVE"
hcall_name Enter = codes "H_ENTER"
hcall_name Read = codes "H_READ"
hcall_name ClearMod = codes "H_CLEAR_MOD"
hcall_name ClearRef = codes "H_CLEAR_REF"
hcall_name Protect = codes "H_PROTECT"
hcall_name GetTce = codes "H_GET_TCE"
hcall_name PutTce = codes "H_PUT_TCE"
hcall_name BulkRemove = codes "H_BULK_REMOVE"
hcall_name Prepare = codes "H_RESIZE_HPT_PREPARE"
hcall_name Commit = codes "H_RESIZE_HPT_COMMIT"
hcall_name (Other number) = codes "hcall"
