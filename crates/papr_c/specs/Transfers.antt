-- Entries as bytes in the layouts of a table image, and what an export and an import leave. An
-- entry is 16 bytes, doubleword 0 before doubleword 1, each with its most significant byte first;
-- an empty one is 16 zeros.
use Rattle.std.specs.Prelude.{ℕ, ◌+◌, ◌*◌, ◌==◌, ◌&&◌, Bool, nat_le, if◌then◌else◌, List, [], ◌++◌, length, map, flat_map, take, drop, find, Option, Some, None, is_none, Result, Ok, Err, is_err}
use Rattle.std.specs.List.{range_with_len}
use Rattle.std.specs.Option.{option_map, unwrap_or}
use Rattle.std.specs.Result.{result_unwrap_or}
use Rattle.byteorder.specs.Endian.{big_bytes}
use Rattle.frame_grants.specs.declared.grant.Grant.{Grant}
use Rattle.hpte_fields.specs.Fields.{is_valid}
use Rattle.page_grants.specs.Suited.{entered_words}
use Rattle.entry_model.specs.State.{State, empty_state}
use Rattle.entry_model.specs.Reply.{words_of, entered_state}
use Rattle.entry_model.specs.Run.{state_at}
use Rattle.table_image.specs.Layouts.{words_of_bytes, laid_out, read_words}
use Rattle.table_image.specs.declared.layout.Layout.{Layout}
use Rattle.table_image.specs.declared.layout.Layout.TheVariants.{Old, New}
use Rattle.papr_c.specs.declared.transfer.Refusal.{Refusal}
use Rattle.papr_c.specs.declared.transfer.Refusal.TheVariants.{Arguments, Unheld, Unentered}
use Rattle.papr_c.specs.declared.transfer.PaprTransfer.{PaprTransfer}
use Rattle.c_layout.specs.Tables.{is_table}
use Rattle.c_layout.specs.Slots.{filled}

-- ---- arguments
-- The layout of a number.
abbrev pub layout_of : ℕ → Option Layout
layout_of number = if number == 0 then Some Old else if number == 1 then Some New else None

-- So many entries from the first on are in the table, and there are bytes for all of them.
abbrev pub is_range : List State → ℕ → ℕ → List ℕ → Bool
is_range entries first number bytes =
    nat_le (first + number) (length entries) && nat_le (16 * number) (length bytes)

-- ---- how a transfer ends
-- The number of a refusal.
abbrev pub refusal_number : Refusal → ℕ
refusal_number Arguments = 1
refusal_number Unheld = 2
refusal_number Unentered = 3

-- All entries were transferred.
abbrev pub transferred : PaprTransfer
transferred = record { index = 0; refusal = 0 }

-- The entry at this index is refused.
abbrev pub refused_at : ℕ → Refusal → PaprTransfer
refused_at index refusal = record { index = index; refusal = refusal_number refusal }

-- ---- export
-- The bytes of an entry in this layout: none where the layout can't hold it.
abbrev pub entry_bytes : Layout → State → Option (List ℕ)
entry_bytes layout s =
    option_map (λ w. big_bytes 8 w.0 ++ big_bytes 8 w.1) (laid_out layout (words_of s))

-- The bytes of so many entries from the first on.
abbrev pub bytes_of_entries : Layout → List State → ℕ → ℕ → List ℕ
bytes_of_entries layout entries first number =
    flat_map
    (λ e. unwrap_or (entry_bytes layout (state_at entries e)) [])
    (range_with_len first number)

-- The layout can't hold the entry.
abbrev pub is_unheld : Layout → State → Bool
is_unheld layout s = is_none (laid_out layout (words_of s))

-- The first of them that the layout can't hold.
abbrev pub first_unheld : Layout → List State → ℕ → ℕ → Option ℕ
first_unheld layout entries first number =
    find (λ e. is_unheld layout (state_at entries e)) (range_with_len first number)

-- The bytes, in the first slots there are, or an entry that the layout can't hold, and nothing
-- changes.
abbrev pub exported_unless :
    Option ℕ → Layout → List State → ℕ → ℕ → List ℕ → PaprTransfer × List ℕ
exported_unless (Some e) layout entries first number out = (refused_at e Unheld, out)
exported_unless None layout entries first number out =
    (transferred, filled out (bytes_of_entries layout entries first number))

-- Where there is such a layout.
abbrev pub exported_in :
    Option Layout → List State → ℕ → ℕ → List ℕ → PaprTransfer × List ℕ
exported_in None entries first number out = (refused_at 0 Arguments, out)
exported_in (Some layout) entries first number out =
    exported_unless (first_unheld layout entries first number) layout entries first number out

-- The export of so many entries of a table from the first on. Other arguments change nothing.
abbrev pub outcome_of_export :
    ℕ → List State → ℕ → ℕ → ℕ → List ℕ → PaprTransfer × List ℕ
outcome_of_export order entries layout first number out =
    if is_table order entries && is_range entries first number out
    then exported_in (layout_of layout) entries first number out
    else (refused_at 0 Arguments, out)

-- ---- import
-- An entry of these words, in the older layout: what H_ENTER makes of them, at stamp 0, where the
-- grants let it.
abbrev pub entered_by : Option (ℕ × ℕ) → Result State Refusal
entered_by None = Err Unentered
entered_by (Some w) = Ok (entered_state w.0 w.1)

-- Where the layout has such words.
abbrev pub entered_where : List Grant → Option (ℕ × ℕ) → Result State Refusal
entered_where grants None = Err Unheld
entered_where grants (Some w) = entered_by (entered_words grants w.0 w.1)

-- The entry of two doublewords of this layout: an empty one where V is clear.
abbrev pub entry_of_words : List Grant → Layout → ℕ × ℕ → Result State Refusal
entry_of_words grants layout w =
    if is_valid w.0 then entered_where grants (read_words layout w) else Ok (empty_state 0)

-- The entry of the 16 bytes after those of so many others.
abbrev pub entry_of_bytes : List Grant → Layout → List ℕ → ℕ → Result State Refusal
entry_of_bytes grants layout bytes i =
    entry_of_words grants layout (words_of_bytes (drop (16 * i) bytes))

-- The entries of so many.
abbrev pub entries_of_bytes : List Grant → Layout → List ℕ → ℕ → List State
entries_of_bytes grants layout bytes number =
    map
    (λ i. result_unwrap_or (entry_of_bytes grants layout bytes i) (empty_state 0))
    (range_with_len 0 number)

-- The first of them that is refused.
abbrev pub first_refused : List Grant → Layout → List ℕ → ℕ → Option ℕ
first_refused grants layout bytes number =
    find (λ i. is_err (entry_of_bytes grants layout bytes i)) (range_with_len 0 number)

-- The refusal of an entry, where it is refused.
abbrev pub refusal_at : Result State Refusal → ℕ → PaprTransfer
refusal_at (Ok s) index = transferred
refusal_at (Err refusal) index = refused_at index refusal

-- The entries, of which those from an index on are replaced by others.
abbrev pub replaced : List State → ℕ → List State → List State
replaced entries first others =
    take first entries ++ (others ++ drop (first + length others) entries)

-- The entries of the bytes replace those from the first on; or one of them is refused, and nothing
-- changes.
abbrev pub imported_unless :
    Option ℕ → List Grant → Layout → List State → ℕ → ℕ → List ℕ → PaprTransfer × List State
imported_unless (Some i) grants layout entries first number bytes =
    (refusal_at (entry_of_bytes grants layout bytes i) (first + i), entries)
imported_unless None grants layout entries first number bytes =
    (transferred, replaced entries first (entries_of_bytes grants layout bytes number))

-- Where there is such a layout.
abbrev pub imported_in :
    List Grant → Option Layout → List State → ℕ → ℕ → List ℕ → PaprTransfer × List State
imported_in grants None entries first number bytes = (refused_at 0 Arguments, entries)
imported_in grants (Some layout) entries first number bytes =
    let refused = first_refused grants layout bytes number in
    imported_unless refused grants layout entries first number bytes

-- The import of so many entries into a table from the first on. Other arguments change nothing.
abbrev pub outcome_of_import :
    ℕ → List State → List Grant → ℕ → ℕ → ℕ → List ℕ → PaprTransfer × List State
outcome_of_import order entries grants layout first number bytes =
    if is_table order entries && is_range entries first number bytes
    then imported_in grants (layout_of layout) entries first number bytes
    else (refused_at 0 Arguments, entries)
