-- What `entry` lines give: entries of the opening table that H_ENTER would store unchanged.
use Rattle.std.specs.Prelude.{ℕ, ◌==◌, ◌&&◌, Bool, false, List, [], ◌∷◌, ◌++◌, length, find, nat_lt, slice_index_or, Option, Result, Ok}
use Rattle.std.specs.List.{list_all}
use Rattle.std.specs.Option.{option_map_or}
use Rattle.std.specs.Str.{bytes_eq}
use Rattle.hpte_fields.specs.TableSize.{entry_count}
use Rattle.frame_grants.specs.declared.grant.Grant.{Grant}
use Rattle.page_grants.specs.Suited.{entered_words}
use Rattle.table_image.specs.declared.entry.ImageEntry.{ImageEntry}
use Rattle.table_image.specs.declared.layout.Layout.{Layout}
use Rattle.table_image.specs.declared.layout.Layout.TheVariants.{Old, New}
use Rattle.table_image.specs.Image.{layout_word}
use Rattle.table_image.specs.Layouts.{entry_words}
use Rattle.trace_read.specs.declared.why.Why.{Why}
use Rattle.trace_read.specs.declared.why.Why.TheVariants.{Count, Entry}
use Rattle.trace_read.specs.Acts.{number_at}
use Rattle.trace_read.specs.Configuration.{Configuration}
use Rattle.trace_read.specs.Whys.{◌>>=◌, guard, required}

-- The layout that a word names.
abbrev pub layout_named : List ℕ → Option Layout
layout_named word = find (λ (layout : Layout). bytes_eq (layout_word layout) word) (Old ∷ New ∷ [])

-- The index is above that of each of these entries.
abbrev pub is_above : List ImageEntry → ℕ → Bool
is_above entries index = list_all (λ (e : ImageEntry). nat_lt e.index index) entries

-- H_ENTER would store just these doublewords: what it would change of them, and what it refuses, is
-- no entry's.
abbrev pub is_stored : List Grant → ℕ × ℕ → Bool
is_stored grants w =
    option_map_or
    (λ (stored : ℕ × ℕ). (stored.0 == w.0) && (stored.1 == w.1))
    (entered_words grants w.0 w.1)
    false

-- The entry that a line names: its second word names the layout, the third is the index, and the
-- last has the digits.
unfoldable pub entry_named : Configuration → List (List ℕ) → Result ImageEntry Why
entry_named c ws = do
  counted ← guard (length ws == 4) Count
  index ← number_at ws 2
  layout ← required (layout_named (slice_index_or ws 1 [])) Entry
  inside ← guard (nat_lt index (entry_count c.order)) Entry
  rises ← guard (is_above c.entries index) Entry
  words ← required (entry_words layout (slice_index_or ws 3 [])) Entry
  stored ← guard (is_stored c.granted.grants words) Entry
  Ok (record { index = index; dword0 = words.0; dword1 = words.1 })

-- `entry`: one more entry.
unfoldable pub with_entry : Configuration → List (List ℕ) → Result Configuration Why
with_entry c ws = do
  entry ← entry_named c ws
  Ok (record c { entries = c.entries ++ entry ∷ [] })
