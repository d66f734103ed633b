-- The image of a table: a line with the layout, the order and the number of entries, then a line
-- for each entry.
use Rattle.std.specs.Prelude.{◌≡◌, ℕ, ◌^◌, ◌<◌, ⊤, bit_and, Bool, List, [], ◌++◌, length, find, codes, Option, Some, None, is_none, unwrap_or, Result, Ok, Err}
use Rattle.std.specs.List.{flat_map}
use Rattle.std.specs.Fmt.{decimal}
use Rattle.number_text.specs.Numbers.{hex}
use Rattle.table_image.specs.declared.entry.ImageEntry.{ImageEntry}
use Rattle.table_image.specs.declared.error.ImageError.{ImageError}
use Rattle.table_image.specs.declared.error.ImageError.TheVariants as errors
use Rattle.table_image.specs.declared.layout.Layout.{Layout}
use Rattle.table_image.specs.declared.layout.Layout.TheVariants.{Old, New}
use Rattle.table_image.specs.Layouts.{entry_digits, entry_words, cleared_bit}

-- ---- the lines
-- The word of a layout.
abbrev pub layout_word : Layout → List ℕ
layout_word Old = codes "old"
layout_word New = codes "new"

-- The first line.
unfoldable pub image_head : Layout → ℕ → ℕ → List ℕ
image_head layout order count =
    codes "image "
    ++ layout_word layout
    ++ codes " order "
    ++ decimal order
    ++ codes " entries "
    ++ decimal count
    ++ codes "\n"

-- A line of an index and digits.
abbrev pub digits_line : ℕ → List ℕ → List ℕ
digits_line index digits = hex index ++ codes " " ++ digits ++ codes "\n"

-- The digits of an entry: none where the layout can't hold it.
abbrev pub digits_in : Layout → ImageEntry → Option (List ℕ)
digits_in layout e = entry_digits layout (e.dword0, e.dword1)

-- The line of an entry that the layout can hold.
abbrev pub entry_line : Layout → ImageEntry → List ℕ
entry_line layout e = digits_line e.index (unwrap_or (digits_in layout e) [])

-- ---- the image
-- The layout can't hold the entry.
abbrev pub is_unheld : Layout → ImageEntry → Bool
is_unheld layout e = is_none (digits_in layout e)

-- A text where there is no such entry; or else its index.
abbrev pub text_unless : Option ImageEntry → List ℕ → Result (List ℕ) ℕ
text_unless None text = Ok text
text_unless (Some e) text = Err e.index

-- The image of a table of 2 ^ order bytes with these valid entries; or the index of the first that
-- the layout can't hold.
unfoldable pub image_of : Layout → ℕ → List ImageEntry → Result (List ℕ) ℕ
image_of layout order entries =
    text_unless
    (find (is_unheld layout) entries)
    (image_head layout order (length entries) ++ flat_map (entry_line layout) entries)

-- What an error says of the image: that there is the index instead of a text or, where memory ends,
-- nothing.
abbrev pub TellsOf : ImageError → Result (List ℕ) ℕ → Type 0
TellsOf (errors.Layout index) image = image ≡ Err index
TellsOf errors.Memory image = ⊤

-- ---- the law
-- What a layout holds is read back: the digits of doublewords without the bit that H_ENTER clears
-- spell these doublewords.
pub record IsReadBack : Type 0 where
  pub words :
      (layout : Layout) (dword0 dword1 : ℕ) (digits : List ℕ)
      → dword0 < 2 ^ 64
      → dword1 < 2 ^ 64
      → bit_and dword1 cleared_bit ≡ 0
      → entry_digits layout (dword0, dword1) ≡ Some digits
      → entry_words layout digits ≡ Some (dword0, dword1)
