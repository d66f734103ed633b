-- A line that names an entry as an image does gives that entry.
use Rattle.std.specs.Prelude.{◌&&◌, ◌==◌}
use Rattle.std.proofs.Common.{◌≡◌, ℕ, ◌^◌, ◌<◌, ◌≤◌, List, [], ◌∷◌, true, false, length, Option, Some, Ok, refl, ap, ◌∙◌, arith}
use Rattle.std.specs.List.{AllByRecursion}
use Rattle.std.specs.Option.{option_map_or}
use Rattle.std.specs.Char.{digit_value}
use Rattle.std.specs.Fmt.{digits}
use Rattle.std.specs.Str.Parse.{AllDigits, digits_value}
use Rattle.std.proofs.lemmas.Bool.{lt-ltb, le-leb, eq-eqb}
use Rattle.std.proofs.lemmas.Fmt.{digits_is_IsNumeral}
use Rattle.number_text.specs.Numbers.{hex}
use Rattle.number_text.proofs.Lengths.{hex_short}
use Rattle.hpte_fields.specs.TableSize.{entry_count}
use Rattle.frame_grants.specs.declared.grant.Grant.{Grant}
use Rattle.page_grants.specs.Suited.{entered_words}
use Rattle.table_image.specs.declared.entry.ImageEntry.{ImageEntry}
use Rattle.table_image.specs.declared.layout.Layout.{Layout}
use Rattle.table_image.specs.declared.layout.Layout.TheVariants.{Old, New}
use Rattle.table_image.specs.Image.{layout_word}
use Rattle.table_image.specs.Layouts.{entry_words}
use Rattle.trace_read.specs.Acts.{number_at}
use Rattle.trace_read.specs.Configuration.{Configuration}
use Rattle.trace_read.specs.Entries.{layout_named, is_above, is_stored, entry_named, with_entry}
use Rattle.trace_read.specs.Numbers.{all_digits, digits_number, has_hex_prefix, number_of}
use Rattle.run_model.specs.OpeningAgain.{entry_line_words, with_image_entry}

-- ---- the index
all_read : (base : ℕ) (ds : List ℕ) → AllDigits base ds → all_digits base ds ≡ true
all_read base [] h = refl
all_read base (c ∷ cs) h = rw (lt-ltb (digit_value c) base h.0) (all_read base cs h.1)

digits_read :
    (base most n : ℕ) (ds : List ℕ)
    → 0 < length ds
    → length ds ≤ most
    → all_digits base ds ≡ true
    → digits_value base ds ≡ n
    → n < 2 ^ 64
    → digits_number base most ds ≡ Some n
digits_read base most n ds some few each value small =
    rw (
      lt-ltb 0 (length ds) some,
      le-leb (length ds) most few,
      each,
      value,
      lt-ltb n (2 ^ 64) small,
    ) refl

prefix_read : (n : ℕ) → has_hex_prefix (hex n) ≡ true
prefix_read n = rw (lt-ltb 1 (length (hex n)) (omega arith)) refl

hex_read : (n : ℕ) → n < 2 ^ 32 → number_of (hex n) ≡ Some n
unfolding number_of
hex_read n small =
    let ds = digits 16 false n in
    let numeral = digits_is_IsNumeral 16 false (omega arith) (omega arith) n (omega arith) in
    let few : length ds ≤ 16 = omega (arith, hex_short n small) in
    rw (prefix_read n)
    (digits_read 16 16 n ds numeral.0.0 few (all_read 16 ds numeral.0.1) numeral.1
    (omega arith))

-- ---- the layout
layout_read : (layout : Layout) → layout_named (layout_word layout) ≡ Some layout
layout_read Old = refl
layout_read New = refl

-- ---- the entry
above_read :
    (es : List ImageEntry) (index : ℕ)
    → AllByRecursion (λ (e : ImageEntry). e.index < index) es
    → is_above es index ≡ true
above_read [] index h = refl
above_read (e ∷ es) index h = rw (lt-ltb e.index index h.0) (above_read es index h.1)

stored_read :
    (grants : List Grant) (w : ℕ × ℕ)
    → entered_words grants w.0 w.1 ≡ Some w
    → is_stored grants w ≡ true
stored_read grants w stored =
    ap
    (λ (o : Option (ℕ × ℕ)).
    option_map_or (λ (stored : ℕ × ℕ). (stored.0 == w.0) && (stored.1 == w.1)) o false) stored
    ∙ rw (eq-eqb w.0 w.0 refl, eq-eqb w.1 w.1 refl) refl

pub line_read :
    (c : Configuration) (layout : Layout) (index : ℕ) (digits : List ℕ) (w : ℕ × ℕ)
    → index < 2 ^ 32
    → index < entry_count c.order
    → AllByRecursion (λ (e : ImageEntry). e.index < index) c.entries
    → entry_words layout digits ≡ Some w
    → entered_words c.granted.grants w.0 w.1 ≡ Some w
    → with_entry c (entry_line_words layout index digits)
    ≡ Ok (with_image_entry c (record { index = index; dword0 = w.0; dword1 = w.1 }))
unfolding with_entry entry_named number_at
line_read c layout index digits w small inside rises words stored =
    rw (
      hex_read index small,
      layout_read layout,
      lt-ltb index (entry_count c.order) inside,
      above_read c.entries index rises,
      words,
      stored_read c.granted.grants w stored,
    ) refl
