-- Lines of entries of the opening table on worked inputs: what is accepted, and each cause for
-- which one is refused.
use Rattle.std.proofs.Common.{◌≡◌, ℕ, List, [], ◌∷◌, ◌++◌, refl, Result, Ok, Err}
use Rattle.std.specs.Prelude.{codes, ⊤}
use Rattle.hex.proofs.OnLiterals.{hex_on_literals}
use Rattle.frame_grants.specs.declared.grant.Kind.TheVariants.{Ram}
use Rattle.frame_grants.specs.Grants.{add_refusal, refusals as grant_refusals, with_grant, machine_range}
use Rattle.pool_range.specs.Ranges.{range_refusal}
use Rattle.page_grants.specs.Suited.{suits_grants}
use Rattle.table_image.specs.declared.entry.ImageEntry.{ImageEntry}
use Rattle.table_image.specs.Layouts.{entry_words}
use Rattle.trace_read.specs.declared.why.Why.{Why}
use Rattle.trace_read.specs.declared.why.Why.TheVariants as whys
use Rattle.trace_read.specs.Acts.{number_at}
use Rattle.trace_read.specs.Entries.{entry_named, with_entry}
use Rattle.trace_read.specs.Forms.{form_named, form_of}
use Rattle.trace_read.specs.Grammar.{after_form, after_words, after_text, after_line, after_lines, trace_of}
use Rattle.trace_read.specs.Numbers.{number_of}
use Rattle.trace_read.specs.Settings.{number_within, with_order, pool_named, with_pool, grant_named, with_granted, with_begin}
use Rattle.trace_read.specs.Trace.{AcceptedTrace}
use Rattle.table_image.proofs.Rows.{entry}

-- What is opened to read configuration lines.
unfoldable config_on_literals : ⊤
unfolding trace_of after_lines after_line after_text after_words after_form form_of form_named
    number_within with_order pool_named with_pool grant_named with_granted with_begin with_entry
    entry_named entry_words number_at number_of range_refusal add_refusal grant_refusals with_grant
    suits_grants machine_range hex_on_literals
config_on_literals = tt

-- Lines after an order and 1 GB of memory: the first of them is the third.
abbrev granted : List ℕ → List ℕ
granted lines = codes "order 18\nram 0x0 0x2000000000 0x40000000\n" ++ lines

-- The trace of that order and that memory with these entries and no run line.
abbrev opening : List ImageEntry → Result AcceptedTrace (ℕ × Why)
opening entries =
    Ok (record {
      config = record {
        order = 18;
        limit = 22;
        cpus = 1;
        granted = record {
          pool_base = 0x1000000000;
          pool_order = 24;
          grants =
              record { logical = 0; machine = 0x2000000000; length = 0x40000000; kind = Ram } ∷ [];
        };
        entries = entries;
        windows = [];
      };
      lines = [];
    })

-- ---- accepted
-- R and C are the entry's.
old_layout :
    trace_of (granted (codes "entry old 0x20 00000000000010010000000000003192\nbegin\n"))
    ≡ opening (entry 0x20 0x1001 0x3192 ∷ [])
unfolding config_on_literals entry
old_layout = refl

-- The newer layout has B in doubleword 1; here C alone is set.
new_layout :
    trace_of (granted (codes "entry new 0x20 00000000000010010400000000003092\nbegin\n"))
    ≡ opening (entry 0x20 0x4000000000001001 0x3092 ∷ [])
unfolding config_on_literals entry
new_layout = refl

-- Digits of either case; the first entry of the table.
upper_case :
    trace_of (granted (codes "entry old 0 00000000ABCDEF01000000000000A012\nbegin\n"))
    ≡ opening (entry 0 0xABCDEF01 0xA012 ∷ [])
unfolding config_on_literals entry
upper_case = refl

-- The last one.
mixed_case :
    trace_of (granted (codes "entry old 0x3FFF 00000000AbCdEf01000000000000a012\nbegin\n"))
    ≡ opening (entry 0x3FFF 0xABCDEF01 0xA012 ∷ [])
unfolding config_on_literals entry
mixed_case = refl

-- In rising index, each in its layout.
two_entries :
    trace_of
    (granted
    (codes "entry old 31 00000000000010010000000000003012\n"
    ++ codes "# remark\n"
    ++ codes "entry new 32 00000000000010030000000000004012\n"
    ++ codes "begin\n"))
    ≡ opening (entry 31 0x1001 0x3012 ∷ entry 32 0x1003 0x4012 ∷ [])
unfolding config_on_literals entry
two_entries = refl

-- A page of 64 KB.
large_page :
    trace_of (granted (codes "entry old 8 00000000000010050000000000001012\nbegin\n"))
    ≡ opening (entry 8 0x1005 0x1012 ∷ [])
unfolding config_on_literals entry
large_page = refl

-- ---- refused: each cause
-- No such layout.
refused_layout :
    trace_of (granted (codes "entry older 0x20 00000000000010010000000000003012"))
    ≡ Err (3, whys.Entry)
unfolding config_on_literals entry
refused_layout = refl

-- An index past the table.
refused_past :
    trace_of (granted (codes "entry old 0x4000 00000000000010010000000000003012"))
    ≡ Err (3, whys.Entry)
unfolding config_on_literals entry
refused_past = refl

-- An index that is not above the one before: equal, and lower.
refused_equal :
    trace_of
    (granted
    (codes
    "entry old 32 00000000000010010000000000003012\nentry old 32 00000000000010010000000000003012"))
    ≡ Err (4, whys.Entry)
unfolding config_on_literals entry
refused_equal = refl

refused_falling :
    trace_of
    (granted
    (codes
    "entry old 32 00000000000010010000000000003012\nentry old 31 00000000000010010000000000003012"))
    ≡ Err (4, whys.Entry)
unfolding config_on_literals entry
refused_falling = refl

refused_between :
    trace_of
    (granted
    (codes "entry old 30 00000000000010010000000000003012\n"
    ++ codes "entry old 32 00000000000010010000000000003012\n"
    ++ codes "entry old 31 00000000000010010000000000003012"))
    ≡ Err (5, whys.Entry)
unfolding config_on_literals entry
refused_between = refl

-- 31 digits, 33, and a byte that is no digit.
refused_short :
    trace_of (granted (codes "entry old 0x20 0000000000001001000000000000301"))
    ≡ Err (3, whys.Entry)
unfolding config_on_literals entry
refused_short = refl

refused_long :
    trace_of (granted (codes "entry old 0x20 000000000000100100000000000030120"))
    ≡ Err (3, whys.Entry)
unfolding config_on_literals entry
refused_long = refl

refused_digit :
    trace_of (granted (codes "entry old 0x20 000000000000100100000000000030g2"))
    ≡ Err (3, whys.Entry)
unfolding config_on_literals entry
refused_digit = refl

-- V is clear; a bit is set that H_ENTER clears, in doubleword 0 and in doubleword 1.
refused_no_v :
    trace_of (granted (codes "entry old 0x20 00000000000010000000000000003012"))
    ≡ Err (3, whys.Entry)
unfolding config_on_literals entry
refused_no_v = refl

refused_low_bit :
    trace_of (granted (codes "entry old 0x20 00000000000010210000000000003012"))
    ≡ Err (3, whys.Entry)
unfolding config_on_literals entry
refused_low_bit = refl

refused_high_bit :
    trace_of (granted (codes "entry old 0x20 00000000000010410000000000003012"))
    ≡ Err (3, whys.Entry)
unfolding config_on_literals entry
refused_high_bit = refl

refused_second_old :
    trace_of (granted (codes "entry old 0x20 00000000000010014000000000003012"))
    ≡ Err (3, whys.Entry)
unfolding config_on_literals entry
refused_second_old = refl

refused_second_new :
    trace_of (granted (codes "entry new 0x20 00000000000010014000000000003012"))
    ≡ Err (3, whys.Entry)
unfolding config_on_literals entry
refused_second_new = refl

-- The lowest and the highest bit that the newer layout leaves out.
refused_left_out_low :
    trace_of (granted (codes "entry new 0x20 00100000000010010000000000003012"))
    ≡ Err (3, whys.Entry)
unfolding config_on_literals entry
refused_left_out_low = refl

refused_left_out_high :
    trace_of (granted (codes "entry new 0x20 80000000000010010000000000003012"))
    ≡ Err (3, whys.Entry)
unfolding config_on_literals entry
refused_left_out_high = refl

-- What H_ENTER refuses: B, of either layout; the page size; memory that no grant holds; the storage
-- control bits.
refused_segment :
    trace_of (granted (codes "entry old 0x20 80000000000010010000000000003012"))
    ≡ Err (3, whys.Entry)
unfolding config_on_literals entry
refused_segment = refl

refused_segment_new :
    trace_of (granted (codes "entry new 0x20 00000000000010010800000000003012"))
    ≡ Err (3, whys.Entry)
unfolding config_on_literals entry
refused_segment_new = refl

refused_size :
    trace_of (granted (codes "entry old 0x20 00000000000010050000000000002012"))
    ≡ Err (3, whys.Entry)
unfolding config_on_literals entry
refused_size = refl

refused_ungranted :
    trace_of (granted (codes "entry old 0x20 00000000000010010000000040000012"))
    ≡ Err (3, whys.Entry)
unfolding config_on_literals entry
refused_ungranted = refl

refused_storage :
    trace_of (granted (codes "entry old 0x20 00000000000010010000000000003022"))
    ≡ Err (3, whys.Entry)
unfolding config_on_literals entry
refused_storage = refl

-- ---- the other reasons
-- Four words.
refused_few : trace_of (granted (codes "entry old 0x20")) ≡ Err (3, whys.Count)
unfolding config_on_literals entry
refused_few = refl

refused_many :
    trace_of (granted (codes "entry old 0x20 00000000000010010000000000003012 0"))
    ≡ Err (3, whys.Count)
unfolding config_on_literals entry
refused_many = refl

-- The index alone has to be a number, and is tried before the rest.
refused_number : trace_of (granted (codes "entry older x 0")) ≡ Err (3, whys.Number)
unfolding config_on_literals entry
refused_number = refl

-- After an entry comes no grant and no other setting; after `begin` comes no entry.
refused_ram_behind :
    trace_of
    (granted
    (codes
    "entry old 0x20 00000000000010010000000000003012\nram 0x40000000 0x3000000000 0x1000"))
    ≡ Err (4, whys.Place)
unfolding config_on_literals entry
refused_ram_behind = refl

refused_io_behind :
    trace_of
    (granted
    (codes
    "entry old 0x20 00000000000010010000000000003012\nio 0x40000000 0x3000000000 0x1000"))
    ≡ Err (4, whys.Place)
unfolding config_on_literals entry
refused_io_behind = refl

refused_pool_behind :
    trace_of
    (granted (codes "entry old 0x20 00000000000010010000000000003012\npool 0x1000000000 24"))
    ≡ Err (4, whys.Place)
unfolding config_on_literals entry
refused_pool_behind = refl

refused_behind_begin :
    trace_of (granted (codes "begin\nentry old 0x20 00000000000010010000000000003012"))
    ≡ Err (4, whys.Place)
unfolding config_on_literals entry
refused_behind_begin = refl

-- No grant holds the page where there is none.
refused_without_grants :
    trace_of (codes "entry old 0x20 00000000000010010000000000003012") ≡ Err (1, whys.Entry)
unfolding config_on_literals entry
refused_without_grants = refl
