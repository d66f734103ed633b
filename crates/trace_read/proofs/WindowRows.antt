-- Lines of windows on worked inputs: what is accepted, and each cause for which one is refused.
use Rattle.std.proofs.Common.{◌≡◌, ℕ, List, [], ◌∷◌, ◌++◌, refl, Result, Ok, Err}
use Rattle.std.specs.Prelude.{codes, ⊤, true}
use Rattle.bus_window.specs.Windows.{BusWindow, bus_window}
use Rattle.frame_grants.specs.declared.grant.Kind.TheVariants.{Ram}
use Rattle.frame_grants.specs.Grants.{add_refusal, refusals as grant_refusals, with_grant, machine_range}
use Rattle.hex.proofs.OnLiterals.{hex_on_literals}
use Rattle.page_grants.specs.Suited.{suits_grants}
use Rattle.pool_range.specs.Ranges.{range_refusal}
use Rattle.table_image.specs.Layouts.{entry_words}
use Rattle.trace_read.specs.declared.given.Given.TheVariants.{Setting}
use Rattle.trace_read.specs.declared.why.Why.{Why}
use Rattle.trace_read.specs.declared.why.Why.TheVariants as whys
use Rattle.trace_read.specs.Acts.{number_at}
use Rattle.trace_read.specs.Entries.{entry_named, with_entry}
use Rattle.trace_read.specs.Forms.{form_named, form_of}
use Rattle.trace_read.specs.Givens.{given_of, is_setting}
use Rattle.trace_read.specs.Grammar.{after_form, after_words, after_text, after_line, after_lines, trace_of}
use Rattle.trace_read.specs.Numbers.{number_of}
use Rattle.trace_read.specs.Settings.{default_settings, number_within, with_order, pool_named, with_pool, grant_named, with_granted, with_begin}
use Rattle.trace_read.specs.TextLines.{words_of}
use Rattle.trace_read.specs.Trace.{AcceptedTrace}
use Rattle.trace_read.specs.Windows.{window_named, with_window}

-- What is opened to read configuration lines.
unfoldable windows_on_literals : ⊤
unfolding trace_of after_lines after_line after_text after_words after_form form_of form_named
    number_within with_order pool_named with_pool grant_named with_granted with_begin with_entry
    entry_named entry_words with_window window_named number_at number_of range_refusal add_refusal
    grant_refusals with_grant suits_grants machine_range hex_on_literals
windows_on_literals = tt

-- The trace that has these windows, no other setting, and no run line.
abbrev has_windows : List BusWindow → Result AcceptedTrace (ℕ × Why)
has_windows windows =
    Ok (record { config = record default_settings { windows = windows }; lines = [] })

-- ---- accepted
one_window :
    trace_of (codes "window 1 0x10000 2\nbegin\n") ≡ has_windows (bus_window 1 0x10000 2 ∷ [])
unfolding windows_on_literals
one_window = refl

-- The largest number, and the most pages.
widest :
    trace_of (codes "window 0xFFFFFFFF 0 16384\nbegin\n")
    ≡ has_windows (bus_window 0xFFFFFFFF 0 0x4000 ∷ [])
unfolding windows_on_literals
widest = refl

-- The last page below 2 ^ 60, and the number 0.
highest :
    trace_of (codes "window 0 0xFFFFFFFFFFFF000 1\nbegin\n")
    ≡ has_windows (bus_window 0 0xFFFFFFFFFFFF000 1 ∷ [])
unfolding windows_on_literals
highest = refl

-- Four, in the order of their lines. Their addresses may meet.
four_windows :
    trace_of
    (codes "window 9 0 1\nwindow 3 0 1\n# remark\nwindow 7 0x1000 1\nwindow 4 0 2\nbegin\n")
    ≡ has_windows
    (bus_window 9 0 1 ∷ bus_window 3 0 1 ∷ bus_window 7 0x1000 1 ∷ bus_window 4 0 2 ∷ [])
unfolding windows_on_literals
four_windows = refl

-- After a grant and an entry.
behind_an_entry :
    trace_of
    (codes "ram 0x0 0x2000000000 0x40000000\n"
    ++ codes "entry old 0x20 00000000000010010000000000003192\n"
    ++ codes "window 1 0x10000 2\n"
    ++ codes "begin\n")
    ≡ Ok
    (record {
      config =
          record {
            order = 18;
            limit = 22;
            cpus = 1;
            granted =
                record {
                  pool_base = 0x1000000000;
                  pool_order = 24;
                  grants =
                      record {
                        logical = 0;
                        machine = 0x2000000000;
                        length = 0x40000000;
                        kind = Ram;
                      }
                      ∷ [];
                };
            entries = record { index = 0x20; dword0 = 0x1001; dword1 = 0x3192 } ∷ [];
            windows = bus_window 1 0x10000 2 ∷ [];
          };
      lines = [];
    })
unfolding windows_on_literals
behind_an_entry = refl

-- A `window` line gives a setting.
gives_setting : given_of default_settings (words_of (codes "window 1 0 1")) ≡ Setting
unfolding windows_on_literals
gives_setting = refl

sets_window : is_setting (words_of (codes "window x")) ≡ true
unfolding windows_on_literals
sets_window = refl

-- ---- refused: each cause
-- A number of 33 bits.
refused_number_long : trace_of (codes "window 0x100000000 0 1\n") ≡ Err (1, whys.Window)
unfolding windows_on_literals
refused_number_long = refl

-- A base that is no multiple of 4,096.
refused_crooked : trace_of (codes "window 1 0x1800 1\n") ≡ Err (1, whys.Window)
unfolding windows_on_literals
refused_crooked = refl

-- No page, and one more than 16,384.
refused_no_page : trace_of (codes "window 1 0 0\n") ≡ Err (1, whys.Window)
unfolding windows_on_literals
refused_no_page = refl

refused_pages : trace_of (codes "window 1 0 16385\n") ≡ Err (1, whys.Window)
unfolding windows_on_literals
refused_pages = refl

-- An end above 2 ^ 60.
refused_past : trace_of (codes "window 1 0xFFFFFFFFFFFF000 2\n") ≡ Err (1, whys.Window)
unfolding windows_on_literals
refused_past = refl

-- A number of an earlier window.
refused_twice :
    trace_of (codes "window 1 0 1\nwindow 2 0 1\nwindow 1 0x1000 1\n") ≡ Err (3, whys.Window)
unfolding windows_on_literals
refused_twice = refl

-- A fifth window.
refused_fifth :
    trace_of (codes "window 1 0 1\nwindow 2 0 1\nwindow 3 0 1\nwindow 4 0 1\nwindow 5 0 1\n")
    ≡ Err (5, whys.Window)
unfolding windows_on_literals
refused_fifth = refl

-- ---- the other reasons
-- Four words.
refused_few : trace_of (codes "window 1 0\n") ≡ Err (1, whys.Count)
unfolding windows_on_literals
refused_few = refl

refused_many : trace_of (codes "window 1 0 1 1\n") ≡ Err (1, whys.Count)
unfolding windows_on_literals
refused_many = refl

-- Each word after the first has to be a number, before any is tried.
refused_word : trace_of (codes "window x y z\n") ≡ Err (1, whys.Number)
unfolding windows_on_literals
refused_word = refl

refused_base : trace_of (codes "window 0x100000000 y 1\n") ≡ Err (1, whys.Number)
unfolding windows_on_literals
refused_base = refl

refused_pages_word : trace_of (codes "window 0x100000000 0 1z\n") ≡ Err (1, whys.Number)
unfolding windows_on_literals
refused_pages_word = refl

-- After a window comes no entry, no grant and no other setting; after `begin` comes no window.
refused_entry_behind :
    trace_of
    (codes "ram 0x0 0x2000000000 0x40000000\n"
    ++ codes "window 1 0 1\n"
    ++ codes "entry old 0x20 00000000000010010000000000003192\n")
    ≡ Err (3, whys.Place)
unfolding windows_on_literals
refused_entry_behind = refl

refused_ram_behind :
    trace_of (codes "window 1 0 1\nram 0x0 0x2000000000 0x40000000\n") ≡ Err (2, whys.Place)
unfolding windows_on_literals
refused_ram_behind = refl

refused_io_behind :
    trace_of (codes "window 1 0 1\nio 0x0 0x2000000000 0x1000\n") ≡ Err (2, whys.Place)
unfolding windows_on_literals
refused_io_behind = refl

refused_pool_behind : trace_of (codes "window 1 0 1\npool 0x1000000000 24\n") ≡ Err (2, whys.Place)
unfolding windows_on_literals
refused_pool_behind = refl

refused_cpus_behind : trace_of (codes "window 1 0 1\ncpus 2\n") ≡ Err (2, whys.Place)
unfolding windows_on_literals
refused_cpus_behind = refl

refused_behind_begin : trace_of (codes "begin\nwindow 1 0 1\n") ≡ Err (2, whys.Place)
unfolding windows_on_literals
refused_behind_begin = refl
