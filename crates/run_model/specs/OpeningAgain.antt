-- An entry that a run came to may be written into the opening table of another trace.
use Rattle.std.specs.Prelude.{◌≡◌, ◌≢◌, ℕ, List, [], ◌∷◌, ◌++◌, codes, Ok}
use Rattle.number_text.specs.Numbers.{hex}
use Rattle.table_image.specs.declared.entry.ImageEntry.{ImageEntry}
use Rattle.table_image.specs.declared.layout.Layout.{Layout}
use Rattle.table_image.specs.Image.{layout_word}
use Rattle.trace_line.specs.declared.line.TraceLine.{TraceLine}
use Rattle.trace_read.specs.Configuration.{Configuration}
use Rattle.trace_read.specs.Entries.{with_entry}
use Rattle.trace_read.specs.Trace.{AcceptedTrace}
use Rattle.entry_model.specs.State.{State}
use Rattle.entry_model.specs.Reply.{words_of}
use Rattle.entry_model.specs.Run.{state_at}
use Rattle.hpt_resize.specs.TableMemory.{TableMemory}
use Rattle.run_model.specs.Stores.{states_of, page_table}
use Rattle.run_model.specs.SerialRun.{table_after}

-- The words of an `entry` line: the layout, the index, and the digits as an image writes them.
abbrev pub entry_line_words : Layout → ℕ → List ℕ → List (List ℕ)
entry_line_words layout index digits =
    codes "entry" ∷ layout_word layout ∷ hex index ∷ digits ∷ []

-- The entry as an image has it: its words with R and C put back.
abbrev pub image_entry : ℕ → State → ImageEntry
image_entry index s =
    record { index = index; dword0 = (words_of s).0; dword1 = (words_of s).1 }

-- The configuration with one more entry.
abbrev pub with_image_entry : Configuration → ImageEntry → Configuration
with_image_entry c e = record c { entries = c.entries ++ e ∷ [] }

-- The states of the table that opens on a configuration.
abbrev pub opening_states : Configuration → List State
opening_states c = states_of (page_table c)

-- The line is accepted after these configuration lines, and adds the entry. The table that opens
-- then has the entry's state at stamp 0: its doublewords, R and C; every other entry opens as
-- without the line.
pub record IsOpenedAgain
    (c : Configuration) (words : List (List ℕ)) (index : ℕ) (s : State) : Type 0
  where
    pub accepted : with_entry c words ≡ Ok (with_image_entry c (image_entry index s))
    pub state :
        state_at (opening_states (with_image_entry c (image_entry index s))) index
        ≡ record s { stamp = 0 }
    pub others :
        (other : ℕ)
        → other ≢ index
        → state_at (opening_states (with_image_entry c (image_entry index s))) other
        ≡ state_at (opening_states c) other

-- The memory of tables after these lines of the serial run of an accepted trace's configuration.
abbrev pub memory_after : AcceptedTrace → List TraceLine → TableMemory
memory_after t lines = (table_after t.config lines).memory
