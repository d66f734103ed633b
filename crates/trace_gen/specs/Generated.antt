-- Generated traces: each line is drawn from one word of a generator of random numbers.
use Rattle.std.specs.Prelude.{ℕ, ◌+◌, ◌-◌, ◌*◌, ◌/◌, ◌%◌, ◌^◌, true, false, List, [], ◌∷◌, ◌++◌, length, map, replicate, bit_xor, slice_index_or}
use Rattle.std.specs.List.{enumerate_from, range_with_len}
use Rattle.rand_core.specs.Steps.{first_words}
use Rattle.rand_xoshiro.specs.SplitMix64.{splitmix_seed}
use Rattle.rand_xoshiro.specs.Xoshiro256.{of_seed, plus_plus}
use Rattle.storage_prot.specs.declared.want.Want.TheVariants.{Load, Store}
use Rattle.frame_grants.specs.declared.grant.Grant.{Grant}
use Rattle.frame_grants.specs.declared.grant.Kind.TheVariants.{Ram}
use Rattle.papr_codes.specs.declared.calls.Hcall.{Hcall}
use Rattle.papr_codes.specs.declared.calls.Hcall.TheVariants.{Enter, Remove, Protect, ClearMod, ClearRef, Read}
use Rattle.papr_codes.specs.Hcalls.{hcall_number}
use Rattle.trace_read.specs.Configuration.{Configuration}
use Rattle.trace_read.specs.Trace.{AcceptedTrace}
use Rattle.trace_line.specs.declared.act.Act.{Act}
use Rattle.trace_line.specs.declared.line.TraceLine.{TraceLine}
use Rattle.trace_line.specs.declared.act.Act.TheVariants as acts

-- ---- the configuration
-- 1 GB of main storage.
abbrev pub whole_ram : Grant
whole_ram = record { logical = 0; machine = 0x2000000000; length = 0x40000000; kind = Ram }

-- Four processors, a table of the lowest order, a pool of 16 MB, and no window.
unfoldable pub generated_config : Configuration
generated_config = record {
  order = 18;
  limit = 22;
  cpus = 4;
  granted = record { pool_base = 0x1000000000; pool_order = 24; grants = whole_ram ∷ [] };
  entries = [];
  windows = [];
}

-- ---- the parts of a word
-- The processor of a line.
abbrev pub cpu_of : ℕ → ℕ
cpu_of word = word % 4

-- What kind of line it is.
abbrev pub kind_of : ℕ → ℕ
kind_of word = word / 2 ^ 8 % 8

-- The index of a page of 4 KB in the segment of VSID 1.
abbrev pub page_of : ℕ → ℕ
page_of word = word / 2 ^ 16 % 256

-- The slot in a group.
abbrev pub slot_of : ℕ → ℕ
slot_of word = word / 2 ^ 24 % 8

-- A page of 4 KB of the main storage.
abbrev pub frame_of : ℕ → ℕ
frame_of word = word / 2 ^ 32 % 2 ^ 18

-- The first entry of the page's primary group: its hash is 1 xor its index.
abbrev pub group_start : ℕ → ℕ
group_start word = bit_xor 1 (page_of word) * 8

-- The entry that a line is about.
abbrev pub entry_of : ℕ → ℕ
entry_of word = group_start word + slot_of word

-- ---- lines
-- A call that is named, with its arguments and zeros after them.
abbrev pub named_call : Hcall → List ℕ → Act
named_call hcall args = acts.Call (hcall_number hcall) (args ++ replicate (8 - length args) 0) true

-- What a line of each kind asks for. An H_ENTER lets the page be read and written, M set and R and
-- C clear; an H_PROTECT lets it be read alone.
abbrev pub acts_of_word : ℕ → List Act
acts_of_word word =
    named_call Enter (0 ∷ group_start word ∷ 0x1001 ∷ (frame_of word * 4096 + 0x12) ∷ [])
    ∷ named_call Remove (0 ∷ entry_of word ∷ 0 ∷ [])
    ∷ named_call Protect (0x3 ∷ entry_of word ∷ 0 ∷ [])
    ∷ acts.Access Load (page_of word * 4096) false
    ∷ acts.Access Store (page_of word * 4096) false
    ∷ named_call ClearMod (0 ∷ entry_of word ∷ [])
    ∷ named_call ClearRef (0 ∷ entry_of word ∷ [])
    ∷ named_call Read (0 ∷ entry_of word ∷ [])
    ∷ []

-- What a line asks for.
unfoldable pub act_of : ℕ → Act
act_of word = slice_index_or (acts_of_word word) (kind_of word) acts.Dump

-- The run line of this number.
abbrev pub line_of : ℕ → ℕ → TraceLine
line_of number word = record { number = number; cpu = cpu_of word; act = act_of word }

-- Each processor has a segment of VSID 1 and 4 KB pages at effective address 0.
abbrev pub segment_line : ℕ → TraceLine
segment_line cpu = record { number = cpu + 1; cpu = cpu; act = acts.SlbMte 0x8000000 0x1000 }

-- The first lines, which give each processor its segment.
unfoldable pub segment_lines : List TraceLine
segment_lines = map segment_line (range_with_len 0 4)

-- The lines of these words, the first of which has this number.
unfoldable pub lines_from : ℕ → List ℕ → List TraceLine
lines_from number words = map (λ (x : ℕ × ℕ). line_of x.0 x.1) (enumerate_from number words)

-- ---- the trace
-- The words of Xoshiro256++ from this seed.
unfoldable pub words_of_seed : ℕ → ℕ → List ℕ
words_of_seed seed count = first_words plus_plus count (of_seed (splitmix_seed 32 seed))

-- The trace of a seed.
unfoldable pub generated_trace : ℕ → ℕ → AcceptedTrace
generated_trace seed lines = record {
  config = generated_config;
  lines = segment_lines ++ lines_from 5 (words_of_seed seed lines);
}
