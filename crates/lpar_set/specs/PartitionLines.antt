-- The lines of one partition of a set as an input of their own. Also what all lines of a set say by
-- themselves: the shared pool, which partitions begin, and which lines are run lines.
use Rattle.std.specs.Prelude.{ℕ, ◌&&◌, Bool, false, true, List, [], ◌∷◌, map, filter_map, codes, is_some, Option, None, Result, Ok, Err, if◌then◌else◌}
use Rattle.std.specs.Str.{bytes_eq}
use Rattle.hpt_pool.specs.Pool.{PoolState, no_blocks}
use Rattle.trace_read.specs.declared.forms.Form.{Form}
use Rattle.trace_read.specs.declared.forms.Form.TheVariants as forms
use Rattle.trace_read.specs.declared.why.Why.{Why}
use Rattle.trace_read.specs.Configuration.{Configuration}
use Rattle.trace_read.specs.Forms.{form_of}
use Rattle.trace_read.specs.Grammar.{Reading, reading_beside, after_line, after_lines}
use Rattle.trace_read.specs.Numbers.{number_of}
use Rattle.trace_read.specs.Settings.{default_settings, pool_named}
use Rattle.trace_read.specs.TextLines.{is_blank, is_remark, without_cr, words_of}
use Rattle.trace_read.specs.Trace.{AcceptedTrace}
use Rattle.trace_read.specs.Whys.{◌>>=◌}
use Rattle.lpar_set.specs.OpeningTables.{with_openings}
use Rattle.basics.specs.Words.{is_number}

-- ---- a line
-- The words of a line, at whose end one CR is dropped.
abbrev pub words_in : List ℕ → List (List ℕ)
words_in line = words_of (without_cr line)

-- The line has no words, or the first begins with `#`.
abbrev pub is_remark_line : List ℕ → Bool
is_remark_line line = is_remark (words_in line)

-- The bytes from the first blank on.
abbrev pub from_blank : List ℕ → List ℕ
from_blank [] = []
from_blank (c ∷ cs) = if is_blank c then c ∷ cs else from_blank cs

-- The bytes after the first word.
abbrev pub behind_word : List ℕ → List ℕ
behind_word [] = []
behind_word (c ∷ cs) = if is_blank c then behind_word cs else from_blank cs

-- ---- the partition that a line names
-- The number that the first of these words writes, where it is one.
abbrev pub first_number : List (List ℕ) → Option ℕ
first_number [] = None
first_number (w ∷ ws) = number_of w

-- The words after the first.
abbrev pub own_words : List (List ℕ) → List (List ℕ)
own_words [] = []
own_words (w ∷ ws) = ws

-- The line is the partition's: its first word is the partition's number.
abbrev pub is_line_of : ℕ → List ℕ → Bool
is_line_of number line = is_number number (first_number (words_in line))

-- ---- the lines of one partition
-- A line of the partition without its first word, and a remark instead of each other line.
abbrev pub own_line : ℕ → List ℕ → List ℕ
own_line number line =
    if is_line_of number line then behind_word (without_cr line) else codes "#"

-- The lines of the partition at their places, and remarks at those of all others.
abbrev pub own_lines : ℕ → List (List ℕ) → List (List ℕ)
own_lines number lines = map (own_line number) lines

-- ---- the shared pool
-- The base and the order of 2 ^ 24 bytes, where a pool is named by none of the lines.
abbrev pub unnamed_pool : ℕ × ℕ
unnamed_pool = (0x1000000000, 24)

-- The pool that is named, where one is.
abbrev pub pool_or : Result (ℕ × ℕ) Why → ℕ × ℕ
pool_or (Ok pool) = pool
pool_or (Err why) = unnamed_pool

-- The first of the words is `shared`.
abbrev pub is_shared : List (List ℕ) → Bool
is_shared [] = false
is_shared (w ∷ ws) = bytes_eq (codes "shared") w

-- The pool that a line of these words names.
abbrev pub pool_in : List (List ℕ) → ℕ × ℕ
pool_in ws = if is_shared ws then pool_or (pool_named ws) else unnamed_pool

-- The pool that the first line names that is no remark.
abbrev pub shared_pool : List (List ℕ) → ℕ × ℕ
shared_pool [] = unnamed_pool
shared_pool (l ∷ ls) = if is_remark_line l then shared_pool ls else pool_in (words_in l)

-- ---- the trace of one partition
-- Before the first line of a trace over the shared pool of these lines.
abbrev pub own_start : List (List ℕ) → Reading
own_start lines = reading_beside (shared_pool lines).0 (shared_pool lines).1

-- The trace of the partition's own lines, or the first of them that is refused.
abbrev pub own_trace : List (List ℕ) → ℕ → Result AcceptedTrace (ℕ × Why)
own_trace lines number = after_lines (own_start lines) (own_lines number lines)

-- The reading after these lines, or why one of them is refused.
abbrev pub after_all : Reading → List (List ℕ) → Result Reading Why
after_all r [] = Ok r
after_all r (l ∷ ls) = after_line r l >>= (λ s. after_all s ls)

-- The reading of the partition's own lines.
abbrev pub own_reading : List (List ℕ) → ℕ → Result Reading Why
own_reading lines number = after_all (own_start lines) (own_lines number lines)

-- The configuration of a reading, where there is one.
abbrev pub config_or : Result Reading Why → Configuration
config_or (Ok r) = r.config
config_or (Err why) = default_settings

-- The configuration that the partition's own lines give.
abbrev pub own_config : List (List ℕ) → ℕ → Configuration
own_config lines number = config_or (own_reading lines number)

-- ---- `begin` lines and run lines
-- The form is `begin`.
abbrev pub is_begin : Result Form Why → Bool
is_begin (Ok forms.Begin) = true
is_begin other = false

-- The form is a run line's.
abbrev pub is_run : Result Form Why → Bool
is_run (Ok (forms.Run verb)) = true
is_run (Ok forms.Dump) = true
is_run other = false

-- The form of the line of a partition.
abbrev pub own_form : List ℕ → Result Form Why
own_form line = form_of (own_words (words_in line))

-- The partition that begins with this line, where one does.
abbrev pub begun_by : List ℕ → Option ℕ
begun_by line = if is_begin (own_form line) then first_number (words_in line) else None

-- The partitions that begin with these lines, in their order.
abbrev pub begun_in : List (List ℕ) → List ℕ
begun_in lines = filter_map begun_by lines

-- The line is a run line of a partition.
abbrev pub is_run_line : List ℕ → Bool
is_run_line line = is_some (first_number (words_in line)) && is_run (own_form line)

-- The pool in which the tables of the partitions that begin with these lines lie.
abbrev pub opening_tables : List (List ℕ) → PoolState
opening_tables lines =
    with_openings
    (no_blocks (shared_pool lines).0 (shared_pool lines).1)
    (map (λ number. (own_config lines number).order) (begun_in lines))
