-- The set that an input gives: a machine over its lines, which hands each partition's lines to that
-- partition's own reading.
use Rattle.std.specs.Prelude.{ℕ, ◌+◌, ◌==◌, ◌&&◌, ◌||◌, not, Bool, true, false, List, [], ◌∷◌, ◌++◌, length, map, replicate, codes, nat_lt, is_some, unwrap_or, slice_index_or, slice_set, Option, Some, None, Result, Ok, Err, if◌then◌else◌}
use Rattle.std.specs.List.{list_all, list_any, position_or_len}
use Rattle.std.specs.Str.{bytes_eq}
use Rattle.hpt_pool.specs.Pool.{PoolState, no_blocks, lowest_place}
use Rattle.frame_grants.specs.declared.grant.Grant.{Grant}
use Rattle.frame_grants.specs.Grants.{meets_machine}
use Rattle.trace_read.specs.declared.given.Given.{Given}
use Rattle.trace_read.specs.declared.given.Given.TheVariants as givens
use Rattle.trace_read.specs.declared.why.Why.{Why}
use Rattle.trace_read.specs.declared.why.Why.TheVariants as whys
use Rattle.trace_read.specs.Givens.{is_setting, given_of, refused_grant}
use Rattle.trace_read.specs.Grammar.{Reading, reading_beside, after_text, most_bytes}
use Rattle.trace_read.specs.Numbers.{number_of}
use Rattle.trace_read.specs.Places.{is_running}
use Rattle.trace_read.specs.Settings.{pool_named}
use Rattle.trace_read.specs.TextLines.{raw_lines, without_cr, is_printable, words_of, is_remark}
use Rattle.trace_read.specs.Whys.{◌>>=◌, guard, required}
use Rattle.lpar_set.specs.declared.turn.Turn.{Turn}
use Rattle.lpar_set.specs.OpeningTables.{with_opening}
use Rattle.lpar_set.specs.SetTrace.{NumberedTrace, AcceptedSet}
use Rattle.trace_line.specs.Lines.{most_lines}

-- The lines so far: how many were read, whether all were remarks, the shared pool, the readings of
-- the eight numbers of which those that occur are there, the numbers of the partitions in the order
-- of their `begin` lines, the pool with the tables of these, and the run lines.
pub record SetReading : Type 0 where
  pub taken : ℕ
  pub untouched : Bool
  pub pool_base : ℕ
  pub pool_order : ℕ
  pub readings : List (Option Reading)
  pub begun : List ℕ
  pub tables : PoolState
  pub turns : List Turn

-- No partition occurs yet, over this pool.
abbrev pub set_beside : ℕ → ℕ → SetReading
set_beside base order = record {
  taken = 0;
  untouched = true;
  pool_base = base;
  pool_order = order;
  readings = replicate 8 None;
  begun = [];
  tables = no_blocks base order;
  turns = [];
}

-- Before the first line the pool has 2 ^ 24 bytes.
abbrev pub opening_set_reading : SetReading
opening_set_reading = set_beside 0x1000000000 24

-- ---- the partition that a line names
-- The number that a first word names, where it is below 8.
abbrev pub below_8 : Option ℕ → Option ℕ
below_8 None = None
below_8 (Some number) = if nat_lt number 8 then Some number else None

-- The second word is one that no line of a set may have there: a pool of a partition's own, a
-- window or an entry.
abbrev pub is_of_the_whole : List (List ℕ) → Bool
is_of_the_whole [] = false
is_of_the_whole (w ∷ ws) =
    bytes_eq (codes "pool") w || (bytes_eq (codes "window") w || bytes_eq (codes "entry") w)

-- The partition that a first word names.
abbrev pub partition_named : List ℕ → Result ℕ Why
partition_named w = required (below_8 (number_of w)) whys.Lpar

-- The reading of a partition: one that has not occurred has none yet.
abbrev pub reading_of : SetReading → ℕ → Reading
reading_of r number =
    unwrap_or
    (slice_index_or r.readings number None)
    (reading_beside r.pool_base r.pool_order)

-- ---- the grants of other partitions
-- The grants that a reading has, where there is one.
abbrev pub grants_read : Option Reading → List Grant
grants_read None = []
grants_read (Some reading) = reading.config.granted.grants

-- The machine range of the grant meets one of these.
abbrev pub meets_any : Grant → Option Reading → Bool
meets_any grant reading = list_any (meets_machine grant) (grants_read reading)

-- The machine range of the grant meets that of a grant of another partition.
abbrev pub meets_stranger : SetReading → ℕ → Grant → Bool
meets_stranger r number grant =
    list_any (meets_any grant) (slice_set r.readings number None)

-- ---- a line of a partition
-- The partition's lines so far are read so.
abbrev pub with_reading : SetReading → ℕ → Reading → SetReading
with_reading r number reading = record r {
  untouched = false;
  readings = slice_set r.readings number (Some reading);
}

-- The place of a partition in the order of `begin` lines.
abbrev pub begun_at : List ℕ → ℕ → ℕ
begun_at begun number = position_or_len (λ n. n == number) begun

-- What an accepted line adds. A grant may not meet another partition's; at `begin` the pool has
-- room for one more table; a run line is one more turn.
unfoldable pub with_given : SetReading → ℕ → Reading → Reading → Given → Result SetReading Why
with_given r number old new (givens.Grant grant) = do
  strange ← guard (not (meets_stranger r number grant)) whys.Overlap
  Ok (with_reading r number new)
with_given r number old new (givens.Begin order) = do
  room ← guard (is_some (lowest_place r.tables order)) whys.Small
  Ok (record (with_reading r number new) {
    begun = r.begun ++ number ∷ [];
    tables = with_opening r.tables order;
  })
with_given r number old new givens.Run =
    Ok (record (with_reading r number new) {
      turns = r.turns
          ++ record { partition = begun_at r.begun number; line = length old.lines } ∷ [];
    })
with_given r number old new other = Ok (with_reading r number new)

-- A grant that meets the pool and a grant of another partition is refused for that grant.
abbrev pub refusal_beside : SetReading → ℕ → Why → Option Grant → Why
refusal_beside r number why None = why
refusal_beside r number why (Some grant) =
    if meets_stranger r number grant then whys.Overlap else why

-- After a line with these words, which the partition's own lines say so of.
unfoldable pub after_own :
    SetReading
    → ℕ
    → Reading
    → List (List ℕ)
    → Result Reading Why
    → Result SetReading Why
after_own r number old ws (Ok new) = with_given r number old new (given_of old.config ws)
after_own r number old ws (Err why) = Err (refusal_beside r number why (refused_grant why ws))

-- After a line of a partition. No configuration line of any may follow a run line of any.
unfoldable pub after_member : SetReading → ℕ → List (List ℕ) → Result SetReading Why
after_member r number ws = do
  early ← guard (not (is_setting ws && nat_lt 0 (length r.turns))) whys.Place
  let old : Reading = reading_of r number
  after_own r number old ws (after_text (record old { taken = r.taken }) ws)

-- ---- one line
-- `shared` comes first.
unfoldable pub with_shared : SetReading → List (List ℕ) → Result SetReading Why
with_shared r ws = do
  first ← guard r.untouched whys.Place
  pool ← pool_named ws
  Ok (record (set_beside pool.0 pool.1) { taken = r.taken; untouched = false })

-- After a line that names its partition.
unfoldable pub after_numbered_words : SetReading → List ℕ → List (List ℕ) → Result SetReading Why
after_numbered_words r w ws = do
  number ← partition_named w
  after_member r number ws

-- After a line with this first word and these after it.
abbrev pub after_first_word : SetReading → List ℕ → List (List ℕ) → Result SetReading Why
after_first_word r w ws =
    if bytes_eq (codes "shared") w then with_shared r (w ∷ ws) else after_numbered_words r w ws

-- After a line with this first word and these after it, where the second is allowed.
unfoldable pub after_allowed : SetReading → List ℕ → List (List ℕ) → Result SetReading Why
after_allowed r w ws = do
  allowed ← guard (not (is_of_the_whole ws)) whys.Lpar
  after_first_word r w ws

-- After the words of a line.
unfoldable pub after_set_words : SetReading → List (List ℕ) → Result SetReading Why
after_set_words r [] = Ok r
after_set_words r (w ∷ ws) = if is_remark (w ∷ ws) then Ok r else after_allowed r w ws

-- After one more line, or why it is refused: the reasons in their order.
unfoldable pub after_set_line : SetReading → List ℕ → Result SetReading Why
after_set_line r line = do
  few ← guard (nat_lt r.taken most_lines) whys.Lines
  text ← guard (list_all is_printable (without_cr line)) whys.Ascii
  after_set_words (record r { taken = r.taken + 1 }) (words_of (without_cr line))

-- ---- all lines
-- The trace that a partition's lines have given.
abbrev pub trace_read_so : Reading → ℕ → NumberedTrace
trace_read_so reading number = record {
  number = number;
  trace = record { config = reading.config; lines = reading.lines };
}

-- The partition of a number, as its lines were read.
abbrev pub partition_read : SetReading → ℕ → NumberedTrace
partition_read r number = trace_read_so (reading_of r number) number

-- The number doesn't occur, or its `begin` has come.
abbrev pub has_begun : Option Reading → Bool
has_begun None = true
has_begun (Some reading) = is_running reading.stage

-- At the end of the input a partition has to have occurred, and each that has to have begun.
abbrev pub set_at_end : SetReading → Result AcceptedSet (ℕ × Why)
set_at_end r =
    if list_any is_some r.readings && list_all has_begun r.readings
    then Ok (record {
      pool_base = r.pool_base;
      pool_order = r.pool_order;
      partitions = map (partition_read r) r.begun;
      turns = r.turns;
    })
    else Err (r.taken + 1, whys.Begin)

-- A refusal has the number of its line.
abbrev pub set_go_on :
    ℕ
    → Result SetReading Why
    → (SetReading → Result AcceptedSet (ℕ × Why))
    → Result AcceptedSet (ℕ × Why)
set_go_on n (Ok r) f = f r
set_go_on n (Err why) f = Err (n, why)

-- The set after these lines, or the first line that is refused.
unfoldable pub after_set_lines : SetReading → List (List ℕ) → Result AcceptedSet (ℕ × Why)
after_set_lines r [] = set_at_end r
after_set_lines r (l ∷ ls) =
    set_go_on (r.taken + 1) (after_set_line r l) (λ s. after_set_lines s ls)

-- The accepted set, or the first refused line and the reason. More bytes than may be are refused as
-- line 0.
unfoldable pub set_of : List ℕ → Result AcceptedSet (ℕ × Why)
set_of bytes =
    if nat_lt most_bytes (length bytes)
    then Err (0, whys.Long)
    else after_set_lines opening_set_reading (raw_lines bytes)
