-- Which set an input is, in words of its lines: what an accepted set has, and what a line is
-- refused for.
use Rattle.std.specs.Prelude.{◌≡◌, ◌≢◌, ℕ, ◌+◌, ◌<◌, ◌≤◌, true, false, List, ◌∷◌, ◌++◌, length, map, Contains, Some, None, Ok, Err}
use Rattle.std.specs.List.{AllPairs, list_all, list_any}
use Rattle.frame_grants.specs.declared.grant.Grant.{Grant}
use Rattle.frame_grants.specs.Grants.{meets_machine}
use Rattle.hpt_pool.specs.Pool.{lowest_place}
use Rattle.trace_read.specs.declared.why.Why.{Why}
use Rattle.trace_read.specs.declared.why.Why.TheVariants as whys
use Rattle.trace_read.specs.Givens.{is_setting, line_grant}
use Rattle.trace_read.specs.Grammar.{most_bytes}
use Rattle.trace_read.specs.Settings.{pool_named}
use Rattle.trace_read.specs.TextLines.{is_printable, raw_lines, without_cr}
use Rattle.lpar_set.specs.declared.turn.Turn.{Turn}
use Rattle.lpar_set.specs.PartitionLines.{words_in, is_remark_line, first_number, own_words, is_line_of, is_shared, shared_pool, own_trace, own_config, begun_by, begun_in, is_run_line, opening_tables}
use Rattle.lpar_set.specs.SetGrammar.{below_8, is_of_the_whole, set_of}
use Rattle.lpar_set.specs.SetTrace.{NumberedTrace, AcceptedSet, IsAcceptedSet, line_of}
use Rattle.trace_line.specs.Lines.{most_lines}

-- ---- accepted sets
-- The set over the shared pool whose partitions are those that begin, in the order of their `begin`
-- lines, and all that a line names; each has the trace that its own lines give, read as an input of
-- their own over that pool; and the turns are the run lines in file order.
pub record IsSetOf (lines : List (List ℕ)) (s : AcceptedSet) : Type 0 where
  pub base : s.pool_base ≡ (shared_pool lines).0
  pub order : s.pool_order ≡ (shared_pool lines).1
  pub numbers : map (λ (p : NumberedTrace). p.number) s.partitions ≡ begun_in lines
  pub named :
      (number : ℕ)
      → number < 8
      → list_any (is_line_of number) lines ≡ true
      → Contains (begun_in lines) number
  pub traces :
      (p : NumberedTrace) → Contains s.partitions p → own_trace lines p.number ≡ Ok p.trace
  pub turns : AllPairs (λ (t u : Turn). (line_of s t).number < (line_of s u).number) s.turns

-- Each accepted set is the set of its lines.
abbrev pub SetsAreOfTheirLines : Type 0
SetsAreOfTheirLines =
    (bytes : List ℕ) (s : AcceptedSet) → set_of bytes ≡ Ok s → IsSetOf (raw_lines bytes) s

-- Lines have one set at most: what is said of it here determines it.
abbrev pub LinesHaveOneSet : Type 0
LinesHaveOneSet =
    (lines : List (List ℕ)) (s t : AcceptedSet)
    → IsAcceptedSet s
    → IsAcceptedSet t
    → IsSetOf lines s
    → IsSetOf lines t
    → s ≡ t

-- ---- refused lines
-- What a line after these may be refused for apart from what its partition's own trace says of it.
pub data IsAgainstSet (before : List (List ℕ)) (line : List ℕ) : Why → Type 0 where
  -- 2 ^ 17 lines have come before.
  past : most_lines ≤ length before → IsAgainstSet before line whys.Lines
  -- A byte is none of a text.
  unprintable :
      list_all is_printable (without_cr line) ≡ false → IsAgainstSet before line whys.Ascii
  -- The second word is `pool`, `window` or `entry`.
  whole :
      is_remark_line line ≡ false
      → is_of_the_whole (own_words (words_in line)) ≡ true
      → IsAgainstSet before line whys.Lpar
  -- The first word is neither `shared` nor a number below 8.
  unnamed :
      is_remark_line line ≡ false
      → is_shared (words_in line) ≡ false
      → below_8 (first_number (words_in line)) ≡ None
      → IsAgainstSet before line whys.Lpar
  -- The first word is `shared`, and a line before is no remark.
  late :
      is_shared (words_in line) ≡ true
      → list_all is_remark_line before ≡ false
      → IsAgainstSet before line whys.Place
  -- The first word is `shared`, and the words name no pool, for this reason.
  poolless :
      (why : Why)
      → is_shared (words_in line) ≡ true
      → pool_named (words_in line) ≡ Err why
      → IsAgainstSet before line why
  -- A configuration line of a partition after a run line of any.
  early :
      (number : ℕ)
      → is_line_of number line ≡ true
      → is_setting (own_words (words_in line)) ≡ true
      → list_any is_run_line before ≡ true
      → IsAgainstSet before line whys.Place
  -- A partition's grant whose machine range meets that of a grant which the lines of another gave.
  strange :
      (number other : ℕ) (grant theirs : Grant)
      → is_line_of number line ≡ true
      → line_grant (own_words (words_in line)) ≡ Some grant
      → other < 8
      → other ≢ number
      → Contains (own_config before other).granted.grants theirs
      → meets_machine grant theirs ≡ true
      → IsAgainstSet before line whys.Overlap
  -- A partition begins, and the pool has no place for its table beside those of the others.
  full :
      (number : ℕ)
      → begun_by line ≡ Some number
      → lowest_place (opening_tables before) (own_config before number).order ≡ None
      → IsAgainstSet before line whys.Small

-- What may be said against an input, with the number of the line and the reason.
pub data IsAgainst (bytes : List ℕ) : ℕ → Why → Type 0 where
  -- The input has more bytes than may be.
  long : most_bytes < length bytes → IsAgainst bytes 0 whys.Long
  -- A partition that a line names has a trace of its own lines that is refused there and for this.
  own :
      (number n : ℕ) (why : Why)
      → number < 8
      → list_any (is_line_of number) (raw_lines bytes) ≡ true
      → own_trace (raw_lines bytes) number ≡ Err (n, why)
      → IsAgainst bytes n why
  -- The line is not allowed in the set.
  apart :
      (before rest : List (List ℕ)) (line : List ℕ) (why : Why)
      → raw_lines bytes ≡ before ++ line ∷ rest
      → IsAgainstSet before line why
      → IsAgainst bytes (length before + 1) why
  -- No line names a partition: refused one line past the last.
  none :
      ((number : ℕ) → number < 8 → list_any (is_line_of number) (raw_lines bytes) ≡ false)
      → IsAgainst bytes (length (raw_lines bytes) + 1) whys.Begin

-- What an input is refused for may be said against it.
abbrev pub RefusalsAreReasons : Type 0
RefusalsAreReasons =
    (bytes : List ℕ) (n : ℕ) (why : Why) → set_of bytes ≡ Err (n, why) → IsAgainst bytes n why

-- An input against which anything may be said is refused, at that line or one before it: the lowest
-- line comes first.
abbrev pub LowestLinesComeFirst : Type 0
LowestLinesComeFirst =
    (bytes : List ℕ) (n : ℕ) (why : Why)
    → IsAgainst bytes n why
    → (m : ℕ) × (other : Why) × (m ≤ n) × (set_of bytes ≡ Err (m, other))
