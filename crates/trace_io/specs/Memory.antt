-- What contracts see of the source and the sink in memory, and how a call changes them.
use Rattle.std.specs.Prelude.{ℕ, ◌==◌, ◌&&◌, Bool, true, if◌then◌else◌, min, nat_le, List, [], ◌++◌, length, take, drop, Option, Some, None}
use Rattle.std.specs.List.{list_any}
use Rattle.trace_io.specs.Outside.{counted}

-- Whether the call after this many calls fails: its number, from 1, is listed.
abbrev pub fails_next : List ℕ → ℕ → Bool
fails_next fails calls = list_any (λ call. call == counted calls) fails

-- ---- the source
-- The bytes left, how many a call gives at most, the numbers of the calls that fail, and the counts
-- of calls and of faults.
pub record SourceState : Type 0 where
  pub left : List ℕ
  pub piece : ℕ
  pub fails : List ℕ
  pub calls : ℕ
  pub faults : ℕ

-- A source of these bytes that was never called.
abbrev pub new_source : List ℕ → ℕ → List ℕ → SourceState
new_source bytes piece fails = record {
  left = bytes;
  piece = piece;
  fails = fails;
  calls = 0;
  faults = 0;
}

-- How many bytes the next read gives into this much room, or none where it fails.
abbrev pub read_count : SourceState → ℕ → Option ℕ
read_count source room =
    if fails_next source.fails source.calls
    then None
    else Some (min (min source.piece room) (length source.left))

-- The source after a read that gave this many bytes, or failed.
abbrev pub after_read : SourceState → Option ℕ → SourceState
after_read source None = record source {
  calls = counted source.calls;
  faults = counted source.faults;
}
after_read source (Some n) = record source {
  left = drop n source.left;
  calls = counted source.calls;
}

-- ---- the sink
-- The bytes kept, whether they are all that were taken, how many are kept at most, how many a call
-- takes at most, the numbers of the calls that fail, and the counts of calls and of faults.
pub record SinkState : Type 0 where
  pub kept : List ℕ
  pub whole : Bool
  pub room : ℕ
  pub piece : ℕ
  pub fails : List ℕ
  pub calls : ℕ
  pub faults : ℕ

-- A sink that has taken nothing.
abbrev pub new_sink : ℕ → List ℕ → ℕ → SinkState
new_sink piece fails room = record {
  kept = [];
  whole = true;
  room = room;
  piece = piece;
  fails = fails;
  calls = 0;
  faults = 0;
}

-- The bytes taken, as long as all of them are kept.
abbrev pub taken_bytes : SinkState → Option (List ℕ)
taken_bytes sink = if sink.whole then Some sink.kept else None

-- How many bytes the next write takes of a piece of this length, or none where it fails.
abbrev pub write_count : SinkState → ℕ → Option ℕ
write_count sink size =
    if fails_next sink.fails sink.calls then None else Some (min sink.piece size)

-- The sink after a write that took this many bytes of a piece, or failed. What passes the room is
-- dropped.
abbrev pub after_write : SinkState → List ℕ → Option ℕ → SinkState
after_write sink piece None = record sink {
  calls = counted sink.calls;
  faults = counted sink.faults;
}
after_write sink piece (Some n) =
    record sink {
      kept = take sink.room (sink.kept ++ take n piece);
      whole = sink.whole && nat_le (length (sink.kept ++ take n piece)) sink.room;
      calls = counted sink.calls;
    }
