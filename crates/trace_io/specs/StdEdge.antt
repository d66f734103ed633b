-- What contracts see of a source over a reader of std, and of a sink over a writer.
use Rattle.std.specs.Prelude.{ℕ}
use Rattle.trace_io.specs.declared.std_edge.StdSource.{StdSource}
use Rattle.trace_io.specs.declared.std_edge.StdSink.{StdSink}

-- The reader, as it stands, and how often it failed.
abbrev pub reader_of : {I : Type 0} → StdSource I → I
reader_of source = source.inner

-- How often the reader has failed.
abbrev pub read_faults : {I : Type 0} → StdSource I → ℕ
read_faults source = source.faults

-- The writer, as it stands, and how often it failed.
abbrev pub writer_of : {O : Type 0} → StdSink O → O
writer_of sink = sink.inner

-- How often the writer has failed.
abbrev pub write_faults : {O : Type 0} → StdSink O → ℕ
write_faults sink = sink.faults
