-- When bytes are the text of a good run of a trace, and when a refusal is true of its input.
use Rattle.std.specs.Prelude.{◌≡◌, ℕ, List, Option, Ok, Err}
use Rattle.trace_io.specs.Outside.{Put}
use Rattle.trace_read.specs.declared.parser.TraceError.{TraceError}
use Rattle.trace_read.specs.declared.parser.TraceError.TheVariants as errors
use Rattle.trace_read.specs.Trace.{AcceptedTrace}
use Rattle.trace_read.specs.Grammar.{trace_of}
use Rattle.trace_reply.specs.declared.reply.Reply.{Reply}
use Rattle.run_model.specs.GoodRun.{IsGoodRun}
use Rattle.reply_text.specs.Text.{text_of}

-- The text is that of the replies of a good run of the trace.
pub record IsTextOf (trace : AcceptedTrace) (text : List ℕ) : Type 0 where
  pub replies : List Reply
  pub good : IsGoodRun trace replies
  pub told : text ≡ text_of trace replies

-- The bytes are a trace, and the text is that of a good run of it.
pub record IsTextOfBytes (bytes text : List ℕ) : Type 0 where
  pub trace : AcceptedTrace
  pub accepted : trace_of bytes ≡ Ok trace
  pub told : IsTextOf trace text

-- Such a text was appended to what was there.
pub record PutsTextOfBytes (bytes : List ℕ) (old new : Option (List ℕ)) : Type 0 where
  pub text : List ℕ
  pub told : IsTextOfBytes bytes text
  pub put : Put old text new

-- The bytes are no trace, by this line and reason; of want of memory nothing is said.
abbrev pub TellsRefusal : TraceError → List ℕ → Type 0
TellsRefusal (errors.Line line why) bytes = trace_of bytes ≡ Err (line, why)
TellsRefusal errors.Memory bytes = Unit {0}
