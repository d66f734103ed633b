use Rattle.trace_read.proofs.NumberedLines.{reads_as_the_input, refuses_as_the_input}
use Rattle.trace_read.proofs.laws.reads_as_the_input.Goals as goal

pub returns-clause-whole : goal.returns-clause-whole
returns-clause-whole c = reads_as_the_input

pub returns-clause-further : goal.returns-clause-further
returns-clause-further c = refuses_as_the_input
