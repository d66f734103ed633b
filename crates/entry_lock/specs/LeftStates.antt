-- Answers that leave an entry as it is.
use Rattle.std.specs.Prelude.{Bool, true, false}
use Rattle.entry_model.specs.declared.operation.Answer.{Answer}
use Rattle.entry_model.specs.declared.operation.Answer.TheVariants.{Entered, Taken, Removed, Protected, Was, Words, NotFound, NoMatch, Denied, Masked, At, Worn}

-- Whatever the operation, an entry that answers so stays as it is.
abbrev pub is_left : Answer → Bool
is_left Entered = false
is_left Taken = true
is_left Removed = false
is_left Protected = false
is_left Was = false
is_left Words = true
is_left NotFound = true
is_left NoMatch = true
is_left Denied = true
is_left Masked = true
is_left At = false
is_left Worn = true
