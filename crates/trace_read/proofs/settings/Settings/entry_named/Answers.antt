use Rattle.std.proofs.Common.{sym, ◌∙◌, arith}
use Rattle.trace_read.proofs.Rising.{AreOpeningEntries-push, stored_words}
use Rattle.trace_read.proofs.settings.Settings.entry_named.Goals as goal

pub returns-clause-opening : goal.returns-clause-opening
returns-clause-opening c =
    rw (← c.self.view_is) (AreOpeningEntries-push _ _ _ _
    c.self.invariant.1
    (record {
      in_table = omega arith;
      stored = stored_words _ _ _ (sym c.is_stored.ensures ∙ c.if-not-is_stored.false);
    })
    (rw (← c.as_slice.ensures) (sym c.is_above.ensures ∙ c.if-not-is_above.false)))
