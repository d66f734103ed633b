use Rattle.std.proofs.Common.{refl, sym, ◌∙◌}
use Rattle.c_layout.specs.Entries.{states_of}
use Rattle.c_layout.proofs.Marks.{passed_marked}
use Rattle.papr_c.proofs.LentEntries.{kept_same, states_kept}
use Rattle.papr_c.proofs.windows.papr_device.Goals as goal

pub returns-clause-kept : goal.returns-clause-kept
returns-clause-kept c =
    kept_same c.args.entries.now c.make-read.new.entries
    (passed_marked c.args.entries.now c.make-read.new.entries c.make-read.ensures.passed)
    (c.make-read.ensures.entries
    ∙ sym
    (states_kept (states_of c.args.entries.now) c.make-read.result
    (rw c.make-read.ensures.receipt refl) (rw c.make-read.ensures.receipt refl)))
