use Rattle.std.proofs.Common.{ap, sym, ◌∙◌, arith}
use Rattle.entry_model.specs.State.{empty_state}
use Rattle.c_layout.specs.Entries.{states_of, AreMarked}
use Rattle.c_layout.proofs.Marks.{states-length}
use Rattle.papr_c.proofs.Ranges.{between_marked, between_states, emptied_is}
use Rattle.std.proofs.Common.{subst}
use Rattle.papr_c.proofs.resizing.advance.Goals as goal

pub returns-clause-into : goal.returns-clause-into
returns-clause-into c =
    ap states_of (c.clear.ensures ∙ sym (emptied_is c.args.ready c.min-end.result c.args.into.now))
    ∙ between_states (empty_state 0) c.args.ready c.min-end.result c.args.into.now
    (omega (
      arith,
      c.min-end.ensures,
      c.requires.few,
      c.requires.whole,
      states-length c.args.into.now,
    ))
    (omega (arith, c.min-end.ensures))

pub returns-clause-marks : goal.returns-clause-marks
returns-clause-marks c =
    subst (AreMarked c.args.into.now)
    (sym (c.clear.ensures ∙ sym (emptied_is c.args.ready c.min-end.result c.args.into.now)))
    (between_marked (empty_state 0) c.args.ready c.min-end.result c.args.into.now)
