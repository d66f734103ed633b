use Rattle.std.proofs.Common.{◌≡◌, ◌+◌, ◌++◌, replicate, vec_len}
use Rattle.std.specs.Prelude.{vec_capacity}
use Rattle.entry_model.specs.State.{empty_state}
use Rattle.hpt_resize.proofs.pending.push_empty.Given as goal

abbrev pub invariant-loop-i : goal.invariant-loop-i
invariant-loop-i l = record {
  items : l.states.items ≡ l.initial.states.items ++ replicate l._i (empty_state 0);
  len : vec_len l.states ≡ vec_len l.initial.states + l._i;
  capacity : vec_capacity l.states ≡ vec_capacity l.initial.states;
}
