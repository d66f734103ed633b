use Rattle.shared_pass.specs.Reading.{OnlyReads}
use Rattle.papr_shared.proofs.PutStates.{ArePut}
use Rattle.papr_shared.proofs.passes.put_states.Given as goal

abbrev pub invariant-loop-entry : goal.invariant-loop-entry
invariant-loop-entry l =
    record {
      same : OnlyReads l.initial.working.sharer l.working.sharer;
      put : ArePut l.initial.working.sharer l.initial.entries l.entries l.entry;
    }
