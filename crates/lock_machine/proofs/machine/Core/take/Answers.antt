use Rattle.std.proofs.Common.{◌∙◌, sym}
use Rattle.std.proofs.lemmas.Result.{on_ok_weaker}
use Rattle.lock_core.proofs.Telling.{result_parts, stepped_split, stepped_join}
use Rattle.lock_machine.proofs.Allowed.{split_parts, join_parts}
use Rattle.lock_machine.proofs.Memory.{split_takes, join_takes, receipt_takes}
use Rattle.lock_machine.proofs.machine.Core.take.Goals as goal

pub split-requires-clause-live : goal.split-requires-clause-live
split-requires-clause-live c =
    (split_parts _ _ c.in-Split.to c.args.step c.in-Split.is c.requires).live

pub split-requires-clause-there : goal.split-requires-clause-there
split-requires-clause-there c =
    (split_parts _ c.args.actor _ c.args.step c.in-Split.is c.requires).there

pub join-requires-clause-live : goal.join-requires-clause-live
join-requires-clause-live c =
    (join_parts _ _ c.in-Join.from c.args.step c.in-Join.is c.requires).live

pub join-requires-clause-other : goal.join-requires-clause-other
join-requires-clause-other c =
    (join_parts _ c.args.actor _ c.args.step c.in-Join.is c.requires).other

pub join-requires-clause-apart : goal.join-requires-clause-apart
join-requires-clause-apart c =
    (join_parts c.args.self.now _ _ c.args.step c.in-Join.is c.requires).apart

pub take_step-requires : goal.take_step-requires
take_step-requires c =
    let parts = result_parts c.args.self.now c.args.actor c.args.step c.in_default.not-Split
    c.in_default.not-Join c.requires in
    record { live = parts.live; fits = parts.fitting }

pub returns-in-Split-clause-ok : goal.returns-in-Split-clause-ok
returns-in-Split-clause-ok c =
    on_ok_weaker c.split.result
    (λ e.
    e ∙ stepped_split c.args.self.now c.args.actor c.in-Split.to c.args.step c.in-Split.is)
    c.split.ensures.ok

pub returns-in-Join-clause-ok : goal.returns-in-Join-clause-ok
returns-in-Join-clause-ok c =
    on_ok_weaker c.join.result
    (λ e. e ∙ stepped_join c.args.self.now c.args.actor c.in-Join.from c.args.step c.in-Join.is)
    c.join.ensures.ok

pub returns-in-Split-clause-taking : goal.returns-in-Split-clause-taking
returns-in-Split-clause-taking c =
    λ fails. split_takes c.args.self.now c.args.actor c.in-Split.to c.args.step c.in-Split.is

pub returns-in-Join-clause-taking : goal.returns-in-Join-clause-taking
returns-in-Join-clause-taking c =
    λ fails. join_takes c.args.self.now c.args.actor c.in-Join.from c.args.step c.in-Join.is

pub returns-in_default : goal.returns-in_default
returns-in_default c =
    let parts = result_parts c.args.self.now c.args.actor c.args.step c.in_default.not-Split
    c.in_default.not-Join c.requires in
    record {
      ok = on_ok_weaker c.take_step.result (λ e. e ∙ sym parts.stepped_is) c.take_step.ensures.ok;
      err = c.take_step.ensures.err;
      memory = c.take_step.ensures.memory;
      taking =
          receipt_takes c.args.self.now c.args.actor c.args.step c.take_step.result
          c.in_default.not-Split c.in_default.not-Join c.requires
          c.take_step.ensures.without_receipt;
    }
