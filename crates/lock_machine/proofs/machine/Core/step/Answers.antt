use Rattle.std.proofs.Common.{◌∙◌, sym}
use Rattle.std.proofs.lemmas.Result.{on_ok_weaker}
use Rattle.lock_core.proofs.Telling.{moved_if}
use Rattle.lock_machine.proofs.Allowed.{allowed_if}
use Rattle.lock_machine.proofs.Memory.{refused_otherwise}
use Rattle.lock_machine.proofs.Sizes.{ended_size}
use Rattle.lock_machine.proofs.machine.Core.step.Goals as goal

pub take-requires : goal.take-requires
take-requires c =
    allowed_if c.args.self.now c.args.actor c.args.step (sym c.refusal.ensures ∙ c.in-None.is)

pub returns-in-None-clause-ok : goal.returns-in-None-clause-ok
returns-in-None-clause-ok c =
    let may = allowed_if c.args.self.now c.args.actor c.args.step
    (sym c.refusal.ensures ∙ c.in-None.is) in
    on_ok_weaker c.take.result (λ e. e ∙ moved_if c.args.self.now c.args.actor c.args.step may)
    c.take.ensures.ok

pub returns-in-None-clause-entries : goal.returns-in-None-clause-entries
returns-in-None-clause-entries c =
    let may = allowed_if c.args.self.now c.args.actor c.args.step
    (sym c.refusal.ensures ∙ c.in-None.is) in
    (ended_size c.args.self.now c.take.new.self c.args.actor c.args.step c.take.result
    (on_ok_weaker c.take.result
    (λ e. e ∙ moved_if c.args.self.now c.args.actor c.args.step may) c.take.ensures.ok)
    c.take.ensures.err).0

pub returns-in-None-clause-actors : goal.returns-in-None-clause-actors
returns-in-None-clause-actors c =
    let may = allowed_if c.args.self.now c.args.actor c.args.step
    (sym c.refusal.ensures ∙ c.in-None.is) in
    (ended_size c.args.self.now c.take.new.self c.args.actor c.args.step c.take.result
    (on_ok_weaker c.take.result
    (λ e. e ∙ moved_if c.args.self.now c.args.actor c.args.step may) c.take.ensures.ok)
    c.take.ensures.err).1

pub returns-in-Some-clause-memory : goal.returns-in-Some-clause-memory
returns-in-Some-clause-memory c =
    λ fails.
    absurd
    (refused_otherwise c.args.self.now c.args.actor c.args.step c.in-Some.error
    (sym c.refusal.ensures ∙ c.in-Some.is) fails)
