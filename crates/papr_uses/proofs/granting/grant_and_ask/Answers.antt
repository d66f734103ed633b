use Rattle.std.proofs.Common.{◌+◌, ◌∙◌, ap, arith}
use Rattle.frame_grants.specs.Grants.{GrantedMemory, machine_range}
use Rattle.frame_grants.proofs.Accepting.{accepted, is_placed}
use Rattle.papr_uses.proofs.Granted.{byte_of}
use Rattle.papr_uses.proofs.granting.grant_and_ask.Goals as goal

pub overflow_add-grant : goal.overflow_add-grant
overflow_add-grant c =
    let placed = is_placed _ _ (accepted _ _ c.in_ok-add.ensures.told) in
    let within = c.requires in
    omega (arith, placed.logical_end)

pub returns-clause-at : goal.returns-clause-at
returns-clause-at c =
    c.machine_of.ensures
    ∙ ap
    (λ (granted : GrantedMemory).
    machine_range granted.grants (c.args.grant.logical + c.args.offset) 1)
    c.in_ok-add.ensures.ok
    ∙ byte_of c.args.grants.now c.args.grant c.args.offset c.requires
    (accepted _ _ c.in_ok-add.ensures.told)
