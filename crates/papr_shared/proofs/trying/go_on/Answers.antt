use Rattle.std.proofs.Common.{inl}
use Rattle.shared_pass.specs.Held.{plan_of_held}
use Rattle.papr_shared.specs.Answers.{Handed, handed}
use Rattle.papr_shared.proofs.NeverBusy.{held_never}
use Rattle.papr_shared.proofs.Endings.{ended, gone_on}
use Rattle.papr_shared.proofs.trying.go_on.Goals as goal

pub returns-in-Ok : goal.returns-in-Ok
returns-in-Ok c =
    let x = c.args.working.now in
    let y = c.again.new.self in
    let call = c.in-Call.call in
    let h : Handed = handed c.args.words.now c.hand_over_call.new.words c.args.receipts.now
    c.hand_over_call.new.receipts c.hand_over_call.result in
    let end = ended (plan_of_held call) y h c.in-Ok.registers (held_never call)
    c.in-Ok.ensures.reply c.in-Ok.ensures.ended c.hand_over_call.ensures in
    gone_on x.pending call x y h c.in-Call.is
    (record { behind = c.again.ensures.behind; made = c.again.ensures.made; tried = inl end })
