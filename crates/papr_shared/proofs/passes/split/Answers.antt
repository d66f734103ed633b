use Rattle.std.proofs.Common.{◌≡◌, nat_le, true, Some, rules, ap, ◌∙◌}
use Rattle.papr_shared.proofs.TwoPasses.{split_two}
use Rattle.papr_shared.proofs.passes.split.Goals as goal

pub returns : goal.returns
returns c =
    let two : nat_le 2 c.args.working.now.sharer.pass.shares ≡ true = search rules in
    split_two c.args.working.now c.split.new.self c.in-Some-split.made c.put.new.self.pointer.held
    two
    (c.put.ensures ∙ ap Some c.fill.ensures) c.in-Some-split.ensures.split
