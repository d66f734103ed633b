use Rattle.std.proofs.Common.{◌≡◌, Some, true, rules, to_z, of_z, w64}
use Rattle.papr_codes.specs.ReturnCodes.{rc_code}
use Rattle.papr_codes.specs.declared.codes.Rc.TheVariants.{Success}
use Rattle.shared_pass.specs.Workings.{is_free, IsTakenIn}
use Rattle.papr_shared.proofs.TwoPasses.{joined_in}
use Rattle.papr_shared.proofs.passes.papr_join.Goals as goal
use Rattle.papr_shared.proofs.passes.papr_join.Goals.{then-is_free, else-is_free}

pub returns : goal.returns
returns c =
    let x = c.in-Some.working.value in
    let y = c.in-Some-take.taken.value in
    let free : is_free x ≡ true = elim c.if-is_free.branch
    [ then-is_free w ↦ search rules | else-is_free w ↦ search rules ] in
    let other_free : is_free y ≡ true = elim c.if-is_free.branch
    [ then-is_free w ↦ search rules | else-is_free w ↦ search rules ] in
    let after : c.put-2.new.self.pointer.held ≡ Some c.join.new.self = search rules in
    let told : to_z w64 (of_z w64 c.code-2.result) ≡ rc_code Success = search rules in
    let taken : IsTakenIn x y c.join.new.self = search rules in
    joined_in x y c.join.new.self c.args.pass.now.pointer.held c.args.other.now.pointer.held
    c.put-2.new.self.pointer.held c.take-2.new.self.pointer.held _ c.in-Some.ensures.some
    c.in-Some-take.ensures.some free other_free after c.in-Some-take.ensures.closed told taken
