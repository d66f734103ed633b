use Rattle.std.proofs.Common.{◌≡◌, None, Some, rules, to_z, of_z, w64}
use Rattle.papr_codes.specs.ReturnCodes.{rc_code}
use Rattle.papr_shared.proofs.TwoPasses.{split_in}
use Rattle.papr_shared.proofs.passes.papr_split.Goals as goal

pub returns : goal.returns
returns c =
    let x = c.deref_mut.result.now in
    let was : c.args.pass.now.pointer.held ≡ Some x = search rules in
    let closed : c.args.other.now.pointer.held ≡ None = search rules in
    let after : c.put.new.self.pointer.held ≡ Some c.split-rc.new.working = search rules in
    let told : to_z w64 (of_z w64 c.code-2.result) ≡ rc_code c.split-rc.result = search rules in
    split_in x c.split-rc.new.working c.args.pass.now.pointer.held c.args.other.now.pointer.held
    c.put.new.self.pointer.held c.split-rc.new.other.pointer.held _ _ was closed after told
    c.split-rc.ensures
