use Rattle.std.proofs.Common.{ap, ◌∙◌}
use Rattle.hpt_resize.specs.Resize.{table_of}
use Rattle.hpt_resize.specs.TableMemory.{prepare_result}
use Rattle.run_model.specs.QuietLines.{after_prepare}
use Rattle.lpar_set.specs.SetRun.{MemberState, with_pool}
use Rattle.lpar_set.proofs.MemberSteps.{prepared}
use Rattle.lpar_set.proofs.member.Member.prepare.Goals as goal

pub returns-clause-reply : goal.returns-clause-reply
returns-clause-reply c =
    let before : MemberState = record {
      grants = c.self.inside.grants.grants;
      limit = c.self.inside.limit;
      pending = c.self.inside.resize;
      table = table_of c.self.inside.current;
      processors = c.self.inside.cpus.items;
    } in
    prepared before c.args.pool.now c.prepare.new.pool c.prepare.new.self c.args.flags c.args.shift
    c.in_ok-rc.rc c.without_receipts.result c.in_ok-rc.ensures.ok c.without_receipts.ensures
    ∙ ap
    (λ (m : MemberState).
    after_prepare (with_pool c.args.pool.now m)
    (prepare_result (with_pool c.args.pool.now m).memory c.args.flags c.args.shift))
    c.self.view_is
