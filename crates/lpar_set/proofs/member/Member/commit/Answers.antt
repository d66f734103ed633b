use Rattle.std.proofs.Common.{ap, ◌∙◌}
use Rattle.hpt_resize.specs.Resize.{table_of}
use Rattle.hpt_resize.specs.TableMemory.{commit_result}
use Rattle.run_model.specs.QuietLines.{after_commit}
use Rattle.lpar_set.specs.SetRun.{MemberState, with_pool}
use Rattle.lpar_set.proofs.MemberSteps.{committed, still_hold}
use Rattle.lpar_set.proofs.member.Member.commit.Goals as goal

pub invariant_of-self : goal.invariant_of-self
invariant_of-self c =
    let before : MemberState = record {
      grants = c.self.inside.grants.grants;
      limit = c.self.inside.limit;
      pending = c.self.inside.resize;
      table = table_of c.self.inside.current;
      processors = c.self.inside.cpus.items;
    } in
    still_hold before c.args.pool.now c.commit-answer.new.pool c.commit-answer.new.self
    c.commit-answer.new.current c.clear_after.new.cpus.items c.args.flags c.args.shift
    c.commit-answer.result c.self.invariant c.commit-answer.ensures.done
    c.commit-answer.ensures.table c.clear_after.ensures

pub returns : goal.returns
returns c =
    let before : MemberState = record {
      grants = c.self.inside.grants.grants;
      limit = c.self.inside.limit;
      pending = c.self.inside.resize;
      table = table_of c.self.inside.current;
      processors = c.self.inside.cpus.items;
    } in
    record {
      reply =
          committed before c.args.pool.now c.commit-answer.new.pool c.commit-answer.new.self
          (table_of c.commit-answer.new.current) c.clear_after.new.cpus.items c.args.flags
          c.args.shift c.commit-answer.result c.without_receipts.result
          c.commit-answer.ensures.done c.without_receipts.ensures c.clear_after.ensures
          ∙ ap
          (λ (m : MemberState).
          after_commit (with_pool c.args.pool.now m)
          (commit_result (with_pool c.args.pool.now m).memory c.args.flags c.args.shift))
          c.self.view_is;
    }
