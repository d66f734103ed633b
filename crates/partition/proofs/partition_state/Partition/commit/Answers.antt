use Rattle.std.proofs.Common.{◌≡◌, sym, ap, ◌∙◌, subst}
use Rattle.papr_codes.specs.declared.codes.Rc.{Rc}
use Rattle.hpt_resize.specs.Resize.{table_of}
use Rattle.hpt_resize.specs.TableMemory.{TableMemory, commit_result}
use Rattle.partition.specs.PartitionState.{PartitionState, IsPartition, CountsTables, with_memory, reply_of_code}
use Rattle.partition.proofs.Resizing.{reply_alone, code_of, commit_kept, commit_counts, commit_is, partition, answer_at}
use Rattle.partition.proofs.partition_state.Partition.commit.Goals as goal

kept :
    (c : goal.After-without_receipts)
    → IsPartition
    (partition c.self.inside.limit c.commit-answer.new.pool c.commit-answer.new.self
    (table_of c.commit-answer.new.current) c.self.inside.grants)
kept c =
    commit_kept c.self.inside.limit c.args.flags c.args.shift c.self.inside.resize
    c.commit-answer.new.self c.self.inside.pool c.commit-answer.new.pool
    (table_of c.self.inside.current) c.commit-answer.new.current c.self.inside.grants
    c.commit-answer.result c.self.invariant c.commit-answer.ensures.done
    c.commit-answer.ensures.table c.commit-answer.ensures.held c.commit-answer.ensures.taken

after :
    (c : goal.After-without_receipts)
    → commit_result c.args.self.now.memory c.args.flags c.args.shift
    ≡ answer_at c.commit-answer.result.rc
    (record {
      limit = c.self.inside.limit;
      pool = c.commit-answer.new.pool;
      pending = c.commit-answer.new.self;
      table = table_of c.commit-answer.new.current;
    })
after c =
    ap (λ (p : PartitionState). commit_result p.memory c.args.flags c.args.shift)
    (sym c.self.view_is)
    ∙ commit_is c.self.inside.limit c.args.flags c.args.shift c.self.inside.resize
    c.commit-answer.new.self c.self.inside.pool c.commit-answer.new.pool
    (table_of c.self.inside.current) (table_of c.commit-answer.new.current)
    c.commit-answer.result c.commit-answer.ensures.done

pub invariant_of-self : goal.invariant_of-self
invariant_of-self c = kept c

pub returns-clause-reply : goal.returns-clause-reply
returns-clause-reply c =
    reply_alone c.commit-answer.result.rc c.without_receipts.result c.without_receipts.ensures
    ∙ ap reply_of_code (sym (ap (λ (a : Rc × TableMemory). a.0) (after c)))

pub returns-clause-after : goal.returns-clause-after
returns-clause-after c =
    ap
    (λ (p : PartitionState).
    with_memory p
    (record {
      limit = c.self.inside.limit;
      pool = c.commit-answer.new.pool;
      pending = c.commit-answer.new.self;
      table = table_of c.commit-answer.new.current;
    })) c.self.view_is
    ∙ ap (with_memory c.args.self.now) (sym (ap (λ (a : Rc × TableMemory). a.1) (after c)))

pub returns-clause-sound : goal.returns-clause-sound
returns-clause-sound c = kept c

counts :
    (c : goal.After-without_receipts)
    → CountsTables c.commit-answer.result.rc c.args.self.now
    (partition c.self.inside.limit c.commit-answer.new.pool c.commit-answer.new.self
    (table_of c.commit-answer.new.current) c.self.inside.grants)
counts c =
    subst
    (λ (p : PartitionState).
    CountsTables c.commit-answer.result.rc p
    (partition c.self.inside.limit c.commit-answer.new.pool c.commit-answer.new.self
    (table_of c.commit-answer.new.current) c.self.inside.grants)) c.self.view_is
    (commit_counts c.args.flags c.args.shift c.self.inside.resize c.commit-answer.new.self
    c.self.inside.pool c.commit-answer.new.pool (table_of c.self.inside.current)
    (table_of c.commit-answer.new.current) c.commit-answer.result c.self.inside.limit
    c.self.inside.grants c.commit-answer.ensures.done)

pub returns-clause-number : goal.returns-clause-number
returns-clause-number c =
    let code = code_of c.commit-answer.result.rc c.without_receipts.result
    c.without_receipts.ensures in
    subst
    (λ (rc : Rc).
    CountsTables rc c.args.self.now
    (partition c.self.inside.limit c.commit-answer.new.pool c.commit-answer.new.self
    (table_of c.commit-answer.new.current) c.self.inside.grants)) (sym code)
    (counts c)
