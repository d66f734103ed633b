use Rattle.std.proofs.Common.{◌≡◌, sym, ap, ◌∙◌}
use Rattle.papr_codes.specs.declared.codes.Rc.{Rc}
use Rattle.hpt_resize.specs.Resize.{table_of}
use Rattle.hpt_resize.specs.TableMemory.{TableMemory, prepare_result}
use Rattle.partition.specs.PartitionState.{PartitionState, IsPartition, with_memory, reply_of_code}
use Rattle.partition.proofs.Resizing.{reply_alone, prepare_kept, prepare_is, partition, answer_at}
use Rattle.partition.proofs.partition_state.Partition.prepare.Goals as goal

kept :
    (c : goal.After-without_receipts)
    → IsPartition
    (partition c.self.inside.limit c.prepare.new.pool c.prepare.new.self
    (table_of c.self.inside.current) c.self.inside.grants)
kept c =
    prepare_kept c.self.inside.limit c.args.flags c.args.shift c.self.inside.resize
    c.prepare.new.self c.self.inside.pool c.prepare.new.pool (table_of c.self.inside.current)
    c.self.inside.grants c.in_ok-rc.rc c.self.invariant c.in_ok-rc.ensures.ok
    c.in_ok-rc.ensures.held c.in_ok-rc.ensures.kept

after :
    (c : goal.After-without_receipts)
    → prepare_result c.args.self.now.memory c.args.flags c.args.shift
    ≡ answer_at c.in_ok-rc.rc
    (record {
      limit = c.self.inside.limit;
      pool = c.prepare.new.pool;
      pending = c.prepare.new.self;
      table = table_of c.self.inside.current;
    })
after c =
    ap (λ (p : PartitionState). prepare_result p.memory c.args.flags c.args.shift)
    (sym c.self.view_is)
    ∙ prepare_is c.self.inside.limit c.args.flags c.args.shift c.self.inside.resize
    c.prepare.new.self c.self.inside.pool c.prepare.new.pool (table_of c.self.inside.current)
    c.in_ok-rc.rc c.in_ok-rc.ensures.ok

pub invariant_of-self-2 : goal.invariant_of-self-2
invariant_of-self-2 c = kept c

pub returns-clause-reply : goal.returns-clause-reply
returns-clause-reply c =
    reply_alone c.in_ok-rc.rc c.without_receipts.result c.without_receipts.ensures
    ∙ ap reply_of_code (sym (ap (λ (a : Rc × TableMemory). a.0) (after c)))

pub returns-clause-after : goal.returns-clause-after
returns-clause-after c =
    ap
    (λ (p : PartitionState).
    with_memory p
    (record {
      limit = c.self.inside.limit;
      pool = c.prepare.new.pool;
      pending = c.prepare.new.self;
      table = table_of c.self.inside.current;
    })) c.self.view_is
    ∙ ap (with_memory c.args.self.now) (sym (ap (λ (a : Rc × TableMemory). a.1) (after c)))

pub returns-clause-sound : goal.returns-clause-sound
returns-clause-sound c = kept c
