-- A processor of a section may go to another thread where its log may.
use Rattle.std.proofs.Common.{rules}
use denote.RattleType.{RattleType}
use denote.Param.Send.{IsSend, sendable}
use denote.Builtin.{usize}
use denote.Param.SendFields.{declared_send, as_row_send}
use Rattle.std.proofs.Crossing.{crosses}
use Rattle.vcpu.proofs.cpu.Cpu.TheSendSync as cpu
use Rattle.entry_lock.proofs.table.Pass.TheSendSync as pass
use Rattle.std.specs.contracts.option.Option as option
use Rattle.std.specs.contracts.vec.Vec as vec
use Rattle.std.specs.contracts.alloc.Global as global
use Rattle.std.specs.contracts.impls.GlobalAllocator.TheImpl.{ghosts}
use Rattle.entry_lock.specs.contracts.table.Pass as pass_of
use Rattle.trace_runner.specs.contracts.worker.Worker as worker

pub worker_send : (L : RattleType) → IsSend L → IsSend (worker.the_row L)
worker_send L log =
    declared_send (worker.the_type L) (
      search (sendable, cpu.the_send),
      (
        search rules,
        (
          as_row_send (option.the_field pass_of.the_row)
              (search (sendable, crosses, pass.the_field_send) depth 9),
          (
            as_row_send (vec.the_field usize global.the_row ghosts)
                (search (sendable, crosses) depth 9),
            (search sendable depth 9, tt),
          ),
        ),
      ),
    )
