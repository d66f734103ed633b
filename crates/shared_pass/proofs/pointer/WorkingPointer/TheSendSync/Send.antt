-- A pointer may go to another thread, since what is boxed may.
use mir.Raw.{raw}
use base.Shift.{Keyless}
use denote.Memory.{lone}
use denote.RawPtr.{Ptr}
use denote.Struct.Struct.{exits_of}
use denote.Struct.Owning.{shape, fields, to}
use denote.Param.Send.{IsSend, AllSend, owning_send, struct_send, sendable}
use Rattle.std.specs.Prelude.{Option, Some, None}
use Rattle.std.specs.Global.{Global}
use Rattle.std.proofs.Crossing as heap
use Rattle.std_alloc.proofs.SendSync.{quiet, lies}
use Rattle.std_heap.proofs.Global.TheSendSync as handle
use Rattle.shared_pass.specs.contracts.working.Working as Working
use Rattle.shared_pass.proofs.working.Working.TheSendSync.{the_send as working}
use Rattle.shared_pass.specs.Owned.{pointer_owns}
use Rattle.shared_pass.specs.contracts.pointer.WorkingPointer.{the_row, the_type}

owned :
    (alloc : Global) (p : Ptr) (held : Option Working.the_row.Denot)
    → Keyless (pointer_owns alloc p held)
owned alloc p None = tt
owned alloc p (Some x) =
    (lies Working.the_row working p x, heap.frees.frees alloc (raw (lone Working.the_row.mir)) p)

pub send : IsSend the_row
send =
    let all : AllSend (fields the_type) = (search sendable, (handle.the_field_send, tt)) in
    owning_send the_type all (λ d. owned d.alloc d.at d.held)
    (λ k.
    quiet (to the_type) (exits_of k (fields the_type))
    ((struct_send (shape the_type) all).leaving k))
