-- What the pointer in a pass of C owns: the box of a pass at work, or nothing.
use base.Fml.{Fml, ftrue}
use base.Stored.{Coded}
use denote.RawPtr.{Ptr}
use Rattle.std.specs.Prelude.{Option, Some, None}
use Rattle.std.specs.Box.Ownership.{box_owns}
use Rattle.std.specs.Global.{Global}
use Rattle.std_heap.specs.contracts.GlobalAllocator.TheImpl.{ghosts}
use Rattle.core.specs.contracts.option.Option as option
use Rattle.shared_pass.specs.contracts.working.Working.{the_row}

-- What a pointer owns: the box at its pointer, or nothing.
abbrev pub pointer_owns : Global → Ptr → Option the_row.Denot → Fml
pointer_owns alloc p None = ftrue
pointer_owns alloc p (Some x) = box_owns (ghosts.dealloc_token alloc) the_row p x

-- How a pointer's value is laid out in memory.
abbrev pub held_coded : Coded (Option the_row.Denot)
held_coded = (option.the_row the_row).coded
