-- A pointer with a value, and its parts, own what a box at the same types owns.
use mir.Syntax.{impl, tnil, dnil}
use mathlib.Core.List.{[]}
use denote.Signature.{Slot, plain}
use Rattle.std_alloc.proofs.BoxSteps.Form.{Bx}
use Rattle.std_heap.specs.contracts.Global as Heap
use Rattle.std_heap.specs.contracts.GlobalAllocator.TheImpl.{ghosts, dict}
use Rattle.std_heap.proofs.Global.TheLaws as heap
use Rattle.shared_pass.specs.contracts.working.Working as Working
use Rattle.shared_pass.proofs.working.Working.TheLaws as working
use Rattle.shared_pass.specs.contracts.parts.Parts as Parts
use Rattle.shared_pass.specs.contracts.pointer.WorkingPointer as WorkingPointer

-- The types of a box with a pass at work, in memory of the global allocator, with their laws.
abbrev pub E : Bx
E =
    record {
      row = Working.the_row;
      laws = working.the_row_laws;
      al =
          record {
            row = Heap.the_row;
            laws = heap.the_row_laws;
            g = ghosts;
            d = dict;
            drops = impl [] tnil dnil;
          };
    }

-- The parameter of a function that takes the parts of such a box.
abbrev pub FromParts : Slot 0
FromParts = plain (λ _. Parts.the_row Working.the_row Heap.the_row ghosts)

-- The parameter of one that takes a boxed pass, or nothing.
abbrev pub FromPointer : Slot 0
FromPointer = plain (λ _. WorkingPointer.the_row)

-- The parameter of one that takes the allocator.
abbrev pub FromGlobal : Slot 0
FromGlobal = plain (λ _. Heap.the_row)
