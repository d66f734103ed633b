-- A partition with few entries, for worked values. Its table has the order 18, and the list has the
-- states of the first two groups: all others stay empty.
use Rattle.std.proofs.Common.{ℕ, List, [], ◌∷◌, Bool, true, None, replicate}
use Rattle.frame_grants.specs.declared.grant.Kind.TheVariants.{Ram, Io}
use Rattle.storage_prot.specs.declared.want.Want.{Want}
use Rattle.entry_model.specs.State.{State, empty_state}
use Rattle.hpt_resize.specs.TableMemory.{TableMemory}
use Rattle.tlb_model.specs.Processor.{new_processor}
use Rattle.trace_line.specs.declared.line.TraceLine.{TraceLine}
use Rattle.trace_line.specs.declared.act.Act.TheVariants.{Call, Access, SlbMte}
use Rattle.run_model.specs.Stores.{Store}

-- A table with these states, and a pool of four blocks of 2 ^ 18 bytes.
abbrev pub memory_of : List State → TableMemory
memory_of states = record {
  limit = 20;
  pool =
      record {
        base = 0x1000000000;
        order = 20;
        taken = record { place = 0x1000000000; order = 18 } ∷ [];
      };
  pending = None;
  table = record { order = 18; place = 0x1000000000; number = 0; states = states };
}

-- So many processors, 1 GB of main storage and 64 KB of a device.
abbrev pub small : ℕ → Store
small cpus = record {
  grants =
      record { logical = 0; machine = 0x2000000000; length = 0x40000000; kind = Ram }
      ∷ record { logical = 0x40000000; machine = 0x3000000000; length = 0x10000; kind = Io }
      ∷ [];
  window = None;
  memory = memory_of (replicate 16 (empty_state 0));
  processors = replicate cpus new_processor;
}

-- ---- lines of processor 0
-- Line n makes the hypervisor call of this number, which it names, with these arguments.
abbrev pub calls : ℕ → ℕ → List ℕ → TraceLine
calls n number args = record { number = n; cpu = 0; act = Call number args true }

-- Line n accesses this effective address, in problem state or not.
abbrev pub reaches : ℕ → Want → ℕ → Bool → TraceLine
reaches n want ea user = record { number = n; cpu = 0; act = Access want ea user }

-- Line n is an slbmte of these two registers.
abbrev pub mte : ℕ → ℕ → ℕ → TraceLine
mte n rb rs = record { number = n; cpu = 0; act = SlbMte rb rs }
