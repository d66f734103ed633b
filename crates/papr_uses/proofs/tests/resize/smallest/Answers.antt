use Rattle.std.proofs.Common.{◌≡◌, ℕ, Result, Ok, Err, IfOk, refl}
use Rattle.hpt_resize.specs.TableMemory.{opening_memory}
use Rattle.partition.specs.PartitionState.{PartitionState, opening_partition}
use Rattle.papr_uses.proofs.tests.resize.smallest.Goals as goal

-- A number of a partition, where one was opened.
opened :
    {E : Type 0} (known : PartitionState) (n : ℕ) (of : PartitionState → ℕ)
    (result : Result PartitionState E)
    → IfOk result (λ p. p ≡ known)
    → of known ≡ n
    → IfOk result (λ p. of p ≡ n)
opened known n of (Ok p) there is = rw there is
opened known n of (Err e) there is = tt

pub returns-clause-order : goal.returns-clause-order
unfolding opening_partition opening_memory
returns-clause-order c =
    opened _ 18 (λ (p : PartitionState). p.memory.table.order) c.open.result c.open.ensures.ok refl

pub returns-clause-first : goal.returns-clause-first
unfolding opening_partition opening_memory
returns-clause-first c =
    opened _ 0 (λ (p : PartitionState). p.memory.table.number) c.open.result c.open.ensures.ok refl
