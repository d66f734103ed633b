-- Lists of processors after their lines.
use Rattle.std.proofs.Common.{ℕ, suc, ◌+◌, ◌<◌, List, [], ◌∷◌, length, subst, arith}
use Rattle.tlb_model.specs.Processor.{Processor}
use Rattle.std.specs.List.{AllByRecursion}
use Rattle.trace_reply.specs.Replies.{RepliedLine}
use Rattle.run_model.specs.Processors.{processor_at}
use Rattle.run_model.specs.Histories.{lines_of_processor}
use Rattle.run_model.specs.Sections.{processor_after_lines, processors_after_lines}

-- What holds of each processor after its own lines holds of all of them after the lines of all.
pub after_each :
    (P : Processor → Type 0) (first : ℕ) (ps : List Processor) (ts : List RepliedLine)
    →
    ((k : ℕ)
    → k < length ps
    → P (processor_after_lines (processor_at ps k) (lines_of_processor (first + k) ts)))
    → AllByRecursion P (processors_after_lines first ps ts)
after_each P first [] ts h = tt
after_each P first (p ∷ ps) ts h = (
  subst (λ n. P (processor_after_lines p (lines_of_processor n ts))) (omega arith)
      (h 0 (omega arith)),
  after_each P (suc first) ps ts
      (λ k low.
      subst (λ n. P (processor_after_lines (processor_at ps k) (lines_of_processor n ts)))
      (omega arith) (h (suc k) (omega arith))),
)
