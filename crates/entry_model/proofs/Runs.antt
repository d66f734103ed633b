-- Runs, one after the other.
use Rattle.std.specs.Prelude.{◌≡◌, List, [], ◌∷◌, ◌++◌, length}
use Rattle.std.proofs.Common.{subst, ◌∙◌, ap, length-set}
use Rattle.entry_model.specs.State.{State}
use Rattle.entry_model.specs.declared.receipt.Receipt.{Receipt}
use Rattle.entry_model.specs.Receipt.{after_of}
use Rattle.entry_model.specs.Run.{IsRun}

-- Two runs, one after the other, are one.
pub run_more :
    (a b c : List State) (xs ys : List Receipt) → IsRun a xs b → IsRun b ys c → IsRun a (xs ++ ys) c
run_more a b c [] ys ab bc = subst (λ s. IsRun s ys c) ab bc
run_more a b c (x ∷ xs) ys ab bc = (ab.0, ab.1, run_more ab.0 b c xs ys ab.2 bc)

-- A run neither makes nor drops entries.
pub run-length : (a b : List State) (xs : List Receipt) → IsRun a xs b → length b ≡ length a
run-length a b [] ab = ap length ab
run-length a b (x ∷ xs) ab =
    run-length ab.0 b xs ab.2 ∙ ap length ab.1.after ∙ length-set a x.entry (after_of x)
