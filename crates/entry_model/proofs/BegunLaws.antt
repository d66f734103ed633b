-- Trials that are begun, receipt by receipt to their end.
use Rattle.std.proofs.Common.{◌≡◌, ℕ, zero, suc, ◌<◌, ◌≤◌, List, [], ◌∷◌, ◌++◌, Bool, true, false, Some, None, length, refl, ap, subst, arith}
use Rattle.std.specs.List.{AllByRecursion}
use Rattle.entry_model.specs.declared.operation.Answer.{Answer}
use Rattle.entry_model.specs.declared.operation.Op.{Op}
use Rattle.entry_model.specs.declared.receipt.Receipt.{Receipt}
use Rattle.entry_model.specs.Receipt.{IsReceiptOf}
use Rattle.entry_model.specs.Trial.{Call, call, IsTrial, ending_of}
use Rattle.entry_model.specs.Calls.{call_at}
use Rattle.entry_model.specs.Begun.{IsBegunTrial}

-- ---- the call after the first ones
pub at_inside : (cs : List Call) (i : ℕ) (x : ℕ × Op) → call_at cs i ≡ Some x → i < length cs
at_inside [] i x at = cc
at_inside (c ∷ cs) zero x at = omega arith
at_inside (c ∷ cs) (suc i) x at = omega (arith, at_inside cs i x at)

pub at_end : (cs : List Call) (i : ℕ) → length cs ≤ i → call_at cs i ≡ None
at_end [] i past = refl
at_end (c ∷ cs) zero past = absurd (omega (arith, past))
at_end (c ∷ cs) (suc i) past = at_end cs i (omega (arith, past))

-- What all calls have, that one has.
pub at_has :
    (P : Call → Type 0) (cs : List Call) (i entry : ℕ) (op : Op)
    → AllByRecursion P cs
    → call_at cs i ≡ Some (entry, op)
    → P (call op entry)
at_has P [] i entry op all at = cc
at_has P (c ∷ cs) zero entry op all at =
    let same : (c.entry, c.op) ≡ (entry, op) = cc in
    subst P (ap (λ (x : ℕ × Op). call x.1 x.0) same) all.0
at_has P (c ∷ cs) (suc i) entry op all at = at_has P cs i entry op all.1 at

-- ---- one more receipt
pub begun_next :
    (goes : Answer → Bool) (cs : List Call) (rs : List Receipt) (entry : ℕ) (op : Op) (r : Receipt)
    → IsBegunTrial goes cs rs
    → call_at cs (length rs) ≡ Some (entry, op)
    → IsReceiptOf entry op r
    → goes r.answer ≡ true
    → IsBegunTrial goes cs (rs ++ r ∷ [])
begun_next goes [] [] entry op r begun at of on = cc
begun_next goes [] (q ∷ qs) entry op r begun at of on = absurd begun
begun_next goes (c ∷ cs) [] entry op r begun at of on =
    let same : (entry, op) ≡ (c.entry, c.op) = cc in
    (subst (λ (x : ℕ × Op). IsReceiptOf x.0 x.1 r) same of, (on, tt))
begun_next goes (c ∷ cs) (q ∷ qs) entry op r begun at of on =
    (begun.0, (begun.1.0, begun_next goes cs qs entry op r begun.1.1 at of on))

-- A receipt after which the trial doesn't go on is its last.
pub begun_ends :
    (goes : Answer → Bool) (cs : List Call) (rs : List Receipt) (entry : ℕ) (op : Op) (r : Receipt)
    → IsBegunTrial goes cs rs
    → call_at cs (length rs) ≡ Some (entry, op)
    → IsReceiptOf entry op r
    → goes r.answer ≡ false
    → IsTrial goes cs (rs ++ r ∷ [])
begun_ends goes [] [] entry op r begun at of off = cc
begun_ends goes [] (q ∷ qs) entry op r begun at of off = absurd begun
begun_ends goes (c ∷ cs) [] entry op r begun at of off =
    let same : (entry, op) ≡ (c.entry, c.op) = cc in
    (subst (λ (x : ℕ × Op). IsReceiptOf x.0 x.1 r) same of, rw off refl)
begun_ends goes (c ∷ cs) (q ∷ qs) entry op r begun at of off =
    (begun.0, rw begun.1.0 (begun_ends goes cs qs entry op r begun.1.1 at of off))

-- ---- the end
-- After the last call it is whole.
pub begun_whole :
    (goes : Answer → Bool) (cs : List Call) (rs : List Receipt)
    → IsBegunTrial goes cs rs
    → call_at cs (length rs) ≡ None
    → IsTrial goes cs rs
begun_whole goes [] [] begun none = tt
begun_whole goes [] (q ∷ qs) begun none = absurd begun
begun_whole goes (c ∷ cs) [] begun none = cc
begun_whole goes (c ∷ cs) (q ∷ qs) begun none =
    (begun.0, rw begun.1.0 (begun_whole goes cs qs begun.1.1 none))

-- A trial that has begun has made at most as many receipts as it has calls.
pub begun_short :
    (goes : Answer → Bool) (cs : List Call) (rs : List Receipt)
    → IsBegunTrial goes cs rs
    → length rs ≤ length cs
begun_short goes cs [] begun = omega arith
begun_short goes [] (r ∷ rs) begun = absurd begun
begun_short goes (c ∷ cs) (r ∷ rs) begun = omega (arith, begun_short goes cs rs begun.1.1)

-- None of the receipts ended it.
pub begun_on :
    (goes : Answer → Bool) (cs : List Call) (rs later : List Receipt)
    → IsBegunTrial goes cs rs
    → ending_of goes (rs ++ later) ≡ ending_of goes later
begun_on goes cs [] later begun = refl
begun_on goes [] (r ∷ rs) later begun = absurd begun
begun_on goes (c ∷ cs) (r ∷ rs) later begun = rw begun.1.0 (begun_on goes cs rs later begun.1.1)
