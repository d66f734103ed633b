-- A receipt is known by its entry, its state before and its operation.
use Rattle.std.proofs.Common.{◌≡◌, ℕ, sym, ap, ◌∙◌}
use Rattle.std.proofs.Math.Path.{Cosingl, contract'}
use Rattle.entry_model.specs.State.{State}
use Rattle.entry_model.specs.declared.receipt.Receipt.{Receipt}
use Rattle.entry_model.specs.declared.operation.Op.{Op}
use Rattle.entry_model.specs.Reply.{reply_of}
use Rattle.entry_model.specs.Receipt.{receipt_of}

pub exact : (r : Receipt) → r ≡ receipt_of r.entry r.before r.op
exact r =
    let f : Cosingl (reply_of r.before r.op).0 → Receipt = λ z. record {
      entry = r.entry;
      before = r.before;
      op = r.op;
      answer = z.0;
      lawful = z.1;
    } in
    sym (ap f (contract' r.lawful))

-- a receipt with these parts is that receipt
pub same :
    (r : Receipt) (e : ℕ) (s : State) (op : Op)
    → r.entry ≡ e
    → r.before ≡ s
    → r.op ≡ op
    → r ≡ receipt_of e s op
same r e s op a b c = exact r ∙ (λ k. receipt_of (a k) (b k) (c k))
