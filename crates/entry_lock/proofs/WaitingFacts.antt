-- What tries of `Waiting` leave.
use Rattle.std.proofs.Common.{◌≡◌, ℕ, zero, suc, ◌+◌, ◌*◌, ◌≤◌, List, [], ◌∷◌, ◌++◌, flat_map, sym, ap, ◌∙◌, subst, arith, append-nil}
use Rattle.entry_model.specs.declared.line.Line.{Line}
use Rattle.entry_model.specs.declared.receipt.Receipt.{Receipt}
use Rattle.entry_model.specs.Fronts.{front_at, AreBelow, KeepsFronts}
use Rattle.lock_core.specs.Machine.{shown_sightings}
use Rattle.entry_lock.specs.declared.rule.View.{View}
use Rattle.entry_lock.specs.StepViews.{raised_fronts}
use Rattle.entry_lock.specs.PassChanges.{FindsGone}
use Rattle.entry_lock.specs.WaitingStore.{MadeReceipts}
use Rattle.entry_lock.proofs.LineFronts.{raised_length}

raised_above : (f : List ℕ) (e n e' : ℕ) → front_at f e' ≤ front_at (raised_fronts f e n) e'
raised_above [] e n e' = omega arith
raised_above (x ∷ xs) zero n zero = omega arith
raised_above (x ∷ xs) zero n (suc e') = omega arith
raised_above (x ∷ xs) (suc e) n zero = omega arith
raised_above (x ∷ xs) (suc e) n (suc e') = raised_above xs e n e'

pub receipts_gone : (v w : View) (line : Line) → FindsGone v w line → MadeReceipts v w []
receipts_gone v w line l = record {
  numbers = l.numbers;
  receipts = l.receipts ∙ sym (append-nil v.actor.receipts);
  lines = l.lines ∙ sym (append-nil v.actor.lines);
  fronts =
      subst (AreBelow v.fronts) (sym l.fronts)
      (record {
        size = raised_length v.fronts line.entry ((line.stamp + 1) * 4);
        low = λ e. raised_above v.fronts line.entry ((line.stamp + 1) * 4) e;
      });
}

-- From a view with the same receipts, lines and fronts.
pub receipts_from :
    (u v w : View) (rs : List Receipt)
    → v.actor.receipts ≡ u.actor.receipts
    → v.actor.lines ≡ u.actor.lines
    → v.fronts ≡ u.fronts
    → v.numbers ≡ u.numbers
    → MadeReceipts v w rs
    → MadeReceipts u w rs
receipts_from u v w rs receipts lines fronts numbers g =
    record {
      numbers = g.numbers ∙ numbers;
      receipts = g.receipts ∙ ap (λ l. l ++ rs) receipts;
      lines = g.lines ∙ ap (λ l. l ++ flat_map shown_sightings rs) lines;
      fronts = subst (λ f. KeepsFronts f rs w.fronts) fronts g.fronts;
    }
