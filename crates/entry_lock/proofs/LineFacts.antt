-- What an access by a line finds.
use Rattle.std.specs.Prelude.{if◌then◌else◌}
use Rattle.std.proofs.Common.{◌≡◌, true, sym, ap, ◌∙◌, subst}
use Rattle.entry_model.specs.declared.line.Line.{Line}
use Rattle.entry_model.specs.declared.operation.Op.{Op}
use Rattle.entry_model.specs.declared.receipt.Receipt.{Receipt}
use Rattle.entry_model.specs.CachedLines.{IsCurrent}
use Rattle.lock_core.specs.declared.control.Control.{Control}
use Rattle.lock_core.specs.declared.doing.Doing.{Doing}
use Rattle.lock_core.specs.Words.{without_bits, noted_state, receipt}
use Rattle.lock_core.specs.Steps.{with_noted}
use Rattle.lock_core.proofs.Steps.{receipt_before}
use Rattle.entry_lock.specs.AccessSteps.{is_decided}
use Rattle.entry_lock.specs.LineSteps.{doing_by_line}
use Rattle.entry_lock.proofs.SecondLooks.{decided_word}

current_by :
    (line : Line) (op : Op) (k : Control)
    → k.valid ≡ true
    → k.stamp ≡ line.stamp
    → without_bits line.dword1 ≡ line.dword1
    → IsCurrent line (noted_state (doing_by_line line op k))
unfolding noted_state
current_by line op k valid stamp clear = record {
  valid = valid;
  stamp = stamp;
  dword0 = ap (λ b. if b then line.dword0 else 0) valid;
  dword1 = ap (λ b. if b then without_bits line.dword1 else 0) valid ∙ clear;
}

-- The receipt of an access by a line has the line's doublewords before.
pub current_receipt :
    (line : Line) (op : Op) (d : Doing) (r : Receipt)
    → d ≡ doing_by_line line op d.noted
    → d.noted.valid ≡ true
    → d.noted.stamp ≡ line.stamp
    → without_bits line.dword1 ≡ line.dword1
    → r ≡ receipt d
    → IsCurrent line r.before
current_receipt line op d r begun_at valid stamp clear is =
    subst (IsCurrent line)
    (sym (ap (λ (z : Receipt). z.before) is ∙ receipt_before d ∙ ap noted_state begun_at))
    (current_by line op d.noted valid stamp clear)

-- So has one by another word by which its second look decided.
pub decided_receipt :
    (line : Line) (op : Op) (d : Doing) (k : Control) (r : Receipt)
    → d ≡ doing_by_line line op d.noted
    → d.noted.valid ≡ true
    → d.noted.stamp ≡ line.stamp
    → without_bits line.dword1 ≡ line.dword1
    → is_decided k d ≡ true
    → r ≡ receipt (with_noted d k)
    → IsCurrent line r.before
decided_receipt line op d k r begun_at valid stamp clear holds is =
    let s = decided_word d k valid holds in
    current_receipt line op (with_noted d k) r (ap (λ (z : Doing). with_noted z k) begun_at) s.0
    (s.1 ∙ stamp) clear is
