-- Two operations that know the same words.
use Rattle.std.specs.Prelude.{is_some, if◌then◌else◌, unwrap_or}
use Rattle.std.proofs.Common.{◌≡◌, ◌==◌, ◌&&◌, ◌||◌, not, true, false, refl, ap, ◌∙◌, eq-eqb}
use Rattle.entry_model.specs.Reply.{reply_of}
use Rattle.entry_model.specs.Receipt.{receipt_of}
use Rattle.entry_model.specs.History.{state_eq}
use Rattle.basics.proofs.Bools.{bool_self}
use Rattle.lock_core.specs.declared.control.Control.{Control}
use Rattle.lock_core.specs.declared.doing.Doing.{Doing}
use Rattle.lock_core.specs.Words.{state_of, without_bits, known_words, noted_state, next_state, changes, receipt, is_noted, is_still}
use Rattle.lock_core.specs.Steps.{with_noted}
use Rattle.lock_core.proofs.Noted.{same_words}
use Rattle.entry_lock.specs.AccessSteps.{AreAlike, is_decided}

pub noted_self : (k : Control) → is_noted k k ≡ true
unfolding is_noted
noted_self k =
    λ i.
    (bool_self k.locked i && bool_self k.shut i && bool_self k.valid i) &&
    (bool_self k.referenced i && bool_self k.changed i && eq-eqb k.stamp k.stamp refl i)

module _ (a d : Doing) (al : AreAlike a d) where
  pub alike_state : noted_state d ≡ noted_state a
  unfolding noted_state
  alike_state =
      same_words d.noted (unwrap_or (known_words d) (0, 0)).0 (unwrap_or (known_words d) (0, 0)).1
      (unwrap_or (known_words a) (0, 0)).0 (unwrap_or (known_words a) (0, 0)).1 al.words
      ∙ ap
      (λ (k : Control).
      state_of k (unwrap_or (known_words a) (0, 0)).0 (unwrap_or (known_words a) (0, 0)).1)
      al.noted

  pub alike_next : next_state d ≡ next_state a
  unfolding next_state
  alike_next = λ i. (reply_of (alike_state i) (al.op i)).1

  pub alike_changes : changes d ≡ changes a
  unfolding changes
  alike_changes = λ i. not (state_eq (alike_next i) (alike_state i))

  pub alike_receipt : receipt d ≡ receipt a
  unfolding receipt
  alike_receipt = λ i. receipt_of (al.entry i) (alike_state i) (al.op i)

  alike_still : (k : Control) → is_still k d ≡ is_still k a
  unfolding is_still
  alike_still k =
      λ i.
      (not (is_some (al.first i)) && not (is_some (al.second i))) && k.valid && not k.shut &&
      (k.stamp == (al.noted i).stamp)

  pub alike_decided : (k : Control) → is_decided k d ≡ is_decided k a
  alike_decided k = λ i. is_noted k (al.noted i) || alike_still k i

  -- By another word that is valid only where the noted word is.
  later_state :
      (k : Control)
      → (k.valid ≡ true → d.noted.valid ≡ true)
      → noted_state (with_noted d k) ≡ noted_state (with_noted a k)
  unfolding noted_state
  later_state k valid =
      same_words k (unwrap_or (known_words d) (0, 0)).0 (unwrap_or (known_words d) (0, 0)).1
      (unwrap_or (known_words a) (0, 0)).0 (unwrap_or (known_words a) (0, 0)).1
      (λ v. al.words (valid v))

  pub later_receipt :
      (k : Control)
      → (k.valid ≡ true → d.noted.valid ≡ true)
      → receipt (with_noted d k) ≡ receipt (with_noted a k)
  unfolding receipt
  later_receipt k valid = λ i. receipt_of (al.entry i) (later_state k valid i) (al.op i)

-- By another control word with the same valid, stamp, R and C nothing is different.
module _ (d : Doing) (k : Control) (valid : k.valid ≡ d.noted.valid)
    (stamp : k.stamp ≡ d.noted.stamp) (referenced : k.referenced ≡ d.noted.referenced)
    (changed : k.changed ≡ d.noted.changed) where
  again_state : noted_state (with_noted d k) ≡ noted_state d
  unfolding noted_state
  again_state = λ i. record {
    valid = valid i;
    dword0 = if valid i then (unwrap_or (known_words d) (0, 0)).0 else 0;
    dword1 = if valid i then without_bits (unwrap_or (known_words d) (0, 0)).1 else 0;
    referenced = if valid i then referenced i else false;
    changed = if valid i then changed i else false;
    stamp = stamp i;
  }

  pub again_next : next_state (with_noted d k) ≡ next_state d
  unfolding next_state
  again_next = λ i. (reply_of (again_state i) d.op).1

  pub again_receipt : receipt (with_noted d k) ≡ receipt d
  unfolding receipt
  again_receipt = λ i. receipt_of d.entry (again_state i) d.op
