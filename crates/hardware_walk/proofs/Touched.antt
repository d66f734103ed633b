-- An entry whose bits an access that it allows has set.
use Rattle.std.proofs.Common.{◌≡◌, ◌||◌, true, sym, ap, ◌∙◌}
use Rattle.entry_model.specs.State.{State, OnlyRaisesBits}
use Rattle.entry_model.specs.Reply.{reply_of}
use Rattle.entry_model.specs.Receipt.{is_at}
use Rattle.entry_model.specs.declared.operation.Op.{Op}
use Rattle.entry_model.proofs.Follows.{further_on}
use Rattle.hardware_walk.specs.Words.{Entry, Pair, stores, touched_entry}
use Rattle.hardware_walk.specs.Machine.{Place, Empty, HalfWalked, Translated}
use Rattle.hardware_walk.specs.Laws.{IsTranslation}
use Rattle.hardware_walk.proofs.Answers.{touched, at_touches, at_further}
use Rattle.hardware_walk.proofs.Kept.{Memory, Same, Inside, PlaceOk}

-- The entry with the bits of an access that it allows.
module _ (x : Entry) (p : Pair) (op : Op) (has : IsTranslation p x.published)
    (at : is_at (reply_of x.published op).0 ≡ true) where
  abbrev y : Entry
  y = touched_entry x p op

  next : y.published ≡ touched x.published op
  next = at_touches x.published op at

  pub valid_stays : y.published.valid ≡ x.published.valid
  valid_stays = ap (λ (s : State). s.valid) next

  pub memory_touched : Memory x → Memory y
  memory_touched h = record {
    dword1 = has.dword1 ∙ sym (ap (λ (s : State). s.dword1) next);
    referenced = sym (ap (λ (s : State). s.referenced) next);
    changed =
        ap (λ c. c || stores op) h.changed ∙ sym (ap (λ (s : State). s.changed) next);
  }

  pub same_touched : Same x → Same y
  same_touched h = record {
    valid = h.valid ∙ sym valid_stays;
    dword0 =
        λ v. h.dword0 (sym valid_stays ∙ v) ∙ sym (ap (λ (s : State). s.dword0) next);
    memory = λ v. memory_touched (h.memory (sym valid_stays ∙ v));
    stamp = h.stamp ∙ sym (ap (λ (s : State). s.stamp) next);
  }

  pub more_bits : OnlyRaisesBits x.published y.published
  more_bits = at_further x.published op at

  pub inside_touched : (s : State) → Inside s x → Inside s y
  inside_touched s h = record {
    shut = h.shut;
    valid = valid_stays ∙ h.valid;
    memory = memory_touched h.memory;
    read = further_on s x.published y.published h.read more_bits;
  }

  pub translation_touched : (q : Pair) → IsTranslation q x.published → IsTranslation q y.published
  translation_touched q h = record {
    valid = valid_stays ∙ h.valid;
    dword0 = h.dword0 ∙ sym (ap (λ (s : State). s.dword0) next);
    dword1 = h.dword1 ∙ sym (ap (λ (s : State). s.dword1) next);
  }

  pub place_touched : (w : Place) → PlaceOk w x → PlaceOk w y
  place_touched Empty h = tt
  place_touched (HalfWalked old word) h = record {
    valid = valid_stays ∙ h.valid;
    dword0 = h.dword0 ∙ sym (ap (λ (s : State). s.dword0) next);
    memory = memory_touched h.memory;
  }
  place_touched (Translated old q owed) h = record {
    translation = translation_touched q h.translation;
    memory = memory_touched h.memory;
    referenced = λ e. more_bits.referenced (h.referenced e);
    changed = λ e. more_bits.changed (h.changed e);
    allowed = h.allowed;
  }
