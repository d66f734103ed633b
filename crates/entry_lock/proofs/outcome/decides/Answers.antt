use Rattle.std.proofs.Common.{◌≡◌, true, sym, ap, subst, ◌∙◌}
use Rattle.std.proofs.lemmas.Bool.{or_left, or_from, false_from_ne_true}
use Rattle.lock_core.specs.Words.{receipt, is_noted, is_still}
use Rattle.lock_core.specs.Steps.{with_noted}
use Rattle.lock_core.proofs.Noted.{noted_same}
use Rattle.entry_lock.specs.Layout.{word_of}
use Rattle.entry_lock.proofs.Bits.{same_word}
use Rattle.entry_lock.proofs.AlikeDoings.{noted_self}
use Rattle.entry_lock.proofs.outcome.decides.Goals as goal

pub returns-then-found-word_from-clause-decided : goal.returns-then-found-word_from-clause-decided
returns-then-found-word_from-clause-decided c hit k means =
    let d = c.args.doing.now in
    let word = c.word_from.ensures in
    let same : d.noted ≡ k = sym
    (same_word c.args.found k d.noted means (c.if-found-word_from.true ∙ word.value, word.low)) in (
      or_left _ _ (subst (λ z. is_noted z d.noted ≡ true) same (noted_self d.noted)),
      c.requires.outcome ∙ ap (λ z. receipt (with_noted d z)) same,
    )

pub returns-clause-missed : goal.returns-clause-missed
returns-clause-missed c differs =
    let d = c.args.doing.now in
    let value = c.word_from.ensures.value in (
      (λ q. c.if-found-word_from.false (q ∙ sym value)),
      (λ k means.
          or_from _ _
          (false_from_ne_true (is_noted k d.noted)
          (λ q.
          c.if-found-word_from.false
          (means.0 ∙ ap word_of (noted_same k d.noted q) ∙ sym value)))
          (ap (λ z. is_still z d) (sym (c.control_of-control.ensures.means k means))
          ∙ sym c.is_still.ensures ∙ c.if-is_still.false)),
    )
