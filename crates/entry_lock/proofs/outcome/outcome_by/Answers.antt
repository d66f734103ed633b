use Rattle.std.proofs.Common.{◌≡◌, Bool, true, false, refl, sym, ◌∙◌}
use Rattle.std.proofs.lemmas.Bool.{false≢true}
use mathlib.Core.Bool.{beq}
use Rattle.entry_lock.proofs.AlikeDoings.{again_receipt, again_next}
use Rattle.entry_lock.proofs.outcome.outcome_by.Goals as goal

same_bits : (a b : Bool) → beq a b ≡ true → a ≡ b
same_bits true true h = refl
same_bits true false h = absurd (false≢true h)
same_bits false true h = absurd (false≢true h)
same_bits false false h = refl

pub returns-then-found-doing-2-clause-receipt : goal.returns-then-found-doing-2-clause-receipt
returns-then-found-doing-2-clause-receipt c =
    c.requires.receipt
    ∙ sym
    (again_receipt c.args.doing.now c.args.found c.requires.valid c.requires.stamp
    (same_bits _ _ c.if-found-doing.true) (same_bits _ _ c.if-found-doing-2.true))

pub returns-then-found-doing-2-clause-after : goal.returns-then-found-doing-2-clause-after
returns-then-found-doing-2-clause-after c =
    c.requires.after
    ∙ sym
    (again_next c.args.doing.now c.args.found c.requires.valid c.requires.stamp
    (same_bits _ _ c.if-found-doing.true) (same_bits _ _ c.if-found-doing-2.true))
