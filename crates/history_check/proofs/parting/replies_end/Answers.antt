use Rattle.std.proofs.Common.{◌≡◌, ◌≤◌, ◌-◌, ◌∙◌, List, ℕ, ap, sym, subst, length, drop, arith}
use Rattle.history_check.specs.PartedText.{behind_told, behind_lines}
use Rattle.history_check.proofs.PartedTexts.{one_behind, behind_drops}
use Rattle.history_check.proofs.parting.replies_end.Goals as goal

pub loop-preserved : goal.loop-preserved
loop-preserved c =
    c.cut_reply.ensures.behind
    ∙ ap behind_told c.loop.invariant
    ∙ sym (one_behind c.loop.counter c.args.text.now)

pub overflow_sub-result : goal.overflow_sub-result
overflow_sub-result c =
    subst (λ (z : List ℕ). length z ≤ length c.args.text.now) (sym c.loop.invariant)
    (behind_drops c.loop.counter c.args.text.now).0

pub returns-clause-behind : goal.returns-clause-behind
returns-clause-behind c =
    let all : c.loop.counter ≡ c.args.count = omega arith in
    ap (λ (z : List ℕ). drop (length c.args.text.now - length z) c.args.text.now) c.loop.invariant
    ∙ (behind_drops c.loop.counter c.args.text.now).1
    ∙ ap (λ k. behind_lines k c.args.text.now) all
