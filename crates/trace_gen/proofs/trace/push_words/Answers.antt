use Rattle.std.proofs.Common.{◌≡◌, ℕ, suc, ◌+◌, ◌-◌, ◌++◌, arith, subst, ap, ◌∙◌}
use Rattle.trace_gen.specs.Generated.{lines_from, words_of_seed, line_of}
use Rattle.trace_gen.proofs.Drawing.{IsDrawn, none_drawn, one_more, all_drawn}
use Rattle.trace_gen.proofs.trace.push_words.Goals as goal

pub loop-drawn-init : goal.loop-drawn-init
loop-drawn-init c =
    let left : c.args.lines ≡ c.args.lines - 0 = omega arith in
    subst
    (λ (n : ℕ).
    IsDrawn c.seed_from_u64-words.result c.args.list.now 5 n
    (c.args.list.now ++ lines_from 5 (words_of_seed c.args.seed c.args.lines))) left
    (none_drawn c.seed_from_u64-words.result c.args.list.now c.args.seed c.args.lines
    c.seed_from_u64-words.ensures)

pub loop-drawn-preserved : goal.loop-drawn-preserved
loop-drawn-preserved c =
    let whole = c.args.list.now ++ lines_from 5 (words_of_seed c.args.seed c.args.lines) in
    let left : c.args.lines - c.loop-drawn.drawn ≡ suc (c.args.lines - (c.loop-drawn.drawn + 1)) =
    omega (arith, c.loop-drawn-test.true) in
    let number : 5 + c.loop-drawn.drawn + 1 ≡ 5 + (c.loop-drawn.drawn + 1) = omega arith in
    let same : 4 + 1 + c.loop-drawn.drawn ≡ 5 + c.loop-drawn.drawn = omega arith in
    subst
    (λ (n : ℕ).
    IsDrawn c.next_u64.new.self c.push.new.self n (c.args.lines - (c.loop-drawn.drawn + 1))
    whole) number
    (one_more c.loop-drawn.words c.next_u64.new.self c.loop-drawn.list c.push.new.self
    (5 + c.loop-drawn.drawn) (c.args.lines - c.loop-drawn.drawn)
    (c.args.lines - (c.loop-drawn.drawn + 1)) c.next_u64.result c.line.result whole
    c.loop-drawn.invariant left c.next_u64.ensures
    (c.line.ensures ∙ ap (λ n. line_of n c.next_u64.result) same) c.in_ok-push.ensures.ok)

pub returns : goal.returns
returns c =
    all_drawn c.loop-drawn.words c.loop-drawn.list (5 + c.loop-drawn.drawn)
    (c.args.lines - c.loop-drawn.drawn) _ c.loop-drawn.invariant
    (omega (arith, c.loop-drawn-test.false, c.loop-drawn.auto.drawn-end))
