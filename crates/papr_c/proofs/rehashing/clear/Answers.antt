use Rattle.std.proofs.Common.{◌<◌, ◌≤◌, length, set, get_or, ap, ◌∙◌, arith}
use Rattle.entry_model.specs.State.{empty_state}
use Rattle.c_layout.specs.Entries.{Entry, entry_with}
use Rattle.papr_c.proofs.Ranges.{between, between_none, between_read, between_next, emptied_is}
use Rattle.papr_c.proofs.rehashing.clear.Goals as goal

pub loop-i-init : goal.loop-i-init
loop-i-init c =
    between_none (λ e. entry_with e (empty_state 0)) c.args.first c.args.entries.now

pub loop-i-preserved : goal.loop-i-preserved
loop-i-preserved c =
    let f = λ (e : Entry). entry_with e (empty_state 0) in
    let old = c.args.entries.now in
    let d = c.index-entries-i.result in
    let i = c.loop-i.i in
    let low : c.args.first ≤ i = omega (arith, c.loop-i.auto) in
    let below : i < length old = omega (arith, c.loop-i-test.true, c.requires.high) in
    ap (set c.loop-i.entries i)
    (c.hold.ensures
    ∙ (λ k. entry_with (get_or (c.loop-i.invariant k) i d) (c.empty.ensures k))
    ∙ ap f (between_read f c.args.first i old d low below))
    ∙ ap (λ es. set es i (f (get_or old i d))) c.loop-i.invariant
    ∙ between_next f c.args.first i old d low below

pub returns : goal.returns
returns c =
    c.loop-i.invariant
    ∙ ap
    (λ k. between (λ e. entry_with e (empty_state 0)) c.args.first k c.args.entries.now)
    (omega (arith, c.loop-i-test.false, c.loop-i.auto, c.requires.low))
    ∙ emptied_is c.args.first c.args.end c.args.entries.now
