use Rattle.std.proofs.Common.{refl, inl, inr, ap, ◌∙◌}
use Rattle.lock_core.specs.declared.doing.Doing.{Doing}
use Rattle.lock_core.specs.declared.step.Step.TheVariants.{Look, Mark}
use Rattle.entry_lock.specs.Layout.{word_of}
use Rattle.entry_lock.proofs.CallStepFacts.{if_err, busy_second}
use Rattle.entry_lock.proofs.accesses.try_access.Goals as goal

pub returns-then-outcome-clause-busy : goal.returns-then-outcome-clause-busy
returns-then-outcome-clause-busy c =
    let d = c.in_ok-looked.looked in
    let same = c.load_words-doing.ensures.doing in
    let k = c.raise_bits.ensures in
    if_err c.raise_bits.result _ _
    (λ b two.
    busy_second c.args.entry c.args.op d.noted Mark b c.args.seat.now.me.0
    c.look_first.new.seat.me.0 c.load_words-doing.new.seat.me.0 c.raise_bits.new.seat.me.0
    c.requires.op c.in_ok-looked.ensures.ok.low (inr refl) (two.0 ∙ ap word_of same.noted, two.1)
    c.look_first.ensures.steps c.load_words-doing.ensures.steps k.steps) k.two_words

pub returns-else-outcome-clause-busy : goal.returns-else-outcome-clause-busy
returns-else-outcome-clause-busy c =
    let d = c.in_ok-looked.looked in
    let same = c.load_words-doing.ensures.doing in
    let begun = c.in_ok-looked.ensures.ok.begun_at in
    let k = c.decide.ensures in
    let entry = same.entry ∙ ap (λ (z : Doing). z.entry) begun in
    let op = same.op ∙ ap (λ (z : Doing). z.op) begun in
    if_err c.decide.result _ _
    (λ b two.
    busy_second c.args.entry c.args.op d.noted
    (Look c.load_words-doing.result.entry c.load_words-doing.result.op) b
    c.args.seat.now.me.0 c.look_first.new.seat.me.0 c.load_words-doing.new.seat.me.0
    c.decide.new.seat.me.0
    c.requires.op c.in_ok-looked.ensures.ok.low (inl (λ i. Look (entry i) (op i)))
    (two.0 ∙ ap word_of same.noted, two.1) c.look_first.ensures.steps
    c.load_words-doing.ensures.steps k.steps) k.two_words
