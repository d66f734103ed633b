use Rattle.std.proofs.Common.{◌≡◌, ℕ, ◌<◌, List, length, sym, ap, ◌∙◌, subst, arith}
use Rattle.atomic_table.specs.Table.{Me}
use Rattle.entry_model.specs.State.{State}
use Rattle.lock_core.specs.Words.{state_of}
use Rattle.entry_lock.specs.declared.rule.View.{View}
use Rattle.entry_lock.specs.Layout.{control_of_word}
use Rattle.entry_lock.specs.Resting.{IsClosingWord, Rests}
use Rattle.entry_lock.proofs.StatesAtRest.{words_rest}
use Rattle.entry_lock.proofs.table.LockTable.state_at_rest.Goals as goal

pub returns-clause-rests : goal.returns-clause-rests
returns-clause-rests c =
    let m = c.args.pass.now.seat.me in
    let k = c.args.self.now.lists in
    let opened = c.requires.table.2 in
    let inside : c.args.entry < length m.0.opening = omega (
      arith,
      c.requires.in_table,
      c.args.self.now.sized.size,
      ap length k.opening_is,
      ap length opened,
    ) in
    let one : c.load_at_rest-control.new.seat.me ≡ m = c.load_at_rest-control.ensures.same in
    let two : c.load_at_rest-first.new.seat.me ≡ m = c.load_at_rest-first.ensures.same ∙ one in
    let first = subst
    (λ (z : Me ℕ View × ℕ). IsClosingWord z.0.0.opening z.0.0 z.1 c.load_at_rest-first.result)
    (λ i. (one i, c.data_index.ensures i)) c.load_at_rest-first.ensures.closes in
    let second = subst
    (λ (z : Me ℕ View × ℕ). IsClosingWord z.0.0.opening z.0.0 z.1 c.load_at_rest-second.result)
    (λ i. (two i, c.data_index-2.ensures i)) c.load_at_rest-second.ensures.closes in
    let made : c.state_of.result
    ≡ state_of (control_of_word c.load_at_rest-control.result) c.load_at_rest-first.result
    c.load_at_rest-second.result = c.state_of.ensures
    ∙ ap (λ z. state_of z c.load_at_rest-first.result c.load_at_rest-second.result)
    c.control_of.ensures.exact in
    subst (λ (z : List State × State). Rests z.0 m.0 c.args.entry z.1)
    (λ i. (opened i, sym made i))
    (words_rest m.0.opening m.0 c.args.entry c.load_at_rest-control.result
    c.load_at_rest-first.result c.load_at_rest-second.result inside
    c.load_at_rest-control.ensures.closes first second)
