use Rattle.std.proofs.Common.{◌≡◌, ◌++◌, [], length, take, drop, get_or, true, refl, sym, ◌∙◌, arith}
use Rattle.std.proofs.lemmas.List.{length-replicate, get_or-replicate, take_all, drop_all, append-nil}
use Rattle.entry_model.specs.State.{empty_state}
use Rattle.c_layout.specs.Entries.{Entry}
use Rattle.c_layout.proofs.Filling.{fill_more}
use Rattle.papr_c.specs.Rehash.{wiped_entries}
use Rattle.papr_c.proofs.rehashing.wipe.Goals as goal

-- An empty entry that is marked.
abbrev wiped : Entry
wiped = record { state = empty_state 0; marked = true }

pub loop-i-init : goal.loop-i-init
loop-i-init c = refl

pub loop-i-preserved : goal.loop-i-preserved
loop-i-preserved c =
    let old = c.args.entries.now in
    let same = length-replicate (length old) wiped in
    let item : c.of.result ≡ get_or (wiped_entries old) c.loop-i.i wiped =
    c.of.ensures
    ∙ (λ k. record { state = c.empty.ensures k; marked = true })
    ∙ sym (get_or-replicate (length old) c.loop-i.i wiped wiped c.loop-i-test.true) in
    fill_more (wiped_entries old) old c.loop-i.entries c.loop-i.i wiped c.of.result
    (omega (arith, same, c.loop-i-test.true)) c.loop-i-test.true c.loop-i.invariant item

pub returns : goal.returns
returns c =
    let old = c.args.entries.now in
    let same = length-replicate (length old) wiped in
    let end : c.loop-i.i ≡ length old = omega (arith, c.loop-i-test.false, c.loop-i.auto.i-end) in
    let whole : take (length old) (wiped_entries old) ≡ wiped_entries old =
    take_all (length old) (wiped_entries old) (omega (arith, same)) in
    let gone : drop (length old) old ≡ [] = drop_all (length old) old (omega arith) in
    let full : take c.loop-i.i (wiped_entries old) ++ drop c.loop-i.i old ≡ wiped_entries old =
    rw (end, whole, gone, append-nil) refl in
    c.loop-i.invariant ∙ full
