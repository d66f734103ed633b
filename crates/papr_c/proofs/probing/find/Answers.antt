use Rattle.std.proofs.Common.{◌≡◌, ◌<◌, ◌≤◌, length, true, false, arith, refl, ap, sym, ◌∙◌}
use Rattle.entry_model.specs.Receipt.{receipt_of, is_no_match}
use Rattle.entry_model.specs.Trial.{Call, call, receipt_at}
use Rattle.entry_model.proofs.BegunLaws.{at_end, at_has, at_inside}
use Rattle.hpt_walk.specs.PageCalls.{calls_of}
use Rattle.papr_c.proofs.LentEntries.{state_read}
use Rattle.papr_c.proofs.FoundAsIs.{asked_on, asked_off, asked_none}
use Rattle.c_layout.specs.Entries.{Entry, states_of}
use Rattle.papr_c.proofs.probing.find.Goals as goal

pub loop-made-init : goal.loop-made-init
loop-made-init c = record { inside = omega arith; none = refl }

pub call_at-requires : goal.call_at-requires
call_at-requires c = c.loop-made.invariant.inside

pub returns-in_default : goal.returns-in_default
returns-in_default c =
    sym
    (c.loop-made.invariant.none
    ∙ asked_none (calls_of c.args.calls.now) c.loop-made.made (states_of c.args.entries.now)
    (sym c.call_at.ensures ∙ c.in_default.is))

pub returns-then-not-goes_on_after : goal.returns-then-not-goes_on_after
returns-then-not-goes_on_after c =
    let a = states_of c.args.entries.now in
    let e = c.in-Some.entry in
    let r = c.asked-receipt.result.0 in
    let inside : e < length a = at_has (λ (d : Call). d.entry < length a)
    (calls_of c.args.calls.now) c.loop-made.made e c.in-Some.op c.requires.in_table
    (sym c.call_at.ensures ∙ c.in-Some.is) in
    let is : r ≡ receipt_at a (call c.in-Some.op e) =
    c.asked-receipt.ensures.receipt
    ∙ ap (λ s. receipt_of e s c.in-Some.op)
    (state_read c.args.entries.now e c.index-entries-entry.result c.state-before.result inside
    (c.state-before.ensures ∙ ap (λ (x : Entry). x.state) c.index-entries-entry.is)) in
    let off : is_no_match r.answer ≡ false = let x = c.if-not-goes_on_after.ensures in
    let y = c.goes_on_after.ensures in
    cc in
    sym
    (c.loop-made.invariant.none
    ∙ asked_off (calls_of c.args.calls.now) c.loop-made.made e c.in-Some.op a r
    (sym c.call_at.ensures ∙ c.in-Some.is) is off)

pub loop-made-preserved : goal.loop-made-preserved
loop-made-preserved c =
    let a = states_of c.args.entries.now in
    let e = c.in-Some.entry in
    let r = c.asked-receipt.result.0 in
    let at = sym c.call_at.ensures ∙ c.in-Some.is in
    let inside : e < length a = at_has (λ (d : Call). d.entry < length a)
    (calls_of c.args.calls.now) c.loop-made.made e c.in-Some.op c.requires.in_table at in
    let is : r ≡ receipt_at a (call c.in-Some.op e) =
    c.asked-receipt.ensures.receipt
    ∙ ap (λ s. receipt_of e s c.in-Some.op)
    (state_read c.args.entries.now e c.index-entries-entry.result c.state-before.result inside
    (c.state-before.ensures ∙ ap (λ (x : Entry). x.state) c.index-entries-entry.is)) in
    let on : is_no_match r.answer ≡ true = let x = c.if-not-goes_on_after.ensures in
    let y = c.goes_on_after.ensures in
    cc in
    record {
      inside =
          omega
          (arith, at_inside (calls_of c.args.calls.now) c.loop-made.made (e, c.in-Some.op) at);
      none =
          c.loop-made.invariant.none
          ∙ asked_on (calls_of c.args.calls.now) c.loop-made.made e c.in-Some.op a r at is on;
    }

pub returns : goal.returns
returns c =
    let past : length (calls_of c.args.calls.now) ≤ c.loop-made.made = omega (arith, c.requires.few)
    in
    sym
    (c.loop-made.invariant.none
    ∙ asked_none (calls_of c.args.calls.now) c.loop-made.made (states_of c.args.entries.now)
    (at_end (calls_of c.args.calls.now) c.loop-made.made past))
