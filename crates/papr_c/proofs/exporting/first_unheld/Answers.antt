use Rattle.std.proofs.Common.{◌≡◌, ◌+◌, sym, arith, true, false, ℕ, Bool, ap, ◌∙◌}
use Rattle.entry_model.specs.Run.{state_at}
use Rattle.papr_c.specs.Transfers.{is_unheld}
use Rattle.hpt_resize.proofs.Finds.{find_none, find_first}
use Rattle.papr_c.proofs.Transfers.{fails_more}
use Rattle.c_layout.specs.Entries.{Entry, states_of}
use Rattle.papr_c.proofs.LentEntries.{state_read}
use Rattle.papr_c.proofs.exporting.first_unheld.Goals as goal

pub returns-then-is_none : goal.returns-then-is_none
returns-then-is_none c =
    let read = state_read c.args.entries.now (c.args.first + c.loop-i.i)
    c.index-entries-first.result c.state.result (omega (arith, c.loop-i-test.true, c.requires))
    (c.state.ensures ∙ ap (λ (e : Entry). e.state) c.index-entries-first.is) in
    let p : ℕ → Bool = λ e. is_unheld c.args.layout (state_at (states_of c.args.entries.now) e) in
    let here : p (c.args.first + c.loop-i.i) ≡ true = grind
    (arith, read, c.words_in.ensures, c.is_none.ensures, c.if-is_none.true) in
    sym
    (find_first p c.args.first c.args.number c.loop-i.i c.loop-i-test.true c.loop-i.invariant
    here)

pub loop-i-preserved : goal.loop-i-preserved
loop-i-preserved c =
    let read = state_read c.args.entries.now (c.args.first + c.loop-i.i)
    c.index-entries-first.result c.state.result (omega (arith, c.loop-i-test.true, c.requires))
    (c.state.ensures ∙ ap (λ (e : Entry). e.state) c.index-entries-first.is) in
    let p :
    ℕ → Bool =
    λ k.
    is_unheld c.args.layout (state_at (states_of c.args.entries.now) (c.args.first + k))
    in
    let here : p c.loop-i.i ≡ false = grind
    (arith, read, c.words_in.ensures, c.is_none.ensures, c.if-is_none.false) in
    fails_more p c.loop-i.i c.loop-i.invariant here

pub returns : goal.returns
returns c =
    let p : ℕ → Bool = λ e. is_unheld c.args.layout (state_at (states_of c.args.entries.now) e) in
    sym
    (find_none p c.args.first c.args.number
    (λ k below. c.loop-i.invariant k (omega (arith, below, c.loop-i-test.false))))
