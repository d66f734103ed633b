use Rattle.std.proofs.Common.{◌≡◌, sym, arith, true, false, ℕ, Bool}
use Rattle.std.specs.Prelude.{is_err}
use Rattle.c_layout.specs.Grants.{listed}
use Rattle.papr_c.specs.Transfers.{entry_of_bytes}
use Rattle.papr_c.proofs.Transfers.{fails_more, first_at, none_at}
use Rattle.papr_c.proofs.importing.first_refused.Goals as goal

pub returns-then-is_err-clause-value : goal.returns-then-is_err-clause-value
returns-then-is_err-clause-value c =
    let p : ℕ → Bool = λ k. is_err
    (entry_of_bytes (listed c.args.grants.now.grants c.args.grants.now.count) c.args.layout
    c.args.bytes.now k) in
    let here : p c.loop-i.i ≡ true = grind
    (arith, c.entry_of_bytes.ensures, c.is_err.ensures.value, c.if-is_err.true) in
    sym (first_at p c.args.number c.loop-i.i c.loop-i-test.true c.loop-i.invariant here)

pub loop-i-preserved : goal.loop-i-preserved
loop-i-preserved c =
    let p : ℕ → Bool = λ k. is_err
    (entry_of_bytes (listed c.args.grants.now.grants c.args.grants.now.count) c.args.layout
    c.args.bytes.now k) in
    let here : p c.loop-i.i ≡ false = grind
    (arith, c.entry_of_bytes.ensures, c.is_err.ensures.value, c.if-is_err.false) in
    fails_more p c.loop-i.i c.loop-i.invariant here

pub returns-clause-value : goal.returns-clause-value
returns-clause-value c =
    let p : ℕ → Bool = λ k. is_err
    (entry_of_bytes (listed c.args.grants.now.grants c.args.grants.now.count) c.args.layout
    c.args.bytes.now k) in
    sym
    (none_at p c.args.number
    (λ k below. c.loop-i.invariant k (omega (arith, below, c.loop-i-test.false))))
