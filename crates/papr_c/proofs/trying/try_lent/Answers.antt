use Rattle.std.specs.List.{AllByRecursion}
use Rattle.std.proofs.Common.{◌≡◌, ◌<◌, ◌≤◌, length, [], arith, sym, subst, ◌∙◌}
use Rattle.entry_model.specs.Trial.{Call}
use Rattle.papr_c.specs.Tried.{IsTriedNext}
use Rattle.papr_c.proofs.SoFar.{starts, so_far_next, told_last, past_last}
use Rattle.c_layout.proofs.Marks.{passed_none, passed_both}
use Rattle.papr_c.proofs.trying.try_lent.Goals as goal

pub loop-made-init : goal.loop-made-init
loop-made-init g c =
    record { so_far = ([], starts _ _ _ _); passed = passed_none c.args.entries.now }

-- ---- one call more
pub try_next-requires-clause-in_table : goal.try_next-requires-clause-in_table
try_next-requires-clause-in_table g c =
    subst (λ n. AllByRecursion (λ (d : Call). d.entry < n) (g.C.CallList.calls c.args.calls.now))
    (sym c.loop-made.invariant.so_far.1.same) c.requires.in_table

pub try_next-requires-clause-near : goal.try_next-requires-clause-near
try_next-requires-clause-near g c = c.loop-made.invariant.so_far.1.inside

pub returns-in-Some-clause-entries : goal.returns-in-Some-clause-entries
returns-in-Some-clause-entries g c =
    (told_last _ _ _ _ _ _ _ _ c.in-Some.ensures.next c.loop-made.invariant.so_far).entries

pub returns-in-Some-clause-receipts : goal.returns-in-Some-clause-receipts
returns-in-Some-clause-receipts g c =
    (told_last _ _ _ _ _ _ _ _ c.in-Some.ensures.next c.loop-made.invariant.so_far).receipts

pub returns-in-Some-clause-count : goal.returns-in-Some-clause-count
returns-in-Some-clause-count g c =
    (told_last _ _ _ _ _ _ _ _ c.in-Some.ensures.next c.loop-made.invariant.so_far).counted

pub returns-in-Some-clause-ending : goal.returns-in-Some-clause-ending
returns-in-Some-clause-ending g c =
    (told_last _ _ _ _ _ _ _ _ c.in-Some.ensures.next c.loop-made.invariant.so_far).ending

pub loop-made-preserved : goal.loop-made-preserved
loop-made-preserved g c =
    record {
      so_far =
          so_far_next _ _ _ _ _ _
          (subst (IsTriedNext _ _ _ _) c.in_default.is c.try_next.ensures.next)
          c.loop-made.invariant.so_far;
      passed =
          passed_both c.args.entries.now c.loop-made.entries c.try_next.new.entries
          c.loop-made.invariant.passed c.try_next.ensures.passed;
    }

-- ---- after the last call
pub returns-clause-entries : goal.returns-clause-entries
returns-clause-entries g c =
    let past : length (g.C.CallList.calls c.args.calls.now) ≤ c.loop-made.made = omega
    (arith, c.requires.few) in
    (past_last _ _ _ _ _ _ _ _ past c.loop-made.invariant.so_far.1).entries

pub returns-clause-receipts : goal.returns-clause-receipts
returns-clause-receipts g c =
    let past : length (g.C.CallList.calls c.args.calls.now) ≤ c.loop-made.made = omega
    (arith, c.requires.few) in
    (past_last _ _ _ _ _ _ _ _ past c.loop-made.invariant.so_far.1).receipts

pub returns-clause-count : goal.returns-clause-count
returns-clause-count g c =
    let past : length (g.C.CallList.calls c.args.calls.now) ≤ c.loop-made.made = omega
    (arith, c.requires.few) in
    let all : 16 ≡ c.loop-made.made = omega arith in
    all
    ∙
    (past_last _ _ _ _ _ _ _ _ past c.loop-made.invariant.so_far.1).counted

pub returns-clause-ending : goal.returns-clause-ending
returns-clause-ending g c =
    let past : length (g.C.CallList.calls c.args.calls.now) ≤ c.loop-made.made = omega
    (arith, c.requires.few) in
    (past_last _ _ _ _ _ _ _ _ past c.loop-made.invariant.so_far.1).ending

pub returns-in-Some-clause-passed : goal.returns-in-Some-clause-passed
returns-in-Some-clause-passed g c =
    passed_both c.args.entries.now c.loop-made.entries c.try_next.new.entries
    c.loop-made.invariant.passed c.try_next.ensures.passed
