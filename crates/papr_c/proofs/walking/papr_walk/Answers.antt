use Rattle.std.proofs.Common.{◌≡◌, Some, None, rules, arith, ap, sym, subst, ◌∙◌}
use Rattle.entry_model.specs.State.{State}
use Rattle.entry_model.specs.Receipt.{after_of, is_no_match}
use Rattle.hpt_walk.specs.PageCalls.{calls_of}
use Rattle.c_layout.specs.WalkEnds.{end_at}
use Rattle.papr_c.proofs.EndedTrials.{IsLeft, ended_left}
use Rattle.papr_c.proofs.LentEntries.{state_read}
use Rattle.papr_c.proofs.Outcomes.{calls_inside, walk_is}
use Rattle.c_layout.proofs.Marks.{states-length, passed_marked}
use Rattle.c_layout.specs.Entries.{states_of}
use Rattle.papr_c.proofs.walking.papr_walk.Goals as goal

pub try_by_groups-tried-requires-clause-in_table : goal.try_by_groups-tried-requires-clause-in_table
try_by_groups-tried-requires-clause-in_table c =
    calls_inside c.args.order (states_of c.args.entries.now) _ (search rules)
    c.of-calls.ensures.fits

pub try_by_groups-tried-requires-clause-few : goal.try_by_groups-tried-requires-clause-few
try_by_groups-tried-requires-clause-few c = c.of-calls.ensures.fits.few

-- The entry that was found is in the table, and as the walk left it.
left : (c : goal.In-Some) → IsLeft (states_of c.try_by_groups-tried.new.entries) c.in-Some.receipt
left c =
    subst (λ b. IsLeft b c.in-Some.receipt) (sym c.try_by_groups-tried.ensures.entries)
    (ended_left is_no_match (states_of c.args.entries.now) (calls_of c.of-calls.result)
    c.in-Some.receipt
    (calls_inside c.args.order (states_of c.args.entries.now) _ (search rules)
    c.of-calls.ensures.fits)
    (sym c.in-Some.is ∙ c.try_by_groups-tried.ensures.ending))

pub bounds-entries-receipt : goal.bounds-entries-receipt
bounds-entries-receipt c =
    rw c.in-Some.receipt-is
    (omega (arith, (left c).inside, states-length c.try_by_groups-tried.new.entries))

pub returns-in-None-clause-told : goal.returns-in-None-clause-told
returns-in-None-clause-told c =
    walk_is c.args.order c.args.access.now c.in-Some-Some.page c.in-Some-Some.want _ _ None
    c.filled_count-filled.result c.no_entry.result c.try_by_groups-tried.new.receipts
    (states_of c.try_by_groups-tried.new.entries)
    (search rules)
    (search rules)
    (search rules)
    (rw c.masks-masks.ensures at c.of-calls.ensures.calls)
    (sym c.in-None.is ∙ c.try_by_groups-tried.ensures.ending)
    (rw (c.try_by_groups-tried.auto.receipts, c.try_by_groups-tried.ensures.count) at
    c.filled_count-filled.ensures)
    c.no_entry.ensures
    c.try_by_groups-tried.ensures.receipts
    c.try_by_groups-tried.ensures.entries

pub returns-in-Some-clause-told : goal.returns-in-Some-clause-told
returns-in-Some-clause-told c =
    let a = states_of c.try_by_groups-tried.new.entries in
    let r = c.in-Some.receipt in
    let is : IsLeft a r =
    subst (λ b. IsLeft b r) (sym c.try_by_groups-tried.ensures.entries)
    (ended_left is_no_match (states_of c.args.entries.now) (calls_of c.of-calls.result) r
    (calls_inside c.args.order (states_of c.args.entries.now) _ (search rules)
    c.of-calls.ensures.fits)
    (sym c.in-Some.is ∙ c.try_by_groups-tried.ensures.ending)) in
    let now : c.state-now.result ≡ after_of r =
    state_read c.try_by_groups-tried.new.entries r.entry c.index-entries-receipt.result
    c.state-now.result is.inside (rw c.in-Some.receipt-is at c.state-now.ensures)
    ∙ is.state in
    walk_is c.args.order c.args.access.now c.in-Some-Some.page c.in-Some-Some.want _ _ (Some r)
    c.filled_count-filled.result c.end.result c.try_by_groups-tried.new.receipts a
    (search rules)
    (search rules)
    (search rules)
    (rw c.masks-masks.ensures at c.of-calls.ensures.calls)
    (sym c.in-Some.is ∙ c.try_by_groups-tried.ensures.ending)
    (rw (c.try_by_groups-tried.auto.receipts, c.try_by_groups-tried.ensures.count) at
    c.filled_count-filled.ensures)
    ((rw c.in-Some.receipt-is at c.end.ensures)
    ∙ ap
    (λ (s : State).
    end_at c.args.access.now c.in-Some-Some.want r s c.filled_count-filled.result) now)
    c.try_by_groups-tried.ensures.receipts
    c.try_by_groups-tried.ensures.entries

pub returns-in-Some-clause-marks : goal.returns-in-Some-clause-marks
returns-in-Some-clause-marks c =
    passed_marked c.args.entries.now c.try_by_groups-tried.new.entries
    c.try_by_groups-tried.ensures.passed

pub returns-in-None-clause-marks : goal.returns-in-None-clause-marks
returns-in-None-clause-marks c =
    passed_marked c.args.entries.now c.try_by_groups-tried.new.entries
    c.try_by_groups-tried.ensures.passed
