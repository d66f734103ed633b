use Rattle.std.proofs.Common.{set, ap, sym, ◌∙◌}
use Rattle.c_layout.specs.Entries.{states_of}
use Rattle.c_layout.proofs.Marks.{passed_none, no_entry}
use Rattle.papr_c.proofs.Changes.{unchanged}
use Rattle.papr_c.proofs.LentEntries.{states_one, passed_by, states_kept, marked_by}
use Rattle.papr_c.proofs.trying.store.Goals as goal

pub returns-then-is_change-clause-entries : goal.returns-then-is_change-clause-entries
returns-then-is_change-clause-entries c =
    let r = c.args.receipt.now in
    let es = c.args.entries.now in
    states_one es (set es r.entry c.of.result) r.entry no_entry c.args.after.now
    (ap (set es r.entry)
    (c.of.ensures
    ∙ marked_by es r c.args.after.now c.requires.in_table c.requires.before c.requires.after
    (sym c.is_change.ensures ∙ c.if-is_change.true)))
    ∙ ap (set (states_of es) r.entry) c.requires.after

pub returns-then-is_change-clause-passed : goal.returns-then-is_change-clause-passed
returns-then-is_change-clause-passed c =
    let r = c.args.receipt.now in
    let es = c.args.entries.now in
    passed_by es (set es r.entry c.of.result) r no_entry c.args.after.now c.requires.in_table
    c.requires.before c.requires.after
    (ap (set es r.entry)
    (c.of.ensures
    ∙ marked_by es r c.args.after.now c.requires.in_table c.requires.before c.requires.after
    (sym c.is_change.ensures ∙ c.if-is_change.true)))

pub returns-then-is_at-clause-entries : goal.returns-then-is_at-clause-entries
returns-then-is_at-clause-entries c =
    let r = c.args.receipt.now in
    states_one c.args.entries.now (set c.args.entries.now r.entry c.hold.new.self) r.entry
    c.index-entries-receipt.result c.args.after.now
    (ap (set c.args.entries.now r.entry) c.hold.ensures)
    ∙ ap (set (states_of c.args.entries.now) r.entry) c.requires.after

pub returns-then-is_at-clause-passed : goal.returns-then-is_at-clause-passed
returns-then-is_at-clause-passed c =
    let r = c.args.receipt.now in
    passed_by c.args.entries.now (set c.args.entries.now r.entry c.hold.new.self) r
    c.index-entries-receipt.result c.args.after.now c.requires.in_table c.requires.before
    c.requires.after
    (ap (set c.args.entries.now r.entry) c.hold.ensures)

pub returns-else-is_at-clause-entries : goal.returns-else-is_at-clause-entries
returns-else-is_at-clause-entries c =
    states_kept (states_of c.args.entries.now) c.args.receipt.now c.requires.before
    (unchanged c.args.receipt.now (sym c.is_change.ensures ∙ c.if-is_change.false)
    (sym c.is_at.ensures ∙ c.if-is_at.false))

pub returns-else-is_at-clause-passed : goal.returns-else-is_at-clause-passed
returns-else-is_at-clause-passed c = passed_none c.args.entries.now
