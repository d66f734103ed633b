use Rattle.std.proofs.Common.{◌<◌, length, refl, sym, ◌∙◌}
use Rattle.entry_model.specs.Trial.{Call}
use Rattle.entry_model.proofs.BegunLaws.{at_has}
use Rattle.c_layout.specs.Entries.{states_of}
use Rattle.c_layout.proofs.Marks.{passed_none}
use Rattle.papr_c.proofs.trying.try_next.Goals as goal

pub returns-in_default-clause-next : goal.returns-in_default-clause-next
returns-in_default-clause-next g c = (sym c.call_at.ensures ∙ c.in_default.is, (refl, (refl, refl)))

pub make-receipt-requires : goal.make-receipt-requires
make-receipt-requires g c =
    at_has (λ (d : Call). d.entry < length (states_of c.args.entries.now)) _ c.args.made
    c.in-Some.entry
    c.in-Some.op c.requires.in_table (sym c.call_at.ensures ∙ c.in-Some.is)

pub returns-then-goes_on_after-clause-next : goal.returns-then-goes_on_after-clause-next
returns-then-goes_on_after-clause-next g c = (
  c.make-receipt.result,
  record {
    entry = c.in-Some.entry;
    op = c.in-Some.op;
    at = sym c.call_at.ensures ∙ c.in-Some.is;
    receipt = c.make-receipt.ensures.receipt;
    after = c.make-receipt.ensures.entries;
    put = c.make-receipt.ensures.receipts;
    goes_on = sym c.goes_on_after.ensures ∙ c.if-goes_on_after.true;
  },
)

pub returns-clause-next : goal.returns-clause-next
returns-clause-next g c = (
  record {
    entry = c.in-Some.entry;
    op = c.in-Some.op;
    at = sym c.call_at.ensures ∙ c.in-Some.is;
    receipt = c.make-receipt.ensures.receipt;
    after = c.make-receipt.ensures.entries;
    put = c.make-receipt.ensures.receipts;
    goes_on = sym c.goes_on_after.ensures ∙ c.if-goes_on_after.false;
  },
  refl,
)

pub returns-in_default-clause-passed : goal.returns-in_default-clause-passed
returns-in_default-clause-passed g c = passed_none c.args.entries.now
