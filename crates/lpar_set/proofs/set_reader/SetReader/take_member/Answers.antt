use Rattle.std.proofs.Common.{◌≡◌, ◌∙◌, ◌<◌, false, length, subst, sym, arith}
use Rattle.trace_read.specs.Grammar.{after_text}
use Rattle.trace_read.specs.TextLines.{texts}
use Rattle.lpar_set.specs.SetGrammar.{SetReading, reading_of, after_own}
use Rattle.lpar_set.specs.SetRead.{TakesTo, is_early}
use Rattle.lpar_set.proofs.ReadLines.{member_opened, member_early}
use Rattle.lpar_set.proofs.set_reader.SetReader.take_member.Goals as goal

pub returns-then-is_early : goal.returns-then-is_early
returns-then-is_early c =
    member_early c.args.self.now c.args.number (texts c.args.words.now)
    (sym c.is_early.ensures.early ∙ c.if-is_early.true)

pub returns : goal.returns
returns c =
    let within : c.args.number < length c.args.self.now.readings = omega
    (arith, c.is_early.ensures.eight, c.requires.number) in
    let early : is_early c.args.self.now c.args.number (texts c.args.words.now) ≡ false = sym
    c.is_early.ensures.early ∙ c.if-is_early.false in
    member_opened c.args.self.now c.take_own.new.self c.args.number (texts c.args.words.now)
    c.take_own.result within early
    (subst
    (λ (r : SetReading).
    TakesTo
    (after_own r c.args.number (reading_of r c.args.number) (texts c.args.words.now)
    (after_text (record (reading_of r c.args.number) { taken = r.taken })
    (texts c.args.words.now))) c.take_own.result c.take_own.new.self)
    c.open.ensures c.take_own.ensures)
