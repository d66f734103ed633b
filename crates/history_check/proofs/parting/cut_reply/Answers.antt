use Rattle.std.proofs.Common.{◌∙◌, sym, length, arith}
use Rattle.std.proofs.lemmas.List.{drop_all, take_all}
use Rattle.history_check.proofs.PartedTexts.{first_none, cut_here}
use Rattle.history_check.proofs.parting.cut_reply.Goals as goal

pub returns-in-None-clause-first : goal.returns-in-None-clause-first
returns-in-None-clause-first c =
    c.split_at.ensures.front
    ∙ take_all (length c.args.text.now) c.args.text.now (omega arith)
    ∙ sym (first_none c.args.text.now c.in-None.ensures.none).0

pub returns-in-None-clause-behind : goal.returns-in-None-clause-behind
returns-in-None-clause-behind c =
    c.split_at.ensures.back
    ∙ drop_all (length c.args.text.now) c.args.text.now (omega arith)
    ∙ sym (first_none c.args.text.now c.in-None.ensures.none).1

pub returns-in-Some-clause-first : goal.returns-in-Some-clause-first
returns-in-Some-clause-first c =
    c.split_at-in-Some.ensures.front
    ∙
    (cut_here c.in-Some.own.now c.in-Some.field-0-1.now c.args.text.now c.in-Some.ensures.lacks
    c.in-Some.ensures.parts).0

pub returns-in-Some-clause-behind : goal.returns-in-Some-clause-behind
returns-in-Some-clause-behind c =
    c.split_at-in-Some.ensures.back
    ∙
    (cut_here c.in-Some.own.now c.in-Some.field-0-1.now c.args.text.now c.in-Some.ensures.lacks
    c.in-Some.ensures.parts).1
