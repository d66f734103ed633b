use Rattle.std.proofs.Common.{◌≡◌, None, Ok, ap, sym, refl, ◌∙◌, take, find}
use Rattle.std.proofs.lemmas.List.{drop_all, drop_more, take_all}
use Rattle.table_image.specs.Image.{image_of, is_unheld}
use Rattle.table_image.proofs.DigitTexts.{entry_digits_ascii}
use Rattle.table_image.proofs.image.image_text.Goals as goal

pub put_line-requires : goal.put_line-requires
put_line-requires c = entry_digits_ascii c.args.layout _ c.in-Some.digits c.in-Some.ensures

pub returns-in_default-clause-refused : goal.returns-in_default-clause-refused
unfolding image_of
returns-in_default-clause-refused c =
    rw (
      c.loop-entry.invariant.held,
      drop_more c.args.table.now c.loop-entry.entry-index
          (record { index = 0; dword0 = 0; dword1 = 0 }) c.loop-entry-test.true,
      sym c.digits_of.ensures,
      c.in_default.is,
    ) refl

pub returns-clause-text : goal.returns-clause-text
unfolding image_of
returns-clause-text c =
    let table = c.args.table.now in
    let i = c.loop-entry.entry-index in
    let whole : take i table ≡ table = take_all i table c.loop-entry-test.false in
    let none : find (is_unheld c.args.layout) table ≡ None = c.loop-entry.invariant.held ∙ ap
    (find (is_unheld c.args.layout)) (drop_all i table c.loop-entry-test.false) in
    rw none (ap Ok (sym (rw whole at c.loop-entry.invariant.told)))
