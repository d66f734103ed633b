use Rattle.std.proofs.Common.{◌^◌, ◌<◌, ◌-◌, arith, ◌∙◌}
use Rattle.papr_uses.proofs.Entered.{entered, removed}
use Rattle.papr_uses.proofs.tables.enter_and_remove.Goals as goal

pub returns : goal.returns
returns c =
    let made = entered c.args.table.now.states c.args.index c.args.dword0 c.args.dword1 _
    c.enter_words-entered.new.store.states c.requires.empty
    (let low = c.requires.fresh in omega arith) c.enter_words-entered.ensures.reply.trial
    c.enter_words-entered.ensures.made.run in
    let within : c.args.index < 2 ^ (c.enter_words-entered.new.store.order - 4) = rw
    c.enter_words-entered.ensures.made.order c.requires.in_table in
    let gone = removed c.enter_words-entered.new.store.order c.args.index c.args.dword0
    c.args.dword1 c.args.table.now.states c.enter_words-entered.new.store.states
    c.h_remove.new.store.states c.h_remove.result within c.ranges.dword1.fits c.requires.fresh
    made c.h_remove.ensures.reply c.h_remove.ensures.made.run in
    record {
      code = gone.code;
      words = gone.words;
      order = c.h_remove.ensures.made.order ∙ c.enter_words-entered.ensures.made.order;
      again = gone.again;
    }
