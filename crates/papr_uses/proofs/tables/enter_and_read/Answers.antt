use Rattle.std.proofs.Common.{◌^◌, ◌<◌, ◌-◌, ◌∙◌}
use Rattle.papr_uses.proofs.Entered.{entered, read_back}
use Rattle.papr_uses.proofs.tables.enter_and_read.Goals as goal

pub returns : goal.returns
returns c =
    let made = entered c.args.table.now.states c.args.index c.args.dword0 c.args.dword1 _
    c.enter_words-entered.new.store.states c.requires.empty c.requires.fresh
    c.enter_words-entered.ensures.reply.trial c.enter_words-entered.ensures.made.run in
    let within : c.args.index < 2 ^ (c.enter_words-entered.new.store.order - 4) = rw
    c.enter_words-entered.ensures.made.order c.requires.in_table in
    let back = read_back c.enter_words-entered.new.store.order c.args.index c.args.dword0
    c.args.dword1 c.args.table.now.states c.enter_words-entered.new.store.states
    c.h_read.new.store.states c.h_read.result within c.ranges.dword1.fits made
    c.h_read.ensures.reply c.h_read.ensures.made.run in
    record {
      code = back.0;
      words = back.1;
      order = c.h_read.ensures.made.order ∙ c.enter_words-entered.ensures.made.order;
    }
