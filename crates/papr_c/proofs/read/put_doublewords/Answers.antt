use Rattle.std.proofs.Common.{◌≡◌, ◌<◌, ◌+◌, ◌*◌, set, length, ap, arith, ◌∙◌}
use Rattle.entry_model.specs.Reply.{words_of}
use Rattle.entry_model.specs.Run.{state_at}
use Rattle.papr_c.proofs.LentEntries.{state_read}
use Rattle.papr_c.proofs.Reading.{put_more}
use Rattle.c_layout.specs.Entries.{Entry, states_of}
use Rattle.papr_c.proofs.read.put_doublewords.Goals as goal

pub loop-i-preserved : goal.loop-i-preserved
loop-i-preserved c =
    let place = c.args.first + c.loop-i.i in
    let below : place < length (states_of c.args.entries.now) = omega
    (arith, c.loop-i-test.true, c.requires.in_table) in
    let read : c.state.result ≡ state_at (states_of c.args.entries.now) place = state_read
    c.args.entries.now place c.index-entries-first.result c.state.result below
    (c.state.ensures ∙ ap (λ (e : Entry). e.state) c.index-entries-first.is) in
    c.put_word-in-loop-i.ensures
    ∙ ap (λ z. set z (2 * c.loop-i.i + 1) c.words-dword0.result.1) c.put_word.ensures
    ∙ put_more (states_of c.args.entries.now) c.args.first c.loop-i.i c.args.slots.now
    c.loop-i.slots
    c.words-dword0.result.0 c.words-dword0.result.1 (c.words-dword0.ensures ∙ ap words_of read)
    c.loop-i.invariant
