use Rattle.std.proofs.Common.{◌≡◌, ◌+◌, ◌*◌, ◌++◌, ◌∙◌, ap, sym, arith, Some, drop, length, []}
use Rattle.std.specs.Option.{unwrap_or, option_map}
use Rattle.byteorder.specs.Endian.{big_bytes}
use Rattle.entry_model.specs.Reply.{words_of}
use Rattle.entry_model.specs.Run.{state_at}
use Rattle.table_image.specs.Layouts.{laid_out}
use Rattle.papr_c.specs.Transfers.{entry_bytes, bytes_of_entries}
use Rattle.papr_c.proofs.Transfers.{held_at, bytes-length, bytes-more, put_more}
use Rattle.c_layout.specs.Entries.{Entry, states_of}
use Rattle.papr_c.proofs.LentEntries.{state_read}
use Rattle.papr_c.proofs.exporting.put_bytes.Goals as goal

pub unwrap-dword0-requires : goal.unwrap-dword0-requires
unwrap-dword0-requires c =
    let at = c.args.first + c.loop-i.i in
    let read = state_read c.args.entries.now at c.index-entries-first.result c.state.result
    (omega (arith, c.loop-i-test.true, c.requires.in_table))
    (c.state.ensures ∙ ap (λ (e : Entry). e.state) c.index-entries-first.is) in
    let held =
    held_at c.args.layout (states_of c.args.entries.now) c.args.first c.args.number c.loop-i.i
    c.requires.held c.loop-i-test.true in
    rw (c.words_in.ensures, read) held

pub loop-i-preserved : goal.loop-i-preserved
loop-i-preserved c =
    let at = c.args.first + c.loop-i.i in
    let b = bytes_of_entries c.args.layout (states_of c.args.entries.now) c.args.first c.loop-i.i in
    let w = c.unwrap-dword0.result in
    let read = state_read c.args.entries.now at c.index-entries-first.result c.state.result
    (omega (arith, c.loop-i-test.true, c.requires.in_table))
    (c.state.ensures ∙ ap (λ (e : Entry). e.state) c.index-entries-first.is) in
    let is :
    laid_out c.args.layout (words_of (state_at (states_of c.args.entries.now) at)) ≡ Some w = ap
    (λ s. laid_out c.args.layout (words_of s)) (sym read) ∙ sym c.words_in.ensures ∙
    c.unwrap-dword0.ensures in
    let ws = big_bytes 8 w.0 ++ big_bytes 8 w.1 in
    let told :
    unwrap_or (entry_bytes c.args.layout (state_at (states_of c.args.entries.now) at)) [] ≡ ws =
    ap
    (λ o. unwrap_or (option_map (λ v. big_bytes 8 v.0 ++ big_bytes 8 v.1) o) []) is in
    let long :
    length b ≡ 16 * c.loop-i.i = bytes-length c.args.layout (states_of c.args.entries.now)
    c.args.first c.args.number c.loop-i.i c.requires.held (omega (arith, c.loop-i-test.true)) in
    put_more b c.loop-i.out c.args.out.now c.put_words.new.out ws c.loop-i.i long c.loop-i.invariant
    c.put_words.ensures
    ∙ ap (λ ys. ys ++ drop (16 * (c.loop-i.i + 1)) c.args.out.now)
    (sym
    (bytes-more c.args.layout (states_of c.args.entries.now) c.args.first c.loop-i.i
    ∙ ap (λ ys. b ++ ys) told))
