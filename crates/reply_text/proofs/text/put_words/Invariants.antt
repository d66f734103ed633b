use Rattle.std.proofs.Common.{◌≡◌, ◌+◌, ◌*◌, ◌≤◌, ◌++◌, take, string_bytes, string_len, string_capacity}
use Rattle.std.specs.List.{flat_map}
use Rattle.reply_text.specs.Text.{word_text}
use Rattle.reply_text.proofs.text.put_words.Given as goal

abbrev pub invariant-loop-word : goal.invariant-loop-word
invariant-loop-word l = record {
  told :
      string_bytes l.out
      ≡ string_bytes l.initial.out ++ flat_map word_text (take l.word-index l.words);
  short : string_len l.out ≤ string_len l.initial.out + 19 * l.word-index;
  capacity : string_capacity l.initial.out ≤ string_capacity l.out;
}
