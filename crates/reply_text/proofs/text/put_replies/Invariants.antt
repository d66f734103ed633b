use Rattle.std.proofs.Common.{◌≡◌, ◌++◌, drop, string_bytes}
use Rattle.std.specs.Io.{StartsWith}
use Rattle.reply_text.specs.Text.{text_from}
use Rattle.reply_text.proofs.text.put_replies.Given as goal

-- The text so far and that of the lines that are left are that of all.
abbrev pub invariant-loop-i : goal.invariant-loop-i
invariant-loop-i l = record {
  told :
      string_bytes l.out ++ text_from (drop l.i l.lines) (drop l.i l.replies)
      ≡ string_bytes l.fn.out ++ text_from l.lines l.replies;
  kept : StartsWith (string_bytes l.out) (string_bytes l.fn.out);
}
