use Rattle.std.proofs.Common.{◌≡◌, ◌∙◌, sym, ℕ, List, Option, Some, None, arith, length}
use Rattle.std.specs.Option.{unwrap_or}
use Rattle.std.specs.List.{position_or_len}
use Rattle.std.proofs.lemmas.Bool.{false_from_ne_true}
use Rattle.std.proofs.lemmas.List.Sums.{position_or_len_is}
use Rattle.memchr.specs.Find.{IsFirstByte, is_byte}
use Rattle.trace_read.specs.TextLines.{is_lf}
use Rattle.trace_read.proofs.lines.line_end.Goals as goal

-- The place that a search for LF finds, or the end.
found_or_len : (text : List ℕ) (r : Option ℕ) → IsFirstByte (is_byte 10) text r
    → unwrap_or r (length text) ≡ position_or_len is_lf text
found_or_len text None nowhere =
    sym (position_or_len_is is_lf text (length text) 0 (omega arith)
    (λ k within. false_from_ne_true _ (nowhere k (omega arith) within))
    (λ past. absurd (omega arith)))
found_or_len text (Some i) first =
    sym (position_or_len_is is_lf text i 0 (omega (arith, first.0.high))
    (λ k before. false_from_ne_true _ (first.0.before k (omega arith) before))
    (λ within. first.1))

pub returns : goal.returns
returns c = c.unwrap_or.ensures ∙ found_or_len c.args.text.now c.memchr.result c.memchr.ensures
